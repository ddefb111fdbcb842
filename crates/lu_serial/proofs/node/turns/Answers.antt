use Rattle.lu_serial.specs.Walks.{IsOpenIn}
use Rattle.std.proofs.Common.{Some, None}
use Rattle.lu_serial.proofs.Turns.{turns_free, turns_open}
use Rattle.lu_serial.proofs.node.turns.Goals as goal

pub returns-in-None : goal.returns-in-None
returns-in-None c =
    let none : IsOpenIn c.args.machine.now None = rw c.in-None.is at c.requires in
    turns_free c.args.machine.now c.threads-threads.result c.threads-threads.ensures.value none

pub returns-in-Some : goal.returns-in-Some
returns-in-Some c =
    let opens : IsOpenIn c.args.machine.now (Some c.in-Some.current) = rw c.in-Some.is at c.requires in
    turns_open c.args.machine.now c.in-Some.current opens
