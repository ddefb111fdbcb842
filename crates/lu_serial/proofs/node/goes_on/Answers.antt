use Rattle.std.proofs.Common.{Some, None}
use Rattle.lu_serial.specs.Walks.{IsOpenIn}
use Rattle.lu_serial.proofs.Turns.{free_moves, open_moves}
use Rattle.lu_serial.proofs.node.goes_on.Goals as goal

pub returns-in-None : goal.returns-in-None
returns-in-None c =
    let none : IsOpenIn c.args.machine.now None = rw c.in-None.is at c.requires in
    let free = free_moves c.args.machine.now none in
    (λ t. free.0 (c.is_running.ensures.0 t), λ m. c.is_running.ensures.1 (free.1 m))

pub returns-in-Some : goal.returns-in-Some
returns-in-Some c =
    let opens : IsOpenIn c.args.machine.now (Some c.in-Some.current) = rw c.in-Some.is at c.requires in
    let moves = open_moves c.args.machine.now c.in-Some.current opens in
    (λ t. moves.0 (c.enabled.ensures.0 t), λ m. c.enabled.ensures.1 (moves.1 m))
