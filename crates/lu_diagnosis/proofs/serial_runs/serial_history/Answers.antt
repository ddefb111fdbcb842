use Rattle.std.proofs.Common.{arith}
use Rattle.lu_test.specs.declared.schedule.Move.{Move}
use Rattle.lu_diagnosis.proofs.SerialRun.{can_move, moved, whole_history}
use Rattle.lu_diagnosis.proofs.serial_runs.serial_history.Goals as goal

abbrev none : Move
none = record { thread = 0; pick = 0 }

pub step-event-requires : goal.step-event-requires
step-event-requires c =
    can_move c.in_ok-machine.machine c.moves-next-items.result.now c.args.schedule.now c.loop-next.next-index none c.loop-next.machine c.loop-next.entries.items c.moves-next-items.ensures.moves (c.requires.ended c.in_ok-machine.machine c.in_ok-machine.ensures.starts) (omega arith) c.loop-next.invariant

pub loop-next-preserved : goal.loop-next-preserved
loop-next-preserved c =
    moved c.in_ok-machine.machine c.moves-next-items.result.now c.loop-next.next-index none c.loop-next.machine c.step-event.new.self c.loop-next.entries.items c.note_return.new.entries.items c.step-event.result (omega arith) c.loop-next.invariant c.step-event.ensures.step c.in_ok-note_return.ensures

pub returns : goal.returns
returns c =
    whole_history c.args.component.now c.args.matrix.now c.in_ok-machine.machine c.moves-next-items.result.now c.args.schedule.now c.loop-next.next-index c.loop-next.machine c.loop-next.entries.items c.note_stuck.new.entries.items c.open_thread.result c.in_ok-machine.ensures.starts c.moves-next-items.ensures.moves (omega arith) (c.requires.ended c.in_ok-machine.machine c.in_ok-machine.ensures.starts) c.loop-next.invariant c.open_thread.ensures c.in_ok-note_stuck.ensures
