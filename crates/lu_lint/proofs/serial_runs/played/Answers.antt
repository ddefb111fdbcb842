use Rattle.std.proofs.Common.{◌≡◌, ◌++◌, [], append-nil, sym, arith}
use Rattle.lu_machine.specs.Runs.{with_event}
use Rattle.lu_lint.proofs.Played.{can_move, moved, played_all}
use Rattle.lu_lint.proofs.serial_runs.played.Goals as goal
use Rattle.lu_lint.proofs.serial_runs.played.Goals.{in-Some+in_ok-push, in_default}

pub step-requires : goal.step-requires
step-requires c =
    can_move c.in_ok-machine.machine c.moves-next-items.result.now c.args.schedule.now c.loop-next.next-index _ c.loop-next.machine c.loop-next.history.items c.moves-next-items.ensures.moves (c.requires c.in_ok-machine.machine c.in_ok-machine.ensures.starts) (omega arith) c.loop-next.invariant

pub loop-next-preserved : goal.loop-next-preserved
loop-next-preserved c =
    let more : c.match-step.history.items ≡ c.loop-next.history.items ++ with_event c.step.result [] = elim c.match-step.branch as (λ _. c.match-step.history.items ≡ c.loop-next.history.items ++ with_event c.step.result []) [
      | in-Some+in_ok-push w ↦ rw (w.history-is, w.in-Some.is) w.in_ok-push.ensures.items
      | in_default w ↦ rw (w.history-is, w.in_default.is) (sym (append-nil c.loop-next.history.items))
    ] in
    moved c.in_ok-machine.machine c.moves-next-items.result.now c.loop-next.next-index _ c.loop-next.machine c.step.new.self c.loop-next.history.items c.match-step.history.items c.step.result (omega arith) c.loop-next.invariant c.step.ensures.step more

pub returns : goal.returns
returns c =
    played_all c.args.test.component.now c.args.test.matrix.now c.in_ok-machine.machine c.moves-next-items.result.now c.args.schedule.now c.loop-next.next-index c.loop-next.machine c.loop-next.history.items c.in_ok-machine.ensures.starts c.moves-next-items.ensures.moves (omega arith) c.loop-next.invariant
