use Rattle.std.proofs.Common.{string_bytes, add-one}
use Rattle.lu_test.specs.declared.schedule.Move.{Move}
use Rattle.lu_diagnosis.specs.NextSteps.{move_line, move_lines}
use Rattle.lu_diagnosis.proofs.Joined.{two_pieces}
use Rattle.lu_diagnosis.proofs.next_steps.write_moves.Goals as goal

pub loop-pick-preserved : goal.loop-pick-preserved
loop-pick-preserved c =
    let how = c.args.how.now in
    let machine = c.args.machine.now in
    let m : Move = record { thread = c.args.t; pick = c.loop-pick.pick } in
    rw (add-one c.loop-pick.pick) (two_pieces (move_lines how machine c.args.t c.loop-pick.pick) (move_line how machine m) (string_bytes c.args.text.now) (string_bytes c.loop-pick.text) (string_bytes c.write_move.new.text) c.loop-pick.invariant c.in_ok-write_move.ensures)
