use Rattle.std.proofs.Common.{◌≡◌, length, rules, refl, get_or, ap, string_bytes}
use Rattle.std.proofs.lemmas.List.{get_or_default}
use Rattle.lu_test.specs.declared.schedule.Move.{Move}
use Rattle.lu_machine.specs.Steps.{IsFeasible}
use Rattle.lu_picture.specs.Written.{said_by}
use Rattle.lu_picture.proofs.Drawn.{drawn_all, drawn_more, drawn_none, drawn_picture, drawn_to}
use Rattle.lu_picture.proofs.drawing.write_worded_picture.Goals as goal

pub loop-at-init : goal.loop-at-init
loop-at-init c =
    drawn_none c.args.how.now c.args.component.now c.args.matrix.now c.in_ok-machine.machine c.moves-next-items.result.now c.new-drawing.result c.in_ok-machine.ensures.starts c.in_ok-machine.ensures.limits c.new-drawing.ensures

pub loop-at-preserved : goal.loop-at-preserved
loop-at-preserved c =
    let none : Move = record { thread = 0; pick = 0 } in
    let m : Move = get_or c.moves-next-items.result.now c.loop-at.at none in
    drawn_more c.args.how.now c.in_ok-machine.machine c.moves-next-items.result.now c.loop-at.at c.loop-at.machine c.loop-at.drawing m c.add_move.new.machine c.add_move.new.self c.loop-at.invariant c.loop-at-test.true (get_or_default c.moves-next-items.result.now c.loop-at.at none m c.loop-at-test.true) c.in_ok-add_move.ensures

pub returns-then-not-feasible-clause-fault : goal.returns-then-not-feasible-clause-fault
returns-then-not-feasible-clause-fault c =
    let none : Move = record { thread = 0; pick = 0 } in
    let m : Move = get_or c.moves-next-items.result.now c.loop-at.at none in
    let infeasible : IsFeasible c.loop-at.machine m → ⊥ = search rules in
    drawn_to c.args.how.now c.args.component.now c.args.matrix.now c.in_ok-machine.machine c.moves-next-items.result.now c.args.schedule.now c.loop-at.at c.loop-at.machine c.loop-at.drawing m none c.in_ok-machine.ensures.starts c.moves-next-items.ensures.moves c.loop-at-test.true refl c.loop-at.invariant infeasible

pub returns-clause-picture : goal.returns-clause-picture
returns-clause-picture c =
    let n = length c.moves-moves.result.now in
    let end = c.loop-at.machine in
    let d = c.loop-at.drawing in
    let long : n ≡ length c.args.schedule.now = ap length c.moves-moves.ensures.moves in
    let run = drawn_all c.args.how.now c.args.component.now c.args.matrix.now c.in_ok-machine.machine c.moves-next-items.result.now c.args.schedule.now c.loop-at.at end d c.status-status.result c.in_ok-machine.ensures.starts c.moves-next-items.ensures.moves c.loop-at-test.false c.loop-at.invariant c.status-status.ensures in
    drawn_picture c.args.how.now c.args.component.now c.args.matrix.now n c.args.schedule.now end d c.status-status.result (said_by c.args.why) (string_bytes c.in_ok-text.text) long run c.in_ok-text.ensures
