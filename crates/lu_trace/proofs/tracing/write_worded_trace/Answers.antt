use Rattle.std.proofs.Common.{rules, refl, get_or, string_bytes}
use Rattle.std.proofs.lemmas.List.{get_or_default}
use Rattle.lu_test.specs.declared.schedule.Move.{Move}
use Rattle.lu_machine.specs.Steps.{IsFeasible}
use Rattle.lu_trace.proofs.Followed.{traced_more, traced_to}
use Rattle.lu_trace.proofs.tracing.write_worded_trace.Goals as goal

pub loop-number-preserved : goal.loop-number-preserved
loop-number-preserved c =
    let none : Move = record { thread = 0; pick = 0 } in
    let m : Move = get_or c.moves-next-items.result.now c.loop-number.number none in
    traced_more c.args.detail c.args.how.now c.in_ok-machine.machine c.moves-next-items.result.now c.loop-number.number c.loop-number.machine (string_bytes c.loop-number.lines) m c.write_move.new.machine (string_bytes c.write_move.new.text) c.loop-number.invariant c.loop-number-test.true (get_or_default c.moves-next-items.result.now c.loop-number.number none m c.loop-number-test.true) c.in_ok-write_move.ensures

pub returns-then-not-feasible-clause-fault : goal.returns-then-not-feasible-clause-fault
returns-then-not-feasible-clause-fault c =
    let none : Move = record { thread = 0; pick = 0 } in
    let m : Move = get_or c.moves-next-items.result.now c.loop-number.number none in
    let infeasible : IsFeasible c.loop-number.machine m → ⊥ = search rules in
    traced_to c.args.detail c.args.how.now c.args.component.now c.args.matrix.now c.in_ok-machine.machine c.moves-next-items.result.now c.args.schedule.now c.loop-number.number c.loop-number.machine (string_bytes c.loop-number.lines) m none c.in_ok-machine.ensures.starts c.moves-next-items.ensures.moves c.loop-number-test.true refl c.loop-number.invariant infeasible
