use Rattle.std.proofs.Common.{arith, rules}
use Rattle.lu_machine.specs.Steps.{IsFeasible}
use Rattle.lu_machine.specs.Starts.{first_move}
use Rattle.lu_lint.proofs.SettingUp.{at_first, one_further}
use Rattle.lu_lint.proofs.setup_run.run_hints.Goals as goal

pub loop-moved-init : goal.loop-moved-init
loop-moved-init c = at_first c.args.machine c.new-hints.result.items c.new-hints.ensures.items

pub returns-then-not-feasible : goal.returns-then-not-feasible
returns-then-not-feasible c =
    let infeasible : IsFeasible c.loop-moved.machine first_move → ⊥ = search rules in
    let (h, leads, is) = c.loop-moved.invariant in
    (c.loop-moved._moved, c.loop-moved.machine, h, leads, (λ f. absurd (infeasible f)), is)

pub loop-moved-preserved : goal.loop-moved-preserved
loop-moved-preserved c = one_further c.args.machine c.loop-moved._moved c.loop-moved.machine c.step-event.new.self c.step-event.result c.loop-moved.hints.items c.in_ok-hints.hints.items c.loop-moved.invariant c.step-event.ensures.step c.in_ok-hints.ensures

pub returns : goal.returns
returns c =
    let (h, leads, is) = c.loop-moved.invariant in
    (c.loop-moved._moved, c.loop-moved.machine, h, leads, (λ f. omega arith), is)
