use Rattle.std.proofs.Common.{rules, arith, get_or}
use Rattle.lu_test.specs.declared.schedule.Move.{Move}
use Rattle.lu_machine.specs.Steps.{IsFeasible}
use Rattle.lu_diagnosis.proofs.Stepping.{stepped, stepped_all, stepped_to}
use Rattle.lu_diagnosis.proofs.next_steps.play.Goals as goal

abbrev none : Move
none = record { thread = 0; pick = 0 }

pub loop-number-preserved : goal.loop-number-preserved
loop-number-preserved c =
    stepped c.in_ok-machine.machine c.moves-next-items.result.now c.loop-number.number none c.loop-number.machine c.step.new.self c.step.result c.loop-number-test.true c.loop-number.invariant c.step.ensures.step

pub returns-then-not-feasible-clause-fault : goal.returns-then-not-feasible-clause-fault
returns-then-not-feasible-clause-fault c =
    let infeasible : IsFeasible c.loop-number.machine (get_or c.moves-next-items.result.now c.loop-number.number none) → ⊥ = search rules in
    stepped_to c.args.component.now c.args.matrix.now c.in_ok-machine.machine c.moves-next-items.result.now c.args.schedule.now c.loop-number.number c.loop-number.machine none c.in_ok-machine.ensures.starts c.moves-next-items.ensures.moves c.loop-number-test.true c.loop-number.invariant infeasible

pub returns-clause-played : goal.returns-clause-played
returns-clause-played c =
    stepped_all c.args.component.now c.args.matrix.now c.in_ok-machine.machine c.moves-next-items.result.now c.args.schedule.now c.loop-number.number c.loop-number.machine c.in_ok-machine.ensures.starts c.moves-next-items.ensures.moves (omega arith) c.loop-number.invariant
