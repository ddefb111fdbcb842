use Rattle.std.proofs.Common.{rules, arith, ◌≡◌, None, subst}
use Rattle.lu_machine.specs.States.{State}
use Rattle.lu_machine.proofs.Starting.{start_same}
use Rattle.lu_lint.specs.Steps.{HasSteps}
use Rattle.lu_lint.proofs.step_count.has_many_steps.Goals as goal

pub returns : goal.returns
returns c = λ many s start.
    (let machine = c.in_ok-machine.machine in
    let zero : c.steps_left.result ≡ 0 = search (rules, many) in
    let same : machine ≡ s = start_same c.args.test.component.now c.args.test.matrix.now machine s c.in_ok-machine.ensures.starts start in
    let all : HasSteps c.args.bound machine None 100001 = subst (HasSteps c.args.bound machine None) (omega (arith, zero)) c.steps_left.ensures.steps in
    subst (λ (x : State). HasSteps c.args.bound x None 100001) same all)
