use Rattle.std.proofs.Common.{◌≡◌, ◌∙◌, ap}
use Rattle.lu_machine.specs.States.{State}
use Rattle.lu_answers.proofs.Resting.{can_rest}
use Rattle.lu_answers.proofs.asking.at_rest.Goals as goal

pub stand_with-requires : goal.stand_with-requires
stand_with-requires c =
    let m = c.args.machine.now in
    let component : c.stand_at.new.self.component ≡ m.component = ap (λ (x : State). x.component) c.stand_at.ensures in
    let matrix : c.stand_at.new.self.matrix ≡ m.matrix = ap (λ (x : State). x.matrix) c.stand_at.ensures in
    rw (component, matrix)
    (can_rest m.component m.matrix c.args.position.now c.deref.result.now c.deref-2.result.now c.args.threads.now c.requires.stand
    (c.deref.ensures.value ∙ (c.in_ok-cells.ensures.items ∙ (c.cells.ensures ∙ ap (λ (x : State). x.cells) c.stand_at.ensures)))
    (c.deref-2.ensures.value ∙ (c.in_ok-locks.ensures.items ∙ (c.locks.ensures ∙ ap (λ (x : State). x.locks) c.stand_at.ensures)))
    c.requires.idle)
