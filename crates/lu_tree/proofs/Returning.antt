-- A machine that goes back to a position.
use Rattle.std.proofs.Common.{◌≡◌, List, [], ◌∷◌, sym, ◌∙◌, ap, subst}
use Rattle.lu_component.specs.Component.{Component}
use Rattle.lu_test.specs.declared.schedule.Move.{Move}
use Rattle.lu_test.specs.Matrix.{Matrix}
use Rattle.lu_machine.specs.declared.event.Event.{Event}
use Rattle.lu_machine.specs.declared.position.Position.{Position}
use Rattle.lu_machine.specs.Positions.{CanStandAt, at_position}
use Rattle.lu_machine.specs.Runs.{Leads}
use Rattle.lu_machine.specs.States.{State}
use Rattle.lu_machine.proofs.Keeping.{step_moved}
use Rattle.lu_tree.specs.Searchers.{IsStateAt}

-- the matrix stays
pub leads_matrix : (s : State) (u : List Move) (end : State) (h : List Event) → Leads s u end h → end.matrix ≡ s.matrix
leads_matrix s [] end h leads = ap (λ (x : State). x.matrix) leads.0
leads_matrix s (m ∷ u) end h leads =
    leads_matrix leads.0 u end leads.2 leads.4 ∙ (step_moved s m leads.0 leads.1 leads.3).matrix

module _ (s m : State) (p : Position) (at : IsStateAt s p) (component : m.component ≡ s.component) (matrix_is : m.matrix ≡ s.matrix) where
  pub can_return : CanStandAt m.component m.matrix p
  can_return =
      subst (λ (x : Matrix). CanStandAt m.component x p) (sym matrix_is) (subst (λ (x : Component). CanStandAt x s.matrix p) (sym component) at.can)

  pub returned : at_position m p ≡ s
  returned =
      let make : Component → Matrix → State = λ c x. record { component = c; matrix = x; cells = p.cells.items; locks = p.locks.items; threads = p.threads.items } in
      ap (λ (c : Component). make c m.matrix) component ∙ (ap (λ (x : Matrix). make s.component x) matrix_is ∙ at.here)
