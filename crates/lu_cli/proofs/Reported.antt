-- Answers to serial runs and to removals.
use Rattle.std.proofs.Common.{◌≡◌, ℕ, subst, Result, Ok, Err, inl, inr}
use Rattle.std.specs.Prelude.{IfOk}
use Rattle.lu_component.specs.Component.{Component}
use Rattle.lu_test.specs.Matrix.{Matrix}
use Rattle.lu_report.specs.Parts.{Report}
use Rattle.lu_replay.specs.Reports.{IsReport}
use Rattle.lu_refine.specs.declared.shrink_fault.ShrinkFault.{ShrinkFault}
use Rattle.lu_refine.specs.declared.shrink_fault.ShrinkFault.TheVariants.{NotFailing}
use Rattle.lu_refine.specs.Removals.{IsShrinkFault, IsShrunk}
use Rattle.lu_report.specs.Limits.{Bounds}
use Rattle.lu_cli.specs.Outcomes.{Answer}
use Rattle.lu_cli.specs.Shows.{reported, with_matrix}
use Rattle.lu_cli.specs.Shrink.{ShowsShrunk}

module _ {E : Type 0} (c : Component) (matrix : Matrix) (limits : Bounds) where
  -- a matrix that does not fail is not shrunk
  pub not_failing : (bound serial : ℕ) → bound ≡ limits.bound → serial ≡ limits.serial → (fault : ShrinkFault) (r : Report) → fault ≡ NotFailing r → IsShrinkFault c matrix bound serial fault → (result : Result Answer E) → IfOk result (λ answer. answer ≡ reported r) → IfOk result (ShowsShrunk c matrix limits)
  not_failing bound serial b s fault r f is (Ok answer) e =
      let told = subst (IsShrinkFault c matrix bound serial) f is in
      inr (r, subst (λ x. IsReport c matrix x limits.serial r) b (subst (λ x. IsReport c matrix bound x r) s told.0), told.1, e)
  not_failing bound serial b s fault r f is (Err e) h = tt

  -- a matrix that is left
  pub left_shown : (bound serial : ℕ) → bound ≡ limits.bound → serial ≡ limits.serial → (smaller : Matrix) (r : Report) → IsShrunk c matrix bound serial (smaller, r) → (result : Result Answer E) → IfOk result (λ answer. answer ≡ with_matrix c smaller r) → IfOk result (ShowsShrunk c matrix limits)
  left_shown bound serial b s smaller r is (Ok answer) e =
      inl (smaller, r, subst (λ x. IsShrunk c matrix x limits.serial (smaller, r)) b (subst (λ x. IsShrunk c matrix bound x (smaller, r)) s is), e)
  left_shown bound serial b s smaller r is (Err e) h = tt
