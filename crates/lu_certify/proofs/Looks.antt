-- What is found of the cut with a number.
use Rattle.std.proofs.Common.{◌≡◌, ℕ, None, sym, ◌∙◌, ap, subst}
use Rattle.std.specs.Prelude.{IfSome}
use Rattle.lu_choices.proofs.Numbered.{same_choice}
use Rattle.lu_component.specs.Component.{Component}
use Rattle.lu_test.specs.Matrix.{Matrix, cut}
use Rattle.lu_certify.specs.declared.limits.Limits.{Limits}
use Rattle.lu_certify.specs.declared.looked.Found.{Found}
use Rattle.lu_certify.specs.Looking.{IsFound, IsFoundAt}
use Rattle.lu_certify.specs.Cuts.{IsCutAt, IsFirstLostOf, IsJudged, length_counts}
use Rattle.lu_certify.proofs.CutLengths.{chosen}

-- there is one cut with a number
one_cut : (matrix : Matrix) (number : ℕ) (a b : Matrix) → IsCutAt matrix number a → IsCutAt matrix number b → a ≡ b
one_cut matrix number a b at other =
    let same = same_choice (length_counts matrix) at.lengths other.lengths (chosen matrix at.lengths at.are) (chosen matrix other.lengths other.are) (at.is_at ∙ sym other.is_at) in
    at.is ∙ (ap (cut matrix) same ∙ sym other.is)

-- so what is found of it is found of the cut with that number
pub found_at : (c : Component) (matrix : Matrix) (limits : Limits) (number : ℕ) (smaller : Matrix) (found : Found) → IsCutAt matrix number smaller → IsFound c limits smaller found → IsFoundAt c matrix limits number found
found_at c matrix limits number smaller found at is other there =
    subst (λ (m : Matrix). IsFound c limits m found) (one_cut matrix number smaller other at there) is

-- where nothing is found, it is found of each cut
pub nothing_at : (c : Component) (matrix : Matrix) (limits : Limits) (number : ℕ) (found : Found) → found.judged ≡ None → found.lost ≡ None → IsFoundAt c matrix limits number found
nothing_at c matrix limits number found unjudged unsought smaller at =
    (subst (λ x. IfSome x (IsJudged c limits smaller)) (sym unjudged) tt, subst (λ x. IfSome x (IsFirstLostOf c limits smaller)) (sym unsought) tt)
