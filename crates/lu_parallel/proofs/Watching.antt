-- What a look for a piece leaves of a seat's view.
use Rattle.std.proofs.Common.{◌≡◌, ℕ, nat_eq, Bool, true, false, if◌then◌else◌, List, [], ◌∷◌, ◌++◌, refl, ◌∙◌, ap, eq-eqb}
use Rattle.lu_board.specs.declared.view.View.{View}
use Rattle.lu_board.specs.Events.{with_skipped}
use Rattle.lu_board.specs.Pieces.{without_first}
use Rattle.lu_parallel.specs.Watches.{others, rest_of}

others_push : (piece : ℕ) (xs : List ℕ) → others piece (xs ++ piece ∷ []) ≡ others piece xs
others_push piece [] = ap (λ b. if b then [] else piece ∷ []) (eq-eqb piece piece refl)
others_push piece (x ∷ xs) = ap (λ (ys : List ℕ). if nat_eq piece x then ys else x ∷ ys) (others_push piece xs)

without_more : (piece x : ℕ) (xs : List ℕ) (b : Bool) → nat_eq piece x ≡ b → others piece (without_first piece xs) ≡ others piece xs → others piece (if b then xs else x ∷ without_first piece xs) ≡ (if b then others piece xs else x ∷ others piece xs)
without_more piece x xs true e same = refl
without_more piece x xs false e same = ap (λ b. if b then others piece (without_first piece xs) else x ∷ others piece (without_first piece xs)) e ∙ ap (λ (ys : List ℕ). x ∷ ys) same

others_without : (piece : ℕ) (xs : List ℕ) → others piece (without_first piece xs) ≡ others piece xs
others_without piece [] = refl
others_without piece (x ∷ xs) = without_more piece x xs (nat_eq piece x) refl (others_without piece xs)

-- a piece that is skipped is none of the others
pub rest_skipped : (piece best : ℕ) (v w : View) → w ≡ with_skipped piece best v → rest_of piece w ≡ rest_of piece v
rest_skipped piece best v w is =
    rw (is, others_push, others_without) refl
