-- Histories that have been gone through, each with a schedule.
use Rattle.std.proofs.Common.{arith, ◌≡◌, ℕ, zero, suc, ◌+◌, ◌<◌, List, [], ◌∷◌, ◌++◌, take, get_or, Some, slice_get, sym, ◌∙◌, ap, subst}
use Rattle.std.specs.List.{AllZip}
use Rattle.std.proofs.lemmas.List.{take_more}
use Rattle.std.proofs.lemmas.Option.{get_or_from_slice_get, same_Some, slice_get_within}
use Rattle.lu_component.specs.Component.{Component}
use Rattle.lu_test.specs.declared.schedule.Move.{Move}
use Rattle.lu_test.specs.Matrix.{Matrix}
use Rattle.lu_recorded.specs.declared.recorded.Recorded.{Recorded}
use Rattle.lu_conform.specs.Conforming.{IsFirstSuch}
use Rattle.lu_conform.specs.Showing.{IsShortest}

module _ {A B : Type 0} (R : A → B → Type 0) where
  zip_push : (xs : List A) (ys : List B) (x : A) (y : B) → AllZip R xs ys → R x y → AllZip R (xs ++ x ∷ []) (ys ++ y ∷ [])
  zip_push [] [] x y all is = (is, tt)
  zip_push [] (z ∷ ys) x y all is = absurd all
  zip_push (w ∷ xs) [] x y all is = absurd all
  zip_push (w ∷ xs) (z ∷ ys) x y all is = (all.0, zip_push xs ys x y all.1 is)

  zip_at : (xs : List A) (ys : List B) → AllZip R xs ys → (k : ℕ) (x : A) → slice_get xs k ≡ Some x → (y : B) × R x y
  zip_at [] [] all k x at = absurd (cc)
  zip_at [] (z ∷ ys) all k x at = absurd all
  zip_at (w ∷ xs) [] all k x at = absurd all
  zip_at (w ∷ xs) (z ∷ ys) all zero x at = (z, subst (λ v. R v z) (same_Some w x at) all.0)
  zip_at (w ∷ xs) (z ∷ ys) all (suc k) x at = zip_at xs ys all.1 k x at

at_taken : {A : Type 0} (xs : List A) (n k : ℕ) (x : A) → k < n → slice_get xs k ≡ Some x → slice_get (take n xs) k ≡ Some x
at_taken [] n k x lt at = absurd (cc)
at_taken (w ∷ xs) zero k x lt at = absurd (omega arith)
at_taken (w ∷ xs) (suc n) zero x lt at = at
at_taken (w ∷ xs) (suc n) (suc k) x lt at = at_taken xs n k x (omega arith) at

module _ (c : Component) (matrix : Matrix) (all : List Recorded) (ways : List (List Move)) (n : ℕ) (shown : AllZip (IsShortest c matrix) (take n all) ways) (recorded : Recorded) (at : slice_get all n ≡ Some recorded) where
  pub first_such : (Such : Recorded → Type 0) → Such recorded → IsFirstSuch Such c matrix all n
  first_such Such is = record {
    is = (recorded, at, is);
    before = λ k one lt there. (let met = zip_at (IsShortest c matrix) (take n all) ways shown k one (at_taken all n k one lt there) in (met.0, met.1.shows));
  }

  pub one_more : (u : List Move) → IsShortest c matrix recorded u → AllZip (IsShortest c matrix) (take (n + 1) all) (ways ++ u ∷ [])
  one_more u is =
      let here : get_or all n recorded ≡ recorded = get_or_from_slice_get all n recorded recorded at in
      let taken : take (n + 1) all ≡ take n all ++ recorded ∷ [] = take_more all n recorded (slice_get_within all n recorded at) ∙ ap (λ x. take n all ++ x ∷ []) here in
      subst (λ x. AllZip (IsShortest c matrix) x (ways ++ u ∷ [])) (sym taken) (zip_push (IsShortest c matrix) (take n all) ways recorded u shown is)
