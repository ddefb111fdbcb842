-- What is known of cuts, in the order of their numbers.
use Rattle.std.proofs.Common.{arith, ◌≡◌, ◌<◌, ℕ, zero, suc, All, List, [], ◌∷◌, ◌++◌, length, Some, slice_index_or, slice_set, sym, ap, subst}
use Rattle.std.specs.List.{slice_get}
use Rattle.lu_certify.specs.declared.looked.Found.{Found}

-- what is known stays known where a cut is added of which that is known
pub longer : (Holds : ℕ → Found → Type 0) (known : List Found) (one : Found) → ((number : ℕ) (found : Found) → slice_get known number ≡ Some found → Holds number found) → ((number : ℕ) → Holds number one) → (number : ℕ) (found : Found) → slice_get (known ++ one ∷ []) number ≡ Some found → Holds number found
longer Holds [] one all here zero found is = subst (Holds 0) (cc) (here 0)
longer Holds [] one all here (suc n) found is = absurd (cc)
longer Holds (x ∷ known) one all here zero found is = all zero found is
longer Holds (x ∷ known) one all here (suc n) found is = longer (λ k. Holds (suc k)) known one (λ k l e. all (suc k) l e) (λ k. here (suc k)) n found is

-- and where that at a number is another, which holds there
pub one_more : (Holds : ℕ → Found → Type 0) (known : List Found) (at : ℕ) (one : Found) → ((number : ℕ) (found : Found) → slice_get known number ≡ Some found → Holds number found) → Holds at one → (number : ℕ) (found : Found) → slice_get (slice_set known at one) number ≡ Some found → Holds number found
one_more Holds [] at one all here number found is = absurd (cc)
one_more Holds (x ∷ known) zero one all here zero found is = subst (Holds 0) (cc) here
one_more Holds (x ∷ known) zero one all here (suc n) found is = all (suc n) found is
one_more Holds (x ∷ known) (suc at) one all here zero found is = all zero found is
one_more Holds (x ∷ known) (suc at) one all here (suc n) found is = one_more (λ k. Holds (suc k)) known at one (λ k l e. all (suc k) l e) here n found is

-- what is read at a number stands there
pub there : (known : List Found) (number : ℕ) (read : Found) → number < length known → read ≡ slice_index_or known number read → slice_get known number ≡ Some read
there [] number read below is = absurd (omega (arith, below))
there (x ∷ known) zero read below is = ap Some (sym is)
there (x ∷ known) (suc n) read below is = there known n read (omega (arith, below)) is

-- of a list that begins with x, x has what all have
pub all_first : {X : Type 0} (P : X → Type 0) (xs : List X) (x : X) (rest : List X) → xs ≡ x ∷ rest → All P xs → P x
all_first P xs x rest is all = subst (λ (ys : List _). All P ys) is all 0 x (omega arith)

-- and so have the others
pub all_rest : {X : Type 0} (P : X → Type 0) (xs : List X) (x : X) (rest : List X) → xs ≡ x ∷ rest → All P xs → All P rest
all_rest P xs x rest is all = at (subst (λ (ys : List _). All P ys) is all)
  where
    at : All P (x ∷ rest) → All P rest
    at each k d below = each (suc k) d (omega arith)
