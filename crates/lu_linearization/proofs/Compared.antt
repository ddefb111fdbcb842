-- Configurations that compare as equal are equal.
use Rattle.std.proofs.Common.{◌≡◌, ℕ, List, [], ◌∷◌, Option, Some, None, Result, Ok, Err, IfOk, refl, ap, ◌∙◌, slice_index_or}
use Rattle.std.specs.List.{HoldsAt}
use Rattle.std.specs.Option.{option_cmp}
use Rattle.std.specs.Ordering.{nat_cmp, ordering_then}
use Rattle.std.specs.declared.cmp.Ordering.{Ordering}
use Rattle.std.specs.declared.cmp.Ordering.TheVariants.{Less, Equal, Greater}
use Rattle.std.specs.Cmp.Lexicographic.{slice_cmp}
use Rattle.std.proofs.lemmas.Map.Lookups.{exact_unsigned}
use Rattle.lu_history.specs.declared.serial.SerialOutcome.{SerialOutcome}
use Rattle.lu_history.specs.declared.serial.SerialOutcome.TheVariants.{Ret, Trap, Stuck}
use Rattle.lu_history.specs.contracts.serial.SerialOutcomeOrd.TheImpl as outcomes
use Rattle.lu_linearization.specs.declared.configuration.Configuration.{Configuration as Kept}
use Rattle.lu_linearization.specs.contracts.configuration.ConfigurationOrd.TheImpl as ord

both_tie : (o p : Ordering) → ordering_then o p ≡ Equal → (o ≡ Equal) × (p ≡ Equal)
both_tie Less p h = cc
both_tie Equal p h = (refl, h)
both_tie Greater p h = cc

pub lists_exact : {A : Type 0} (cmp : A → A → Ordering) → ((x y : A) → cmp x y ≡ Equal → x ≡ y) → (xs ys : List A) → slice_cmp cmp xs ys ≡ Equal → xs ≡ ys
lists_exact cmp exact [] [] h = refl
lists_exact cmp exact [] (y ∷ ys) h = cc
lists_exact cmp exact (x ∷ xs) [] h = cc
lists_exact cmp exact (x ∷ xs) (y ∷ ys) h =
    let both = both_tie (cmp x y) (slice_cmp cmp xs ys) h in
    ap (λ z. z ∷ xs) (exact x y both.0) ∙ ap (λ zs. y ∷ zs) (lists_exact cmp exact xs ys both.1)

exact_outcomes : (a b : SerialOutcome) → (outcomes.ghosts).cmp a b ≡ Equal → a ≡ b
exact_outcomes (Ret m) (Ret n) h = ap Ret (exact_unsigned m n h)
exact_outcomes (Ret m) Trap h = cc
exact_outcomes (Ret m) Stuck h = cc
exact_outcomes Trap (Ret n) h = cc
exact_outcomes Trap Trap h = refl
exact_outcomes Trap Stuck h = cc
exact_outcomes Stuck (Ret n) h = cc
exact_outcomes Stuck Trap h = cc
exact_outcomes Stuck Stuck h = refl

exact_standings : (a b : Option SerialOutcome) → option_cmp (outcomes.ghosts).cmp a b ≡ Equal → a ≡ b
exact_standings None None h = refl
exact_standings None (Some y) h = cc
exact_standings (Some x) None h = cc
exact_standings (Some x) (Some y) h = ap Some (exact_outcomes x y h)

pub exact : (a b : Kept) → (ord.ghosts).cmp a b ≡ Equal → a ≡ b
exact a b h =
    let both = both_tie (nat_cmp a.state b.state) (slice_cmp (option_cmp (outcomes.ghosts).cmp) a.effects b.effects) h in
    ap {B = Kept} (λ x. record { state = x; effects = a.effects }) (exact_unsigned a.state b.state both.0)
    ∙ ap {B = Kept} (λ xs. record { state = b.state; effects = xs }) (lists_exact (option_cmp (outcomes.ghosts).cmp) exact_standings a.effects b.effects both.1)

pub found_one : (all : List Kept) (one : Kept) (r : Result ℕ ℕ) → IfOk r (HoldsAt (λ y. (ord.ghosts).cmp y one ≡ Equal) all) → IfOk r (HoldsAt (λ y. y ≡ one) all)
found_one all one (Ok i) at = λ d. exact (slice_index_or all i d) one (at d)
found_one all one (Err i) at = tt
