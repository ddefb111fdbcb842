-- The order of entries is total, and entries that tie are equal.
use Rattle.std.proofs.Common.{◌≡◌, ◌≢◌, ℕ, Bool, true, false, ◌&&◌, ap, ◌∙◌, refl, List, [], ◌∷◌}
use Rattle.std.specs.Ordering.{nat_cmp, ordering_then, is_eq}
use Rattle.std.specs.declared.cmp.Ordering.{Ordering}
use Rattle.std.specs.declared.cmp.Ordering.TheVariants.{Less, Equal, Greater}
use Rattle.std.specs.Cmp.{IsTotalOrder, IsEquivalence, nat_cmp_total, eq_by_cmp_equiv}
use Rattle.std.proofs.lemmas.Cmp.{on_total, then_total, lists_total}
use Rattle.std.proofs.lemmas.Map.Lookups.{exact_unsigned}
use Rattle.lu_history.specs.declared.serial.SerialOutcome.{SerialOutcome}
use Rattle.lu_history.specs.declared.serial.SerialOutcome.TheVariants.{Ret, Trap, Stuck}
use Rattle.lu_history.specs.declared.serial.SerialOp.{SerialOp}
use Rattle.lu_history.specs.Order.{kind_of, returned_value, outcome_cmp, op_cmp}
use Rattle.lu_trie.specs.Members.{same_op, same_history, history_cmp}

outcomes_total : IsTotalOrder outcome_cmp
outcomes_total = then_total (on_total kind_of nat_cmp_total) (on_total returned_value nat_cmp_total)

pub ops_total : IsTotalOrder op_cmp
ops_total = then_total (on_total (λ (op : SerialOp). op.thread) nat_cmp_total) (on_total (λ (op : SerialOp). op.outcome) outcomes_total)

pub histories_total : IsTotalOrder history_cmp
histories_total = lists_total ops_total

pub ops_equiv : IsEquivalence same_op
ops_equiv = eq_by_cmp_equiv ops_total

pub histories_equiv : IsEquivalence same_history
histories_equiv = eq_by_cmp_equiv histories_total

pub both_tie : (o p : Ordering) → ordering_then o p ≡ Equal → (o ≡ Equal) × (p ≡ Equal)
both_tie Less p h = cc
both_tie Equal p h = (refl, h)
both_tie Greater p h = cc

pub then_is_eq : (o p : Ordering) → is_eq (ordering_then o p) ≡ (is_eq o && is_eq p)
then_is_eq Less p = refl
then_is_eq Equal p = refl
then_is_eq Greater p = refl

pub Equal-is_eq : (o : Ordering) → is_eq o ≡ true → o ≡ Equal
Equal-is_eq Less h = cc
Equal-is_eq Equal h = refl
Equal-is_eq Greater h = cc

exact_outcomes : (a b : SerialOutcome) → outcome_cmp a b ≡ Equal → a ≡ b
exact_outcomes (Ret m) (Ret n) h = ap Ret (exact_unsigned m n h)
exact_outcomes (Ret m) Trap h = cc
exact_outcomes (Ret m) Stuck h = cc
exact_outcomes Trap (Ret n) h = cc
exact_outcomes Trap Trap h = refl
exact_outcomes Trap Stuck h = cc
exact_outcomes Stuck (Ret n) h = cc
exact_outcomes Stuck Trap h = cc
exact_outcomes Stuck Stuck h = refl

abbrev pub entry : ℕ → SerialOutcome → SerialOp
entry thread outcome = record { thread = thread; outcome = outcome }

pub exact_ops : (a b : SerialOp) → op_cmp a b ≡ Equal → a ≡ b
exact_ops a b h =
    let both = both_tie (nat_cmp a.thread b.thread) (outcome_cmp a.outcome b.outcome) h in
    ap (λ t. entry t a.outcome) (exact_unsigned _ _ both.0) ∙ ap (entry b.thread) (exact_outcomes _ _ both.1)

pub same_ops_are : (a b : SerialOp) → same_op a b ≡ true → a ≡ b
same_ops_are a b h = exact_ops a b (Equal-is_eq (op_cmp a b) h)

pub same_histories_are : (a b : List SerialOp) → same_history a b ≡ true → a ≡ b
same_histories_are [] [] h = refl
same_histories_are [] (y ∷ b) h = cc
same_histories_are (x ∷ a) [] h = cc
same_histories_are (x ∷ a) (y ∷ b) h =
    let both = both_tie (op_cmp x y) (history_cmp a b) (Equal-is_eq _ h) in
    ap (λ z. z ∷ a) (exact_ops x y both.0) ∙ ap (λ l. y ∷ l) (same_histories_are a b (ap is_eq both.1))

pub ops_not_same : (a b : SerialOp) → a ≢ b → same_op a b ≡ false
ops_not_same a b apart =
    let go : (t : Bool) → same_op a b ≡ t → same_op a b ≡ false = elim [ true ↦ λ h. absurd (apart (same_ops_are a b h)) | false ↦ λ h. h ] in
    go (same_op a b) refl
