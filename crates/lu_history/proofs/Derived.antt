-- The derived order of entries is the one that is defined.
use Rattle.std.proofs.Common.{◌≡◌, ◌≢◌, Bool, true, false, ◌&&◌, refl, ap, sym, ◌∙◌, ℕ, eqb}
use Rattle.std.proofs.lemmas.Bool.{eqb-true, eq-eqb}
use Rattle.std.specs.Ordering.{nat_cmp, ordering_then}
use Rattle.lu_history.specs.declared.serial.SerialOutcome.{SerialOutcome}
use Rattle.lu_history.specs.declared.serial.SerialOutcome.TheVariants.{Ret, Trap, Stuck}
use Rattle.lu_history.specs.declared.serial.SerialOp.{SerialOp}
use Rattle.lu_history.specs.Order.{op_cmp, outcome_cmp}
use Rattle.lu_history.specs.contracts.serial.SerialOpOrd.TheImpl as ops
use Rattle.lu_history.specs.contracts.serial.SerialOutcomeOrd.TheImpl as outcomes
use Rattle.lu_history.specs.contracts.serial.SerialOutcomePartialEq.TheImpl as equal
use Rattle.lu_history.specs.contracts.serial.SerialOpPartialEq.TheImpl as op_equal

pub outcome_order : (a b : SerialOutcome) → (outcomes.ghosts).cmp a b ≡ outcome_cmp a b
outcome_order (Ret m) (Ret n) = refl
outcome_order (Ret m) Trap = refl
outcome_order (Ret m) Stuck = refl
outcome_order Trap (Ret n) = refl
outcome_order Trap Trap = refl
outcome_order Trap Stuck = refl
outcome_order Stuck (Ret n) = refl
outcome_order Stuck Trap = refl
outcome_order Stuck Stuck = refl

pub op_order : (a b : SerialOp) → (ops.ghosts).cmp a b ≡ op_cmp a b
op_order a b = ap (ordering_then (nat_cmp a.thread b.thread)) (outcome_order a.outcome b.outcome)

-- two outcomes that are tested equal are equal, and two that are not differ
pub outcomes_alike : (a b : SerialOutcome) → (equal.ghosts).eq a b ≡ true → a ≡ b
outcomes_alike (Ret m) (Ret n) h = ap Ret (eqb-true m n h)
outcomes_alike (Ret m) Trap h = cc
outcomes_alike (Ret m) Stuck h = cc
outcomes_alike Trap (Ret n) h = cc
outcomes_alike Trap Trap h = refl
outcomes_alike Trap Stuck h = cc
outcomes_alike Stuck (Ret n) h = cc
outcomes_alike Stuck Trap h = cc
outcomes_alike Stuck Stuck h = refl

itself : (a : SerialOutcome) → (equal.ghosts).eq a a ≡ true
itself (Ret n) = eq-eqb n n refl
itself Trap = refl
itself Stuck = refl

pub outcomes_differ : (a b : SerialOutcome) → (equal.ghosts).eq a b ≡ false → a ≢ b
outcomes_differ a b h e = let u = ap ((equal.ghosts).eq a) (sym e) ∙ itself a in cc

and_both : (a b : Bool) → (a && b) ≡ true → (a ≡ true) × (b ≡ true)
and_both true b h = (refl, h)
and_both false b h = cc

abbrev entry : ℕ → SerialOutcome → SerialOp
entry thread outcome = record { thread = thread; outcome = outcome }

-- the same of entries
pub ops_alike : (a b : SerialOp) → (op_equal.ghosts).eq a b ≡ true → a ≡ b
ops_alike a b h =
    let both = and_both (eqb a.thread b.thread) ((equal.ghosts).eq a.outcome b.outcome) h in
    ap (λ t. entry t a.outcome) (eqb-true a.thread b.thread both.0) ∙ ap (entry b.thread) (outcomes_alike a.outcome b.outcome both.1)

op_itself : (a : SerialOp) → (op_equal.ghosts).eq a a ≡ true
op_itself a = ap (λ x. x && (equal.ghosts).eq a.outcome a.outcome) (eq-eqb a.thread a.thread refl) ∙ itself a.outcome

pub ops_differ : (a b : SerialOp) → (op_equal.ghosts).eq a b ≡ false → a ≢ b
ops_differ a b h e = let u = ap ((op_equal.ghosts).eq a) (sym e) ∙ op_itself a in cc
