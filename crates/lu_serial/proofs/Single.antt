-- The place and the outcome of the least conflict are determined.
use Rattle.std.proofs.Common.{◌≡◌, ◌≢◌, ℕ, zero, suc, ◌⊎◌, List, [], ◌∷◌, ◌++◌, Option, refl, sym, ◌∙◌, ap, subst, inl, inr}
use Rattle.lu_machine.specs.declared.event.Event.{Event}
use Rattle.lu_test.specs.declared.schedule.Move.{Move}
use Rattle.lu_component.specs.Component.{Component}
use Rattle.lu_test.specs.Matrix.{Matrix}
use Rattle.lu_machine.specs.States.{State}
use Rattle.lu_machine.specs.Steps.{Step}
use Rattle.lu_machine.specs.Starts.{IsStart}
use Rattle.lu_machine.specs.Runs.{Leads}
use Rattle.lu_history.specs.declared.serial.SerialOutcome.{SerialOutcome}
use Rattle.lu_history.specs.declared.serial.SerialOutcome.TheVariants as serial
use Rattle.lu_history.specs.declared.serial.SerialOp.{SerialOp}
use Rattle.lu_trie.specs.Conflicts.{ConflictAt}
use Rattle.lu_trie.proofs.Conflicts.{Diverges, conflict_from, diverges_from}
use Rattle.lu_trie.proofs.Determinism.{conflict_back, no_self_conflict}
use Rattle.lu_serial.specs.Serial.{HasOpen, IsByOpen, IsSerialFrom, EndsAs, IsSeriallyEnded, entries_of, stuck_of}
use Rattle.lu_serial.specs.Offences.{IsSerialConflict, IsFirstConflict}
use Rattle.lu_machine.proofs.Orders.{smaller_cases}
use Rattle.lu_machine.proofs.Paths.{leads_same}
use Rattle.lu_serial.proofs.Opening.{step_turned, others, same_or_not, complete_not_open}
use Rattle.lu_serial.proofs.CallsLeft.{none_at_start}

-- at most one operation is open
abbrev pub AtMostOne : State → Type 0
AtMostOne s = (t i : ℕ) → HasOpen s t → HasOpen s i → t ≡ i

-- after a move that goes on serially, its thread alone may have an operation open
pub mover : (s : State) (m : Move) (new : State) (event : Option Event) → Step s m new event → IsByOpen s m → (t : ℕ) → HasOpen new t → t ≡ m.thread
mover s m new event step by t h =
    elim (same_or_not t m.thread) [
      | inl e ↦ e
      | inr e ↦ sym (by t (others s m new event (step_turned s m new event step) t e h))
    ]

-- and so at most one is open all along a serial schedule
pub one_along : (s : State) (u : List Move) (end : State) (h : List Event) → AtMostOne s → IsSerialFrom s u → Leads s u end h → AtMostOne end
one_along s [] end h one f p = subst AtMostOne (sym p.0) one
one_along s (m ∷ u) end h one f p =
    one_along p.0 u end p.2 (λ t i a b. mover s m p.0 p.1 p.3 f.0 t a ∙ sym (mover s m p.0 p.1 p.3 f.0 i b)) (f.1 p.0 p.1 p.3) p.4

pub ends_same : (s : State) (h : List Event) → AtMostOne s → (q p : List SerialOp) → EndsAs s h q → EndsAs s h p → q ≡ p
ends_same s h one q p (inl a) (inl b) = a.1 ∙ sym b.1
ends_same s h one q p (inl a) (inr b) = absurd (complete_not_open s a.0 b.0 b.1)
ends_same s h one q p (inr a) (inl b) = absurd (complete_not_open s b.0 a.0 a.1)
ends_same s h one q p (inr a) (inr b) =
    a.3 ∙ (ap (λ (t : ℕ). entries_of h ++ stuck_of t ∷ []) (one a.0 b.0 a.1 b.1) ∙ sym b.3)

one_history : (s : State) → AtMostOne s → (u : List Move) (q p : List SerialOp) → IsSeriallyEnded s u q → IsSeriallyEnded s u p → q ≡ p
one_history s one u q p x y =
    let same = leads_same s u x.end y.end x.history y.history x.leads y.leads in
    let ends : EndsAs y.end y.history q = subst (λ h. EndsAs y.end h q) same.1 (subst (λ e. EndsAs e x.history q) same.0 x.holds) in
    ends_same y.end y.history (one_along s u y.end y.history one y.serial y.leads) q p ends y.holds

outcome_or_not : (a b : SerialOutcome) → (a ≡ b) ⊎ (a ≢ b)
outcome_or_not (serial.Ret m) (serial.Ret n) = elim (same_or_not m n) [ inl e ↦ inl (ap serial.Ret e) | inr e ↦ inr (λ f. e (cc)) ]
outcome_or_not (serial.Ret m) serial.Trap = inr (λ f. cc)
outcome_or_not (serial.Ret m) serial.Stuck = inr (λ f. cc)
outcome_or_not serial.Trap (serial.Ret n) = inr (λ f. cc)
outcome_or_not serial.Trap serial.Trap = inl refl
outcome_or_not serial.Trap serial.Stuck = inr (λ f. cc)
outcome_or_not serial.Stuck (serial.Ret n) = inr (λ f. cc)
outcome_or_not serial.Stuck serial.Trap = inr (λ f. cc)
outcome_or_not serial.Stuck serial.Stuck = inl refl

-- a history conflicts in one way with two that do not conflict
one_divergence : (q a b : List SerialOp) (i j : ℕ) (o p : SerialOutcome) → Diverges q a i o → Diverges q b j p → ((k : ℕ) (r : SerialOutcome) → Diverges a b k r → ⊥) → (i ≡ j) × (o ≡ p)
one_divergence [] a b i j o p c d apart = absurd c
one_divergence (x ∷ q) [] b i j o p c d apart = absurd c
one_divergence (x ∷ q) (y ∷ a) [] i j o p c d apart = absurd d
one_divergence (x ∷ q) (y ∷ a) (z ∷ b) zero zero o p c d apart =
    elim (outcome_or_not z.outcome y.outcome) [
      | inl e ↦ (refl, c.2 ∙ (sym e ∙ sym d.2))
      | inr e ↦ absurd (apart 0 z.outcome (d.0 ∙ sym c.0, e, refl))
    ]
one_divergence (x ∷ q) (y ∷ a) (z ∷ b) zero (suc j) o p c d apart =
    absurd (apart 0 z.outcome (ap (λ (w : SerialOp). w.thread) d.0 ∙ sym c.0, (λ e. c.1 (sym e ∙ ap (λ (w : SerialOp). w.outcome) d.0)), refl))
one_divergence (x ∷ q) (y ∷ a) (z ∷ b) (suc i) zero o p c d apart =
    absurd (apart 0 z.outcome (d.0 ∙ sym (ap (λ (w : SerialOp). w.thread) c.0), (λ e. d.1 (e ∙ ap (λ (w : SerialOp). w.outcome) c.0)), refl))
one_divergence (x ∷ q) (y ∷ a) (z ∷ b) (suc i) (suc j) o p c d apart =
    let rest = one_divergence q a b i j o p c.1 d.1 (λ k r e. apart (suc k) r (d.0 ∙ sym c.0, e)) in
    (ap suc rest.0, rest.1)

pub one_place : (q a b : List SerialOp) (i j : ℕ) (o p : SerialOutcome) → ConflictAt q a i o → ConflictAt q b j p → ((k : ℕ) (r : SerialOutcome) → ConflictAt a b k r → ⊥) → (i ≡ j) × (o ≡ p)
one_place q a b i j o p c d apart = one_divergence q a b i j o p (diverges_from q a i o c) (diverges_from q b j p d) (λ k r e. apart k r (conflict_from a b k r e))

module _ (s : State) (one : AtMostOne s) (bound : ℕ) (u : List Move) where
  pub one_conflict : (i j : ℕ) (o p : SerialOutcome) → IsFirstConflict s bound u i o → IsFirstConflict s bound u j p → (i ≡ j) × (o ≡ p)
  one_conflict i j o p x y =
      let same : y.1.history ≡ x.1.history = one_history s one u y.1.history x.1.history y.1.ended x.1.ended in
      one_place x.1.history x.1.other y.1.other i j o p x.1.conflict (subst (λ h. ConflictAt h y.1.other j p) same y.1.conflict)
      (λ k r c. elim (smaller_cases x.1.earlier y.1.earlier) [
        | inl z ↦ elim z [
          | inl lt ↦ (let back = conflict_back x.1.other y.1.other k r c in
              let clash : IsSerialConflict s y.1.earlier k back.0 = record { history = y.1.other; ended = y.1.earlier_ended; earlier = x.1.earlier; smaller = lt; other = x.1.other; earlier_ended = x.1.earlier_ended; conflict = back.1 } in
              x.0.least y.1.earlier y.1.smaller (inr (k, back.0, clash)))
          | inr gt ↦
              (let clash : IsSerialConflict s x.1.earlier k r = record { history = x.1.other; ended = x.1.earlier_ended; earlier = y.1.earlier; smaller = gt; other = y.1.other; earlier_ended = y.1.earlier_ended; conflict = c } in
              x.0.least x.1.earlier x.1.smaller (inr (k, r, clash)))
        ]
        | inr e ↦
            (let other : y.1.other ≡ x.1.other = one_history s one y.1.earlier y.1.other x.1.other y.1.earlier_ended (subst (λ v. IsSeriallyEnded s v x.1.other) e x.1.earlier_ended) in
            no_self_conflict x.1.other k r (subst (λ h. ConflictAt x.1.other h k r) other c))
      ])

pub one_learnt : (c : Component) (matrix : Matrix) (s : State) (bound : ℕ) (u : List Move) (i j : ℕ) (o p : SerialOutcome) → IsStart c matrix s → IsFirstConflict s bound u i o → IsFirstConflict s bound u j p → (i ≡ j) × (o ≡ p)
one_learnt c matrix s bound u i j o p is x y = one_conflict s (λ t k a b. absurd (none_at_start c matrix s is t a)) bound u i j o p x y
