-- A schedule that ends with calls alone is good exactly where the state before them is.
use Rattle.std.proofs.Common.{arith, ◌≡◌, ◌↔◌, ℕ, zero, suc, ◌<◌, ◌⊎◌, ◌==◌, ◌&&◌, ◌||◌, Bool, true, false, List, [], ◌∷◌, ◌++◌, length, Some, slice_get, refl, sym, ◌∙◌, ap, subst, inl, inr}
use Rattle.std.proofs.lemmas.Bool.{cases_eq, eq-eqb, lt-ltb}
use Rattle.std.proofs.lemmas.List.{append-nil}
use Rattle.lu_test.specs.declared.schedule.Move.{Move}
use Rattle.lu_test.specs.Matrix.{calls_of}
use Rattle.lu_machine.specs.declared.event.Event.{Event}
use Rattle.lu_machine.specs.declared.event.Event.TheVariants.{Call as Called, Return as Returned}
use Rattle.lu_machine.specs.Changes.{IsAtWork, at_work, idle}
use Rattle.lu_machine.specs.Ends.{IsComplete, IsEnded}
use Rattle.lu_machine.specs.Runs.{Leads}
use Rattle.lu_machine.specs.States.{State, call_count}
use Rattle.lu_machine.specs.Steps.{picks_of}
use Rattle.lu_machine.proofs.Ended.{complete_no_move}
use Rattle.lu_machine.proofs.Keeping.{step_moved}
use Rattle.lu_machine.proofs.StepLaws.{step_feasible}
use Rattle.lu_history.specs.declared.operation.OpId.{OpId}
use Rattle.lu_history.specs.declared.serial.SerialOp.{SerialOp}
use Rattle.lu_history.specs.Histories.{IsPending, IsReturnAt}
use Rattle.lu_history.specs.Parts.{has_return, keep_pending}
use Rattle.lu_horizon.proofs.OwnLaws.{other_stands}
use Rattle.lu_witness.specs.Goodness.{IsGoodAt}
use Rattle.lu_witness.specs.Witnesses.{HasWitness, IsMember}
use Rattle.lu_late.specs.LastCalls.{IsGoodBefore, JudgedBeforeLastCalls}
use Rattle.lu_late.specs.Steps.{AreCalls, IsIdle}
use Rattle.lu_late.proofs.Alone.{begun_alone, call_begins, good_so, next_alone, not_finished, still_begun}
use Rattle.lu_late.proofs.Begun.{AreCalled, called_leads, start_called}
use Rattle.lu_late.proofs.Resting.{none_at_end}
use Rattle.lu_late.proofs.Told.{IsTold, op, told_leads, told_none}

-- what has not returned has no return
returned_found : (h : List Event) (i : ℕ) (a : OpId) → IsReturnAt h i a → has_return h a ≡ true
returned_found [] i a at = (let e = at.1 in absurd (cc))
returned_found (Called u k ∷ h) zero a at = (let e = at.1 in absurd (cc))
returned_found (Called u k ∷ h) (suc i) a at = returned_found h i a at
returned_found (Returned u k o ∷ h) zero a at =
    let e = at.1 in
    let thread : u ≡ a.t = cc in
    let number : k ≡ a.k = cc in
    ap (λ b. (b && (k == a.k)) || has_return h a) (eq-eqb u a.t thread) ∙ ap (λ b. b || has_return h a) (eq-eqb k a.k number)
returned_found (Returned u k o ∷ h) (suc i) a at = either_way ((u == a.t) && (k == a.k)) (has_return h a) (returned_found h i a at)
  where
    either_way : (b c : Bool) → c ≡ true → (b || c) ≡ true
    either_way true c e = refl
    either_way false c e = e

never : (b : Bool) → b ≡ false → b ≡ true → ⊥
never b p q = cc

-- an open operation is pending
pending_so : (s : State) (h : List Event) (t k : ℕ) → IsTold s h → AreCalled s h → IsAtWork s t k → IsPending h (op t k)
pending_so s h t k told called begun = (
  called t k begun,
  λ i at. never (has_return h (op t k)) (told.returned t k (at_work k begun.0) begun.1 (omega arith)) (returned_found h i (op t k) at),
)

-- a thread that was idle is so still, or has opened its next call
idle_or_begun : (s : State) (u : List Move) (end : State) (h : List Event) (t k : ℕ) → AreCalls s u → Leads s u end h → slice_get s.threads t ≡ Some (idle k) → ((slice_get end.threads t ≡ Some (idle k)) × (call_count end t ≡ call_count s t)) ⊎ IsAtWork end t k
idle_or_begun s [] end h t k all leads stands = inl (ap (λ (z : State). slice_get z.threads t) leads.0 ∙ stands, ap (λ (z : State). call_count z t) leads.0)
idle_or_begun s (x ∷ w) end h t k all (next, e, rest, step, leads, joined) stands = elim (cases_eq x.thread t) as (λ _. ((slice_get end.threads t ≡ Some (idle k)) × (call_count end t ≡ call_count s t)) ⊎ IsAtWork end t k) [
  | inl same ↦
      (let is : IsIdle s x.thread = (k, subst (λ v. slice_get s.threads v ≡ Some (idle k)) (sym same) stands) in
      let opened = subst (λ v. IsAtWork next v k) same (call_begins s x next e is step) in
      inr (still_begun next w end rest t k (all.1 next e step) leads opened))
  | inr differ ↦ elim (idle_or_begun next w end rest t k (all.1 next e step) leads (other_stands s x next e t differ step ∙ stands)) as (λ _. ((slice_get end.threads t ≡ Some (idle k)) × (call_count end t ≡ call_count s t)) ⊎ IsAtWork end t k) [
    | inl still ↦ inl (still.0, still.1 ∙ ap (λ m. length (calls_of m t)) (step_moved s x next e step).matrix)
    | inr begun ↦ inr begun
  ]
]

-- at the end it has opened it, if it had one
begins : (s : State) (u : List Move) (end : State) (h : List Event) (t k : ℕ) → AreCalls s u → Leads s u end h → IsEnded end → slice_get s.threads t ≡ Some (idle k) → k < call_count s t → IsAtWork end t k
begins s u end h t k all leads ended stands left = elim (idle_or_begun s u end h t k all leads stands) as (λ _. IsAtWork end t k) [
  | inl still ↦
      (let more : k < call_count end t = subst (λ n. k < n) (sym still.1) left in
      let one : picks_of end t ≡ 1 = rw (still.0, lt-ltb k (call_count end t) more) refl in
      let none = none_at_end end t ended in
      absurd (omega (arith, one, none)))
  | inr begun ↦ begun
]

module _ (Set : List SerialOp → Type 0) (rest : State) (h : List Event) (told : IsTold rest h) (called : AreCalled rest h) where
  complete_back : (u : List Move) (end : State) (after : List Event) → AreCalls rest u → Leads rest u end after → IsGoodAt Set end (h ++ after) → IsComplete rest → HasWitness Set h
  complete_back [] end after all leads (inl (is, witness)) complete = subst (HasWitness Set) (ap (λ z. h ++ z) leads.1 ∙ append-nil h) witness
  complete_back [] end after all leads (inr (stuck, each)) complete = absurd (stuck.0 (subst IsComplete (sym leads.0) complete))
  complete_back (x ∷ w) end after all leads good complete =
      let some = step_feasible rest x leads.0 leads.1 leads.3 in
      let none = complete_no_move rest complete x.thread in
      absurd (omega (arith, some, none))

  module _ (u : List Move) (end : State) (after : List Event) (all : AreCalls rest u) (leads : Leads rest u end after) (good : IsGoodAt Set end (h ++ after)) where
    alone_back : (t k : ℕ) → IsAtWork end t k → HasWitness Set (keep_pending t (h ++ after))
    alone_back t k begun = elim good as (λ _. HasWitness Set (keep_pending t (h ++ after))) [
      | inl complete ↦ absurd (not_finished end t k begun complete.0)
      | inr stuck ↦ stuck.1 (op t k) (pending_so end (h ++ after) t k (told_leads rest u end h after told leads) (called_leads rest u end h after called leads) begun)
    ]

    good_back : IsEnded end → IsGoodBefore Set rest h
    good_back ended = record {
      complete = complete_back u end after all leads good;
      begun = λ t k begun. subst (HasWitness Set) (begun_alone rest h told u end after all leads t k begun) (alone_back t k (still_begun rest u end after t k all leads begun));
      next = λ t k stands left.
          (let begun = begins rest u end after t k all leads ended stands left in
          subst (HasWitness Set) (next_alone rest h told u end after all leads t k stands begun) (alone_back t k begun));
    }

-- for each set
pub judged : (Set : List SerialOp → Type 0) (s : State) → AreCalled s [] → (u : List Move) (rest : State) (h : List Event) → Leads s u rest h → (calls : List Move) (end : State) (after : List Event) → AreCalls rest calls → Leads rest calls end after → IsEnded end → IsGoodAt Set end (h ++ after) ↔ IsGoodBefore Set rest h
judged Set s start u rest h way calls end after all leads ended =
    let told : IsTold rest h = told_leads s u rest [] h (told_none s) way in
    let called : AreCalled rest h = called_leads s u rest [] h start way in
    ((λ good. good_back Set rest h told called calls end after all leads good ended), (λ good. good_so Set rest h told good calls end after all leads ended))

pub judged_before : JudgedBeforeLastCalls
judged_before c matrix s start u rest h way calls end after all leads ended members = judged (IsMember members) s (start_called c matrix s start) u rest h way calls end after all leads ended
