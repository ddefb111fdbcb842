-- With one pending call alone, the last calls of other threads don't count.
use Rattle.std.proofs.Common.{arith, ◌≡◌, ℕ, zero, suc, ◌<◌, ◌==◌, ◌&&◌, ◌||◌, Bool, true, false, cond, List, [], ◌∷◌, ◌++◌, length, Option, Some, slice_get, refl, sym, ◌∙◌, ap, subst, inl, inr}
use Rattle.std.specs.List.{filter}
use Rattle.std.proofs.lemmas.Bool.{cases_eq, eq-eqb, ne_eqb}
use Rattle.std.proofs.lemmas.Bool.Decides.{eqb_tells}
use Rattle.std.proofs.lemmas.List.{append-nil}
use Rattle.std.proofs.lemmas.List.Elements.{filter-append}
use Rattle.std.proofs.lemmas.List.Folds.{list_any-append}
use Rattle.std.proofs.lemmas.Option.{same_Some, slice_get_within}
use Rattle.lu_test.specs.declared.schedule.Move.{Move}
use Rattle.lu_test.specs.Matrix.{calls_of}
use Rattle.lu_machine.specs.declared.event.Event.{Event}
use Rattle.lu_machine.specs.declared.event.Event.TheVariants.{Call as Called, Return as Returned}
use Rattle.lu_machine.specs.declared.thread.Activity.TheVariants.{Idle, Open}
use Rattle.lu_machine.specs.declared.thread.Thread.{Thread}
use Rattle.lu_machine.specs.Changes.{IsAtWork, at_work, idle}
use Rattle.lu_machine.specs.Ends.{IsComplete, IsEnded, IsFinished}
use Rattle.lu_machine.specs.Runs.{Leads, with_event}
use Rattle.lu_machine.specs.States.{State, call_count}
use Rattle.lu_machine.specs.Steps.{Step}
use Rattle.lu_machine.proofs.Keeping.{step_moved}
use Rattle.lu_history.specs.declared.operation.OpId.{OpId}
use Rattle.lu_history.specs.declared.serial.SerialOp.{SerialOp}
use Rattle.lu_history.specs.Histories.{IsPending, IsReturnAt}
use Rattle.lu_history.specs.Parts.{has_return, is_kept, is_return, keep_pending}
use Rattle.lu_horizon.proofs.OwnLaws.{other_stands}
use Rattle.lu_witness.specs.Goodness.{IsGoodAt}
use Rattle.lu_witness.specs.Witnesses.{HasWitness}
use Rattle.lu_late.specs.LastCalls.{IsGoodBefore}
use Rattle.lu_late.specs.Steps.{AreCalls, IsIdle}
use Rattle.lu_late.proofs.Calls.{call_event, call_opens, calls, idle_back, idle_or_not}
use Rattle.lu_late.proofs.Told.{IsTold, idle_not_at_work, one_number, op, or_false, told_leads}

-- ---- the events of calls

-- the history of a call and what follows
pub first_event : (s : State) (x : Move) (next : State) (e : Option Event) (rest h : List Event) (is : IsIdle s x.thread) → Step s x next e → h ≡ with_event e rest → h ≡ Called x.thread is.0 ∷ rest
first_event s x next e rest h is step joined = joined ∙ ap (λ z. with_event z rest) (call_event s x next e is step)

no_return : (s : State) (u : List Move) (end : State) (h : List Event) (a : OpId) → AreCalls s u → Leads s u end h → has_return h a ≡ false
no_return s [] end h a none leads = ap (λ z. has_return z a) leads.1
no_return s (x ∷ w) end h a all (next, e, rest, step, leads, joined) =
    ap (λ z. has_return z a) (first_event s x next e rest h all.0 step joined) ∙ no_return next w end rest a (all.1 next e step) leads

skipped : (p : Event → Bool) (e : Event) (h : List Event) → p e ≡ false → filter p (e ∷ h) ≡ filter p h
skipped p e h is = ap (λ c. cond c (e ∷ filter p h) (filter p h)) is

held : (p : Event → Bool) (e : Event) (h : List Event) → p e ≡ true → filter p (e ∷ h) ≡ e ∷ filter p h
held p e h is = ap (λ c. cond c (e ∷ filter p h) (filter p h)) is

-- those of threads other than t are left out
abbrev LeavesOut : (Event → Bool) → ℕ → State → Type 0
LeavesOut p t s = (v k : ℕ) → (v ≡ t → ⊥) → slice_get s.threads v ≡ Some (idle k) → p (Called v k) ≡ false

module _ (p : Event → Bool) (t : ℕ) where
  leaves_on : (s : State) (x : Move) (next : State) (e : Option Event) → IsIdle s x.thread → Step s x next e → LeavesOut p t s → LeavesOut p t next
  leaves_on s x next e is step out v k differ stands =
      let other : x.thread ≡ v → ⊥ = λ same. call_opens s x next e is step (k, subst (λ z. slice_get next.threads z ≡ Some (idle k)) (sym same) stands) in
      out v k differ (sym (other_stands s x next e v other step) ∙ stands)

  none_held : (s : State) (u : List Move) (end : State) (h : List Event) → AreCalls s u → Leads s u end h → (IsIdle s t → ⊥) → LeavesOut p t s → filter p h ≡ []
  none_held s [] end h all leads busy out = ap (filter p) leads.1
  none_held s (x ∷ w) end h all (next, e, rest, step, leads, joined) busy out =
      let differ : x.thread ≡ t → ⊥ = λ same. busy (subst (IsIdle s) same all.0) in
      ap (filter p) (first_event s x next e rest h all.0 step joined)
      ∙ (skipped p (Called x.thread all.0.0) rest (out x.thread all.0.0 differ all.0.1)
      ∙ none_held next w end rest (all.1 next e step) leads (λ is. busy (idle_back s x next e t differ step is)) (leaves_on s x next e all.0 step out))

  one_held : (k j : ℕ) → p (Called t k) ≡ true → (s : State) (u : List Move) (end : State) (h : List Event) → AreCalls s u → Leads s u end h → slice_get s.threads t ≡ Some (idle k) → IsAtWork end t j → LeavesOut p t s → filter p h ≡ Called t k ∷ []
  one_held k j is s [] end h all leads stands begun out = absurd (idle_not_at_work s t k j stands (subst (λ z. IsAtWork z t j) leads.0 begun))
  one_held k j is s (x ∷ w) end h all (next, e, rest, step, leads, joined) stands begun out = elim (cases_eq x.thread t) as (λ _. filter p h ≡ Called t k ∷ []) [
    | inl same ↦
        (let number : all.0.0 ≡ k = ap (λ (z : Thread). z.done) (same_Some (idle all.0.0) (idle k) (sym all.0.1 ∙ (ap (λ v. slice_get s.threads v) same ∙ stands))) in
        let event : Called x.thread all.0.0 ≡ Called t k = ap (λ v. Called v all.0.0) same ∙ ap (λ n. Called t n) number in
        ap (filter p) (first_event s x next e rest h all.0 step joined ∙ ap (λ z. z ∷ rest) event)
        ∙ (held p (Called t k) rest is
        ∙ ap (λ z. Called t k ∷ z) (none_held next w end rest (all.1 next e step) leads (λ i. call_opens s x next e all.0 step (subst (IsIdle next) (sym same) i)) (leaves_on s x next e all.0 step out))))
    | inr differ ↦
        ap (filter p) (first_event s x next e rest h all.0 step joined)
        ∙ (skipped p (Called x.thread all.0.0) rest (out x.thread all.0.0 differ all.0.1)
        ∙ one_held k j is next w end rest (all.1 next e step) leads (other_stands s x next e t differ step ∙ stands) begun (leaves_on s x next e all.0 step out))
  ]

-- ---- the history with one pending call

filter_same : (p q : Event → Bool) → ((e : Event) → p e ≡ q e) → (h : List Event) → filter p h ≡ filter q h
filter_same p q same [] = refl
filter_same p q same (z ∷ h) = ap (λ c. cond c (z ∷ filter p h) (filter p h)) (same z) ∙ ap (λ r. cond (q z) (z ∷ r) r) (filter_same p q same h)

keep_more : (t : ℕ) (h g : List Event) → ((a : OpId) → has_return g a ≡ false) → keep_pending t (h ++ g) ≡ keep_pending t h ++ filter (is_kept t h) g
keep_more t h g none = filter_same (is_kept t (h ++ g)) (is_kept t h) same (h ++ g) ∙ filter-append (is_kept t h) h g
  where
    same : (e : Event) → is_kept t (h ++ g) e ≡ is_kept t h e
    same (Called u k) = ap (λ c. (u == t) || c) (list_any-append (is_return (op u k)) h g ∙ (ap (λ c. has_return h (op u k) || c) (none (op u k)) ∙ or_false (has_return h (op u k))))
    same (Returned u k o) = refl

module _ (rest : State) (h : List Event) (told : IsTold rest h) (u : List Move) (end : State) (after : List Event) (all : AreCalls rest u) (leads : Leads rest u end after) (t k : ℕ) where
  out : LeavesOut (is_kept t h) t rest
  out v j differ stands = ap (λ c. c || has_return h (op v j)) (ne_eqb v t differ) ∙ told.returned v j (idle j) stands (omega arith)

  own : is_kept t h (Called t k) ≡ true
  own = ap (λ c. c || has_return h (op t k)) (eq-eqb t t refl)

  more : keep_pending t (h ++ after) ≡ keep_pending t h ++ filter (is_kept t h) after
  more = keep_more t h after (λ a. no_return rest u end after a all leads)

  pub begun_alone : IsAtWork rest t k → keep_pending t (h ++ after) ≡ keep_pending t h
  begun_alone begun =
      more ∙ (ap (λ z. keep_pending t h ++ z) (none_held (is_kept t h) t rest u end after all leads (λ is. idle_not_at_work rest t is.0 k is.1 begun) out) ∙ append-nil (keep_pending t h))

  pub next_alone : slice_get rest.threads t ≡ Some (idle k) → IsAtWork end t k → keep_pending t (h ++ after) ≡ keep_pending t (h ++ Called t k ∷ [])
  next_alone stands begun =
      more
      ∙ (ap (λ z. keep_pending t h ++ z) (one_held (is_kept t h) t k k own rest u end after all leads stands begun out ∙ sym (held (is_kept t h) (Called t k) [] own))
      ∙ sym (keep_more t h (Called t k ∷ []) (λ a. refl)))

-- ---- where threads stand after the last calls

pub call_begins : (s : State) (m : Move) (next : State) (e : Option Event) (is : IsIdle s m.thread) → Step s m next e → IsAtWork next m.thread is.0
call_begins s m next e is step = let c = calls s m next e is step in let turns = c.2 in (turns.2, c.1 ∙ ap (λ (x : Thread). Some x) turns.3)

-- one that is not idle stands as it stood
still_stands : (s : State) (u : List Move) (end : State) (h : List Event) (t : ℕ) → AreCalls s u → Leads s u end h → (IsIdle s t → ⊥) → slice_get end.threads t ≡ slice_get s.threads t
still_stands s [] end h t all leads busy = ap (λ (z : State). slice_get z.threads t) leads.0
still_stands s (x ∷ w) end h t all (next, e, rest, step, leads, joined) busy =
    let differ : x.thread ≡ t → ⊥ = λ same. busy (subst (IsIdle s) same all.0) in
    still_stands next w end rest t (all.1 next e step) leads (λ is. busy (idle_back s x next e t differ step is)) ∙ other_stands s x next e t differ step

pub still_begun : (s : State) (u : List Move) (end : State) (h : List Event) (t k : ℕ) → AreCalls s u → Leads s u end h → IsAtWork s t k → IsAtWork end t k
still_begun s u end h t k all leads begun = (begun.0, still_stands s u end h t all leads (λ is. idle_not_at_work s t is.0 k is.1 begun) ∙ begun.1)

-- one that was idle has opened its next call, and had one
has_called : (s : State) (u : List Move) (end : State) (h : List Event) (t k j : ℕ) → AreCalls s u → Leads s u end h → slice_get s.threads t ≡ Some (idle k) → IsAtWork end t j → (k ≡ j) × (k < call_count s t)
has_called s [] end h t k j all leads stands begun = absurd (idle_not_at_work s t k j stands (subst (λ z. IsAtWork z t j) leads.0 begun))
has_called s (x ∷ w) end h t k j all (next, e, rest, step, leads, joined) stands begun = elim (cases_eq x.thread t) as (λ _. (k ≡ j) × (k < call_count s t)) [
  | inl same ↦
      (let there : slice_get s.threads x.thread ≡ Some (idle k) = subst (λ v. slice_get s.threads v ≡ Some (idle k)) (sym same) stands in
      let is : IsIdle s x.thread = (k, there) in
      let c = calls s x next e is step in
      let turns = c.2 in
      let within : k < call_count s x.thread = slice_get_within (calls_of s.matrix x.thread) k turns.0 turns.1 in
      let opened = subst (λ v. IsAtWork next v k) same (call_begins s x next e is step) in
      let last = still_begun next w end rest t k (all.1 next e step) leads opened in
      (one_number end t k j last.0 last.1 begun, subst (λ v. k < call_count s v) same within))
  | inr differ ↦
      (let r = has_called next w end rest t k j (all.1 next e step) leads (other_stands s x next e t differ step ∙ stands) begun in
      (r.0, subst (λ m. k < length (calls_of m t)) (step_moved s x next e step).matrix r.1))
]

-- ---- judged before them

pub not_finished : (s : State) (t k : ℕ) → IsAtWork s t k → IsComplete s → ⊥
not_finished s t k begun complete =
    let finished : IsFinished s t = complete t (slice_get_within s.threads t (at_work k begun.0) begun.1) in
    let here = rw begun.1 at finished in
    let same : Open begun.0 ≡ Idle = here.0 in
    cc

-- a pending operation has not returned
not_returned : (h : List Event) (a : OpId) → has_return h a ≡ true → ((i : ℕ) → IsReturnAt h i a → ⊥) → ⊥
not_returned [] a e none = absurd (cc)
not_returned (Called u k ∷ h) a e none = not_returned h a e (λ i at. none (suc i) at)
not_returned (Returned u k o ∷ h) a e none =
    let later : has_return h a ≡ true → ⊥ = λ rest. not_returned h a rest (λ i at. none (suc i) at) in
    elim (eqb_tells u a.t) as (λ _. ⊥) [
      | inl thread ↦ elim (eqb_tells k a.k) as (λ _. ⊥) [
        | inl number ↦ none zero (o, ap (λ x. Some (Returned x k o)) thread.1 ∙ ap (λ x. Some (Returned a.t x o)) number.1)
        | inr other ↦ later (sym (ap (λ b. ((u == a.t) && b) || has_return h a) other.0 ∙ ap (λ b. (b && false) || has_return h a) thread.0) ∙ e)
      ]
      | inr other ↦ later (sym (ap (λ b. (b && (k == a.k)) || has_return h a) other.0) ∙ e)
    ]

module _ (Set : List SerialOp → Type 0) (rest : State) (h : List Event) (told : IsTold rest h) (good : IsGoodBefore Set rest h) where
  complete_so : (u : List Move) (end : State) (after : List Event) → AreCalls rest u → Leads rest u end after → IsComplete end → HasWitness Set (h ++ after)
  complete_so [] end after all leads complete =
      subst (HasWitness Set) (sym (ap (λ z. h ++ z) leads.1 ∙ append-nil h)) (good.complete (subst IsComplete leads.0 complete))
  complete_so (x ∷ w) end after all (next, e, more, step, leads, joined) complete =
      absurd (not_finished end x.thread all.0.0 (still_begun next w end more x.thread all.0.0 (all.1 next e step) leads (call_begins rest x next e all.0 step)) complete)

  module _ (u : List Move) (end : State) (after : List Event) (all : AreCalls rest u) (leads : Leads rest u end after) where
    alone_so : (t k : ℕ) → IsAtWork end t k → HasWitness Set (keep_pending t (h ++ after))
    alone_so t k begun = elim (idle_or_not rest t) as (λ _. HasWitness Set (keep_pending t (h ++ after))) [
      | inl is ↦
          (let had = has_called rest u end after t is.0 k all leads is.1 begun in
          let stands : slice_get rest.threads t ≡ Some (idle k) = subst (λ n. slice_get rest.threads t ≡ Some (idle n)) had.0 is.1 in
          subst (HasWitness Set) (sym (next_alone rest h told u end after all leads t k stands begun)) (good.next t k stands (subst (λ n. n < call_count rest t) had.0 had.1)))
      | inr busy ↦
          (let here : IsAtWork rest t k = (begun.0, sym (still_stands rest u end after t all leads busy) ∙ begun.1) in
          subst (HasWitness Set) (sym (begun_alone rest h told u end after all leads t k here)) (good.begun t k here))
    ]

    stuck_so : (a : OpId) → IsPending (h ++ after) a → HasWitness Set (keep_pending a.t (h ++ after))
    stuck_so a pending =
        let then : IsTold end (h ++ after) = told_leads rest u end h after told leads in
        elim (then.called pending.0.0 a.t a.k pending.0.1) as (λ _. HasWitness Set (keep_pending a.t (h ++ after))) [
          | inl returned ↦ absurd (not_returned (h ++ after) a returned pending.1)
          | inr begun ↦ alone_so a.t a.k begun
        ]

    pub good_so : IsEnded end → IsGoodAt Set end (h ++ after)
    good_so (inl complete) = inl (complete, complete_so u end after all leads complete)
    good_so (inr stuck) = inr (stuck, stuck_so)
