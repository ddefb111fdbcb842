-- Calls alone lead to an end exactly where all threads are blocked, in the operation that is open or in the one that the next call opens.
use Rattle.std.proofs.Common.{arith, ◌≡◌, ℕ, zero, suc, ◌+◌, ◌<◌, ◌≤◌, List, [], ◌∷◌, length, Option, refl, sym, ◌∙◌, ap, subst, inl, inr}
use Rattle.std.proofs.lemmas.Bool.{cases_eq, cases_lt, le-ltb, lt-ltb}
use Rattle.lu_test.specs.declared.schedule.Move.{Move}
use Rattle.lu_machine.specs.declared.event.Event.{Event}
use Rattle.lu_machine.specs.Changes.{idle}
use Rattle.lu_machine.specs.Ends.{IsEnded}
use Rattle.lu_machine.specs.Runs.{Leads, with_event}
use Rattle.lu_machine.specs.States.{State, call_count}
use Rattle.lu_machine.specs.Steps.{Step, picks_of}
use Rattle.lu_machine.proofs.Ended.{complete_or_not, no_move}
use Rattle.lu_machine.proofs.Keeping.{step_keeps_threads}
use Rattle.lu_machine.proofs.StepLaws.{feasible_step, step_feasible, step_same}
use Rattle.lu_late.specs.LastCalls.{AreAllBlocked, BlockedEndByCalls, EndsByCalls}
use Rattle.lu_late.specs.Steps.{AreCalls, IsIdle}
use Rattle.lu_late.proofs.Calls.{call_opens, comes_after, idle_back, idle_on, idle_or_not, stands_only}
use Rattle.lu_late.proofs.Resting.{last_calls_are_blocked, none_at_end, picks_same}

-- a call leaves other threads the picks that they had
pub picks_on : (s : State) (x : Move) (next : State) (e : Option Event) (t : ℕ) → (x.thread ≡ t → ⊥) → IsIdle s x.thread → Step s x next e → picks_of next t ≡ picks_of s t
picks_on s x next e t differ is step =
    let only = stands_only s x next e is step in
    ap (λ (z : State). picks_of z t) only.is ∙ picks_same s x.thread t only.now differ

-- an idle thread has one pick at most
few_picks : (s : State) (t : ℕ) → IsIdle s t → picks_of s t ≤ 1
few_picks s t is = elim (cases_lt is.0 (call_count s t)) as (λ _. picks_of s t ≤ 1) [
  | inl less ↦ (let one : picks_of s t ≡ 1 = rw (is.1, lt-ltb is.0 (call_count s t) less) refl in omega (arith, one))
  | inr more ↦ (let none : picks_of s t ≡ 0 = rw (is.1, le-ltb is.0 (call_count s t) more) refl in omega (arith, none))
]

-- so two calls of one thread are the same
one_call : (s : State) (x m : Move) (next now : State) (e f : Option Event) → IsIdle s m.thread → x.thread ≡ m.thread → Step s x next e → Step s m now f → x ≡ m
one_call s x m next now e f is same one two =
    let few = few_picks s m.thread is in
    let first : x.pick < picks_of s m.thread = subst (λ t. x.pick < picks_of s t) same (step_feasible s x next e one) in
    let second = step_feasible s m now f two in
    let picks : x.pick ≡ m.pick = omega (arith, few, first, second) in
    let make : ℕ → ℕ → Move = λ t p. record { thread = t; pick = p } in
    ap (λ t. make t x.pick) same ∙ ap (λ p. make m.thread p) picks

-- a call can be made after that of another thread too
beside : (s : State) (x m : Move) (next now : State) (e f : Option Event) → (x.thread ≡ m.thread → ⊥) → IsIdle s x.thread → IsIdle s m.thread → Step s x next e → Step s m now f → (there : State) × (event : Option Event) × Step next m there event × (picks_of there m.thread ≡ picks_of now m.thread)
beside s x m next now e f differ idle is one two =
    let here : IsIdle next m.thread = idle_on s x next e m.thread differ one is in
    let picks : picks_of next m.thread ≡ picks_of s m.thread = picks_on s x next e m.thread differ idle one in
    let could = step_feasible s m now f two in
    let go = feasible_step next m (subst (λ n. m.pick < n) (sym picks) could) in
    let a = comes_after s next go.0 x m e go.1 idle differ one go.2 in
    let same = step_same s m a.now now go.1 f a.step two in
    let still : IsIdle a.now x.thread = idle_on s m a.now go.1 x.thread (λ z. differ (sym z)) a.step idle in
    (go.0, go.1, go.2, picks_on a.now x go.0 e m.thread differ still a.after ∙ ap (λ (z : State). picks_of z m.thread) same.0)

-- ---- where calls alone lead to an end

next_blocked : (s : State) (u : List Move) (end : State) (h : List Event) → AreCalls s u → Leads s u end h → IsEnded end → (m : Move) (now : State) (f : Option Event) → IsIdle s m.thread → Step s m now f → picks_of now m.thread ≡ 0
next_blocked s [] end h all leads ended m now f is step =
    let some = step_feasible s m now f step in
    let none = none_at_end s m.thread (subst IsEnded leads.0 ended) in
    absurd (omega (arith, some, none))
next_blocked s (x ∷ w) end h all (next, e, rest, one, leads, joined) ended m now f is step = elim (cases_eq x.thread m.thread) as (λ _. picks_of now m.thread ≡ 0) [
  | inl same ↦
      (let whole : x ≡ m = one_call s x m next now e f is same one step in
      let there : next ≡ now = (step_same s m next now e f (subst (λ y. Step s y next e) whole one) step).0 in
      let none = last_calls_are_blocked next w end rest (all.1 next e one) leads ended m.thread (λ i. call_opens s x next e all.0 one (subst (IsIdle next) (sym same) i)) in
      ap (λ (z : State). picks_of z m.thread) (sym there) ∙ none)
  | inr differ ↦
      (let b = beside s x m next now e f differ all.0 is one step in
      sym b.3 ∙ next_blocked next w end rest (all.1 next e one) leads ended m b.0 b.1 (idle_on s x next e m.thread differ one is) b.2)
]

-- ---- where all are blocked

blocked_on : (s : State) (x : Move) (next : State) (e : Option Event) → AreAllBlocked s → IsIdle s x.thread → Step s x next e → AreAllBlocked next
blocked_on s x next e blocked is step = record {
  begun = λ t busy. elim (cases_eq x.thread t) as (λ _. picks_of next t ≡ 0) [
    | inl same ↦ subst (λ v. picks_of next v ≡ 0) same (blocked.next x next e is step)
    | inr differ ↦ picks_on s x next e t differ is step ∙ blocked.begun t (λ i. busy (idle_on s x next e t differ step i))
  ];
  next = λ m then f idle two.
      (let differ : x.thread ≡ m.thread → ⊥ = λ same. call_opens s x next e is step (subst (IsIdle next) (sym same) idle) in
      let a = comes_after s next then x m e f is differ step two in
      let still : IsIdle a.now x.thread = idle_on s m a.now f x.thread (λ z. differ (sym z)) a.step is in
      picks_on a.now x then e m.thread differ still a.after ∙ blocked.next m a.now f (idle_back s x next e m.thread differ step idle) a.step);
}

all_called : (n i : ℕ) (s : State) → i + n ≡ length s.threads → ((t : ℕ) → t < i → picks_of s t ≡ 0) → AreAllBlocked s → EndsByCalls s
all_called zero i s long none blocked =
    let still = no_move s (λ t lt. none t (omega (arith, lt, long))) in
    ([], s, [], tt, (refl, refl), elim (complete_or_not s) as (λ _. IsEnded s) [ inl complete ↦ inl complete | inr not ↦ inr (not, still) ])
all_called (suc n) i s long none blocked = elim (cases_lt 0 (picks_of s i)) as (λ _. EndsByCalls s) [
  | inr past ↦ all_called n (suc i) s (omega (arith, long)) (λ t lt. elim (cases_lt t i) as (λ _. picks_of s t ≡ 0) [
    | inl before ↦ none t before
    | inr last ↦ (let here : t ≡ i = omega (arith, lt, last) in let zero_there : picks_of s i ≡ 0 = omega (arith, past) in ap (picks_of s) here ∙ zero_there)
  ]) blocked
  | inl some ↦ elim (idle_or_not s i) as (λ _. EndsByCalls s) [
    | inr busy ↦ (let zero_there = blocked.begun i busy in absurd (omega (arith, some, zero_there)))
    | inl is ↦
        (let x : Move = record { thread = i; pick = 0 } in
        let go = feasible_step s x some in
        let next = go.0 in
        let e = go.1 in
        let threads = step_keeps_threads s x next e go.2 in
        let r = all_called n (suc i) next (omega (arith, long, threads)) (λ t lt. elim (cases_eq i t) as (λ _. picks_of next t ≡ 0) [
          | inl same ↦ subst (λ v. picks_of next v ≡ 0) same (blocked.next x next e is go.2)
          | inr differ ↦ picks_on s x next e t differ is go.2 ∙ none t (less t i lt differ)
        ]) (blocked_on s x next e blocked is go.2) in (
          x ∷ r.0,
          r.1,
          with_event e r.2,
          (is, λ now f other. subst (λ z. AreCalls z r.0) (step_same s x next now e f go.2 other).0 r.3),
          (next, e, r.2, go.2, r.4, refl),
          r.5,
        ))
  ]
]
  where
    less : (t i : ℕ) → t < suc i → (i ≡ t → ⊥) → t < i
    less t i lt differ = elim (cases_lt t i) as (λ _. t < i) [ inl before ↦ before | inr last ↦ absurd (differ (omega (arith, lt, last))) ]

pub blocked_end_by_calls : BlockedEndByCalls
blocked_end_by_calls s = (
  λ ends. record {
    begun = last_calls_are_blocked s ends.0 ends.1 ends.2 ends.3 ends.4 ends.5;
    next = next_blocked s ends.0 ends.1 ends.2 ends.3 ends.4 ends.5;
  },
  λ blocked. all_called (length s.threads) 0 s (omega arith) (λ t lt. absurd (omega (arith, lt))) blocked,
)
