-- How many calls each thread has made along a schedule, and how many have returned.
use Rattle.std.proofs.Common.{arith, ◌≡◌, ◌≢◌, ◌≤◌, ◌+◌, Bool, true, false, ℕ, suc, List, [], ◌∷◌, length, if◌then◌else◌, slice_get, Option, Some, None, refl, sym, ◌∙◌, ap, subst, inl, inr}
use Rattle.std.proofs.lemmas.Bool.{eq-eqb, ne_eqb}
use Rattle.lu_test.specs.declared.schedule.Move.{Move}
use Rattle.lu_machine.specs.declared.event.Event.{Event}
use Rattle.lu_machine.specs.declared.event.Event.TheVariants.{Call, Return}
use Rattle.lu_machine.specs.declared.event.Outcome.{Outcome}
use Rattle.lu_machine.specs.declared.thread.Thread.{Thread}
use Rattle.lu_machine.specs.declared.thread.Activity.{Activity}
use Rattle.lu_machine.specs.declared.thread.Activity.TheVariants.{Idle, Open}
use Rattle.lu_machine.specs.States.{State, is_open}
use Rattle.lu_machine.specs.Runs.{Leads, with_event}
use Rattle.lu_history.specs.Histories.{calls, outcomes}
use Rattle.lu_serial.specs.Serial.{HasOpen}
use Rattle.lu_serial.proofs.Opening.{same_or_not}
use Rattle.lu_serial.specs.Whole.{made}
use Rattle.lu_serial.proofs.Moves.{Stepped, step_stepped, done_in, done_of, done_at, done_same, done_more, done_others}

outcomes_here : (t k : ℕ) (o : Outcome) (h : List Event) → length (outcomes t (Return t k o ∷ h)) ≡ suc (length (outcomes t h))
outcomes_here t k o h = ap (λ b. length (if b then o ∷ outcomes t h else outcomes t h)) (eq-eqb t t refl)

outcomes_other : (t u k : ℕ) (o : Outcome) (h : List Event) → (t ≡ u → ⊥) → length (outcomes t (Return u k o ∷ h)) ≡ length (outcomes t h)
outcomes_other t u k o h apart = ap (λ b. length (if b then o ∷ outcomes t h else outcomes t h)) (ne_eqb u t (λ e. apart (sym e)))

calls_here : (t k : ℕ) (h : List Event) → calls t (Call t k ∷ h) ≡ calls t h + 1
calls_here t k h = ap (λ b. if b then calls t h + 1 else calls t h) (eq-eqb t t refl)

calls_other : (t u k : ℕ) (h : List Event) → (t ≡ u → ⊥) → calls t (Call u k ∷ h) ≡ calls t h
calls_other t u k h apart = ap (λ b. if b then calls t h + 1 else calls t h) (ne_eqb u t (λ e. apart (sym e)))

-- how many calls thread t has made
abbrev pub made_in : Option Thread → ℕ
made_in None = 0
made_in (Some a) = made a

abbrev pub made_of : State → ℕ → ℕ
made_of s t = made_in (slice_get s.threads t)

pub made_idle : (a : Thread) → a.activity ≡ Idle → made a ≡ a.done
made_idle a e = rw e refl

busy_made : (activity : Activity) (n : ℕ) → activity ≢ Idle → made (record { done = n; activity = activity }) ≡ n + 1
busy_made Idle n h = absurd (h refl)
busy_made (Open f) n h = refl

pub made_busy : (a : Thread) → a.activity ≢ Idle → made a ≡ a.done + 1
made_busy a h = busy_made a.activity a.done h

pub made_at : (s : State) (t : ℕ) (a : Thread) → slice_get s.threads t ≡ Some a → made_of s t ≡ made a
made_at s t a e = ap made_in e

-- where nothing is open, as many as have ended
pub made_quiet : (s : State) (t : ℕ) → (HasOpen s t → ⊥) → made_of s t ≡ done_of s t
made_quiet s t calm = by_thread (slice_get s.threads t) refl
  where
    by_activity : (a : Thread) (activity : Activity) → a.activity ≡ activity → slice_get s.threads t ≡ Some a → made a ≡ a.done
    by_activity a Idle is e = made_idle a is
    by_activity a (Open f) is e = absurd (calm (a, e, (λ idle. (let x = is in cc))))

    by_thread : (o : Option Thread) → slice_get s.threads t ≡ o → made_of s t ≡ done_of s t
    by_thread None e = rw e refl
    by_thread (Some a) e = made_at s t a e ∙ (by_activity a a.activity refl e ∙ sym (done_at s t a e))

pub made_open : (s : State) (t : ℕ) → HasOpen s t → made_of s t ≡ done_of s t + 1
made_open s t h = made_at s t h.0 h.1 ∙ (made_busy h.0 h.2 ∙ ap (λ (n : ℕ). n + 1) (sym (done_at s t h.0 h.1)))

pub made_others : (s : State) (m : Move) (new : State) (e : Option Event) → (by : Stepped s m new e) → (x : ℕ) → (x ≡ m.thread → ⊥) → made_of new x ≡ made_of s x
made_others s m new e by x apart = ap made_in (by.others x apart)

-- what one move does to the numbers of returns and calls
step_returns : (s : State) (m : Move) (new : State) (e : Option Event) → (by : Stepped s m new e) → (t : ℕ) (h : List Event) → done_of s t + length (outcomes t (with_event e h)) ≡ done_of new t + length (outcomes t h)
step_returns s m new e by t h =
    elim by.kind as (λ _. done_of s t + length (outcomes t (with_event e h)) ≡ done_of new t + length (outcomes t h)) [
      | inl called ↦
          (let none : length (outcomes t (with_event e h)) ≡ length (outcomes t h) = ap (λ x. length (outcomes t (with_event x h))) called.3 in
          let same = done_same s m new e by called.2 t in
          omega (arith, none, same))
      | inr other ↦ elim other as (λ _. done_of s t + length (outcomes t (with_event e h)) ≡ done_of new t + length (outcomes t h)) [
        | inl went ↦
            (let none : length (outcomes t (with_event e h)) ≡ length (outcomes t h) = ap (λ x. length (outcomes t (with_event x h))) went.3 in
            let same = done_same s m new e by went.2 t in
            omega (arith, none, same))
        | inr closed ↦
            (let is : length (outcomes t (with_event e h)) ≡ length (outcomes t (Return m.thread by.before.done closed.3.0 ∷ h)) = ap (λ x. length (outcomes t (with_event x h))) closed.3.1 in
            elim (same_or_not t m.thread) as (λ _. done_of s t + length (outcomes t (with_event e h)) ≡ done_of new t + length (outcomes t h)) [
              | inl same ↦
                  (let more : length (outcomes m.thread (Return m.thread by.before.done closed.3.0 ∷ h)) ≡ suc (length (outcomes m.thread h)) = outcomes_here m.thread by.before.done closed.3.0 h in
                  let ended = done_more s m new e by closed.2 in
                  let here : done_of s m.thread + length (outcomes m.thread (Return m.thread by.before.done closed.3.0 ∷ h)) ≡ done_of new m.thread + length (outcomes m.thread h) = omega (arith, more, ended) in
                  let there : done_of s t + length (outcomes t (Return m.thread by.before.done closed.3.0 ∷ h)) ≡ done_of new t + length (outcomes t h) =
                  subst (λ x. done_of s x + length (outcomes x (Return m.thread by.before.done closed.3.0 ∷ h)) ≡ done_of new x + length (outcomes x h)) (sym same) here in
                  omega (arith, is, there))
              | inr apart ↦
                  (let none = outcomes_other t m.thread by.before.done closed.3.0 h apart in
                  let same = done_others s m new e by t apart in
                  omega (arith, is, none, same))
            ])
      ]
    ]

step_calls : (s : State) (m : Move) (new : State) (e : Option Event) → (by : Stepped s m new e) → (t : ℕ) (h : List Event) → made_of s t + calls t (with_event e h) ≡ made_of new t + calls t h
step_calls s m new e by t h =
    elim (same_or_not t m.thread) as (λ _. made_of s t + calls t (with_event e h) ≡ made_of new t + calls t h) [
      | inl same ↦ subst (λ x. made_of s x + calls x (with_event e h) ≡ made_of new x + calls x h) (sym same) here
      | inr apart ↦ (let still = made_others s m new e by t apart in let none = elsewhere apart in omega (arith, still, none))
    ]
  where
    was : made_of s m.thread ≡ made by.before
    was = made_at s m.thread by.before by.was

    is : made_of new m.thread ≡ made by.after
    is = made_at new m.thread by.after by.is

    here : made_of s m.thread + calls m.thread (with_event e h) ≡ made_of new m.thread + calls m.thread h
    here =
        elim by.kind as (λ _. made_of s m.thread + calls m.thread (with_event e h) ≡ made_of new m.thread + calls m.thread h) [
          | inl called ↦
              (let event : calls m.thread (with_event e h) ≡ calls m.thread h + 1 = ap (λ x. calls m.thread (with_event x h)) called.3 ∙ calls_here m.thread by.before.done h in
              let before = made_idle by.before called.0 in
              let after = made_busy by.after called.1 in
              let done = called.2 in
              omega (arith, was, is, event, before, after, done))
          | inr other ↦ elim other as (λ _. made_of s m.thread + calls m.thread (with_event e h) ≡ made_of new m.thread + calls m.thread h) [
            | inl went ↦
                (let event : calls m.thread (with_event e h) ≡ calls m.thread h = ap (λ x. calls m.thread (with_event x h)) went.3 in
                let before = made_busy by.before went.0 in
                let after = made_busy by.after went.1 in
                let done = went.2 in
                omega (arith, was, is, event, before, after, done))
            | inr closed ↦
                (let event : calls m.thread (with_event e h) ≡ calls m.thread h = ap (λ x. calls m.thread (with_event x h)) closed.3.1 in
                let before = made_busy by.before closed.0 in
                let after = made_idle by.after closed.1 in
                let done = closed.2 in
                omega (arith, was, is, event, before, after, done))
          ]
        ]

    elsewhere : (t ≡ m.thread → ⊥) → calls t (with_event e h) ≡ calls t h
    elsewhere apart =
        elim by.kind as (λ _. calls t (with_event e h) ≡ calls t h) [
          | inl called ↦ ap (λ x. calls t (with_event x h)) called.3 ∙ calls_other t m.thread by.before.done h apart
          | inr other ↦ elim other as (λ _. calls t (with_event e h) ≡ calls t h) [
            | inl went ↦ ap (λ x. calls t (with_event x h)) went.3
            | inr closed ↦ ap (λ x. calls t (with_event x h)) closed.3.1
          ]
        ]

-- each return ends an operation
pub run_returns : (s : State) (u : List Move) (end : State) (h : List Event) → Leads s u end h → (t : ℕ) → done_of s t + length (outcomes t h) ≡ done_of end t
run_returns s [] end h p t = rw (p.0, p.1) (omega arith)
run_returns s (m ∷ u) end h p t =
    let rest = run_returns p.0 u end p.2 p.4 t in
    let step = step_returns s m p.0 p.1 (step_stepped s m p.0 p.1 p.3) t p.2 in
    let whole : length (outcomes t h) ≡ length (outcomes t (with_event p.1 p.2)) = ap (λ x. length (outcomes t x)) p.5 in
    omega (arith, rest, step, whole)

-- each call opens one
pub run_calls : (s : State) (u : List Move) (end : State) (h : List Event) → Leads s u end h → (t : ℕ) → made_of s t + calls t h ≡ made_of end t
run_calls s [] end h p t = rw (p.0, p.1) (omega arith)
run_calls s (m ∷ u) end h p t =
    let rest = run_calls p.0 u end p.2 p.4 t in
    let step = step_calls s m p.0 p.1 (step_stepped s m p.0 p.1 p.3) t p.2 in
    let whole : calls t h ≡ calls t (with_event p.1 p.2) = ap (λ x. calls t x) p.5 in
    omega (arith, rest, step, whole)

-- what has ended was called
pub done_made : (s : State) (t : ℕ) → done_of s t ≤ made_of s t
done_made s t = by_thread (slice_get s.threads t)
  where
    by_open : (b : Bool) (n : ℕ) → n ≤ (if b then n + 1 else n)
    by_open true n = omega arith
    by_open false n = omega arith

    by_thread : (o : Option Thread) → done_in o ≤ made_in o
    by_thread None = omega arith
    by_thread (Some a) = by_open (is_open a.activity) a.done
