-- What a move changes of its thread, and how many operations each thread has ended.
use Rattle.std.proofs.Common.{arith, ◌≡◌, ◌≢◌, ◌<◌, ◌≤◌, ◌+◌, ◌⊎◌, ℕ, length, get_or, slice_get, Option, Some, None, refl, sym, ◌∙◌, ap, subst, inl, inr}
use Rattle.std.proofs.lemmas.Bool.{cases_lt}
use Rattle.std.proofs.lemmas.Option.{slice_get_within, slice_get-get_or, same_Some, none-some}
use Rattle.lu_test.specs.declared.schedule.Move.{Move}
use Rattle.lu_test.specs.Matrix.{calls_of}
use Rattle.lu_machine.specs.declared.event.Event.{Event}
use Rattle.lu_machine.specs.declared.thread.Thread.{Thread}
use Rattle.lu_machine.specs.declared.thread.Activity.{Activity}
use Rattle.lu_machine.specs.declared.thread.Activity.TheVariants.{Idle, Open}
use Rattle.lu_machine.specs.States.{State, call_count}
use Rattle.lu_machine.specs.Steps.{Step}
use Rattle.lu_machine.specs.Ends.{IsComplete, IsFinished}
use Rattle.lu_machine.proofs.Keeping.{step_keeps_threads}
use Rattle.lu_serial.specs.Serial.{HasOpen}
use Rattle.lu_serial.proofs.Opening.{How, step_turned, slice_get_set_other, slice_get_set_same, same_or_not}
use Rattle.lu_serial.specs.Whole.{IsQuiet}

-- where the thread of a move stands before it and after it
pub record Stepped (s : State) (m : Move) (new : State) (event : Option Event) : Type 0 where
  pub before : Thread
  pub after : Thread
  pub was : slice_get s.threads m.thread ≡ Some before
  pub is : slice_get new.threads m.thread ≡ Some after
  pub others : (t : ℕ) → (t ≡ m.thread → ⊥) → slice_get new.threads t ≡ slice_get s.threads t
  pub matrix : new.matrix ≡ s.matrix
  pub kind : How s m.thread before after event

pub step_stepped : (s : State) (m : Move) (new : State) (event : Option Event) → Step s m new event → Stepped s m new event
step_stepped s m new event h =
    let t = step_turned s m new event h in
    record {
      before = t.before;
      after = t.after;
      was = t.stands;
      is = ap (λ x. slice_get x m.thread) t.threads ∙ slice_get_set_same s.threads m.thread t.after t.before t.stands;
      others = λ i apart. ap (λ x. slice_get x i) t.threads ∙ slice_get_set_other s.threads m.thread i t.after apart;
      matrix = t.matrix;
      kind = t.how;
    }

-- the thread that stands there is the one
pub the_thread : (s : State) (t : ℕ) (a b : Thread) → slice_get s.threads t ≡ Some a → slice_get s.threads t ≡ Some b → a ≡ b
the_thread s t a b p q = same_Some a b (sym p ∙ q)

pub open_busy : (s : State) (t : ℕ) (a : Thread) → slice_get s.threads t ≡ Some a → HasOpen s t → a.activity ≢ Idle
open_busy s t a p h e = h.2 (ap (λ (x : Thread). x.activity) (the_thread s t h.0 a h.1 p) ∙ e)

pub idle_or_not : (a : Activity) → (a ≡ Idle) ⊎ (a ≢ Idle)
idle_or_not Idle = inl refl
idle_or_not (Open f) = inr (λ e. cc)

-- how many operations thread t has ended
abbrev pub done_in : Option Thread → ℕ
done_in None = 0
done_in (Some a) = a.done

abbrev pub done_of : State → ℕ → ℕ
done_of s t = done_in (slice_get s.threads t)

-- a thread with calls is there
abbrev pub HasSeats : State → Type 0
HasSeats s = (t : ℕ) → 0 < call_count s t → t < length s.threads

pub done_at : (s : State) (t : ℕ) (a : Thread) → slice_get s.threads t ≡ Some a → done_of s t ≡ a.done
done_at s t a e = ap done_in e

pub done_others : (s : State) (m : Move) (new : State) (e : Option Event) → (by : Stepped s m new e) → (x : ℕ) → (x ≡ m.thread → ⊥) → done_of new x ≡ done_of s x
done_others s m new e by x apart = ap done_in (by.others x apart)

-- where its operation goes on, or is called, all counts stay
pub done_same : (s : State) (m : Move) (new : State) (e : Option Event) → (by : Stepped s m new e) → by.after.done ≡ by.before.done → (x : ℕ) → done_of new x ≡ done_of s x
done_same s m new e by same x =
    elim (same_or_not x m.thread) [
      | inl here ↦ subst (λ y. done_of new y ≡ done_of s y) (sym here) (done_at new m.thread by.after by.is ∙ (same ∙ sym (done_at s m.thread by.before by.was)))
      | inr apart ↦ done_others s m new e by x apart
    ]

-- where it ends, that of its thread is one more
pub done_more : (s : State) (m : Move) (new : State) (e : Option Event) → (by : Stepped s m new e) → by.after.done ≡ by.before.done + 1 → done_of new m.thread ≡ done_of s m.thread + 1
done_more s m new e by more = done_at new m.thread by.after by.is ∙ (more ∙ ap (λ (n : ℕ). n + 1) (sym (done_at s m.thread by.before by.was)))

pub count_same : (s new : State) (t : ℕ) → new.matrix ≡ s.matrix → call_count new t ≡ call_count s t
count_same s new t e = ap (λ x. length (calls_of x t)) e

pub seats_on : (s : State) (m : Move) (new : State) (e : Option Event) → Step s m new e → HasSeats s → HasSeats new
seats_on s m new e step seats t some =
    let by = step_stepped s m new e step in
    let threads = step_keeps_threads s m new e step in
    let count = count_same s new t by.matrix in
    let there = seats t (omega (arith, some, count)) in
    omega (arith, there, threads)

none_within : (s : State) (t : ℕ) → slice_get s.threads t ≡ None → t < length s.threads → ⊥
none_within s t e within =
    let d : Thread = record { done = 0; activity = Idle } in
    let some = slice_get-get_or s.threads t d within in
    none-some (get_or s.threads t d) (sym e ∙ some)

-- a thread with a call left is there
pub seated : (s : State) (t : ℕ) → HasSeats s → done_of s t < call_count s t → (a : Thread) × (slice_get s.threads t ≡ Some a)
seated s t seats left = by_thread (slice_get s.threads t) refl
  where
    by_thread : (o : Option Thread) → slice_get s.threads t ≡ o → (a : Thread) × (slice_get s.threads t ≡ Some a)
    by_thread (Some a) e = (a, e)
    by_thread None e =
        elim (cases_lt t (length s.threads)) as (λ _. (a : Thread) × (slice_get s.threads t ≡ Some a)) [
          | inl within ↦ absurd (none_within s t e within)
          | inr past ↦ (let within = seats t (omega (arith, left)) in absurd (omega (arith, past, within)))
        ]

-- with no operation open, and all calls made, a state is complete
pub done_complete : (s : State) → IsQuiet s → ((t : ℕ) → call_count s t ≤ done_of s t) → IsComplete s
done_complete s quiet all t within = by_thread (slice_get s.threads t) refl
  where
    by_thread : (o : Option Thread) → slice_get s.threads t ≡ o → IsFinished s t
    by_thread None e = rw e tt
    by_thread (Some a) e =
        let le : call_count s t ≤ done_of s t = all t in
        let at = done_at s t a e in
        elim (idle_or_not a.activity) [
          | inl idle ↦ rw e (idle, omega (arith, le, at))
          | inr busy ↦ absurd (quiet t (a, e, busy))
        ]

-- a complete state has all calls made
pub complete_done : (s : State) (t : ℕ) → HasSeats s → IsComplete s → call_count s t ≤ done_of s t
complete_done s t seats complete =
    elim (cases_lt (done_of s t) (call_count s t)) as (λ _. call_count s t ≤ done_of s t) [
      | inl left ↦
          (let a = seated s t seats left in
          let f : (a.0.activity ≡ Idle) × (call_count s t ≤ a.0.done) = rw a.1 at (complete t (slice_get_within s.threads t a.0 a.1)) in
          let at = done_at s t a.0 a.1 in
          let le = f.1 in
          omega (arith, le, at))
      | inr le ↦ le
    ]
