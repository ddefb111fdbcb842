-- How many calls each thread has made, move by move.
use Rattle.std.proofs.Common.{◌≡◌, ℕ, zero, suc, ◌+◌, ◌<◌, List, [], ◌∷◌, length, map, get_or, replicate, Option, Some, None, slice_get, slice_set, refl, sym, ap, subst, ◌∙◌, inl, inr, arith}
use Rattle.lu_component.specs.Component.{Component}
use Rattle.lu_test.specs.declared.schedule.Move.{Move}
use Rattle.lu_test.specs.Matrix.{Matrix}
use Rattle.lu_machine.specs.declared.event.Event.{Event}
use Rattle.lu_machine.specs.declared.event.Event.TheVariants.{Call, Return}
use Rattle.lu_machine.specs.declared.event.Outcome.{Outcome}
use Rattle.lu_machine.specs.declared.thread.Thread.{Thread}
use Rattle.lu_machine.specs.declared.thread.Activity.TheVariants.{Idle}
use Rattle.lu_machine.specs.States.{State, call_count}
use Rattle.lu_machine.specs.Steps.{Step}
use Rattle.lu_machine.specs.Starts.{IsStart}
use Rattle.lu_serial.proofs.Opening.{Turned, step_turned}
use Rattle.lu_serial.specs.Whole.{made, made_calls}
use Rattle.lu_serial.proofs.Counts.{made_idle, made_busy}

-- ---- one move

map_set : (xs : List Thread) (i : ℕ) (x : Thread) → map made (slice_set xs i x) ≡ slice_set (map made xs) i (made x)
map_set [] i x = refl
map_set (y ∷ xs) zero x = refl
map_set (y ∷ xs) (suc i) x = ap (λ (z : List ℕ). made y ∷ z) (map_set xs i x)

set_same : (xs : List Thread) (i : ℕ) (x : Thread) (n : ℕ) → slice_get xs i ≡ Some x → n ≡ made x → slice_set (map made xs) i n ≡ map made xs
set_same [] i x n at is = refl
set_same (y ∷ xs) zero x n at is = let e : x ≡ y = cc in ap (λ (z : ℕ). z ∷ map made xs) (is ∙ ap made e)
set_same (y ∷ xs) (suc i) x n at is = ap (λ (z : List ℕ). made y ∷ z) (set_same xs i x n at is)

made_at : (xs : List Thread) (i : ℕ) (x : Thread) (d : ℕ) → slice_get xs i ≡ Some x → get_or (map made xs) i d ≡ made x
made_at [] i x d at = absurd cc
made_at (y ∷ xs) zero x d at = let e : y ≡ x = cc in ap made e
made_at (y ∷ xs) (suc i) x d at = made_at xs i x d at

made_within : (xs : List Thread) (i : ℕ) (x : Thread) → slice_get xs i ≡ Some x → i < length (map made xs)
made_within [] i x at = absurd cc
made_within (y ∷ xs) zero x at = omega arith
made_within (y ∷ xs) (suc i) x at = let rest = made_within xs i x at in omega arith

-- call k of thread i is made
pub record IsMadeBy (s new : State) (i k : ℕ) : Type 0 where
  pub within : i < length (made_calls s)
  pub before : (d : ℕ) → get_or (made_calls s) i d ≡ k
  pub after : made_calls new ≡ slice_set (made_calls s) i (k + 1)
  pub left : k < call_count s i

module _ (s : State) (m : Move) (new : State) (event : Option Event) (t : Turned s m new event) where
  made_new : made_calls new ≡ slice_set (made_calls s) m.thread (made t.after)
  made_new = ap (λ (xs : List Thread). map made xs) t.threads ∙ map_set s.threads m.thread t.after

  kept : made t.after ≡ made t.before → made_calls new ≡ made_calls s
  kept same = made_new ∙ set_same s.threads m.thread t.before (made t.after) t.stands same

  called : (i k : ℕ) → event ≡ Some (Call i k) → IsMadeBy s new i k
  called i k is = elim t.how [
    | inl h ↦
        let thread : m.thread ≡ i = (let e = h.3 in cc) in
        let number : t.before.done ≡ k = (let e = h.3 in cc) in
        let one : made t.after ≡ k + 1 = made_busy t.after h.1 ∙ ap (λ (n : ℕ). n + 1) (h.2 ∙ number) in
        record {
          within = subst (λ (j : ℕ). j < length (made_calls s)) thread (made_within s.threads m.thread t.before t.stands);
          before = λ d. ap (λ (j : ℕ). get_or (made_calls s) j d) (sym thread) ∙ (made_at s.threads m.thread t.before d t.stands ∙ (made_idle t.before h.0 ∙ number));
          after = made_new ∙ (ap (slice_set (made_calls s) m.thread) one ∙ ap (λ (j : ℕ). slice_set (made_calls s) j (k + 1)) thread);
          left = subst (λ (j : ℕ). k < call_count s j) thread (subst (λ (n : ℕ). n < call_count s m.thread) number h.4);
        }
    | inr h ↦ elim h [
      | inl h ↦ absurd (let e = h.3 in cc)
      | inr h ↦ absurd (let e = h.3.1 in cc)
    ]
  ]

  not_called : ((i k : ℕ) → event ≡ Some (Call i k) → ⊥) → made_calls new ≡ made_calls s
  not_called none = elim t.how [
    | inl h ↦ absurd (none m.thread t.before.done h.3)
    | inr h ↦ elim h [
      | inl h ↦ kept (made_busy t.after h.1 ∙ (ap (λ (n : ℕ). n + 1) h.2 ∙ sym (made_busy t.before h.0)))
      | inr h ↦ kept (made_idle t.after h.1 ∙ (h.2 ∙ sym (made_busy t.before h.0)))
    ]
  ]

pub made_call : (s : State) (m : Move) (new : State) (event : Option Event) (i k : ℕ) → Step s m new event → event ≡ Some (Call i k) → IsMadeBy s new i k
made_call s m new event i k step is = called s m new event (step_turned s m new event step) i k is

pub made_none : (s : State) (m : Move) (new : State) (event : Option Event) → Step s m new event → event ≡ None → made_calls new ≡ made_calls s
made_none s m new event step is = not_called s m new event (step_turned s m new event step) (λ i k call. cc)

pub made_return : (s : State) (m : Move) (new : State) (event : Option Event) (i k : ℕ) (outcome : Outcome) → Step s m new event → event ≡ Some (Return i k outcome) → made_calls new ≡ made_calls s
made_return s m new event i k outcome step is = not_called s m new event (step_turned s m new event step) (λ j n call. cc)

-- one more, where it is counted
pub counted_call : (s : State) (m : Move) (new : State) (event : Option Event) (i k : ℕ) → Step s m new event → event ≡ Some (Call i k) → (counted : List ℕ) → counted ≡ made_calls s → (j : ℕ) → j ≡ i → (read d : ℕ) → read ≡ get_or counted j d → slice_set counted j (read + 1) ≡ made_calls new
counted_call s m new event i k step is counted are j same read d at =
    let call = made_call s m new event i k step is in
    let number : read ≡ k = at ∙ (ap (λ (x : ℕ). get_or counted x d) same ∙ (ap (λ (xs : List ℕ). get_or xs i d) are ∙ call.before d)) in
    ap (λ (x : ℕ). slice_set counted x (read + 1)) same ∙ (ap (λ (xs : List ℕ). slice_set xs i (read + 1)) are ∙ (ap (λ (x : ℕ). slice_set (made_calls s) i (x + 1)) number ∙ sym call.after))

-- ---- the start

pub start_made : (c : Component) (matrix : Matrix) (s : State) → IsStart c matrix s → let none : ℕ = 0 in made_calls s ≡ replicate (length matrix.threads) none
start_made c matrix s is = ap (λ (x : State). made_calls x) is.is ∙ all_zero (length matrix.threads)
  where
    all_zero : (n : ℕ) → let none : ℕ = 0 in map made (replicate n (record { done = 0; activity = Idle })) ≡ replicate n none
    all_zero zero = refl
    all_zero (suc n) = let none : ℕ = 0 in ap (λ (z : List ℕ). none ∷ z) (all_zero n)
