-- The event of a move is of one of 8 threads and of one of its 8 calls.
use Rattle.std.proofs.Common.{◌≡◌, ℕ, ◌+◌, ◌<◌, ◌≤◌, Bool, true, false, List, [], Option, Some, None, IfSome, slice_get, unwrap_or, if◌then◌else◌, length, refl, ◌∙◌, ap, arith}
use Rattle.std.specs.Option.{option_map}
use Rattle.std.proofs.lemmas.Option.{get_or_from_slice_get, none-some, slice_get-map, slice_get_within}
use Rattle.lu_test.specs.declared.matrix.Call.{Call as ACall}
use Rattle.lu_test.specs.declared.schedule.Move.{Move}
use Rattle.lu_test.specs.Matrix.{IsMatrix, Matrix, calls_of, row_of}
use Rattle.lu_machine.specs.declared.event.Event.{Event}
use Rattle.lu_machine.specs.declared.event.Event.TheVariants.{Call}
use Rattle.lu_machine.specs.declared.thread.Activity.{Activity}
use Rattle.lu_machine.specs.declared.thread.Activity.TheVariants.{Idle, Open}
use Rattle.lu_machine.specs.declared.thread.Thread.{Thread}
use Rattle.lu_machine.specs.Effects.{Effect}
use Rattle.lu_machine.specs.Effects.Effect.{GoesOn, Ends}
use Rattle.lu_machine.specs.Events.{IsEventInRange}
use Rattle.lu_machine.specs.States.{State, is_open, progress, progress_of}
use Rattle.lu_machine.specs.Steps.{Step, event_after}
use Rattle.lu_machine.proofs.Keeping.{Turns, step_moved}
use Rattle.lu_machine.proofs.Moves.{all_at}
use Rattle.lu_history.specs.Histories.{IsWellFormed, calls}
use Rattle.lu_history.specs.Standing.{Agree}
use Rattle.lu_history.proofs.Events.{call_of}

pub row_there : (rows : List (List ACall)) (t k : ℕ) (call : ACall) → slice_get (row_of rows t) k ≡ Some call → (row : List ACall) × (slice_get rows t ≡ Some row) × (slice_get row k ≡ Some call)
row_there rows t k call at = by_row (slice_get rows t) at
  where
    by_row : (o : Option (List ACall)) → slice_get (unwrap_or o []) k ≡ Some call → (row : List ACall) × (o ≡ Some row) × (slice_get row k ≡ Some call)
    by_row None at = absurd (none-some call at)
    by_row (Some row) at = (row, refl, at)

-- so is each call of a matrix
pub call_in_range : (matrix : Matrix) (t k : ℕ) (call : ACall) → IsMatrix matrix → slice_get (calls_of matrix t) k ≡ Some call → (t < 8) × (k < 8)
call_in_range matrix t k call limits at =
    let row = row_there matrix.threads t k call at in
    let there = slice_get_within matrix.threads t row.0 row.1 in
    let within = slice_get_within row.0 k call row.2 in
    let few = all_at (λ (x : List ACall). length x ≤ 8) matrix.threads t row.0 limits.limits.each row.1 in
    (omega (arith, there, limits.limits.few), omega (arith, within, few))

effect_in_range : (t done : ℕ) (effect : Effect) (h : List Event) → IsWellFormed h → calls t h ≡ done + 1 → IfSome (event_after t done effect) IsEventInRange
effect_in_range t done (GoesOn f) h well called = tt
effect_in_range t done (Ends outcome) h well called =
    let at = call_of h well (record { t = t; k = done }) (omega (arith, called)) in
    let fits = well at.0 (Call t done) at.1 in
    (fits.0, fits.1)

turn_in_range : (s : State) (t done : ℕ) (activity : Activity) (now : Thread) (event : Option Event) (h : List Event) → IsMatrix s.matrix → IsWellFormed h → (is_open activity ≡ true → calls t h ≡ done + 1) → Turns s t done activity now event → IfSome event IsEventInRange
turn_in_range s t done Idle now event h limits well called turn =
    rw turn.4 (call_in_range s.matrix t done turn.0 limits turn.1)
turn_in_range s t done (Open f) now event h limits well called turn =
    rw turn.2 (effect_in_range t done turn.0 h well (called refl))

pub event_in_range : (s : State) (m : Move) (new : State) (event : Option Event) (h : List Event) → IsMatrix s.matrix → Agree (progress s) h → IsWellFormed h → Step s m new event → IfSome event IsEventInRange
event_in_range s m new event h limits agree well step =
    let moved = step_moved s m new event step in
    let standing : Thread = moved.standing in
    let at : slice_get (progress s) m.thread ≡ Some (progress_of standing) =
    slice_get-map progress_of s.threads m.thread ∙ ap (option_map progress_of) moved.stands in
    let was = get_or_from_slice_get (progress s) m.thread (progress_of standing) (0, false) at in
    let called : is_open standing.activity ≡ true → calls m.thread h ≡ standing.done + 1 =
    λ held. agree.called m.thread ∙ (ap (λ (x : ℕ × Bool). x.0 + (if x.1 then 1 else 0)) was ∙ ap (λ (x : Bool). standing.done + (if x then 1 else 0)) held) in
    turn_in_range s m.thread standing.done standing.activity moved.now event h limits well called moved.turns
