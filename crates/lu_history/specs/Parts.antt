-- The part of a history that belongs to a thread (Herlihy and Wing, 1990), and the history with one
-- pending call (Burckhardt, Dern, Musuvathi and Tan, 2010).
use Rattle.std.specs.Prelude.{◌≡◌, ◌≢◌, ◌↔◌, ℕ, ◌==◌, ◌&&◌, ◌||◌, if◌then◌else◌, Bool, true, false, List, [], ◌∷◌, ◌++◌, map, filter}
use Rattle.std.specs.List.{list_any}
use Rattle.lu_machine.specs.declared.event.Event.{Event}
use Rattle.lu_machine.specs.declared.event.Event.TheVariants.{Call, Return}
use Rattle.lu_machine.specs.declared.event.Outcome.{Outcome}
use Rattle.lu_machine.specs.declared.event.Outcome.TheVariants.{Ret, Trap}
use Rattle.lu_history.specs.declared.operation.OpId.{OpId}
use Rattle.lu_history.specs.declared.serial.SerialOutcome.{SerialOutcome}
use Rattle.lu_history.specs.declared.serial.SerialOutcome.TheVariants.{Ret as Returned, Trap as Trapped, Stuck}
use Rattle.lu_history.specs.Histories.{IsCallAt, IsPending, outcomes, pending}

-- an outcome in a serial history
abbrev pub as_serial : Outcome → SerialOutcome
as_serial (Ret n) = Returned n
as_serial Trap = Trapped

-- the outcomes of thread t, followed by `Stuck` where its last call is pending
abbrev pub part : ℕ → List Event → List SerialOutcome
part t h = map as_serial (outcomes t h) ++ (if pending t h then Stuck ∷ [] else [])

-- the event is the return of the operation
abbrev pub is_return : OpId → Event → Bool
is_return a (Call t k) = false
is_return a (Return t k outcome) = (t == a.t) && (k == a.k)

-- the operation returns somewhere in the history
abbrev pub has_return : List Event → OpId → Bool
has_return h a = list_any (is_return a) h

-- a return, thread t's call, or a call that returns
abbrev pub is_kept : ℕ → List Event → Event → Bool
is_kept t h (Call u k) = (u == t) || has_return h (record { t = u; k = k })
is_kept t h (Return u k outcome) = true

-- the history without the pending calls of threads other than t
abbrev pub keep_pending : ℕ → List Event → List Event
keep_pending t h = filter (is_kept t h) h

-- what is left out beside thread t are the pending calls of other threads
abbrev pub LeavesOutOthers : ℕ → List Event → Type 0
LeavesOutOthers t h =
    (i : ℕ) (a : OpId) → IsCallAt h i a
    → (is_kept t h (Call a.t a.k) ≡ false) ↔ ((a.t ≢ t) × IsPending h a)
