-- Calls that are pending, and states that are stuck.
use Rattle.std.proofs.Common.{arith, ℕ, ◌<◌, List, take}
use Rattle.lu_machine.specs.declared.event.Event.{Event}
use Rattle.lu_machine.specs.declared.event.Event.TheVariants.{Call}
use Rattle.lu_machine.specs.Ends.{HasMove, IsComplete, IsStuck}
use Rattle.lu_machine.specs.States.{State}
use Rattle.lu_history.specs.declared.operation.OpId.{OpId}
use Rattle.lu_history.specs.Histories.{Fits, HasPending, IsPending, IsWellFormed}
use Rattle.lu_conform.specs.Showing.{HasPendingCall}

-- a state with a move is not stuck, nor is a complete one
pub moving : (s : State) → HasMove s → IsStuck s → ⊥
moving s move stuck = let none = stuck.1 move.0 in let some = move.1 in omega (arith, none, some)

pub finished : (s : State) → IsComplete s → IsStuck s → ⊥
finished s complete stuck = stuck.0 complete

-- a pending call is one of 8 threads
pub pending_below : (h : List Event) → IsWellFormed h → (a : OpId) → IsPending h a → (a.t < 8) × HasPending a.t h
pending_below h well a is = let fits : Fits (take is.0.0 h) (Call a.t a.k) = well is.0.0 (Call a.t a.k) is.0.1 in (fits.0, (a.k, is))

-- no thread below n has one
abbrev pub NoneBelow : List Event → ℕ → Type 0
NoneBelow h n = (t : ℕ) → t < n → HasPending t h → ⊥

pub none_pending : (h : List Event) → IsWellFormed h → NoneBelow h 8 → HasPendingCall h → ⊥
none_pending h well none some = let there = pending_below h well some.0 some.1 in none some.0.t there.0 there.1

-- they were asked for, up to n
pub record Asked (h : List Event) (n : ℕ) : Type 0 where
  pub well_formed : 0 < n → IsWellFormed h
  pub none : NoneBelow h n
