-- The tables that stand beside a history's events.
use Rattle.std.specs.Prelude.{◌≡◌, ℕ, ◌+◌, ◌*◌, List, [], length, take, drop, get_or}
use Rattle.lu_machine.specs.declared.event.Event.{Event}
use Rattle.lu_machine.specs.declared.event.Outcome.{Outcome}
use Rattle.lu_history.specs.declared.operation.OpId.{OpId}
use Rattle.lu_history.specs.Histories.{calls, outcomes, IsWellFormed, AreBefore}

-- the numbers of calls and of returns, the outcomes, and what had returned at each call are those
-- of the events
pub record AreTables (h : List Event) (called returned : List ℕ) (kept : List Outcome)
    (before : List (List ℕ)) : Type 0 where
  pub well_formed : IsWellFormed h
  pub called_are : (t : ℕ) → get_or called t 0 ≡ calls t h
  pub returned_are : (t : ℕ) → get_or returned t 0 ≡ length (outcomes t h)
  pub outcomes_are : (t : ℕ) → take (length (outcomes t h)) (drop (t * 8) kept) ≡ outcomes t h
  pub before_are : (b : OpId) → AreBefore h b (get_or before (b.t * 8 + b.k) [])
