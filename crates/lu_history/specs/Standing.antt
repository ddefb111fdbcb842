-- Where the threads of a machine stand, and the history that led there.
use Rattle.std.specs.Prelude.{◌≡◌, ℕ, ◌+◌, Bool, false, List, length, if◌then◌else◌, get_or}
use Rattle.lu_machine.specs.declared.event.Event.{Event}
use Rattle.lu_history.specs.Histories.{calls, outcomes}

-- a thread's number of operations done, and whether one more is open
abbrev pub Standing : Type 0
Standing = ℕ × Bool

abbrev pub standing_of : List Standing → ℕ → Standing
standing_of threads t = get_or threads t (0, false)

-- each thread has returned from what it has done, and called that and what is open
pub record Agree (threads : List Standing) (h : List Event) : Type 0 where
  pub done : (t : ℕ) → length (outcomes t h) ≡ (standing_of threads t).0
  pub called : (t : ℕ)
      → calls t h ≡ (standing_of threads t).0 + (if (standing_of threads t).1 then 1 else 0)
