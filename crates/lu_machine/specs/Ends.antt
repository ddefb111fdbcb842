-- How a state stands.
use Rattle.std.specs.Prelude.{◌≡◌, ℕ, ◌<◌, ◌≤◌, ◌⊎◌, length, slice_get, MatchOption}
use Rattle.lu_machine.specs.declared.event.Status.{Status}
use Rattle.lu_machine.specs.declared.event.Status.TheVariants.{Running, Complete, Stuck}
use Rattle.lu_machine.specs.declared.thread.Activity.TheVariants.{Idle}
use Rattle.lu_machine.specs.States.{State, call_count}
use Rattle.lu_machine.specs.Steps.{picks_of, IsEnabled}

-- some thread is enabled
abbrev pub HasMove : State → Type 0
HasMove s = (t : ℕ) × IsEnabled s t

-- no thread is enabled
abbrev pub HasNoMove : State → Type 0
HasNoMove s = (t : ℕ) → picks_of s t ≡ 0

-- thread t is idle and has made all its calls
abbrev pub IsFinished : State → ℕ → Type 0
IsFinished s t =
    MatchOption (slice_get s.threads t) (Unit {0})
    (λ thread. (thread.activity ≡ Idle) × (call_count s t ≤ thread.done))

-- every thread is idle and has made all its calls
abbrev pub IsComplete : State → Type 0
IsComplete s = (t : ℕ) → t < length s.threads → IsFinished s t

-- not complete, and no thread is enabled
abbrev pub IsStuck : State → Type 0
IsStuck s = (IsComplete s → ⊥) × HasNoMove s

-- complete or stuck
abbrev pub IsEnded : State → Type 0
IsEnded s = IsComplete s ⊎ IsStuck s

-- the state stands so
abbrev pub HasStatus : State → Status → Type 0
HasStatus s Running = HasMove s
HasStatus s Complete = IsComplete s
HasStatus s Stuck = IsStuck s
