-- Histories with all pending calls, or with one thread's alone.
use Rattle.std.specs.Prelude.{ℕ, List, Option, Some, None}
use Rattle.lu_machine.specs.declared.event.Event.{Event}
use Rattle.lu_history.specs.Parts.{keep_pending}

-- the events that are kept: all, or all but the pending calls of other threads
abbrev pub kept_events : Option ℕ → List Event → List Event
kept_events None h = h
kept_events (Some t) h = keep_pending t h
