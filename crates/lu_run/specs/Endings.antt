-- The end of a run that has no linearization.
use Rattle.std.specs.Prelude.{ℕ, ◌+◌, ◌-◌, ◌/◌, ◌==◌, ◌++◌, List, [], ◌∷◌, codes, drop, take, if◌then◌else◌}
use Rattle.std.specs.Fmt.{decimal}
use Rattle.lu_component.specs.Component.{Component}
use Rattle.lu_run.specs.declared.run.Run.{Run}
use Rattle.lu_run.specs.declared.run.RunEvent.{RunEvent}
use Rattle.lu_run.specs.declared.run.RunEvent.TheVariants.{Call, Return}
use Rattle.lu_run.specs.declared.ordering.RunOperation.{RunOperation}
use Rattle.lu_run.specs.RunWriting.{events_text, operations_text, stuck_text}

-- the number of pending calls after the event
abbrev pub pending_after : ℕ → RunEvent → ℕ
pending_after pending (Call t n) = pending + 1
pending_after pending (Return t outcome) = pending - 1

-- the number of events since the last moment at which no call is pending; before these events there
-- are `since`, and `pending` calls are pending
abbrev pub since_quiet_after : ℕ → ℕ → List RunEvent → ℕ
since_quiet_after since pending [] = since
since_quiet_after since pending (e ∷ events) =
    since_quiet_after (if pending_after pending e == 0 then 0 else since + 1)
    (pending_after pending e) events

abbrev pub since_quiet : List RunEvent → ℕ
since_quiet events = since_quiet_after 0 0 events

-- a comment, if some events are left out
abbrev pub left_out_text : ℕ → List ℕ
left_out_text count =
    if count == 0 then []
    else (codes "# " ++ decimal count ++ codes " events are left out; after them no call is pending\n")

-- the events up to number n, without those before the last moment at which no call is pending
abbrev pub end_of : List RunEvent → ℕ → List RunEvent
end_of events n = drop (n - since_quiet (take n events)) (take (n + 1) events)

-- the text of the run up to event number n, without those events
abbrev pub end_text : Component → Run → ℕ → List ℕ
end_text c run n =
    codes "run\n" ++ left_out_text (n - since_quiet (take n run.events.items))
    ++ events_text c.operations run.calls.items (end_of run.events.items n)
    ++ stuck_text run (n + 1)

-- the line of event number n in this text
abbrev pub line_of : List RunEvent → ℕ → ℕ
line_of events n =
    if since_quiet (take n events) == n then n + 2 else since_quiet (take n events) + 3

-- ---- a linearization of the events before

-- the number of events before event number n that are left out
abbrev pub left_out : List RunEvent → ℕ → ℕ
left_out events n = n - since_quiet (take n events)

-- what is said before the operations: of how many events some are left out
abbrev pub order_head : ℕ → List ℕ
order_head count =
    if count == 0 then codes "the events before have this linearization:\n"
    else codes "the events before have a linearization that ends with:\n"

-- these operations, if there are some
abbrev pub order_lines : Component → Run → ℕ → List RunOperation → List ℕ
order_lines c run count [] = []
order_lines c run count (one ∷ order) =
    order_head count ++ operations_text c.operations run.calls.items (one ∷ order)

-- The operations without those of the events that are left out. No call was pending after these, so
-- each of their operations is two of them.
abbrev pub order_text : Component → Run → ℕ → List RunOperation → List ℕ
order_text c run n order =
    order_lines c run (left_out run.events.items n) (drop (left_out run.events.items n / 2) order)
