-- The text of a run as it is written.
use Rattle.std.specs.Prelude.{ℕ, ◌++◌, ◌&&◌, List, [], ◌∷◌, Option, Some, None, codes, length, nat_le, slice_get, take, if◌then◌else◌}
use Rattle.std.specs.Fmt.{decimal}
use Rattle.std.specs.List.{flat_map}
use Rattle.lu_component.specs.declared.component.Op.{Op}
use Rattle.lu_component.specs.Component.{Component}
use Rattle.lu_test.specs.declared.matrix.Call.{Call as ACall}
use Rattle.lu_test.specs.MatrixText.{call_text}
use Rattle.lu_machine.specs.declared.event.Outcome.{Outcome}
use Rattle.lu_machine.specs.declared.event.Outcome.TheVariants.{Ret, Trap}
use Rattle.lu_history.specs.Text.{serial_outcome_text}
use Rattle.lu_run.specs.declared.ordering.RunOperation.{RunOperation}
use Rattle.lu_run.specs.declared.run.Run.{Run}
use Rattle.lu_run.specs.declared.run.RunEvent.{RunEvent}
use Rattle.lu_run.specs.declared.run.RunEvent.TheVariants.{Call, Return}

-- the call, if there is one: the operation's name and the arguments
abbrev pub call_words : List Op → Option ACall → List ℕ
call_words operations None = []
call_words operations (Some call) = call_text operations call

-- the call of this number, if there is one
abbrev pub numbered_call : List Op → List ACall → ℕ → List ℕ
numbered_call operations calls n = call_words operations (slice_get calls n)

abbrev pub outcome_words : Outcome → List ℕ
outcome_words (Ret n) = codes "ret " ++ decimal n
outcome_words Trap = codes "trap"

-- an event of a run with these calls
abbrev pub event_words : List Op → List ACall → RunEvent → List ℕ
event_words operations calls (Call t n) =
    codes "call " ++ decimal t ++ codes " " ++ numbered_call operations calls n
event_words operations calls (Return t outcome) =
    codes "return " ++ decimal t ++ codes " " ++ outcome_words outcome

-- its line
abbrev pub event_text : List Op → List ACall → RunEvent → List ℕ
event_text operations calls e = event_words operations calls e ++ 10 ∷ []

abbrev pub events_text : List Op → List ACall → List RunEvent → List ℕ
events_text operations calls events = flat_map (event_text operations calls) events

-- an operation of a linearization: its thread, its call and its outcome
abbrev pub operation_text : List Op → List ACall → RunOperation → List ℕ
operation_text operations calls one =
    codes "  " ++ decimal one.thread ++ codes " " ++ numbered_call operations calls one.call
    ++ codes " " ++ serial_outcome_text one.outcome ++ codes "\n"

abbrev pub operations_text : List Op → List ACall → List RunOperation → List ℕ
operations_text operations calls order = flat_map (operation_text operations calls) order

-- the line `stuck`, after all events of a run that is stuck
abbrev pub stuck_text : Run → ℕ → List ℕ
stuck_text run count =
    if run.is_stuck && nat_le (length run.events.items) count then codes "stuck\n" else []

-- the text of the first events of a run
abbrev pub run_text : Component → Run → ℕ → List ℕ
run_text c run count =
    codes "run\n" ++ events_text c.operations run.calls.items (take count run.events.items)
    ++ stuck_text run count
