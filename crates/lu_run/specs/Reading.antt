-- A run as far as its text is read.
use Rattle.std.specs.Prelude.{◌≡◌, ◌⊎◌, ℕ, ◌<◌, Bool, true, false, List, [], ◌∷◌, ◌++◌, length, map, Option, Some, None, Vec, Result, Ok, Err, IfOk, slice_get}
use Rattle.std.specs.Option.{option_map}
use Rattle.lu_text.specs.declared.fault.Fault.{Fault}
use Rattle.lu_text.specs.Faults.{OnLine}
use Rattle.lu_text.specs.Words.{Word}
use Rattle.lu_component.specs.Component.{Component}
use Rattle.lu_test.specs.declared.matrix.Call.{Call as ACall}
use Rattle.lu_run.specs.declared.fault.RunFaultKind.{RunFaultKind}
use Rattle.lu_run.specs.declared.run.Run.{Run}
use Rattle.lu_run.specs.declared.reading.CallKey.{CallKey}
use Rattle.lu_run.specs.declared.reading.Draft.{Draft}
use Rattle.lu_run.specs.declared.run.RunEvent.{RunEvent}
use Rattle.lu_run.specs.declared.words.TextEvent.{TextEvent}
use Rattle.lu_run.specs.declared.words.TextEvent.TheVariants.{Call, Return}
use Rattle.lu_run.specs.Checking.{TellsPending}
use Rattle.lu_run.specs.Runs.{IsRun, history_of}
use Rattle.lu_run.specs.RunText.{RunLines, by_words, call_said, event_line, event_of, is_pending, line_of, line_with, next_line, numbers_in, said_events, with_event}
use Rattle.lu_run.specs.Tables.{AreCallsOf, IsCallFor}

-- these are the numbers of the words, if each is one
abbrev pub AreNumbersOf : {Z : Type 0} → List Word → Option (Vec ℕ Z) → Type 0
AreNumbersOf words numbers = option_map (λ v. v.items) numbers ≡ numbers_in words

-- the event is of one of eight threads, and may come next; the component has its call
abbrev pub IsOf : Component → List Bool → TextEvent → Type 0
IsOf c pending (Call t call) =
    (t < 8) × (is_pending pending t ≡ false) × IsCallFor c call
IsOf c pending (Return t outcome) = (t < 8) × (is_pending pending t ≡ true)

-- the thread of the event
abbrev pub seat_of : TextEvent → ℕ
seat_of (Call t call) = t
seat_of (Return t outcome) = t

-- a line that says this call has this event, or a fault
abbrev pub HasCall : Component → ℕ → List Bool → ℕ → Word → List ℕ
    → Result TextEvent (Fault RunFaultKind) → Type 0
HasCall c line pending t name numbers result =
    OnLine line result (call_said c pending t name numbers)

-- a line of these words has this event, or a fault
abbrev pub HasEvent : Component → ℕ → List Bool → Word → List Word
    → Result TextEvent (Fault RunFaultKind) → Type 0
HasEvent c line pending word words result = OnLine line result (event_of c pending word words)

-- ---- the calls, by number

abbrev pub call_of_key : CallKey → ACall
call_of_key key = record { op = key.op; args = key.args.items }

-- the calls with these keys
abbrev pub calls_of_keys : List CallKey → List ACall
calls_of_keys keys = map call_of_key keys

-- the keys stay, unless this one comes after them
abbrev pub KeepsKeys : List CallKey → CallKey → List CallKey → Type 0
KeepsKeys old key new = (new ≡ old) ⊎ (new ≡ old ++ key ∷ [])

-- the call of this number is that of the key
abbrev pub IsNumberOf : List CallKey → CallKey → ℕ → Type 0
IsNumberOf keys key n = slice_get (calls_of_keys keys) n ≡ Some (call_of_key key)

-- ---- what is read so far

-- lines that say these events, with these calls
abbrev pub lines_with : List ACall → List RunEvent → List Bool → Bool → RunLines
lines_with calls events pending stuck = record {
  said = record { events = said_events calls events; is_stuck = stuck };
  pending = pending;
}

-- what the lines say that are read
abbrev pub seen : Draft → RunLines
seen d = lines_with (calls_of_keys d.keys.keys) d.events.items d.pending d.is_stuck

-- the same, of lines after which there may be no draft
abbrev pub seen_if : Option Draft → Option RunLines
seen_if draft = option_map seen draft

abbrev pub seen_next : {E : Type 0} → Result Draft E → Result RunLines E
seen_next (Ok d) = Ok (seen d)
seen_next (Err e) = Err e

abbrev pub seen_in : {E : Type 0} → Result (Option Draft) E → Result (Option RunLines) E
seen_in (Ok d) = Ok (seen_if d)
seen_in (Err e) = Err e

-- The component has the calls, the events are a run, and these threads have a pending call.
pub record AreSound (c : Component) (calls : List ACall) (events : List RunEvent)
    (pending : List Bool) : Type 0 where
  pub calls_of : AreCallsOf c calls
  pub run : IsRun calls events
  pub eight : length pending ≡ 8
  pub tells : TellsPending pending (history_of events)

abbrev pub IsSound : Component → Draft → Type 0
IsSound c d = AreSound c (calls_of_keys d.keys.keys) d.events.items d.pending

abbrev pub IsSoundIf : Component → Option Draft → Type 0
IsSoundIf c None = Unit {0}
IsSoundIf c (Some d) = IsSound c d

-- the draft says one event more
abbrev pub Follows : Component → Draft → TextEvent → Draft → Type 0
Follows c old e new = (seen new ≡ with_event (seen old) e) × IsSound c new

-- what is returned is the draft with one event more
abbrev pub AddsEvent : {E : Type 0} → Draft → TextEvent → Result Draft E → Type 0
AddsEvent old e result =
    (c : Component) → IsSound c old → IsOf c old.pending e → IfOk result (Follows c old e)

-- what is returned is the draft with one line more, or the line's fault: a line that says an event,
abbrev pub AddsEventLine : Component → ℕ → Draft → Word → List Word → Result Draft (Fault RunFaultKind) → Type 0
AddsEventLine c line old word words result =
    OnLine line (seen_next result) (event_line c (seen old) word words)

-- a line after the line `run`,
abbrev pub AddsNext : Component → ℕ → Draft → Word → List Word → Result Draft (Fault RunFaultKind) → Type 0
AddsNext c line old word words result =
    OnLine line (seen_next result) (next_line c (seen old) word words)

-- a line with words,
abbrev pub AddsWith : Component → ℕ → Option Draft → Word → List Word
    → Result (Option Draft) (Fault RunFaultKind) → Type 0
AddsWith c line old word words result =
    OnLine line (seen_in result) (line_with c (seen_if old) word words)

-- a line by its words,
abbrev pub AddsWords : Component → ℕ → Option Draft → List Word
    → Result (Option Draft) (Fault RunFaultKind) → Type 0
AddsWords c line old words result = OnLine line (seen_in result) (by_words c (seen_if old) words)

-- and any line
abbrev pub AddsLine : Component → ℕ → Option Draft → List ℕ → Result (Option Draft) (Fault RunFaultKind)
    → Type 0
AddsLine c line old text result = OnLine line (seen_in result) (line_of c (seen_if old) text)

-- ---- the run at the end

-- the component has the run's calls
abbrev pub HasCallsOf : Component → Run → Type 0
HasCallsOf c run = AreCallsOf c run.calls.items

-- the run's events are those of a run with its calls
abbrev pub IsWholeRun : Run → Type 0
IsWholeRun run = IsRun run.calls.items run.events.items
