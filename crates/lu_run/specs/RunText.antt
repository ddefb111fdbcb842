-- The text of a run: what each line says, or what is wrong with it.
use Rattle.std.specs.Prelude.{ℕ, ◌==◌, ◌&&◌, Bool, true, false, List, [], ◌∷◌, ◌++◌, length, replicate, get_or, set, slice_get, Option, Some, None, is_some, Result, Ok, Err, codes, if◌then◌else◌}
use Rattle.std.specs.List.{filter_map, list_all}
use Rattle.std.specs.Option.{option_map}
use Rattle.std.specs.Str.{bytes_eq}
use Rattle.lu_text.specs.declared.fault.Fault.{Fault}
use Rattle.lu_text.specs.Faults.{Grammar, meaning_of_lines}
use Rattle.lu_text.specs.Lines.{words_of, is_allowed}
use Rattle.lu_text.specs.Numbers.{below, value_in}
use Rattle.lu_text.specs.Words.{Word, exactly_two, exactly_three}
use Rattle.lu_component.specs.declared.component.Op.{Op}
use Rattle.lu_component.specs.Component.{Component, operation_number}
use Rattle.lu_test.specs.declared.matrix.Call.{Call as ACall}
use Rattle.lu_machine.specs.declared.event.Outcome.{Outcome}
use Rattle.lu_machine.specs.declared.event.Outcome.TheVariants.{Ret, Trap}
use Rattle.lu_run.specs.declared.fault.RunFaultKind.{RunFaultKind}
use Rattle.lu_run.specs.declared.fault.RunFaultKind.TheVariants.{Byte, Form, Number, Foreign, Order}
use Rattle.lu_run.specs.declared.run.Run.{Run}
use Rattle.lu_run.specs.declared.run.RunEvent.{RunEvent}
use Rattle.lu_run.specs.declared.run.RunEvent.TheVariants.{Call as Calls, Return as Returns}
use Rattle.lu_run.specs.declared.words.TextEvent.{TextEvent}
use Rattle.lu_run.specs.declared.words.TextEvent.TheVariants.{Call, Return}

-- what the text of a run says
pub record RunText : Type 0 where
  pub events : List TextEvent
  pub is_stuck : Bool

-- The lines of a run up to some line: what they say; and of each of eight threads, whether it has a
-- pending call.
pub record RunLines : Type 0 where
  pub said : RunText
  pub pending : List Bool

-- the line `run` alone
abbrev pub first_line : RunLines
first_line = record {
  said = record { events = []; is_stuck = false };
  pending = replicate 8 false;
}

-- ---- whether an event may come next

-- whether thread t has a pending call
abbrev pub is_pending : List Bool → ℕ → Bool
is_pending pending t = get_or pending t false

-- the call of thread t, if the component has it and the thread has no pending call
abbrev pub call_next : List Bool → ℕ → Option ACall → Result TextEvent RunFaultKind
call_next pending t None = Err Foreign
call_next pending t (Some call) = if is_pending pending t then Err Order else Ok (Call t call)

-- the return of thread t, if it has a pending call
abbrev pub return_next : List Bool → ℕ → Outcome → Result TextEvent RunFaultKind
return_next pending t outcome =
    if is_pending pending t then Ok (Return t outcome) else Err Order

-- ---- the words of a line

-- the number of a thread: 0 to 7
abbrev pub thread_in : Word → Option ℕ
thread_in word = below 8 (value_in word)

-- the numbers of these words, if each is one
abbrev pub numbers_in : List Word → Option (List ℕ)
numbers_in words =
    if list_all (λ word. is_some (value_in word)) words then Some (filter_map value_in words)
    else None

-- the call of operation n with these arguments, if it takes as many
abbrev pub call_of_op : ℕ → List ℕ → Option Op → Option ACall
call_of_op n numbers None = None
call_of_op n numbers (Some op) =
    if op.args == length numbers then Some (record { op = n; args = numbers }) else None

abbrev pub call_of_number : List Op → List ℕ → Option ℕ → Option ACall
call_of_number operations numbers None = None
call_of_number operations numbers (Some n) = call_of_op n numbers (slice_get operations n)

-- the call of the component's operation of this name, if it takes as many arguments
abbrev pub named_call : Component → Word → List ℕ → Option ACall
named_call c name numbers =
    call_of_number c.operations numbers (operation_number c.operations name)

-- the call of thread t of the operation of this name with these arguments
abbrev pub call_said : Component → List Bool → ℕ → Word → List ℕ → Result TextEvent RunFaultKind
call_said c pending t name numbers = call_next pending t (named_call c name numbers)

abbrev pub call_with : Component → List Bool → Option ℕ → Word → Option (List ℕ)
    → Result TextEvent RunFaultKind
call_with c pending (Some t) name (Some numbers) = call_said c pending t name numbers
call_with c pending _ name _ = Err Number

-- after `call`: a thread, the name of an operation, and its arguments
abbrev pub called : Component → List Bool → List Word → Result TextEvent RunFaultKind
called c pending (t ∷ name ∷ words) =
    call_with c pending (thread_in t) name (numbers_in words)
called c pending _ = Err Form

abbrev pub return_with : List Bool → Option ℕ → Option Outcome → Result TextEvent RunFaultKind
return_with pending (Some t) (Some outcome) = return_next pending t outcome
return_with pending _ _ = Err Number

-- after `return`: a thread, `ret` and a value
abbrev pub returned : List Bool → Option (Word × Word × Word) → Result TextEvent RunFaultKind
returned pending (Some (t, word, value)) =
    if bytes_eq word (codes "ret")
    then return_with pending (thread_in t) (option_map Ret (value_in value))
    else Err Form
returned pending None = Err Form

abbrev pub value_return_of : List Bool → List Word → Result TextEvent RunFaultKind
value_return_of pending words = returned pending (exactly_three words)

-- or a thread and `trap`
abbrev pub trapped : List Bool → List Word → Option (Word × Word)
    → Result TextEvent RunFaultKind
trapped pending words (Some (t, word)) =
    if bytes_eq word (codes "trap") then return_with pending (thread_in t) (Some Trap)
    else Err Form
trapped pending words None = value_return_of pending words

-- what these words say after `return`
abbrev pub return_of : List Bool → List Word → Result TextEvent RunFaultKind
return_of pending words = trapped pending words (exactly_two words)

-- the event that a line with these words says
abbrev pub event_of : Component → List Bool → Word → List Word → Result TextEvent RunFaultKind
event_of c pending word words =
    if bytes_eq word (codes "call") then called c pending words
    else (if bytes_eq word (codes "return") then return_of pending words else Err Form)

-- ---- lines

-- the threads that have a pending call after the event
abbrev pub pending_after : List Bool → TextEvent → List Bool
pending_after pending (Call t call) = set pending t true
pending_after pending (Return t outcome) = set pending t false

-- one event more
abbrev pub with_event : RunLines → TextEvent → RunLines
with_event lines e = record {
  said = record { events = lines.said.events ++ e ∷ []; is_stuck = lines.said.is_stuck };
  pending = pending_after lines.pending e;
}

-- the line `stuck` more
abbrev pub with_stuck : RunLines → RunLines
with_stuck lines = record {
  said = record { events = lines.said.events; is_stuck = true };
  pending = lines.pending;
}

abbrev pub then_event : RunLines → Result TextEvent RunFaultKind → Result RunLines RunFaultKind
then_event lines (Ok e) = Ok (with_event lines e)
then_event lines (Err kind) = Err kind

-- a line that says an event
abbrev pub event_line : Component → RunLines → Word → List Word → Result RunLines RunFaultKind
event_line c lines word words = then_event lines (event_of c lines.pending word words)

-- whether the line is this word alone
abbrev pub is_alone : Word → Word → List Word → Bool
is_alone text word words = bytes_eq word text && (length words == 0)

-- a line with words after the line `run`
abbrev pub next_line : Component → RunLines → Word → List Word → Result RunLines RunFaultKind
next_line c lines word words =
    if lines.said.is_stuck then Err Order
    else (if is_alone (codes "stuck") word words then Ok (with_stuck lines)
    else event_line c lines word words)

abbrev pub begun : Result RunLines RunFaultKind → Result (Option RunLines) RunFaultKind
begun (Ok lines) = Ok (Some lines)
begun (Err kind) = Err kind

-- a line with words; the first is `run`
abbrev pub line_with : Component → Option RunLines → Word → List Word
    → Result (Option RunLines) RunFaultKind
line_with c None word words =
    if is_alone (codes "run") word words then Ok (Some first_line) else Err Form
line_with c (Some lines) word words = begun (next_line c lines word words)

-- a line by its words; one without words says nothing
abbrev pub by_words : Component → Option RunLines → List Word
    → Result (Option RunLines) RunFaultKind
by_words c lines [] = Ok lines
by_words c lines (word ∷ words) = line_with c lines word words

unfoldable pub line_of : Component → Option RunLines → List ℕ
    → Result (Option RunLines) RunFaultKind
line_of c lines line =
    if list_all is_allowed line then by_words c lines (words_of line) else Err Byte

-- at the end there is the line `run`
abbrev pub finished : Option RunLines → Result RunText RunFaultKind
finished None = Err Form
finished (Some lines) = Ok lines.said

-- the text of a run of a component
abbrev pub run_grammar : Component → Grammar RunFaultKind (Option RunLines) RunText
run_grammar c = record { nothing = None; line = line_of c; finish = finished }

-- the run that these lines say, or their first fault
abbrev pub run_said : Component → List (List ℕ) → Result RunText (Fault RunFaultKind)
run_said c lines = meaning_of_lines (run_grammar c) lines

-- ---- a run and its text

-- the call of thread t, if there is one, as a list of events
abbrev pub said_call : ℕ → Option ACall → List TextEvent
said_call t None = []
said_call t (Some call) = Call t call ∷ []

-- the events, with their calls in the place of the numbers
abbrev pub said_events : List ACall → List RunEvent → List TextEvent
said_events calls [] = []
said_events calls (Calls t n ∷ events) =
    said_call t (slice_get calls n) ++ said_events calls events
said_events calls (Returns t outcome ∷ events) = Return t outcome ∷ said_events calls events

-- what the text of the run says
abbrev pub said_of : Run → RunText
said_of run = record {
  events = said_events run.calls.items run.events.items;
  is_stuck = run.is_stuck;
}

-- the same, of a run that was read
abbrev pub said_by : {E : Type 0} → Result Run E → Result RunText E
said_by (Ok run) = Ok (said_of run)
said_by (Err e) = Err e
