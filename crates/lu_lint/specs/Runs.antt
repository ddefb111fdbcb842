-- Warnings by runs: what the setup's run and the serial runs show.
use Rattle.std.specs.Prelude.{◌≡◌, ◌⊎◌, ℕ, ◌+◌, ◌-◌, ◌≤◌, Bool, true, false, List, [], ◌∷◌, ◌++◌, length, map, filter, replicate, Option, Some, None, IfSome, Result, IfOk, Vec, slice_get, codes, ◌==◌, ◌&&◌, if◌then◌else◌}
use Rattle.std.specs.List.{flat_map, list_any}
use Rattle.std.specs.List.Sorted.{IsStrictlySortedBy}
use Rattle.std.specs.Option.{unwrap_or}
use Rattle.std.specs.Str.{bytes_eq}
use Rattle.lu_text.specs.Lines.{lines_of, words_of}
use Rattle.lu_text.specs.Words.{Word}
use Rattle.lu_component.specs.Component.{Component}
use Rattle.lu_test.specs.declared.schedule.Move.{Move}
use Rattle.lu_test.specs.Matrix.{IsOf, Matrix, alone}
use Rattle.lu_machine.specs.declared.event.Event.{Event}
use Rattle.lu_machine.specs.declared.event.Event.TheVariants.{Call, Return}
use Rattle.lu_machine.specs.declared.event.Outcome.{Outcome}
use Rattle.lu_machine.specs.declared.event.Outcome.TheVariants.{Ret as Returns, Trap as Traps}
use Rattle.lu_machine.specs.States.{State}
use Rattle.lu_machine.specs.Steps.{IsFeasible}
use Rattle.lu_machine.specs.Runs.{Leads}
use Rattle.lu_machine.specs.declared.test.Test.{Test}
use Rattle.lu_machine.specs.Tests.{FromEachStartOf}
use Rattle.lu_machine.specs.Starts.{FromEachStart, IsUnsettledAt, SetsUp, empty_state, first_move}
use Rattle.lu_history.specs.declared.serial.SerialOutcome.{SerialOutcome}
use Rattle.lu_history.specs.declared.serial.SerialOutcome.TheVariants.{Ret, Trap, Stuck}
use Rattle.lu_history.specs.declared.serial.SerialOp.{SerialOp}
use Rattle.lu_trie.specs.Members.{history_cmp}
use Rattle.lu_serial.specs.Serial.{entries_of}
use Rattle.lu_serial.specs.Offences.{IsFirstConflict, IsFirstCut, IsSetOf}
use Rattle.lu_lint.specs.declared.remark.Said.{Said}
use Rattle.lu_lint.specs.declared.remark.Cause.TheVariants.{Run}
use Rattle.lu_lint.specs.declared.remark.Ending.{Ending}
use Rattle.lu_lint.specs.declared.remark.Ending.TheVariants.{Trap as Trapped, Stuck as Blocked, Cut}
use Rattle.lu_lint.specs.declared.remark.SerialHint.{SerialHint}
use Rattle.lu_lint.specs.declared.remark.RunHint.{RunHint}
use Rattle.lu_lint.specs.declared.remark.RunHint.TheVariants.{SetupGoesOn, SetupTraps, Serial, TooManySteps}
use Rattle.lu_lint.specs.declared.component.ReadComponent.{ReadComponent}
use Rattle.lu_lint.specs.declared.component.ReadComponent.TheVariants.{Sound, Faulty}
use Rattle.lu_lint.specs.declared.step_count.TheConstants.{MOST_STEPS}
use Rattle.lu_lint.specs.declared.setup_run.TheConstants.{MOST_MOVES_OF_SETUP}
use Rattle.lu_lint.specs.Said.{line_below}
use Rattle.lu_lint.specs.Steps.{HasMoreSteps}

-- ---- the setup

-- a call of the setup that traps
abbrev pub trap_hint : ℕ → Outcome → List RunHint
trap_hint k (Returns n) = []
trap_hint k Traps = SetupTraps k ∷ []

abbrev pub event_hints : Event → List RunHint
event_hints (Call t k) = []
event_hints (Return t k outcome) = trap_hint k outcome

-- the calls of a setup that trap, in its history
abbrev pub setup_hints : List Event → List RunHint
setup_hints history = flat_map event_hints history

-- what a run from this state shows, each of whose moves is of thread 0 and pick 0: it makes as many
-- as can be made, or as many as a setup makes at most
abbrev pub ShownByRun : State → List RunHint → Type 0
ShownByRun s hints =
    (moves : ℕ) × (end : State) × (history : List Event)
    × Leads s (replicate moves first_move) end history
    × (IsFeasible end first_move → MOST_MOVES_OF_SETUP ≤ moves)
    × (hints ≡ setup_hints history)

-- this many moves, each of thread 0 and pick 0, are the setup's, and this is their history
abbrev pub SetupRuns : Component → Matrix → ℕ → List Event → Type 0
SetupRuns c matrix moves history =
    (end : State) × SetsUp c matrix end
    × Leads (empty_state c (alone matrix.setup)) (replicate moves first_move) end history

-- what the setup's run shows
abbrev pub ShownBySetup : Component → Matrix → List RunHint → Type 0
ShownBySetup c matrix hints =
    (moves : ℕ) × (history : List Event) × SetupRuns c matrix moves history
    × (hints ≡ setup_hints history)

-- ---- serial histories

-- the number of operations of thread t
abbrev pub operation_count : ℕ → List SerialOp → ℕ
operation_count t ops = length (filter (λ op. op.thread == t) ops)

-- an operation that traps, and one that is stuck, are reported
abbrev pub ending_of : SerialOutcome → Option Ending
ending_of (Ret n) = None
ending_of Trap = Some Trapped
ending_of Stuck = Some Blocked

-- the next operation of thread t after these ends so
abbrev pub hint_of : List SerialOp → ℕ → Ending → SerialHint
hint_of before t ending =
    record { thread = t; call = operation_count t before; ending = ending; before = before }

abbrev pub hint_if : List SerialOp → ℕ → Option Ending → List SerialHint
hint_if before t None = []
hint_if before t (Some ending) = hint_of before t ending ∷ []

-- what there is to say of an operation after these
abbrev pub op_hints : List SerialOp → SerialOp → List SerialHint
op_hints before op = hint_if before op.thread (ending_of op.outcome)

-- of each of the operations after these
unfoldable pub hints_after : List SerialOp → List SerialOp → List SerialHint
hints_after before [] = []
hints_after before (op ∷ ops) = op_hints before op ++ hints_after (before ++ op ∷ []) ops

-- of each operation of a history
abbrev pub history_hints : List SerialOp → List SerialHint
history_hints history = hints_after [] history

abbrev pub same_ending : Ending → Ending → Bool
same_ending Trapped Trapped = true
same_ending Blocked Blocked = true
same_ending Cut Cut = true
same_ending a b = false

-- two are of the same call, with the same ending
abbrev pub are_alike : SerialHint → SerialHint → Bool
are_alike a b = a.thread == b.thread && (a.call == b.call && same_ending a.ending b.ending)

-- one more, unless one of them is of its call and its ending
abbrev pub with_hint : List SerialHint → SerialHint → List SerialHint
with_hint found hint = if list_any (are_alike hint) found then found else found ++ hint ∷ []

-- these, and the first of each call and each ending that is none of theirs
unfoldable pub with_firsts : List SerialHint → List SerialHint → List SerialHint
with_firsts found [] = found
with_firsts found (hint ∷ hints) = with_firsts (with_hint found hint) hints

-- of each call that traps in one of these histories the first such, and of each that is stuck
abbrev pub set_hints : List (List SerialOp) → List SerialHint
set_hints histories = with_firsts [] (flat_map history_hints histories)

-- these hints with those of the set's histories, each after the path
abbrev pub with_set : List SerialHint → List SerialOp → List (List SerialOp) → List SerialHint
with_set found path set = with_firsts found (flat_map (λ h. history_hints (path ++ h)) set)

-- ---- a schedule that is cut

-- a call after these operations that is cut
abbrev pub last_hints : List SerialOp → Option Event → List SerialHint
last_hints before None = []
last_hints before (Some (Call t k)) = hint_of before t Cut ∷ []
last_hints before (Some (Return t k outcome)) = []

-- of a schedule that is cut with this history: the call that stands last in it
abbrev pub cut_hints : List Event → List SerialHint
cut_hints history = last_hints (entries_of history) (slice_get history (length history - 1))

-- the moves of the schedule can be made
abbrev pub CanPlay : List Move → State → Type 0
CanPlay u s = (end : State) × (history : List Event) × Leads s u end history

-- this is its history
abbrev pub ShowsHistory : List Move → List Event → State → Type 0
ShowsHistory u history s = (end : State) × Leads s u end history

-- these are the hints of its history
abbrev pub HintsOfCut : List Move → List SerialHint → State → Type 0
HintsOfCut u hints s =
    (end : State) × (history : List Event) × Leads s u end history × (hints ≡ cut_hints history)

-- ---- all serial runs

-- the histories of the serial runs are these, in order
abbrev pub ShownBySet : State → ℕ → List SerialHint → Type 0
ShownBySet s bound hints =
    (members : List (List SerialOp)) × IsSetOf s bound members
    × IsStrictlySortedBy history_cmp members × (hints ≡ set_hints members)

-- the least serial offence is cut
abbrev pub ShownByCut : State → ℕ → List SerialHint → Type 0
ShownByCut s bound hints = (u : List Move) × IsFirstCut s bound u × HintsOfCut u hints s

-- the least serial offence is a conflict: then nothing is said
abbrev pub ShownByNone : State → ℕ → List SerialHint → Type 0
ShownByNone s bound hints =
    (u : List Move) × (i : ℕ) × (o : SerialOutcome) × IsFirstConflict s bound u i o × (hints ≡ [])

-- what the serial runs from a start show
abbrev pub ShownSerially : ℕ → List SerialHint → State → Type 0
ShownSerially bound hints s =
    ShownBySet s bound hints ⊎ ShownByCut s bound hints ⊎ ShownByNone s bound hints

-- where it succeeds, its items are shown from each start
abbrev pub ShowsFromEachStart : {T E Z : Type 0} → Result (Vec T Z) E → Test
    → (List T → State → Type 0)
    → Type 0
ShowsFromEachStart result test P = IfOk result (λ v. FromEachStartOf test (P v.items))

-- what is said of the component and the matrix of a test
abbrev pub OfTest : {X : Type 1} → (Component → Matrix → X) → Test → X
OfTest P test = P test.component.now test.matrix.now

-- ---- a component and a matrix

-- the setup settles: its run, and the serial runs, show these
pub record AreShownHints (c : Component) (matrix : Matrix) (bound : ℕ) (hints : List RunHint)
    : Type 0 where
  pub first : List RunHint
  pub serial : List SerialHint
  pub setup : ShownBySetup c matrix first
  pub serially : FromEachStart c matrix (ShownSerially bound serial)
  pub all : hints ≡ first ++ map Serial serial

-- the setup settles, and the serial runs have too many steps: the setup's run shows the first of
-- these, and the last one says that the serial runs are not looked at
pub record AreUnseenHints (c : Component) (matrix : Matrix) (bound : ℕ) (hints : List RunHint)
    : Type 0 where
  pub first : List RunHint
  pub setup : ShownBySetup c matrix first
  pub many : FromEachStart c matrix (HasMoreSteps bound MOST_STEPS)
  pub all : hints ≡ first ++ TooManySteps ∷ []

-- a call of the setup does not end
abbrev pub IsSetupHint : Component → Matrix → List RunHint → Type 0
IsSetupHint c matrix hints = (k : ℕ) × IsUnsettledAt c matrix k × (hints ≡ SetupGoesOn k ∷ [])

-- what runs of a component and a matrix show
abbrev pub Show : Component → Matrix → ℕ → List RunHint → Type 0
Show c matrix bound hints =
    IsSetupHint c matrix hints ⊎ AreShownHints c matrix bound hints
    ⊎ AreUnseenHints c matrix bound hints

-- ---- lines

-- whether these words begin with this one
abbrev pub begin_with : Word → List Word → Bool
begin_with word [] = false
begin_with word (first ∷ words) = bytes_eq first word

-- line n, where it begins with this word
abbrev pub line_if : Word → ℕ → List ℕ → List ℕ
line_if word n line = if begin_with word (words_of line) then n ∷ [] else []

-- the numbers of the lines that begin with this word, of which the first is line n
unfoldable pub lines_from : Word → ℕ → List (List ℕ) → List ℕ
lines_from word n [] = []
lines_from word n (line ∷ lines) = line_if word n line ++ lines_from word (n + 1) lines

-- the numbers of a text's lines that begin with this word
abbrev pub lines_with : Word → List ℕ → List ℕ
lines_with word text = lines_from word 1 (lines_of text)

-- the line of the setup, or that of the thread, where these are their lines
abbrev pub hint_line : List ℕ → List ℕ → RunHint → ℕ
hint_line setup threads (SetupGoesOn k) = unwrap_or (slice_get setup 0) 0
hint_line setup threads (SetupTraps k) = unwrap_or (slice_get setup 0) 0
hint_line setup threads (Serial hint) = unwrap_or (slice_get threads hint.thread) 0
hint_line setup threads TooManySteps = unwrap_or (slice_get threads 0) 0

-- what is said of a hint of a matrix with these lines, before which this many of the bundle stand
abbrev pub said_of_hint : ℕ → List ℕ → List ℕ → RunHint → Said
said_of_hint above setup threads hint =
    record { line = line_below above (hint_line setup threads hint); cause = Run hint }

-- what is said of these hints of a matrix with this text
abbrev pub all_shown : ℕ → List ℕ → List RunHint → List Said
all_shown above text hints =
    map (said_of_hint above (lines_with (codes "setup") text) (lines_with (codes "thread") text))
    hints

-- what runs of the component and the matrix of this text show is said
abbrev pub RunsOf : ℕ → Component → Matrix → ℕ → List ℕ → List Said → Type 0
RunsOf bound c matrix above text said =
    (hints : List RunHint) × Show c matrix bound hints
    × (said ≡ all_shown above text hints)

-- the same, where both are read
abbrev pub RunsSaid : ℕ → ReadComponent → Option Matrix → ℕ → List ℕ → List Said → Type 0
RunsSaid bound (Faulty f) matrix above text said = said ≡ []
RunsSaid bound (Sound c) None above text said = said ≡ []
RunsSaid bound (Sound c) (Some matrix) above text said = RunsOf bound c matrix above text said

-- where both are read, the matrix is one of the component
abbrev pub AreTest : ReadComponent → Option Matrix → Type 0
AreTest (Faulty f) matrix = Unit {0}
AreTest (Sound c) matrix = IfSome matrix (λ m. IsOf m c)
