-- What the calls answer.
use Rattle.std.specs.Prelude.{◌≡◌, ◌⊎◌, ◌==◌, ℕ, List, [], ◌∷◌, length, take, filter, not, All, Option, Some, None, Result, IfOk, IfErr, MatchBool, MatchOption, Vec, codes, nat_lt, slice_get}
use Rattle.std.specs.List.{slice_split}
use Rattle.std.specs.Str.{IsUtf8}
use denote.Ref.{Bor}
use Rattle.lu_text.specs.Lines.{texts}
use Rattle.lu_cli.specs.declared.request.Request.{Request}
use Rattle.lu_cli.specs.Args.{request_of}
use Rattle.lu_cli.specs.Outcomes.{Answer, no_command, no_memory, refused}
use Rattle.lu_cli.specs.Program.{IsAnswerToInput}
use Rattle.lu_cli.specs.Shown.{IsTextOfSchedule}
use Rattle.lu_cli.specs.Texts.{AreSettled}
use Rattle.lu_component.specs.Component.{Component}
use Rattle.lu_test.specs.declared.schedule.Move.{Move}
use Rattle.lu_test.specs.Matrix.{Matrix}
use Rattle.lu_machine.specs.declared.event.Event.{Event}
use Rattle.lu_machine.specs.declared.event.Status.{Status}
use Rattle.lu_machine.specs.Ends.{HasStatus}
use Rattle.lu_machine.specs.Plays.{IsInfeasibleAt, Plays}
use Rattle.lu_machine.specs.Runs.{Leads}
use Rattle.lu_machine.specs.Steps.{IsFeasible}
use Rattle.lu_machine.specs.States.{State}
use Rattle.lineup_c.specs.declared.playing.StateFault.{StateFault}
use Rattle.lineup_c.specs.declared.playing.StateFault.TheVariants.{Infeasible, Refused, Memory}
use Rattle.lineup_c.specs.Numbers.{number_of, run_numbers}
use Rattle.lineup_c.specs.Rooms.{filled}
use Rattle.lineup_c.specs.Stack.{stack_for}

-- the same words as strings, each UTF-8; none where one is not UTF-8
abbrev pub AreStrings : {Z : Type 0} → List (List ℕ) → Option (Vec (Bor (List ℕ)) Z) → Type 0
AreStrings words None = All IsUtf8 words → ⊥
AreStrings words (Some strings) = (texts strings.items ≡ words) × All IsUtf8 words

-- that the stack is too small
abbrev pub no_stack : Answer
no_stack = refused (codes "stack")

-- the program's answer to the request and the bundle; or, where the stack has fewer bytes than the
-- request takes, that it is too small
abbrev pub IsAnswerWithin : Request → List ℕ → ℕ → Answer → Type 0
IsAnswerWithin request bundle stack answer =
    MatchBool (nat_lt stack (stack_for request)) (answer ≡ no_stack)
    (IsAnswerToInput request bundle answer)

-- the answer to what the words ask for; where they ask for nothing, they are refused
abbrev pub IsAnswerToWords : List (List ℕ) → List ℕ → ℕ → Answer → Type 0
IsAnswerToWords words bundle stack answer =
    MatchOption (request_of words) (answer ≡ no_command)
    (λ request. IsAnswerWithin request bundle stack answer)

-- the words of a line: what spaces separate, and nothing else
abbrev pub spaced_words : List ℕ → List (List ℕ)
spaced_words line = filter (λ word. not (length word == 0)) (slice_split (λ b. b == 32) line)

-- the answer to the words of the line; where one of them is not UTF-8, they are refused
abbrev pub IsAnswerToLine : List ℕ → List ℕ → ℕ → Answer → Type 0
IsAnswerToLine line bundle stack answer =
    (All IsUtf8 (spaced_words line) → IsAnswerToWords (spaced_words line) bundle stack answer)
    × ((All IsUtf8 (spaced_words line) → ⊥) → answer ≡ no_command)

-- The answer to the line, by a stack of this many bytes, or that memory was refused: its text fills
-- the room, and its length and its status are reported.
pub record TellsAnswer (line bundle : List ℕ) (stack : ℕ) (old new : List ℕ)
    (len status : ℕ) : Type 0 where
  pub answer : Answer
  pub is : IsAnswerToLine line bundle stack answer ⊎ (answer ≡ no_memory)
  pub text : new ≡ filled answer.text old
  pub whole : len ≡ length answer.text
  pub status_is : status ≡ answer.status

-- ---- states

-- from the start the moves, of a schedule of this many, lead to a state of which these are the
-- numbers
abbrev pub AreNumbersAfter : Component → Matrix → List Move → ℕ → List ℕ → Type 0
AreNumbersAfter c matrix u all numbers =
    (end : State) × (history : List Event) × (status : Status)
    × Plays c matrix u end history × HasStatus end status
    × (numbers ≡ run_numbers end status (number_of (length u)) (number_of all) history)

-- these are the numbers of the state to which the first moves of the schedule lead, at most this
-- many
abbrev pub IsStateOf : List ℕ → List ℕ → List ℕ → ℕ → List ℕ → Type 0
IsStateOf component matrix schedule most numbers =
    (c : Component) × (m : Matrix) × (u : List Move)
    × AreSettled component matrix c m × IsTextOfSchedule schedule u
    × AreNumbersAfter c m (take most u) (length u) numbers

-- these fill the room, and how many they are is reported
abbrev pub TellsState : List ℕ → List ℕ → List ℕ → ℕ → List ℕ → List ℕ → ℕ → Type 0
TellsState component matrix schedule most old new count =
    (numbers : List ℕ) × IsStateOf component matrix schedule most numbers
    × (new ≡ filled numbers old) × (count ≡ length numbers)

-- among the first moves of the schedule, at most this many, move number i is the first that is not
-- feasible
abbrev pub IsInfeasibleIn : List ℕ → List ℕ → List ℕ → ℕ → ℕ → Type 0
IsInfeasibleIn component matrix schedule most i =
    (c : Component) × (m : Matrix) × (u : List Move)
    × AreSettled component matrix c m × IsTextOfSchedule schedule u
    × IsInfeasibleAt c m (take most u) i

-- the number of that move is the one number
abbrev pub TellsInfeasible : List ℕ → List ℕ → List ℕ → ℕ → List ℕ → List ℕ → ℕ → Type 0
TellsInfeasible component matrix schedule most old new count =
    (i : ℕ) × IsInfeasibleIn component matrix schedule most i
    × (new ≡ filled (number_of i ∷ []) old) × (count ≡ 1)

-- the room is left as it was, and no number is reported
abbrev pub TellsNothing : List ℕ → List ℕ → ℕ → Type 0
TellsNothing old new count = (new ≡ old) × (count ≡ 0)

-- What is reported of the run: with the status 0 the state, with 1 the move that is not feasible,
-- and with 2 or 4 nothing.
abbrev pub TellsRun : ℕ → List ℕ → List ℕ → List ℕ → ℕ → List ℕ → List ℕ → ℕ → Type 0
TellsRun status component matrix schedule most old new count =
    ((status ≡ 0) × TellsState component matrix schedule most old new count)
    ⊎ ((status ≡ 1) × TellsInfeasible component matrix schedule most old new count)
    ⊎ (((status ≡ 2) ⊎ (status ≡ 4)) × TellsNothing old new count)

-- ---- in memory, unless they are refused

abbrev pub TellsNumbersAfter : {E Z : Type 0} → Component → Matrix → List Move → ℕ
    → Result (Vec ℕ Z) E → Type 0
TellsNumbersAfter c matrix u all result =
    IfOk result (λ numbers. AreNumbersAfter c matrix u all numbers.items)

abbrev pub TellsStateOf : {E Z : Type 0} → List ℕ → List ℕ → List ℕ → ℕ → Result (Vec ℕ Z) E
    → Type 0
TellsStateOf component matrix schedule most result =
    IfOk result (λ numbers. IsStateOf component matrix schedule most numbers.items)

-- why moves from here have no numbers: the first i moves lead somewhere, and there move i is not
-- feasible; or memory was refused
abbrev pub IsFaultFrom : State → List Move → StateFault → Type 0
IsFaultFrom start u (Infeasible i) =
    (end : State) × (history : List Event) × (move : Move)
    × Leads start (take i u) end history × (slice_get u i ≡ Some move)
    × (IsFeasible end move → ⊥)
IsFaultFrom start u Refused = ⊥
IsFaultFrom start u Memory = Unit {0}

-- why a run of these moves has no numbers: one of them is not feasible, or memory was refused
abbrev pub IsFaultAfter : Component → Matrix → List Move → StateFault → Type 0
IsFaultAfter c matrix u (Infeasible i) = IsInfeasibleAt c matrix u i
IsFaultAfter c matrix u Refused = ⊥
IsFaultAfter c matrix u Memory = Unit {0}

-- why texts have none: a move is not feasible, a text is refused, or memory was refused
abbrev pub IsStateFault : List ℕ → List ℕ → List ℕ → ℕ → StateFault → Type 0
IsStateFault component matrix schedule most (Infeasible i) =
    IsInfeasibleIn component matrix schedule most i
IsStateFault component matrix schedule most _ = Unit {0}

-- no move is to blame
abbrev pub IsNoInfeasible : StateFault → Type 0
IsNoInfeasible (Infeasible i) = ⊥
IsNoInfeasible Refused = Unit {0}
IsNoInfeasible Memory = Unit {0}
