-- What a table of outlooks says.
use Rattle.std.specs.Prelude.{◌≡◌, ℕ, ◌+◌, List, [], ◌∷◌, length, Some, slice_get, get_or}
use Rattle.lu_component.specs.declared.instr.Instr.{Instr}
use Rattle.lu_component.specs.Component.{Component}
use Rattle.lu_test.specs.declared.matrix.Call.{Call}
use Rattle.lu_test.specs.Matrix.{Matrix, calls_of}
use Rattle.lu_machine.specs.Starts.{IsStart}
use Rattle.lu_machine.specs.States.{State, instr_at}
use Rattle.lu_horizon.specs.declared.outlook.Outlook.{Outlook}
use Rattle.lu_horizon.specs.Code.{ahead_at}
use Rattle.lu_horizon.specs.Outlooks.{nothing_known}
use Rattle.lu_horizon.specs.Own.{IsOwn, IsIdle, IsOpenAt}
use Rattle.lu_horizon.specs.Sure.{HasOutlook}

-- the outlooks of a call: before it is opened, and at each place of its operation
pub record CallOutlooks : Type 0 where
  pub before : Outlook
  pub places : List Outlook

-- those of a call of which nothing is known
abbrev pub no_outlooks : CallOutlooks
no_outlooks = record { before = nothing_known; places = [] }

-- the outlooks of a thread, for each of its calls
abbrev pub ThreadOutlooks : Type 0
ThreadOutlooks = List CallOutlooks

-- the outlook at place of a call's operation
abbrev pub outlook_of : List Outlook → ℕ → Outlook
outlook_of places place = get_or places place nothing_known

-- what is ahead of a move that begins with this instruction of the code, at this place, from these
-- outlooks at the places
abbrev pub ahead_from : Component → List Instr → List Outlook → Outlook → ℕ → Instr → Outlook
ahead_from c code places rest place instr = ahead_at c code (outlook_of places) rest place instr

-- the outlook before call number k of thread t
abbrev pub IsOutlookBefore : Component → Matrix → ℕ → ℕ → Outlook → Type 0
IsOutlookBefore c matrix t k o = (s : State) → IsIdle c matrix t k s → HasOutlook s t o

-- this is the code of the operation: none where there is no such operation
abbrev pub IsCodeOf : Component → ℕ → List Instr → Type 0
IsCodeOf c op code = (place : ℕ) → instr_at c op place ≡ slice_get code place

-- call number k of thread t runs this code, and after it there is `rest`
pub record IsCall (c : Component) (matrix : Matrix) (t k : ℕ) (code : List Instr)
    (rest : Outlook) : Type 0 where
  pub call : Call
  pub called : slice_get (calls_of matrix t) k ≡ Some call
  pub code_is : IsCodeOf c call.op code
  pub after : IsOutlookBefore c matrix t (k + 1) rest

-- the outlooks at the places of call number k of thread t
abbrev pub ArePlaces : Component → Matrix → ℕ → ℕ → List Outlook → Type 0
ArePlaces c matrix t k places =
    (place : ℕ) (s : State) → IsOpenAt c matrix t k place s
    → HasOutlook s t (outlook_of places place)

-- the outlooks of call number k of thread t
pub record AreOfCall (c : Component) (matrix : Matrix) (t k : ℕ)
    (outlooks : CallOutlooks) : Type 0 where
  pub before : IsOutlookBefore c matrix t k outlooks.before
  pub places : ArePlaces c matrix t k outlooks.places

-- the outlooks of each call that runs this code
abbrev pub AreOutlooks : Component → List Instr → Outlook → CallOutlooks → Type 0
AreOutlooks c code rest outlooks =
    (matrix : Matrix) (t k : ℕ) → IsCall c matrix t k code rest → AreOfCall c matrix t k outlooks

-- the outlooks at the places of each call that runs this code stay so
abbrev pub StayOutlooks : Component → List Instr → Outlook → List Outlook → List Outlook → Type 0
StayOutlooks c code rest old new =
    (matrix : Matrix) (t k : ℕ) → IsCall c matrix t k code rest → ArePlaces c matrix t k old
    → ArePlaces c matrix t k new

-- the outlook before call number k
abbrev pub outlook_before : ThreadOutlooks → ℕ → Outlook
outlook_before calls k = (get_or calls k no_outlooks).before

-- the outlook at place of call number k
abbrev pub outlook_within : ThreadOutlooks → ℕ → ℕ → Outlook
outlook_within calls k place = outlook_of (get_or calls k no_outlooks).places place

-- those of the calls of thread t, from number k on
abbrev pub AreOutlooksOfCalls : Component → Matrix → ℕ → ℕ → ThreadOutlooks → Type 0
AreOutlooksOfCalls c matrix t k [] = Unit {0}
AreOutlooksOfCalls c matrix t k (outlooks ∷ calls) =
    AreOfCall c matrix t k outlooks × AreOutlooksOfCalls c matrix t (k + 1) calls

-- those of all calls of thread t
pub record IsThread (c : Component) (matrix : Matrix) (t : ℕ)
    (calls : ThreadOutlooks) : Type 0 where
  pub many : length calls ≡ length (calls_of matrix t)
  pub each : AreOutlooksOfCalls c matrix t 0 calls

-- the table's outlooks are those of the component and the matrix
abbrev pub IsTable : Component → Matrix → List ThreadOutlooks → Type 0
IsTable c matrix table =
    (t : ℕ) (calls : ThreadOutlooks) → slice_get table t ≡ Some calls → IsThread c matrix t calls

-- the table is that of the run whose state is s
pub record Serves (table : List ThreadOutlooks) (s : State) : Type 0 where
  pub numbers : IsTable s.component s.matrix table
  pub own : IsOwn s.component s.matrix s

-- the table is that of the runs of the component and the matrix
abbrev pub ServesRuns : Component → Matrix → List ThreadOutlooks → Type 0
ServesRuns c matrix table = (s : State) → IsStart c matrix s → Serves table s
