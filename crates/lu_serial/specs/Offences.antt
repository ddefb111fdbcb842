-- Serial offences, and what is learnt of a component and a matrix.
use Rattle.std.specs.Prelude.{◌≡◌, ℕ, ◌≤◌, List, ◌⊎◌, ◌↔◌, true, false, Option, Some, None, Result, IfOk}
use Rattle.lu_component.specs.Component.{Component}
use Rattle.lu_test.specs.declared.schedule.Move.{Move}
use Rattle.lu_test.specs.Matrix.{Matrix}
use Rattle.lu_machine.specs.States.{State}
use Rattle.lu_machine.specs.Starts.{FromEachStart, IsStart}
use Rattle.lu_machine.specs.Order.{IsSmaller}
use Rattle.lu_history.specs.declared.serial.SerialOutcome.{SerialOutcome}
use Rattle.lu_history.specs.declared.serial.SerialOp.{SerialOp}
use Rattle.lu_trie.specs.Members.{contains}
use Rattle.lu_trie.specs.Conflicts.{ConflictAt, IsDeterministic}
use Rattle.lu_serial.specs.declared.learning.Learnt.{Learnt}
use Rattle.lu_serial.specs.declared.learning.Learnt.TheVariants.{Set, Cut, Conflict}
use Rattle.lu_machine.specs.Schedules.{IsLeast}
use Rattle.lu_serial.specs.Serial.{Takes, IsSeriallyEnded, IsSeriallyCut, IsSerialHistory}

-- u is serially ended, and its history conflicts at i with that of a smaller serially ended
-- schedule, whose next outcome is o
pub record IsSerialConflict (s : State) (u : List Move) (i : ℕ) (o : SerialOutcome) : Type 0 where
  pub history : List SerialOp
  pub ended : IsSeriallyEnded s u history
  pub earlier : List Move
  pub smaller : IsSmaller earlier u
  pub other : List SerialOp
  pub earlier_ended : IsSeriallyEnded s earlier other
  pub conflict : ConflictAt history other i o

-- a serial offence: a schedule that is serially cut, or serially ended with such a conflict
abbrev pub IsOffence : State → ℕ → List Move → Type 0
IsOffence s bound u =
    IsSeriallyCut s bound u ⊎ ((i : ℕ) × (o : SerialOutcome) × IsSerialConflict s u i o)

-- no schedule is a serial offence
abbrev pub NoOffence : State → ℕ → Type 0
NoOffence s bound = (u : List Move) → IsOffence s bound u → ⊥

-- without offence, these are the histories of the serially ended schedules, and no two of them
-- conflict
pub record IsSetOf (s : State) (bound : ℕ) (members : List (List SerialOp)) : Type 0 where
  pub none : NoOffence s bound
  pub are : (q : List SerialOp) → (contains members q ≡ true) ↔ IsSerialHistory s q
  pub deterministic : IsDeterministic members

-- u is the least serial offence, and is cut
abbrev pub IsFirstCut : State → ℕ → List Move → Type 0
IsFirstCut s bound u = IsLeast (IsOffence s bound) u × IsSeriallyCut s bound u

-- u is the least serial offence, and conflicts at i with a smaller one, whose next outcome is o
abbrev pub IsFirstConflict : State → ℕ → List Move → ℕ → SerialOutcome → Type 0
IsFirstConflict s bound u i o = IsLeast (IsOffence s bound) u × IsSerialConflict s u i o

-- what `learn` answers: the set, where there is no offence; or the least offence, which is cut or
-- conflicts so
abbrev pub IsLearnt : {A : Type 0} → State → ℕ → Learnt A → Type 0
IsLearnt s bound (Set members) = IsSetOf s bound members
IsLearnt s bound (Cut u) = IsFirstCut s bound u
IsLearnt s bound (Conflict u before earlier) = IsFirstConflict s bound u before earlier

-- u is serially ended with a history that is no member, and no smaller schedule is serially cut
abbrev pub IsOutside : State → ℕ → List (List SerialOp) → List Move → Type 0
IsOutside s bound members u =
    (q : List SerialOp) × IsSeriallyEnded s u q × (contains members q ≡ false)
    × ((v : List Move) → IsSmaller v u → IsSeriallyCut s bound v → ⊥)

-- what `first_outside` answers: the least schedule that is outside, or none where none is
abbrev pub IsFirstOutside : State → ℕ → List (List SerialOp) → Option (List Move) → Type 0
IsFirstOutside s bound members None = (u : List Move) → IsOutside s bound members u → ⊥
IsFirstOutside s bound members (Some u) = IsLeast (IsOutside s bound members) u

-- from each start this is the first one outside
abbrev pub FindsOutside : {E : Type 0} → Component → Matrix → ℕ → List (List SerialOp)
    → Result (Option (List Move)) E → Type 0
FindsOutside c matrix bound members result =
    FromEachStart c matrix (λ s. IfOk result (IsFirstOutside s bound members))

-- Where there is no serial offence, no operation of a serially ended schedule takes more than
-- `bound` moves after its call.
abbrev pub SerialShort : Type 0
SerialShort =
    (s : State) (bound : ℕ) (u : List Move) (q : List SerialOp) (n : ℕ) →
    NoOffence s bound → IsSeriallyEnded s u q → Takes s u n → n ≤ bound

-- Where the least offence conflicts, the entry and the outcome are determined.
abbrev pub OneConflict : Type 0
OneConflict =
    (component : Component) (matrix : Matrix) (s : State) (bound : ℕ) (u : List Move) (i j : ℕ)
    (o p : SerialOutcome) →
    IsStart component matrix s → IsFirstConflict s bound u i o → IsFirstConflict s bound u j p
    → (i ≡ j) × (o ≡ p)
