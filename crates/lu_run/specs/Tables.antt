-- The automaton, as far as it has been asked.
use Rattle.std.specs.Prelude.{◌≡◌, ℕ, Bool, List, [], ◌∷◌, ◌++◌, Option, Some, None, slice_get, ◌⊎◌, ◌&&◌, nat_eq}
use Rattle.std.specs.HashMap.{HashMap}
use Rattle.indexmap.specs.IndexMap.{get}
use Rattle.lu_component.specs.Component.{Component}
use Rattle.lu_test.specs.declared.matrix.Call.{Call as ACall}
use Rattle.lu_test.specs.Matrix.{AreArguments, IsCallOf}
use Rattle.lu_history.specs.declared.serial.SerialOutcome.{SerialOutcome}
use Rattle.lu_run.specs.declared.table.Question.{Question}
use Rattle.lu_run.specs.declared.table.Rests.{Rests}
use Rattle.lu_run.specs.declared.table.Table.{Table}
use Rattle.lu_run.specs.Asking.{AreRests, BlocksSo, EndsSo, HasSameRests}

-- the outcome of a call, and the number of the state to which it leads; none where it is blocked
abbrev pub Answer : Type 0
Answer = Option (SerialOutcome × ℕ)

-- whether these are the same question
abbrev pub same_question : Question → Question → Bool
same_question a b = nat_eq a.state b.state && (nat_eq a.thread b.thread && nat_eq a.call b.call)

-- the known answer to the question, if there is one
abbrev pub recorded : Table → Question → Option Answer
recorded table question = get same_question table.answers question

-- the component has the call's operation, with as many arguments
abbrev pub IsCallFor : Component → ACall → Type 0
IsCallFor c call = IsCallOf c call × AreArguments call.args

-- the component has each of the calls
abbrev pub AreCallsOf : Component → List ACall → Type 0
AreCallsOf c calls = (n : ℕ) (call : ACall) → slice_get calls n ≡ Some call → IsCallFor c call

-- this answer is right: from each of the positions the call of thread t blocks, or ends with this
-- outcome, with the rests of the state of this number
abbrev pub IsRight : Component → List Rests → Rests → ℕ → ACall → Answer → Type 0
IsRight c states from t call None = BlocksSo c from.positions.items t call
IsRight c states from t call (Some (outcome, n)) =
    (to : Rests) × (slice_get states n ≡ Some to)
    × EndsSo c from.positions.items t call outcome to.positions.items

-- The answer to the question is right.
pub record IsRightFor (c : Component) (calls : List ACall) (states : List Rests)
    (question : Question) (answer : Answer) : Type 0 where
  pub from : Rests
  pub state : slice_get states question.state ≡ Some from
  pub call : ACall
  pub called : slice_get calls question.call ≡ Some call
  pub right : IsRight c states from question.thread call answer

-- Each state has rests, and each answer is right.
pub record IsTable (c : Component) (calls : List ACall) (table : Table) : Type 0 where
  pub states : (n : ℕ) (state : Rests) → slice_get table.states.keys n ≡ Some state
      → AreRests c state.positions.items
  pub answers : (question : Question) (answer : Answer) → recorded table question ≡ Some answer
      → IsRightFor c calls table.states.keys question answer

-- States stay, and answers too.
pub record Grows (old new : Table) : Type 0 where
  pub states : (n : ℕ) (state : Rests) → slice_get old.states.keys n ≡ Some state
      → slice_get new.states.keys n ≡ Some state
  pub answers : (question : Question) (answer : Answer) → recorded old question ≡ Some answer
      → recorded new question ≡ Some answer

-- the states stay, unless these rests come after them
abbrev pub Keeps : List Rests → Rests → List Rests → Type 0
Keeps old rests new = (new ≡ old) ⊎ (new ≡ old ++ rests ∷ [])

-- the state of this number has these rests
abbrev pub IsNumbered : List Rests → Rests → ℕ → Type 0
IsNumbered states rests n =
    (state : Rests) × (slice_get states n ≡ Some state)
    × HasSameRests rests.positions.items state.positions.items

-- The answer to this question is new, and those to other questions stay.
pub record Records {S : Type 0} (old : HashMap Question Answer S) (question : Question)
    (answer : Answer) (new : HashMap Question Answer S) : Type 0 where
  pub here : get same_question new question ≡ Some answer
  pub others : (other : Question)
      → (get same_question new other ≡ get same_question old other) ⊎ (other ≡ question)
