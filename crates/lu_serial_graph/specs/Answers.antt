-- What a call answers from several rests.
use Rattle.std.specs.Prelude.{◌≡◌, ◌≢◌, ◌⊎◌, ℕ, ◌<◌, List, [], Option, Some, None, Result, IfOk, IfSome}
use Rattle.lu_component.specs.Component.{Component}
use Rattle.lu_test.specs.Matrix.{Matrix}
use Rattle.lu_machine.specs.declared.position.Position.{Position}
use Rattle.lu_machine.specs.Positions.{CanStandAt}
use Rattle.lu_machine.specs.States.{State}
use Rattle.lu_machine.specs.Steps.{picks_of}
use Rattle.lu_history.specs.declared.serial.SerialOutcome.{SerialOutcome}
use Rattle.lu_serial_graph.specs.declared.alone.Ending.{Ending}
use Rattle.lu_serial_graph.specs.declared.answering.Answer.{Answer}
use Rattle.lu_serial_graph.specs.Playing.{AllStand, Comes, HasEnding, IsAmong, Lasts, OpensOnly, state_at}

-- s is one of the rests
abbrev pub HasRest : Component → Matrix → List Position → State → Type 0
HasRest c matrix rests s = (p : Position) × IsAmong p rests × (state_at c matrix p ≡ s)

-- a machine can stand at each rest
abbrev pub RestsStand : Component → Matrix → List Position → Type 0
RestsStand c matrix rests = (p : Position) → IsAmong p rests → CanStandAt c matrix p

-- at each of them no operation is open except possibly that of thread t, and thread t is enabled
abbrev pub MayCall : Component → Matrix → List Position → ℕ → Type 0
MayCall c matrix rests t =
    (p : Position) → IsAmong p rests
    → OpensOnly (state_at c matrix p) t × (0 < picks_of (state_at c matrix p) t)

-- The new rests are the old ones and p.
pub record AddsRest (p : Position) (old new : List Position) : Type 0 where
  pub stay : (x : Position) → IsAmong x old → IsAmong x new
  pub here : (c : Component) (matrix : Matrix) → HasRest c matrix new (state_at c matrix p)
  pub each : (x : Position) → IsAmong x new → IsAmong x old ⊎ (x ≡ p)

-- The endings have one outcome, and these are their rests.
pub record IsSifted (endings : List Ending) (outcome : SerialOutcome)
    (rests : List Position) : Type 0 where
  pub one : (e : Ending) → IsAmong e endings → e.outcome ≡ outcome
  pub all : (e : Ending) (c : Component) (matrix : Matrix) → IsAmong e endings
      → HasRest c matrix rests (state_at c matrix e.position)
  pub each : (p : Position) → IsAmong p rests
      → (e : Ending) × IsAmong e endings × (e.position ≡ p)

-- Two of the endings have different outcomes.
pub record Differ (endings : List Ending) : Type 0 where
  pub first : Ending
  pub second : Ending
  pub one : IsAmong first endings
  pub other : IsAmong second endings
  pub apart : first.outcome ≢ second.outcome

-- the answer has the endings' one outcome and their rests; there is none where two outcomes differ
-- or there are no endings
abbrev pub AnswersFor : List Ending → Option Answer → Type 0
AnswersFor endings (Some answer) =
    IsSifted endings answer.outcome answer.rests.items
    × ((p : Position) × IsAmong p answer.rests.items)
AnswersFor endings None = (endings ≡ []) ⊎ Differ endings

-- The endings of thread t's next call from these rests, which all end within n moves.
pub record AreEndings (c : Component) (matrix : Matrix) (rests : List Position) (t n : ℕ)
    (endings : List Ending) : Type 0 where
  pub short : (p : Position) → IsAmong p rests → Lasts (state_at c matrix p) t n → ⊥
  pub all : (p : Position) (o : SerialOutcome) (end : State) → IsAmong p rests
      → Comes (state_at c matrix p) t o end → HasEnding c matrix endings o end
  pub each : (o : SerialOutcome) (end : State) → HasEnding c matrix endings o end
      → (p : Position) × IsAmong p rests × Comes (state_at c matrix p) t o end
  pub some : (p : Position) → IsAmong p rests
      → (o : SerialOutcome) × (end : State) × HasEnding c matrix endings o end
  pub stand : AllStand c matrix endings

-- From each of the rests thread t's next call ends within n moves, with this outcome, and these are
-- the rests to which it leads.
pub record IsAnswer (c : Component) (matrix : Matrix) (rests : List Position) (t n : ℕ)
    (answer : Answer) : Type 0 where
  pub short : (p : Position) → IsAmong p rests → Lasts (state_at c matrix p) t n → ⊥
  pub one : (p : Position) (o : SerialOutcome) (end : State) → IsAmong p rests
      → Comes (state_at c matrix p) t o end → o ≡ answer.outcome
  pub all : (p : Position) (o : SerialOutcome) (end : State) → IsAmong p rests
      → Comes (state_at c matrix p) t o end → HasRest c matrix answer.rests.items end
  pub each : (q : Position) → IsAmong q answer.rests.items
      → (p : Position) × IsAmong p rests
      × Comes (state_at c matrix p) t answer.outcome (state_at c matrix q)
  pub some : (q : Position) × IsAmong q answer.rests.items
  pub stand : RestsStand c matrix answer.rests.items

-- Thread t's next call has two outcomes from these rests.
pub record TwoOutcomes (c : Component) (matrix : Matrix) (rests : List Position) (t : ℕ) : Type 0 where
  pub p : Position
  pub q : Position
  pub one : IsAmong p rests
  pub other : IsAmong q rests
  pub a : SerialOutcome
  pub b : SerialOutcome
  pub end : State
  pub last : State
  pub comes : Comes (state_at c matrix p) t a end
  pub also : Comes (state_at c matrix q) t b last
  pub apart : a ≢ b

-- from one of the rests it is still open and enabled n moves later
abbrev pub LastsSomewhere : Component → Matrix → List Position → ℕ → ℕ → Type 0
LastsSomewhere c matrix rests t n =
    (p : Position) × IsAmong p rests × Lasts (state_at c matrix p) t n

-- the answer, or why there is none
abbrev pub Asks : Component → Matrix → List Position → ℕ → ℕ → Option Answer → Type 0
Asks c matrix rests t n (Some answer) = IsAnswer c matrix rests t n answer
Asks c matrix rests t n None = LastsSomewhere c matrix rests t n ⊎ TwoOutcomes c matrix rests t

-- the fact holds where there is an answer
abbrev pub IfAnswered : {E : Type 0} → Result (Option Answer) E → Type 0 → Type 0
IfAnswered result fact = IfOk result (λ found. IfSome found (λ _. fact))
