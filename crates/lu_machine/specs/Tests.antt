-- A component with a matrix that it can run.
use Rattle.std.specs.Prelude.{◌≡◌, ℕ, Result, MatchResult}
use Rattle.lu_component.specs.Component.{Component, IsComponent}
use Rattle.lu_test.specs.Matrix.{IsMatrix, Matrix}
use Rattle.lu_machine.specs.declared.test.Test.{Test}
use Rattle.lu_machine.specs.States.{State}
use Rattle.lu_machine.specs.Starts.{IsStart, IsUnsettledAt}

-- the test is of this component and this matrix
abbrev pub IsTestOf : Component → Matrix → Test → Type 0
IsTestOf c matrix test = (test.component.now ≡ c) × (test.matrix.now ≡ matrix)

-- the test of both, or the number of the first call of the setup that does not end
abbrev pub IsTestOrUnsettled : Component → Matrix → Result Test ℕ → Type 0
IsTestOrUnsettled c matrix made = MatchResult made (IsTestOf c matrix) (IsUnsettledAt c matrix)

-- a run of the test starts in the state s
abbrev pub IsStartOf : Test → State → Type 0
IsStartOf test s = IsStart test.component.now test.matrix.now s

-- its component and its matrix are within their limits
abbrev pub IsWithinLimits : Test → Type 0
IsWithinLimits test = IsComponent test.component.now × IsMatrix test.matrix.now

-- what holds of the state where runs of the test start
abbrev pub FromEachStartOf : Test → (State → Type 0) → Type 0
FromEachStartOf test Holds = (s : State) → IsStartOf test s → Holds s
