-- What `replay` answers.
use Rattle.std.specs.Prelude.{◌≡◌, ◌⊎◌, ℕ, List, Result, IfOk}
use Rattle.lu_text.specs.Words.{exactly_three}
use Rattle.lu_component.specs.Component.{Component}
use Rattle.lu_test.specs.declared.schedule.Move.{Move}
use Rattle.lu_test.specs.ScheduleText.{schedule_of}
use Rattle.lu_test.specs.Matrix.{Matrix}
use Rattle.lu_machine.specs.declared.test.Test.{Test}
use Rattle.lu_machine.specs.declared.event.Event.{Event}
use Rattle.lu_machine.specs.declared.event.Status.{Status}
use Rattle.lu_replay.specs.Replays.{PlaysToStatus, IsInfeasibleAt}
use Rattle.lu_replay.specs.Text.{replay_text}
use Rattle.lu_cli.specs.Outcomes.{Answer, infeasible}
use Rattle.lu_cli.specs.Reading.{ToParts, ToSchedule, ToTexts}

-- what the schedule shows, or where it is infeasible
abbrev pub IsReplayed : Component → Matrix → List Move → Answer → Type 0
IsReplayed c matrix u answer =
    ((history : List Event) × (status : Status) × PlaysToStatus c matrix u history status
    × (answer ≡ record { text = replay_text history status; status = 0 }))
    ⊎ ((i : ℕ) × IsInfeasibleAt c matrix u i
    × (answer ≡ infeasible i))

-- so it is of the result, where there is one
abbrev pub Replays : {E : Type 0} → Test → List Move → Result Answer E → Type 0
Replays test u result = IfOk result (IsReplayed test.component.now test.matrix.now u)

abbrev pub IsAnswerToReplay : List (List ℕ) → Answer → Type 0
IsAnswerToReplay parts =
    ToParts (exactly_three parts)
    (λ p. ToTexts p.0 p.1 (λ c m. ToSchedule (schedule_of p.2) (IsReplayed c m)))
