-- What `conform` answers.
use Rattle.std.specs.Prelude.{ℕ, ◌++◌, List, codes, length, ◌<◌, ◌≡◌, Some, slice_get, Result, IfOk}
use Rattle.std.specs.Fmt.{decimal}
use Rattle.lu_component.specs.Component.{Component}
use Rattle.lu_test.specs.declared.schedule.Move.{Move}
use Rattle.lu_test.specs.Matrix.{Matrix}
use Rattle.lu_machine.specs.declared.test.Test.{Test}
use Rattle.lu_test.specs.ScheduleText.{schedule_text}
use Rattle.std.specs.List.{flat_map}
use Rattle.lu_recorded.specs.declared.recorded.Recorded.{Recorded}
use Rattle.lu_recorded.specs.Reasons.{recorded_text}
use Rattle.lu_conform.specs.declared.shown.Conformance.{Conformance}
use Rattle.lu_conform.specs.declared.shown.Conformance.TheVariants.{Conforms, NoneShows, Undecided}
use Rattle.lu_conform.specs.Conforming.{IsConformance}
use Rattle.lu_cli.specs.declared.refusal.Refusal.{Refusal}
use Rattle.lu_cli.specs.Witness.{three_parts}
use Rattle.lu_cli.specs.Refusals.{Answered}
use Rattle.lu_cli.specs.Outcomes.{Answer}
use Rattle.lu_cli.specs.Reading.{ToRecorded, ToParts, ToTexts}
use Rattle.lu_cli.specs.declared.request.Showing.{Showing}
use Rattle.lu_cli.specs.declared.request.Showing.TheVariants.{Count, Schedules}

-- this many histories are shown
abbrev pub passes : ℕ → List ℕ
passes count = codes "conform pass " ++ decimal count ++ codes "\n"

-- schedules, each as a part of its own
abbrev pub schedule_parts : List (List Move) → List ℕ
schedule_parts schedules = flat_map (λ u. codes "---\n" ++ schedule_text u) schedules

-- that this many histories are shown; with the schedules, if these are asked for
abbrev pub all_shown : Showing → List (List Move) → Answer
all_shown Count schedules = record { text = passes (length schedules); status = 0 }
all_shown Schedules schedules =
    record { text = passes (length schedules) ++ schedule_parts schedules; status = 0 }

-- no schedule shows history n, whose text this is
abbrev pub shown_by_none : ℕ → List ℕ → Answer
shown_by_none n history = record {
  text = codes "conform none " ++ decimal n ++ codes "\n---\n" ++ history;
  status = 1;
}

-- of history n it is not decided
abbrev pub undecided_at : ℕ → Answer
undecided_at n =
    record { text = codes "conform undecided " ++ decimal n ++ codes "\n"; status = 3 }

-- the history that it names, if any, is one of these
abbrev pub IsWithin : List Recorded → Conformance → Type 0
IsWithin all (Conforms schedules) = Unit {0}
IsWithin all (NoneShows n) = n < length all
IsWithin all (Undecided n) = Unit {0}

-- what is answered to what was found of these histories
abbrev pub TellsConformance : Showing → List Recorded → Conformance → Answer → Type 0
TellsConformance showing all (Conforms schedules) answer =
    answer ≡ all_shown showing schedules.items
TellsConformance showing all (NoneShows n) answer =
    (recorded : Recorded) × (slice_get all n ≡ Some recorded)
    × (answer ≡ shown_by_none n (recorded_text recorded))
TellsConformance showing all (Undecided n) answer = answer ≡ undecided_at n

-- whether some schedule of the component shows each history
abbrev pub IsConformed : Component → Matrix → Showing → List Recorded → Answer → Type 0
IsConformed c m showing all answer =
    (found : Conformance) × IsConformance c m all found × TellsConformance showing all found answer

-- so it is of the result, where there is one
abbrev pub SaysConformed : {E : Type 0} → Test → Showing → List Recorded → Result Answer E → Type 0
SaysConformed test showing all result =
    IfOk result (IsConformed test.component.now test.matrix.now showing all)

-- the recorded histories are read first
abbrev pub IsConformedTexts : Component → Matrix → Showing → List (List ℕ) → Answer → Type 0
IsConformedTexts c m showing texts = ToRecorded m texts (IsConformed c m showing)

-- that is answered, or a refusal that is
abbrev pub ConformsTexts : Test → Showing → List (List ℕ) → Result Answer Refusal → Type 0
ConformsTexts test showing texts =
    Answered (IsConformedTexts test.component.now test.matrix.now showing texts)

abbrev pub IsAnswerToConform : Showing → List (List ℕ) → Answer → Type 0
IsAnswerToConform showing parts =
    ToParts (three_parts parts) (λ p. ToTexts p.0 p.1 (λ c m. IsConformedTexts c m showing p.2))
