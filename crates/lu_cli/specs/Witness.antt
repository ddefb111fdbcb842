-- What `witness` answers.
use Rattle.std.specs.Prelude.{ℕ, List, ◌≡◌, length, MatchOption, Option, Some, None, slice_get, ◌∷◌, ◌⊎◌, Result, IfOk}
use Rattle.lu_text.specs.Words.{Word}
use Rattle.lu_component.specs.Component.{Component}
use Rattle.lu_test.specs.Matrix.{Matrix}
use Rattle.lu_machine.specs.declared.test.Test.{Test}
use Rattle.lu_machine.specs.States.{State}
use Rattle.lu_machine.specs.Starts.{IsStart}
use Rattle.lu_history.specs.declared.serial.SerialOp.{SerialOp}
use Rattle.lu_serial.specs.Offences.{NoOffence}
use Rattle.lu_witness.specs.Witnesses.{IsMember}
use Rattle.lu_spec.specs.declared.given.Marks.{Marks}
use Rattle.lu_spec.specs.Beginnings.{IsClosureOf}
use Rattle.lu_recorded.specs.declared.recorded.Recorded.{Recorded}
use Rattle.lu_report.specs.Limits.{Bounds}
use denote.Ref.{Bor}
use Rattle.std.specs.Option.{option_map}
use Rattle.lu_text.specs.Lines.{texts}
use Rattle.lu_recorded.specs.Judged.{TellsUnwitnessed}
use Rattle.lu_recorded.specs.Reasons.{IsReason, recorded_text}
use Rattle.lu_cli.specs.declared.refusal.Refusal.{Refusal}
use Rattle.lu_cli.specs.Refusals.{Answered}
use Rattle.lu_cli.specs.Outcomes.{Answer}
use Rattle.lu_cli.specs.Reading.{ToRecorded, ToParts, ToTexts, ToGiven}
use Rattle.lu_cli.specs.Runs.{IsAnswerToRuns, all_witnessed, run_parts, unwitnessed}
use Rattle.lu_cli.specs.Serial.{AreSerial, IsOffenceReported}

-- history n is shown, and why it has not its witnesses
abbrev pub IsShown : List (List SerialOp) → Component → Matrix → ℕ → Recorded → Answer → Type 0
IsShown members c m n recorded answer =
    (reason : List ℕ) × IsReason (IsMember members) c m recorded reason
    × (answer ≡ unwitnessed n (recorded_text recorded) reason)

-- all have their witnesses; or the first that has not is shown
abbrev pub Tells : List (List SerialOp) → Component → Matrix → List Recorded → Option ℕ → Answer
    → Type 0
Tells members c m all None answer = answer ≡ all_witnessed (length all)
Tells members c m all (Some n) answer =
    (recorded : Recorded) × (slice_get all n ≡ Some recorded)
    × IsShown members c m n recorded answer

-- the recorded histories, judged by these serial histories
abbrev pub IsJudgedByMembers : List (List SerialOp) → Component → Matrix → List Recorded → Answer
    → Type 0
IsJudgedByMembers members c m all answer =
    (found : Option ℕ) × TellsUnwitnessed (IsMember members) all found
    × Tells members c m all found answer

-- ---- the parts of a bundle

-- the first two parts, and those after them, where there are some
abbrev pub three_parts : List Word → Option (Word × Word × List Word)
three_parts (a ∷ b ∷ c ∷ parts) = Some (a, b, c ∷ parts)
three_parts _ = None

-- the first three parts, and those after them, where there are some
abbrev pub four_parts : List Word → Option (Word × Word × Word × List Word)
four_parts (a ∷ b ∷ c ∷ d ∷ parts) = Some (a, b, c, d ∷ parts)
four_parts _ = None

-- parts of a slice, as what they are
abbrev pub seen_as_three : Option (Bor Word × Bor Word × Bor (List (Bor Word)))
    → Option (Word × Word × List Word)
seen_as_three parts = option_map (λ p. (p.0.now, p.1.now, texts p.2.now)) parts

abbrev pub seen_as_four : Option (Bor Word × Bor Word × Bor Word × Bor (List (Bor Word)))
    → Option (Word × Word × Word × List Word)
seen_as_four parts = option_map (λ p. (p.0.now, p.1.now, p.2.now, texts p.3.now)) parts

-- ---- by the serial runs

-- where there is no serial offence, judged by all beginnings of the serial histories; else the
-- report of the least offence
abbrev pub IsJudgedSerially : Component → Matrix → Bounds → List Recorded → Answer → Type 0
IsJudgedSerially c m limits all answer =
    ((s : State) × (histories : List (List SerialOp)) × (members : List (List SerialOp))
    × IsStart c m s × NoOffence s limits.serial × AreSerial s histories
    × IsClosureOf histories members × IsJudgedByMembers members c m all answer)
    ⊎ IsOffenceReported c m limits answer

-- the recorded histories are read, and then judged by the serial runs
abbrev pub IsJudgedTexts : Component → Matrix → Bounds → List (List ℕ) → Answer → Type 0
IsJudgedTexts c matrix limits texts = ToRecorded matrix texts (IsJudgedSerially c matrix limits)

abbrev pub IsAnswerToHistories : Bounds → List (List ℕ) → Answer → Type 0
IsAnswerToHistories limits parts =
    ToParts (three_parts parts) (λ p. ToTexts p.0 p.1 (λ c m. IsJudgedTexts c m limits p.2))

-- the answer to runs, where the bundle has some, and else to recorded histories
abbrev pub IsAnswerToWitness : Bounds → List (List ℕ) → Answer → Type 0
IsAnswerToWitness limits parts answer =
    MatchOption (run_parts parts) (IsAnswerToHistories limits parts answer)
    (λ found. IsAnswerToRuns limits found answer)

-- ---- by a specification

-- the specification is read first, and then the recorded histories, which are judged by it
abbrev pub IsJudgedAgainstTexts : Component → Matrix → Marks → List ℕ → List (List ℕ) → Answer
    → Type 0
IsJudgedAgainstTexts c matrix marks spec texts =
    ToGiven marks matrix spec (λ members. ToRecorded matrix texts (IsJudgedByMembers members c matrix))

abbrev pub IsAnswerToWitnessAgainst : Marks → List (List ℕ) → Answer → Type 0
IsAnswerToWitnessAgainst marks parts =
    ToParts (four_parts parts)
    (λ p. ToTexts p.0 p.1 (λ c m. IsJudgedAgainstTexts c m marks p.2 p.3))

-- ---- in memory, unless it ran out

abbrev pub ShowsFirst : {E : Type 0} → List (List SerialOp) → Test → ℕ → Recorded → Result Answer E
    → Type 0
ShowsFirst members test n recorded result =
    IfOk result (IsShown members test.component.now test.matrix.now n recorded)

abbrev pub JudgesBy : {E : Type 0} → List (List SerialOp) → Test → List Recorded → Result Answer E
    → Type 0
JudgesBy members test all result =
    IfOk result (IsJudgedByMembers members test.component.now test.matrix.now all)

abbrev pub JudgesSerially : {E : Type 0} → Test → Bounds → List Recorded → Result Answer E → Type 0
JudgesSerially test limits all result =
    IfOk result (IsJudgedSerially test.component.now test.matrix.now limits all)

-- that is answered, or a refusal that is
abbrev pub JudgesTexts : Test → Bounds → List (List ℕ) → Result Answer Refusal → Type 0
JudgesTexts test limits texts =
    Answered (IsJudgedTexts test.component.now test.matrix.now limits texts)

abbrev pub JudgesTextsAgainst : Test → Marks → List ℕ → List (List ℕ) → Result Answer Refusal
    → Type 0
JudgesTextsAgainst test marks spec texts =
    Answered (IsJudgedAgainstTexts test.component.now test.matrix.now marks spec texts)
