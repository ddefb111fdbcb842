-- What `witness` answers to runs.
use Rattle.std.specs.Prelude.{ℕ, ◌++◌, codes, List, [], ◌∷◌, ◌≡◌, IfOk, Option, Some, None, Ok, Result, if◌then◌else◌, length, slice_get}
use Rattle.std.specs.Fmt.{decimal}
use Rattle.lu_text.specs.Faults.{IsUnlessMemory, meaning_of}
use Rattle.lu_text.specs.Words.{Word}
use Rattle.lu_component.specs.Component.{Component as AComponent}
use Rattle.lu_lang.specs.Grammar.{component_grammar}
use Rattle.lu_test.specs.Matrix.{Matrix as AMatrix}
use Rattle.lu_machine.specs.declared.test.Test.{Test}
use Rattle.lu_machine.specs.Starts.{IsUnsettledAt, Settles}
use Rattle.lu_report.specs.Limits.{Bounds}
use Rattle.lu_run.specs.Beginnings.{is_run_text}
use Rattle.lu_run.specs.Setups.{setup_grammar}
use Rattle.lu_run.specs.Ordering.{HasOrder}
use Rattle.lu_run.specs.Verdicts.{IsReason, TellsFailing, failing_text}
use Rattle.lu_run.specs.declared.judging.RunVerdict.{RunVerdict}
use Rattle.lu_run.specs.declared.judging.RunVerdict.TheVariants.{Offends}
use Rattle.lu_run.specs.declared.ordering.RunOperation.{RunOperation}
use Rattle.lu_run.specs.declared.run.Run.{Run}
use Rattle.lu_cli.specs.declared.refusal.Refusal.{Refusal}
use Rattle.lu_cli.specs.declared.texts.Fault.{Fault as TextsFault}
use Rattle.lu_cli.specs.declared.texts.Fault.TheVariants.{Component, Matrix, Setup, Spec, Check}
use Rattle.lu_cli.specs.Outcomes.{Answer}
use Rattle.lu_cli.specs.Reading.{ToRuns, ToSetup}
use Rattle.lu_cli.specs.Refusals.{Answered}

-- ---- the parts of a bundle

-- the parts from the third on are runs, where that is one
abbrev pub runs_from_third : Word → Word → List Word → Option (Word × Word × List Word)
runs_from_third a b [] = None
runs_from_third a b (c ∷ parts) = if is_run_text c then Some (a, b, c ∷ parts) else None

-- The component, the setup and the runs of a bundle: the parts from the second on are runs, where that
-- is one, and then the setup is empty; else those from the third on, where that is one.
abbrev pub run_parts : List Word → Option (Word × Word × List Word)
run_parts (a ∷ b ∷ parts) =
    if is_run_text b then Some (a, [], b ∷ parts) else runs_from_third a b parts
run_parts _ = None

-- ---- answers

-- this many runs pass, or histories have their witnesses
abbrev pub all_witnessed : ℕ → Answer
all_witnessed count =
    record { text = codes "witness pass " ++ decimal count ++ codes "\n"; status = 0 }

-- run or history n does not pass: its text, and why
abbrev pub unwitnessed : ℕ → List ℕ → List ℕ → Answer
unwitnessed n text reason = record {
  text = codes "witness fail " ++ decimal n ++ codes "\n---\n" ++ text ++ codes "---\n" ++ reason;
  status = 1;
}

-- run n is not decided, since a serial run offends
abbrev pub undecided : ℕ → List ℕ → Answer
undecided n reason = record {
  text = codes "witness undecided " ++ decimal n ++ codes "\n---\n" ++ reason;
  status = 3;
}

-- run n, which has this verdict, does not pass, for this reason
abbrev pub run_shown : AComponent → ℕ → Run → RunVerdict → List ℕ → Answer
run_shown c n run (Offends t call) reason = undecided n reason
run_shown c n run verdict reason = unwitnessed n (failing_text c run verdict) reason

-- why the run does not pass; with the order of a linearization of the events before, if it is known
abbrev pub IsReasonFor : AComponent → AMatrix → ℕ → Run → RunVerdict → List ℕ → Type 0
IsReasonFor c m bound run verdict reason =
    (order : List RunOperation) × HasOrder c m run verdict order
    × IsReason c bound run verdict order reason

-- all runs pass; or the first that does not is shown, with the reason
abbrev pub TellsRuns : AComponent → AMatrix → ℕ → List Run → Option (ℕ × RunVerdict) → Answer
    → Type 0
TellsRuns c m bound runs None answer = answer ≡ all_witnessed (length runs)
TellsRuns c m bound runs (Some (n, verdict)) answer =
    (run : Run) × (slice_get runs n ≡ Some run)
    × (reason : List ℕ) × IsReasonFor c m bound run verdict reason
    × (answer ≡ run_shown c n run verdict reason)

-- the runs, judged by the serial runs after the setup of the matrix
abbrev pub AreJudged : AComponent → AMatrix → Bounds → List Run → Answer → Type 0
AreJudged c m limits runs answer =
    (found : Option (ℕ × RunVerdict)) × TellsFailing c m limits.serial runs found
    × TellsRuns c m limits.serial runs found answer

-- the runs are read, and then judged
abbrev pub AreJudgedTexts : AComponent → AMatrix → Bounds → List Word → Answer → Type 0
AreJudgedTexts c m limits texts = ToRuns c texts (AreJudged c m limits)

-- the answer to a component, a setup and runs
abbrev pub IsAnswerToRuns : Bounds → Word × Word × List Word → Answer → Type 0
IsAnswerToRuns limits parts =
    ToSetup parts.0 parts.1 (λ c m. AreJudgedTexts c m limits parts.2)

-- ---- in memory, unless it ran out

-- the text is that of the setup of the matrix m, which settles
abbrev pub IsSettledSetup : AComponent → Word → AMatrix → Type 0
IsSettledSetup c text m = (meaning_of (setup_grammar c) text ≡ Ok m) × Settles c m

-- the fault of the setup's text; or the number of its first call that does not end
abbrev pub IsFaultOfSetup : AComponent → Word → TextsFault → Type 0
IsFaultOfSetup c text (Component fault) = ⊥
IsFaultOfSetup c text (Matrix fault) = IsUnlessMemory fault (meaning_of (setup_grammar c) text)
IsFaultOfSetup c text (Setup k) =
    (m : AMatrix) × (meaning_of (setup_grammar c) text ≡ Ok m) × IsUnsettledAt c m k
IsFaultOfSetup c text (Spec fault) = ⊥
IsFaultOfSetup c text (Check fault) = ⊥

-- the texts are those of the component c and of the setup of the matrix m, which settles
abbrev pub AreSettledTexts : Word → Word → AComponent → AMatrix → Type 0
AreSettledTexts component setup c m =
    (meaning_of component_grammar component ≡ Ok c) × IsSettledSetup c setup m

-- the fault of the first of the two texts that has one
abbrev pub IsFaultOfCase : Word → Word → TextsFault → Type 0
IsFaultOfCase component setup (Component fault) =
    IsUnlessMemory fault (meaning_of component_grammar component)
IsFaultOfCase component setup fault =
    (c : AComponent) × (meaning_of component_grammar component ≡ Ok c)
    × IsFaultOfSetup c setup fault

abbrev pub ShowsRun : {E : Type 0} → AComponent → ℕ → Run → RunVerdict → List ℕ
    → Result Answer E → Type 0
ShowsRun c n run verdict reason result =
    IfOk result (λ answer. answer ≡ run_shown c n run verdict reason)

-- the same, of a test
abbrev pub HasReason : Test → ℕ → Run → RunVerdict → List ℕ → Type 0
HasReason test bound run verdict reason =
    IsReasonFor test.component.now test.matrix.now bound run verdict reason

abbrev pub JudgesRuns : {E : Type 0} → Test → Bounds → List Run → Result Answer E → Type 0
JudgesRuns test limits runs result =
    IfOk result (AreJudged test.component.now test.matrix.now limits runs)

-- that is answered, or a refusal that is
abbrev pub JudgesRunTexts : Test → Bounds → List Word → Result Answer Refusal → Type 0
JudgesRunTexts test limits texts =
    Answered (AreJudgedTexts test.component.now test.matrix.now limits texts)
