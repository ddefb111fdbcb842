-- Answers to runs.
use Rattle.std.proofs.Common.{◌≡◌, ℕ, ◌<◌, ◌≤◌, true, false, List, [], ◌∷◌, length, drop, get_or, Some, None, Result, refl, arith, inl, inr}
use denote.Ref.{Bor}
use Rattle.std.specs.Prelude.{IfSome}
use Rattle.lu_text.specs.Lines.{texts}
use Rattle.lu_text.specs.Words.{Word}
use Rattle.lu_text.specs.declared.fault.Fault.{Fault}
use Rattle.lu_text.specs.declared.fault.Fault.TheVariants.{At, Memory}
use Rattle.lu_component.specs.Component.{Component}
use Rattle.lu_test.specs.Matrix.{Matrix}
use Rattle.lu_run.specs.Beginnings.{is_run_text}
use Rattle.lu_run.specs.Bundled.{IsFirstRefused}
use Rattle.lu_run.specs.declared.bundled.RunPartFault.{RunPartFault}
use Rattle.lu_run.specs.declared.fault.RunFaultKind.{RunFaultKind}
use Rattle.lu_run.specs.declared.judging.RunVerdict.{RunVerdict}
use Rattle.lu_run.specs.declared.judging.RunVerdict.TheVariants.{Passes, FailsAt, CannotBeStuck as NotStuck, Offends}
use Rattle.lu_run.specs.declared.run.Run.{Run}
use Rattle.lu_run.specs.Judging.{IsVerdict}
use Rattle.lu_run.specs.Verdicts.{NamesEventOf}
use Rattle.lu_machine.specs.States.{State}
use Rattle.lu_cli.specs.declared.refusal.Refusal.{Refusal}
use Rattle.lu_cli.specs.declared.texts.Fault.{Fault as TextsFault}
use Rattle.lu_cli.specs.declared.texts.Fault.TheVariants as variant
use Rattle.lu_cli.specs.Outcomes.{Answer}
use Rattle.lu_cli.specs.Reading.{ToRuns, ToSetup}
use Rattle.lu_cli.specs.Refusals.{Answered, run_answer, texts_answer}
use Rattle.lu_cli.specs.Runs.{AreSettledTexts, IsFaultOfCase, run_parts}
use Rattle.lu_cli.proofs.Refuted.{answered_more}

-- ---- refusals

runs_refused_by : (c : Component) (texts : List (List ℕ)) (i : ℕ) (fault : Fault RunFaultKind) (IsAnswer : List Run → Answer → Type 0) → IsFirstRefused c texts (record { number = i; fault = fault }) → IfSome (run_answer i fault) (ToRuns c texts IsAnswer)
runs_refused_by c texts i (At kind n) IsAnswer is = inr (i, kind, n, is, refl)
runs_refused_by c texts i Memory IsAnswer is = tt

-- the first text that is refused is what is said of them
pub runs_refused : (c : Component) (texts : List (List ℕ)) (fault : RunPartFault) (IsAnswer : List Run → Answer → Type 0) → IsFirstRefused c texts fault → IfSome (run_answer fault.number fault.fault) (ToRuns c texts IsAnswer)
runs_refused c texts fault IsAnswer is = runs_refused_by c texts fault.number fault.fault IsAnswer is

-- what is said of the answer to a component and a setup is said of that to their texts
pub setup_answered : (component setup : Word) (c : Component) (m : Matrix) (IsAnswer : Component → Matrix → Answer → Type 0) → AreSettledTexts component setup c m → (result : Result Answer Refusal) → Answered (IsAnswer c m) result → Answered (ToSetup component setup IsAnswer) result
setup_answered component setup c m IsAnswer are result is =
    answered_more (IsAnswer c m) (ToSetup component setup IsAnswer) (λ a h. rw (are.0, are.1.0) (inl (are.1.1, h))) result is

-- the fault of the texts is what is said of them
pub setup_refused : (component setup : Word) (fault : TextsFault) (IsAnswer : Component → Matrix → Answer → Type 0) → IsFaultOfCase component setup fault → IfSome (texts_answer fault) (ToSetup component setup IsAnswer)
setup_refused component setup (variant.Component (At kind n)) IsAnswer is = rw is refl
setup_refused component setup (variant.Component Memory) IsAnswer is = tt
setup_refused component setup (variant.Matrix (At kind n)) IsAnswer is = rw (is.1, is.2) refl
setup_refused component setup (variant.Matrix Memory) IsAnswer is = tt
setup_refused component setup (variant.Setup k) IsAnswer (c, is_c, (m, is_m, stays)) = rw (is_c, is_m) (inr (k, stays, refl))
setup_refused component setup (variant.Spec fault) IsAnswer is = absurd is.2
setup_refused component setup (variant.Check fault) IsAnswer is = absurd is.2

-- ---- parts

pub too_few : (parts : List (Bor Word)) → length parts < 2 → None ≡ run_parts (texts parts)
too_few [] h = refl
too_few (a ∷ []) h = refl
too_few (a ∷ b ∷ parts) h = absurd (omega arith)

pub from_second : (parts : List (Bor Word)) (d : Bor Word) → 2 ≤ length parts → is_run_text (get_or parts 1 d).now ≡ true → Some ((get_or parts 0 d).now, [], texts (drop 1 parts)) ≡ run_parts (texts parts)
from_second [] d h is = absurd (omega arith)
from_second (a ∷ []) d h is = absurd (omega arith)
from_second (a ∷ b ∷ parts) d h is = rw is refl

pub two_alone : (parts : List (Bor Word)) (d : Bor Word) → 2 ≤ length parts → length parts < 3 → is_run_text (get_or parts 1 d).now ≡ false → None ≡ run_parts (texts parts)
two_alone [] d h few isnt = absurd (omega arith)
two_alone (a ∷ []) d h few isnt = absurd (omega arith)
two_alone (a ∷ b ∷ []) d h few isnt = rw isnt refl
two_alone (a ∷ b ∷ c ∷ parts) d h few isnt = absurd (omega arith)

pub from_third : (parts : List (Bor Word)) (d : Bor Word) → 3 ≤ length parts → is_run_text (get_or parts 1 d).now ≡ false → is_run_text (get_or parts 2 d).now ≡ true → Some ((get_or parts 0 d).now, (get_or parts 1 d).now, texts (drop 2 parts)) ≡ run_parts (texts parts)
from_third [] d h isnt is = absurd (omega arith)
from_third (a ∷ []) d h isnt is = absurd (omega arith)
from_third (a ∷ b ∷ []) d h isnt is = absurd (omega arith)
from_third (a ∷ b ∷ c ∷ parts) d h isnt is = rw (isnt, is) refl

pub no_runs : (parts : List (Bor Word)) (d : Bor Word) → 3 ≤ length parts → is_run_text (get_or parts 1 d).now ≡ false → is_run_text (get_or parts 2 d).now ≡ false → None ≡ run_parts (texts parts)
no_runs [] d h isnt also = absurd (omega arith)
no_runs (a ∷ []) d h isnt also = absurd (omega arith)
no_runs (a ∷ b ∷ []) d h isnt also = absurd (omega arith)
no_runs (a ∷ b ∷ c ∷ parts) d h isnt also = rw (isnt, also) refl

-- the event of a verdict is one of the run
pub names_event : (c : Component) (bound : ℕ) (s : State) (run : Run) (verdict : RunVerdict) → IsVerdict c bound s run verdict → NamesEventOf run verdict
names_event c bound s run Passes is = tt
names_event c bound s run (FailsAt failure) is = is.0.within
names_event c bound s run (NotStuck t) is = tt
names_event c bound s run (Offends t n) is = tt
