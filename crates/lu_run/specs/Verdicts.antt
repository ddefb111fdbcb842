-- The verdicts on several runs, and what is said of one that does not pass.
use Rattle.std.specs.Prelude.{◌≡◌, ◌≢◌, ℕ, ◌<◌, ◌==◌, ◌++◌, All, List, [], ◌∷◌, Option, Some, None, codes, if◌then◌else◌, length, slice_get, take}
use Rattle.std.specs.Fmt.{decimal}
use Rattle.lu_component.specs.Component.{Component}
use Rattle.lu_test.specs.Matrix.{Matrix}
use Rattle.lu_machine.specs.Starts.{IsStart}
use Rattle.lu_machine.specs.States.{State}
use Rattle.lu_run.specs.declared.judging.RunVerdict.{RunVerdict}
use Rattle.lu_run.specs.declared.judging.RunVerdict.TheVariants.{Passes, FailsAt, CannotBeStuck as NotStuck, Offends}
use Rattle.lu_run.specs.declared.ordering.RunOperation.{RunOperation}
use Rattle.lu_run.specs.declared.run.Run.{Run}
use Rattle.lu_run.specs.declared.run.RunEvent.{RunEvent}
use Rattle.lu_run.specs.declared.run.RunEvent.TheVariants.{Call, Return}
use Rattle.lu_history.specs.Text.{serial_outcome_text}
use Rattle.lu_history.specs.declared.serial.SerialOutcome.{SerialOutcome}
use Rattle.lu_run.specs.Endings.{end_text, line_of, order_text}
use Rattle.lu_run.specs.Judging.{IsVerdict}
use Rattle.lu_run.specs.Runs.{matrix_of}
use Rattle.lu_run.specs.RunWriting.{event_words, numbered_call, run_text}

-- the verdict on the run after the setup of the matrix
abbrev pub HasVerdict : Component → Matrix → ℕ → Run → RunVerdict → Type 0
HasVerdict c matrix bound run verdict =
    (s : State) × IsStart c (matrix_of matrix.setup run.calls.items run.events.items) s
    × IsVerdict c bound s run verdict

-- each of these runs passes
abbrev pub AllPass : Component → Matrix → ℕ → List Run → Type 0
AllPass c matrix bound runs = All (λ run. HasVerdict c matrix bound run Passes) runs

-- The run with number i, from 0, is the first that does not pass, and this is the verdict on it.
pub record IsFirstFailing (c : Component) (matrix : Matrix) (bound : ℕ) (runs : List Run) (i : ℕ)
    (verdict : RunVerdict) : Type 0 where
  pub before : AllPass c matrix bound (take i runs)
  pub run : Run
  pub at : slice_get runs i ≡ Some run
  pub fails : verdict ≢ Passes
  pub has : HasVerdict c matrix bound run verdict

-- none where all pass; else the first that does not
abbrev pub TellsFailing : Component → Matrix → ℕ → List Run → Option (ℕ × RunVerdict) → Type 0
TellsFailing c matrix bound runs None = AllPass c matrix bound runs
TellsFailing c matrix bound runs (Some (i, verdict)) =
    IsFirstFailing c matrix bound runs i verdict

-- ---- what is said

-- the number of the last call of thread t, if there is one; `found` is that of one before these
-- events
abbrev pub last_call_after : Option ℕ → ℕ → List RunEvent → Option ℕ
last_call_after found t [] = found
last_call_after found t (Call u n ∷ events) =
    last_call_after (if u == t then Some n else found) t events
last_call_after found t (Return u outcome ∷ events) = last_call_after found t events

abbrev pub last_call : ℕ → List RunEvent → Option ℕ
last_call t events = last_call_after None t events

-- the words of an event of the run, if there is one
abbrev pub words_at : Component → Run → Option RunEvent → List ℕ
words_at c run None = []
words_at c run (Some e) = event_words c.operations run.calls.items e

-- the call of the run with this number, if there is one
abbrev pub call_at : Component → Run → Option ℕ → List ℕ
call_at c run None = []
call_at c run (Some n) = numbered_call c.operations run.calls.items n

-- the event of the verdict, if it has one, is one of the run
abbrev pub NamesEventOf : Run → RunVerdict → Type 0
NamesEventOf run (FailsAt failure) = failure.event < length run.events.items
NamesEventOf run verdict = Unit {0}

-- what would go on, in place of this outcome
abbrev pub expected_words : Option SerialOutcome → List ℕ
expected_words None = codes "`, the run has no linearization, whatever the call returns\n"
expected_words (Some outcome) =
    codes "`, the run has no linearization; with `" ++ (serial_outcome_text outcome
    ++ codes "` it has one\n")

-- what is said of this line, this call of thread t, and this call of a serial run
abbrev pub lost_words : ℕ → List ℕ → Option SerialOutcome → List ℕ
lost_words line words expected =
    codes "after line " ++ (decimal line ++ (codes ", `" ++ (words ++ expected_words expected)))

abbrev pub never_stuck_words : List ℕ → ℕ → List ℕ
never_stuck_words call t =
    codes "the run is stuck, but `" ++ (call ++ (codes "` of thread " ++ (decimal t
    ++ codes " is never stuck in a serial run\n")))

abbrev pub offence_words : List ℕ → ℕ → ℕ → List ℕ
offence_words call t bound =
    codes "in a serial run of its calls, `" ++ (call ++ (codes "` of thread " ++ (decimal t
    ++ (codes " has two outcomes or takes more than " ++ (decimal bound ++ codes " moves\n")))))

-- Why the run does not pass. Lines are those of the text that is shown. The order is that of a
-- linearization of the events before the one after which there is none; empty where none is known.
abbrev pub reason_text : Component → ℕ → Run → RunVerdict → List RunOperation → List ℕ
reason_text c bound run Passes order = []
reason_text c bound run (FailsAt failure) order =
    lost_words (line_of run.events.items failure.event)
    (words_at c run (slice_get run.events.items failure.event)) failure.expected
    ++ order_text c run failure.event order
reason_text c bound run (NotStuck t) order =
    never_stuck_words (call_at c run (last_call t run.events.items)) t
reason_text c bound run (Offends t n) order = offence_words (call_at c run (Some n)) t bound

abbrev pub IsReason : Component → ℕ → Run → RunVerdict → List RunOperation → List ℕ → Type 0
IsReason c bound run verdict order text = text ≡ reason_text c bound run verdict order

-- the text of the run as far as it shows the reason: its end, up to the event after which no
-- linearization is left; or the whole run
abbrev pub failing_text : Component → Run → RunVerdict → List ℕ
failing_text c run (FailsAt failure) = end_text c run failure.event
failing_text c run verdict = run_text c run (length run.events.items)
