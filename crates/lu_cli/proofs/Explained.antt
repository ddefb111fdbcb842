-- Answers to schedules that are to be explained.
use Rattle.std.proofs.Common.{◌≡◌, ℕ, Bool, true, false, List, Ok, Result, inl, inr, refl, sym, subst}
use Rattle.std.proofs.lemmas.Option.{IfSome_then}
use Rattle.std.specs.Prelude.{IfSome, MatchBool}
use Rattle.lu_text.specs.declared.fault.Fault.{Fault}
use Rattle.lu_component.specs.Component.{Component}
use Rattle.lu_test.specs.declared.schedule.Move.{Move}
use Rattle.lu_test.specs.declared.schedule_fault.ScheduleFault.{ScheduleFault}
use Rattle.lu_test.specs.declared.schedule_fault.ScheduleFault.TheVariants.{Form, Number, Limit, Memory}
use Rattle.lu_test.specs.Matrix.{Matrix}
use Rattle.lu_test.specs.ScheduleText.{IsScheduleUnlessMemory, schedule_of}
use Rattle.lu_machine.specs.declared.event.Event.{Event}
use Rattle.lu_machine.specs.declared.event.Status.{Status}
use Rattle.lu_machine.specs.States.{State}
use Rattle.lu_machine.specs.Starts.{IsStart}
use Rattle.lu_machine.specs.Runs.{Leads}
use Rattle.lu_machine.specs.Schedules.{IsSchedule}
use Rattle.lu_machine.proofs.Starting.{start_same}
use Rattle.lu_report.specs.Parts.{Report}
use Rattle.lu_report.specs.declared.fault.ReportFaultKind.{ReportFaultKind}
use Rattle.lu_report.specs.Forms.{IsFault, Spells}
use Rattle.lu_replay.specs.Replays.{PlaysToStatus}
use Rattle.lu_cli.specs.declared.explanation.Target.{Target}
use Rattle.lu_cli.specs.declared.explanation.Target.TheVariants as target
use Rattle.lu_cli.specs.declared.refusal.Refusal.{Refusal}
use Rattle.lu_cli.specs.declared.refusal.Refusal.TheVariants as refusal
use Rattle.lu_cli.specs.Refusals.{refusal_answer, schedule_answer}
use Rattle.lu_cli.specs.Explain.{IsTarget, IsTargetRefusal, ToTarget, is_report}
use Rattle.lu_cli.specs.Outcomes.{Answer}
use Rattle.lu_cli.specs.Reading.{ToReport, ToSchedule}
use Rattle.lu_cli.specs.Shown.{IsTextOfSchedule, IsShownRefusal, ToShown, or_schedule}
use Rattle.lu_cli.proofs.Refuted.{report_refused}

-- what shows something is a schedule from each start
pub schedule_from : (c : Component) (m : Matrix) (u : List Move) (h : List Event) (status : Status) → PlaysToStatus c m u h status → (s : State) → IsStart c m s → IsSchedule s u
schedule_from c m u h status shows s is =
    let plays = shows.1 in
    let same = start_same c m plays.0 s plays.1 is in
    record { end = shows.0; history = h; leads = subst (λ (r : State). Leads r u shows.0 h) same plays.2; holds = tt }

schedule_refused : (read : Result (List Move) ScheduleFault) (fault : ScheduleFault) (IsAnswer : List Move → Answer → Type 0) → IsScheduleUnlessMemory fault read → IfSome (schedule_answer fault) (ToSchedule read IsAnswer)
schedule_refused read Memory IsAnswer is = tt
schedule_refused read Form IsAnswer is = rw is refl
schedule_refused read Number IsAnswer is = rw is refl
schedule_refused read Limit IsAnswer is = rw is refl

module _ (text : List ℕ) (IsAnswer : List Move → Answer → Type 0) where
  -- why a schedule or a report with one is refused is what is answered
  pub shown_refused : (refused : Refusal) → IsShownRefusal text refused → IfSome (refusal_answer refused) (ToShown text IsAnswer)
  shown_refused refused (inl (found, fault, of, is, e)) =
      subst (λ (r : Refusal). IfSome (refusal_answer r) (ToShown text IsAnswer)) (sym e)
      (IfSome_then (schedule_answer fault) {Q = ToShown text IsAnswer} (schedule_refused (or_schedule found text) fault IsAnswer is) (λ answer more. (found, of, more)))
  shown_refused refused (inr e) = subst (λ (r : Refusal). IfSome (refusal_answer r) (ToShown text IsAnswer)) (sym e) tt

  -- what is answered to the schedule that is read is the answer
  pub shown_answered : (u : List Move) → IsTextOfSchedule text u → (answer : Answer) → IsAnswer u answer → ToShown text IsAnswer answer
  shown_answered u (found, of, read) answer says = (found, of, rw read says)

module _ (text : List ℕ) (IsAnswer : Target → Answer → Type 0) where
  -- why it is refused is what is answered
  pub target_refused : (refused : Refusal) → IsTargetRefusal text refused → IfSome (refusal_answer refused) (ToTarget text IsAnswer)
  target_refused refused is = go (is_report text) is
    where
      go : (b : Bool) → MatchBool b ((fault : Fault ReportFaultKind) × IsFault text fault × (refused ≡ refusal.Report fault)) ((fault : ScheduleFault) × IsScheduleUnlessMemory fault (schedule_of text) × (refused ≡ refusal.Schedule fault))
          → IfSome (refusal_answer refused) (λ answer. MatchBool b (ToReport text (λ r. IsAnswer (target.Report r)) answer) (ToSchedule (schedule_of text) (λ u. IsAnswer (target.Schedule u)) answer))
      go true (fault, is, e) = subst (λ (r : Refusal). IfSome (refusal_answer r) (ToReport text (λ r. IsAnswer (target.Report r)))) (sym e) (report_refused text fault (λ r. IsAnswer (target.Report r)) is)
      go false (fault, is, e) = subst (λ (r : Refusal). IfSome (refusal_answer r) (ToSchedule (schedule_of text) (λ u. IsAnswer (target.Schedule u)))) (sym e) (schedule_refused (schedule_of text) fault (λ u. IsAnswer (target.Schedule u)) is)

  -- what is answered to what is read is the answer
  pub target_answered : (t : Target) → IsTarget text t → (answer : Answer) → IsAnswer t answer → ToTarget text IsAnswer answer
  target_answered t is answer says = go (is_report text) is
    where
      go : (b : Bool) → MatchBool b ((r : Report) × Spells text r × (t ≡ target.Report r)) ((u : List Move) × (schedule_of text ≡ Ok u) × (t ≡ target.Schedule u))
          → MatchBool b (ToReport text (λ r. IsAnswer (target.Report r)) answer) (ToSchedule (schedule_of text) (λ u. IsAnswer (target.Schedule u)) answer)
      go true (r, spells, e) = inl (r, spells, subst (λ (x : Target). IsAnswer x answer) e says)
      go false (u, spelled, e) = rw spelled (subst (λ (x : Target). IsAnswer x answer) e says)
