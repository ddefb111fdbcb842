-- What a run of a report's schedule shows.
use Rattle.std.proofs.Common.{◌≡◌, ℕ, ◌≤◌, List, [], ◌∷◌, ◌++◌, length, refl, sym, ◌∙◌, ap, subst, inl, inr, append_assoc}
use Rattle.std.specs.Prelude.{Bool, false, IsTrue, ◌↔◌, Option, Some, None, IsSomeAnd}
use Rattle.std.proofs.lemmas.List.{append-nil}
use Rattle.lu_component.specs.Component.{Component}
use Rattle.lu_test.specs.declared.schedule.Move.{Move}
use Rattle.lu_test.specs.Matrix.{Matrix}
use Rattle.lu_machine.specs.declared.event.Event.{Event}
use Rattle.lu_machine.specs.declared.event.Status.{Status}
use Rattle.lu_machine.specs.declared.event.Status.TheVariants as status
use Rattle.lu_machine.specs.States.{State, progress}
use Rattle.lu_machine.specs.Starts.{IsStart}
use Rattle.lu_machine.proofs.Starting.{start_same}
use Rattle.lu_machine.specs.Runs.{Leads, with_event}
use Rattle.lu_machine.specs.Ends.{IsComplete, IsStuck, IsEnded, HasStatus}
use Rattle.lu_machine.specs.Schedules.{IsLeast, Reaches}
use Rattle.lu_machine.proofs.Ended.{status_same}
use Rattle.lu_machine.proofs.Numbers.{least_same}
use Rattle.lu_machine.proofs.Paths.{leads_same, with_event-append}
use Rattle.lu_history.specs.declared.serial.SerialOp.{SerialOp}
use Rattle.lu_history.specs.declared.serial.SerialOutcome.{SerialOutcome}
use Rattle.lu_history.specs.Histories.{IsWellFormed}
use Rattle.lu_history.specs.Standing.{Agree}
use Rattle.lu_history.proofs.Following.{start_agrees, step_agrees}
use Rattle.lu_serial_graph.specs.declared.learning.LearntGraph.{LearntGraph}
use Rattle.lu_serial_graph.specs.declared.learning.LearntGraph.TheVariants.{Set, Cut, Conflict}
use Rattle.lu_serial_graph.specs.Learning.{IsLearntGraph}
use Rattle.lu_serial.specs.Serial.{IsSerialHistory}
use Rattle.lu_serial.specs.Offences.{IsSetOf, IsOffence, IsFirstCut, IsFirstConflict}
use Rattle.lu_witness.specs.declared.judgement.Why.{Why}
use Rattle.lu_witness.specs.declared.judgement.Why.TheVariants.{Complete, Stuck}
use Rattle.lu_witness.specs.declared.judgement.Verdict.{Verdict}
use Rattle.lu_witness.specs.declared.judgement.Verdict.TheVariants.{Good, NoWitness, NoWitnessFor}
use Rattle.lu_witness.specs.Witnesses.{IsLeastWithout, IsMember, IsVerdict}
use Rattle.lu_witness.specs.Goodness.{IsGoodAt}
use Rattle.lu_witness.proofs.Endings.{complete_alone, judged_bad, judged_without}
use Rattle.lu_witness.proofs.Verdicts.{one_verdict}
use Rattle.lu_report.specs.declared.report.Finding.{Finding}
use Rattle.lu_report.specs.declared.report.Finding.TheVariants.{SerialCut, Nondeterministic, Fail, Pass}
use Rattle.lu_report.specs.declared.report.Report.{Report}
use Rattle.lu_replay.specs.Replays.{PlaysToStatus, IsInfeasibleAt}
use Rattle.lu_replay.specs.Reports.{IsFinding, IsFindingAgainst, IsReport, IsReportAgainst}
use Rattle.lu_replay.specs.Confirmed.{IsBadFor, IsConfirmed, IsConfirmedAgainst, IsShown, IsShownAgainst, IsShownWith, IsReason}
use Rattle.lu_report.specs.Parts.{IsPass}
use Rattle.lu_replay.proofs.Determined.{cut_no_conflict, conflict_same}
use Rattle.lu_replay.proofs.Playing.{replay_or_fault}
use Rattle.lu_replay.proofs.Sets.{bad_alike, bad_back, why_alike}

-- ---- the history of a run follows its state

agrees_along : (s : State) (u : List Move) (end : State) (h k : List Event) → Agree (progress s) k → Leads s u end h → Agree (progress end) (k ++ h)
agrees_along s [] end h k agree p = rw (p.0, p.1, append-nil k) agree
agrees_along s (m ∷ u) end h k agree p =
    let next = step_agrees s m p.0 p.1 k agree p.3 in
    let rest : Agree (progress end) ((k ++ with_event p.1 []) ++ p.2) = agrees_along p.0 u end p.2 (k ++ with_event p.1 []) next p.4 in
    let joined : (k ++ with_event p.1 []) ++ p.2 ≡ k ++ h =
    append_assoc k (with_event p.1 []) p.2 ∙ (ap (λ x. k ++ x) (with_event-append p.1 [] p.2) ∙ ap (λ x. k ++ x) (sym p.5)) in
    subst (Agree (progress end)) joined rest

-- ---- what was learnt is the one thing that can be

module _ {A : Type 0} (c : Component) (matrix : Matrix) (s : State) (is : IsStart c matrix s) (most : ℕ) where
  pub learnt_cut : (l : LearntGraph A) (u : List Move) → IsLearntGraph s most l → IsFirstCut s most u → l ≡ Cut u
  learnt_cut (Set graph) u x y = absurd (x.none u y.0.kind)
  learnt_cut (Cut v) u x y = ap Cut (least_same (IsOffence s most) v u x.0 y.0)
  learnt_cut (Conflict v i o) u x y = absurd (cut_no_conflict c matrix s is most u v i o y x)

  pub learnt_conflict : (l : LearntGraph A) (u : List Move) (i : ℕ) (o : SerialOutcome) → IsLearntGraph s most l → IsFirstConflict s most u i o → l ≡ Conflict u i o
  learnt_conflict (Set graph) u i o x y = absurd (x.none u y.0.kind)
  learnt_conflict (Cut v) u i o x y = absurd (cut_no_conflict c matrix s is most v u i o x y)
  learnt_conflict (Conflict v j p) u i o x y = let same = conflict_same c matrix s is most v u j i p o x y in let a = same.0 in let b = same.1 in let d = same.2 in cc

-- ---- a run and its verdict

abbrev status_of : (end : State) → IsEnded end → (status : Status) × HasStatus end status
status_of end (inl complete) = (status.Complete, complete)
status_of end (inr stuck) = (status.Stuck, stuck)

module _ (c : Component) (matrix : Matrix) (s : State) (is : IsStart c matrix s) (M : List SerialOp → Type 0) (bound : ℕ) (u : List Move) where
  -- an infeasible schedule is not bad
  pub infeasible_not_bad : (i : ℕ) (why : Why) → IsInfeasibleAt c matrix u i → IsBadFor M s bound u why → ⊥
  infeasible_not_bad i why at bad =
      let r = bad.0.1 in
      let status = status_of r.end r.holds.0 in
      replay_or_fault c matrix u r.history status.0 i (r.end, (s, is, r.leads), status.1) at

  module _ (end : Status) (h : List Event) (shows : PlaysToStatus c matrix u h end) (well : IsWellFormed h) (v : Verdict) (judged : IsVerdict M h v) where
    abbrev last : State
    last = shows.0

    same_start : shows.1.0 ≡ s
    same_start = start_same c matrix shows.1.0 s shows.1.1 is

    leads : Leads s u last h
    leads = subst (λ x. Leads x u last h) same_start shows.1.2

    agree : Agree (progress last) h
    agree = agrees_along s u last h [] (start_agrees c matrix s is) leads

    -- what holds where the schedule leads
    here : (P : State → List Event → Type 0) → Reaches s u P → P last h
    here P r =
        let same = leads_same s u r.end last r.history h r.leads leads in
        subst (P last) same.1 (subst (λ x. P x r.history) same.0 r.holds)

    pub reason_bad : (why : Why) → length u ≤ bound → IsReason end v why → IsBadFor M s bound u why
    reason_bad Complete short reason =
        let complete : IsComplete last = subst (HasStatus last) reason.0 shows.2 in
        let none : IsVerdict M h NoWitness = subst (IsVerdict M h) reason.1 judged in
        let over : IsEnded last = inl complete in (
          (short, record { end = last; history = h; leads = leads; holds = (over, (λ good. judged_bad last h agree well M over none good)) }),
          record { end = last; history = h; leads = leads; holds = complete },
        )
    reason_bad (Stuck t) short reason =
        let stuck : IsStuck last = subst (HasStatus last) reason.0 shows.2 in
        let none : IsVerdict M h (NoWitnessFor t) = subst (IsVerdict M h) reason.1 judged in
        let over : IsEnded last = inr stuck in (
          (short, record { end = last; history = h; leads = leads; holds = (over, (λ good. judged_without last h agree well M over t none good)) }),
          record { end = last; history = h; leads = leads; holds = (stuck, none) },
        )

    complete_verdict : (w : Verdict) → IsVerdict M h w → IsComplete last → (IsGoodAt M last h → ⊥) → w ≡ NoWitness
    complete_verdict Good is complete bad = absurd (bad (inl (complete, is.complete (complete_alone last h agree well complete))))
    complete_verdict NoWitness is complete bad = refl
    complete_verdict (NoWitnessFor t) is complete bad = absurd (complete_alone last h agree well complete (record { t = t; k = is.pending.0 }) is.pending.1)

    pub bad_reason : (why : Why) → IsBadFor M s bound u why → IsReason end v why
    bad_reason Complete bad =
        let complete : IsComplete last = here (λ x _. IsComplete x) bad.1 in
        let not_good = here (λ x k. IsEnded x × (IsGoodAt M x k → ⊥)) bad.0.1 in
        (status_same last end status.Complete shows.2 complete, complete_verdict v judged complete not_good.1)
    bad_reason (Stuck t) bad =
        let stuck = here (λ x k. IsStuck x × IsLeastWithout M k t) bad.1 in
        (status_same last end status.Stuck shows.2 stuck.0, one_verdict M h v (NoWitnessFor t) judged stuck.1)

-- ---- a report that is no pass is shown

finding_shown : (s : State) (bound serial : ℕ) (f : Finding) → IsFinding s bound serial f → (IsPass f → ⊥) → IsShown s bound serial f
finding_shown s bound serial (SerialCut u) is no_pass = is
finding_shown s bound serial (Nondeterministic u before earlier) is no_pass = is
finding_shown s bound serial (Fail u why) is no_pass = (is.0, (is.1.bad, is.1.why_is))
finding_shown s bound serial (Pass counts) is no_pass = no_pass tt

shown_against : (M : List SerialOp → Type 0) (s : State) (bound : ℕ) (f : Finding) → IsFindingAgainst M s bound f → (IsPass f → ⊥) → IsShownAgainst M s bound f
shown_against M s bound (SerialCut u) is no_pass = is
shown_against M s bound (Nondeterministic u before earlier) is no_pass = is
shown_against M s bound (Fail u why) is no_pass = (is.bad, is.why_is)
shown_against M s bound (Pass counts) is no_pass = no_pass tt

pub report_shown : (c : Component) (matrix : Matrix) (bound serial : ℕ) (r : Report) → IsReport c matrix bound serial r → (IsPass r.finding → ⊥) → IsConfirmed c matrix r
report_shown c matrix bound serial r is no_pass =
    let shown : IsShownWith c matrix r serial = λ s starts. finding_shown s r.bound serial r.finding (rw is.0 (is.3 s starts)) no_pass in
    (is.2, subst (λ (o : Option ℕ). IsSomeAnd o (IsShownWith c matrix r)) (sym is.1) shown)

pub report_shown_against : (M : List SerialOp → Type 0) (c : Component) (matrix : Matrix) (bound : ℕ) (r : Report) → IsReportAgainst M c matrix bound r → (IsPass r.finding → ⊥) → IsConfirmedAgainst M c matrix r
report_shown_against M c matrix bound r is no_pass = (is.2, is.1, λ s starts. shown_against M s r.bound r.finding (rw is.0 (is.3 s starts)) no_pass)

-- what is shown from the one start, with the report's bounds, is confirmed
module _ (c : Component) (matrix : Matrix) (r : Report) (bound : ℕ) (f : Finding) (answer : Bool) (b : bound ≡ r.bound) (g : f ≡ r.finding) (start : State) (first : IsStart c matrix start) where
  pub shown_from : (serial : ℕ) → IsTrue answer ↔ IsShown start bound serial f → IsTrue answer ↔ IsShownWith c matrix r serial
  shown_from serial h = (
    λ e s starts. (let same : s ≡ start = start_same c matrix s start starts first in rw (same, ← b, ← g) (h.0 e)),
    λ is. h.1 (rw (b, g) (is start first)),
  )

  pub against_from : (M : List SerialOp → Type 0) → r.local ≡ c.local → r.serial ≡ None → IsTrue answer ↔ IsShownAgainst M start bound f → IsTrue answer ↔ IsConfirmedAgainst M c matrix r
  against_from M same none h = (
    λ e. (same, none, λ s starts. (let one : s ≡ start = start_same c matrix s start starts first in rw (one, ← b, ← g) (h.0 e))),
    λ is. h.1 (rw (b, g) (is.2 start first)),
  )

module _ (c : Component) (matrix : Matrix) (r : Report) where
  pub confirmed_with : (serial : ℕ) (answer : Bool) → r.local ≡ c.local → r.serial ≡ Some serial → IsTrue answer ↔ IsShownWith c matrix r serial → IsTrue answer ↔ IsConfirmed c matrix r
  confirmed_with serial answer same is h = (
    λ e. (same, subst (λ (o : Option ℕ). IsSomeAnd o (IsShownWith c matrix r)) (sym is) (h.0 e)),
    λ x. h.1 (subst (λ (o : Option ℕ). IsSomeAnd o (IsShownWith c matrix r)) is x.1),
  )

  pub none_confirmed : r.serial ≡ None → IsConfirmed c matrix r → ⊥
  none_confirmed is x = subst (λ (o : Option ℕ). IsSomeAnd o (IsShownWith c matrix r)) is x.1

-- where a set was learnt, a failure is shown by its verdict
pub set_shown : (s : State) (bound serial : ℕ) (members : List (List SerialOp)) → IsSetOf s serial members → (u : List Move) (why : Why) (answer : Bool) → IsTrue answer ↔ IsBadFor (IsMember members) s bound u why → IsTrue answer ↔ IsShown s bound serial (Fail u why)
set_shown s bound serial members set u why answer h = (
  λ e.
      let bad = h.0 e in
      (set.none, (bad_alike (IsMember members) (IsSerialHistory s) set.are s bound u bad.0, why_alike (IsMember members) (IsSerialHistory s) set.are s bound u why bad.1)),
  λ shown.
      h.1 (bad_back (IsMember members) (IsSerialHistory s) set.are s bound u shown.1.0, why_alike (IsSerialHistory s) (IsMember members) (λ q. ((set.are q).1, (set.are q).0)) s bound u why shown.1.1),
)

-- where there is an offence, no failure is shown
pub offence_shows_none : (s : State) (bound serial : ℕ) (u v : List Move) (why : Why) → IsLeast (IsOffence s serial) v → IsTrue false ↔ IsShown s bound serial (Fail u why)
offence_shows_none s bound serial u v why least = (λ e. absurd cc, λ shown. absurd (shown.0 v least.kind))
