-- A component and a matrix have one report.
use Rattle.std.proofs.Common.{◌≡◌, ℕ, ◌<◌, List, refl, sym, ◌∙◌, ap, subst, inl, inr, arith}
use Rattle.lu_component.specs.Component.{Component}
use Rattle.lu_test.specs.declared.schedule.Move.{Move}
use Rattle.lu_test.specs.Matrix.{Matrix}
use Rattle.lu_machine.specs.declared.event.Event.{Event}
use Rattle.lu_machine.specs.States.{State}
use Rattle.lu_machine.specs.Steps.{picks_of}
use Rattle.lu_machine.specs.Starts.{IsStart, Settles}
use Rattle.lu_machine.proofs.Starting.{start_there}
use Rattle.lu_machine.specs.Ends.{IsComplete, IsStuck}
use Rattle.lu_machine.proofs.Paths.{leads_same}
use Rattle.lu_machine.proofs.Numbers.{least_same, numbers_same}
use Rattle.lu_history.specs.declared.serial.SerialOutcome.{SerialOutcome}
use Rattle.lu_history.specs.declared.serial.SerialOp.{SerialOp}
use Rattle.lu_serial.specs.Serial.{HasOpen, EndsAs, IsSeriallyEnded, IsSeriallyCut, IsSerialHistory}
use Rattle.lu_serial.specs.Offences.{IsOffence, IsSerialConflict, IsFirstConflict, IsFirstCut}
use Rattle.lu_serial.proofs.Opening.{others, complete_not_open}
use Rattle.lu_serial.proofs.CallsLeft.{none_at_start}
use Rattle.lu_serial.proofs.Single.{AtMostOne, one_along, one_learnt}
use Rattle.lu_witness.specs.declared.judgement.Why.{Why}
use Rattle.lu_witness.specs.declared.judgement.Why.TheVariants.{Complete, Stuck}
use Rattle.lu_witness.specs.declared.judgement.Verdict.TheVariants.{NoWitnessFor}
use Rattle.lu_witness.specs.Witnesses.{IsLeastWithout}
use Rattle.lu_witness.specs.Goodness.{IsWhy, Any}
use Rattle.lu_witness.proofs.Verdicts.{one_verdict}
use Rattle.lu_report.specs.declared.report.Finding.{Finding}
use Rattle.lu_report.specs.declared.report.Finding.TheVariants.{SerialCut, Nondeterministic, Fail, Pass}
use Rattle.lu_report.specs.declared.report.Report.{Report}
use Rattle.lu_replay.specs.Reports.{IsFinding, IsFindingAgainst, IsReport, IsReportAgainst}
use Rattle.lu_report.proofs.OneText.{same_parts}
use Rattle.lu_replay.proofs.Sets.{good_not_bad, first_bad_same}

-- ---- a serial schedule is not both cut and ended

not_ended : (end : State) (h : List Event) (q : List SerialOp) (t : ℕ) → AtMostOne end → HasOpen end t → 0 < picks_of end t → EndsAs end h q → ⊥
not_ended end h q t one opened able (inl over) = complete_not_open end over.0 t opened
not_ended end h q t one opened able (inr over) =
    let same : picks_of end t ≡ picks_of end over.0 = ap (picks_of end) (one t over.0 opened over.1) in
    let none : picks_of end over.0 ≡ 0 = over.2 in
    omega arith

module _ (c : Component) (matrix : Matrix) (s : State) (is : IsStart c matrix s) where
  one_at_start : AtMostOne s
  one_at_start t i a b = absurd (none_at_start c matrix s is t a)

  pub cut_not_ended : (most : ℕ) (u : List Move) (q : List SerialOp) → IsSeriallyCut s most u → IsSeriallyEnded s u q → ⊥
  cut_not_ended most u q cut ended =
      let same = leads_same s u ended.end cut.end ended.history cut.history ended.leads cut.leads in
      let over : EndsAs cut.end ended.history q = subst (λ x. EndsAs x ended.history q) same.0 ended.holds in
      let open_one = cut.holds in
      not_ended cut.end ended.history q open_one.0 (one_along s u cut.end cut.history one_at_start cut.serial cut.leads) open_one.1 open_one.2 over

  pub cut_no_conflict : (most : ℕ) (u v : List Move) (i : ℕ) (o : SerialOutcome) → IsFirstCut s most u → IsFirstConflict s most v i o → ⊥
  cut_no_conflict most u v i o cut conflict =
      let same : v ≡ u = least_same (IsOffence s most) v u conflict.0 cut.0 in
      let clash : IsSerialConflict s u i o = subst (λ (x : List Move). IsSerialConflict s x i o) same conflict.1 in
      cut_not_ended most u clash.history cut.1 clash.ended

  pub conflict_same : (most : ℕ) (u v : List Move) (i j : ℕ) (o p : SerialOutcome) → IsFirstConflict s most u i o → IsFirstConflict s most v j p → (u ≡ v) × (i ≡ j) × (o ≡ p)
  conflict_same most u v i j o p x y =
      let same : v ≡ u = least_same (IsOffence s most) v u y.0 x.0 in
      let y' : IsFirstConflict s most u j p = subst (λ (w : List Move). IsFirstConflict s most w j p) same y in
      let rest = one_learnt c matrix s most u i j o p is x y' in
      (sym same, rest.0, rest.1)

  -- ---- why a schedule is bad

  not_complete : (a b : State) → a ≡ b → IsComplete a → IsStuck b → ⊥
  not_complete a b same complete stuck = stuck.0 (subst IsComplete same complete)

  pub why_same : (Set : List SerialOp → Type 0) (u : List Move) (w x : Why) → IsWhy Set s u w → IsWhy Set s u x → w ≡ x
  why_same Set u Complete Complete p q = refl
  why_same Set u Complete (Stuck i) p q = absurd (not_complete p.end q.end (leads_same s u p.end q.end p.history q.history p.leads q.leads).0 p.holds q.holds.0)
  why_same Set u (Stuck t) Complete p q = absurd (not_complete q.end p.end (leads_same s u q.end p.end q.history p.history q.leads p.leads).0 q.holds p.holds.0)
  why_same Set u (Stuck t) (Stuck i) p q =
      let same : q.history ≡ p.history = (leads_same s u q.end p.end q.history p.history q.leads p.leads).1 in
      let other : IsLeastWithout Set p.history i = subst (λ h. IsLeastWithout Set h i) same q.holds.1 in
      let verdict : NoWitnessFor t ≡ NoWitnessFor i = one_verdict Set p.history (NoWitnessFor t) (NoWitnessFor i) p.holds.1 other in
      let e : t ≡ i = cc in
      ap (λ (x : ℕ). Stuck x) e

  -- ---- what is found is one

  pub one_against : (Set : List SerialOp → Type 0) (bound : ℕ) (f g : Finding) → IsFindingAgainst Set s bound f → IsFindingAgainst Set s bound g → f ≡ g
  one_against Set bound (SerialCut u) g x y = absurd x
  one_against Set bound (Nondeterministic u i o) g x y = absurd x
  one_against Set bound (Fail u why) (SerialCut v) x y = absurd y
  one_against Set bound (Fail u why) (Nondeterministic v j p) x y = absurd y
  one_against Set bound (Fail u why) (Fail v other) x y =
      let same : v ≡ u = first_bad_same Set s bound Any u v why other x y in
      let reason : IsWhy Set s u other = subst (λ (w : List Move). IsWhy Set s w other) same y.why_is in
      let e : why ≡ other = why_same Set u why other x.why_is reason in
      cc
  one_against Set bound (Fail u why) (Pass counts) x y = absurd (good_not_bad Set s bound Any u y.good tt x.bad)
  one_against Set bound (Pass counts) (SerialCut v) x y = absurd y
  one_against Set bound (Pass counts) (Nondeterministic v j p) x y = absurd y
  one_against Set bound (Pass counts) (Fail v why) x y = absurd (good_not_bad Set s bound Any v x.good tt y.bad)
  one_against Set bound (Pass counts) (Pass others) x y = ap Pass (numbers_same s bound Any counts others x.numbers y.numbers)

  pub one_finding : (bound most : ℕ) (f g : Finding) → IsFinding s bound most f → IsFinding s bound most g → f ≡ g
  one_finding bound most (SerialCut u) (SerialCut v) x y = ap SerialCut (least_same (IsOffence s most) u v x.0 y.0)
  one_finding bound most (SerialCut u) (Nondeterministic v j p) x y = absurd (cut_no_conflict most u v j p x y)
  one_finding bound most (SerialCut u) (Fail v why) x y = absurd (y.0 u x.0.kind)
  one_finding bound most (SerialCut u) (Pass counts) x y = absurd (y.0 u x.0.kind)
  one_finding bound most (Nondeterministic u i o) (SerialCut v) x y = absurd (cut_no_conflict most v u i o y x)
  one_finding bound most (Nondeterministic u i o) (Nondeterministic v j p) x y = let same = conflict_same most u v i j o p x y in let a = same.0 in let b = same.1 in let d = same.2 in cc
  one_finding bound most (Nondeterministic u i o) (Fail v why) x y = absurd (y.0 u x.0.kind)
  one_finding bound most (Nondeterministic u i o) (Pass counts) x y = absurd (y.0 u x.0.kind)
  one_finding bound most (Fail u why) (SerialCut v) x y = absurd (x.0 v y.0.kind)
  one_finding bound most (Fail u why) (Nondeterministic v j p) x y = absurd (x.0 v y.0.kind)
  one_finding bound most (Fail u why) (Fail v other) x y = one_against (IsSerialHistory s) bound (Fail u why) (Fail v other) x.1 y.1
  one_finding bound most (Fail u why) (Pass counts) x y = one_against (IsSerialHistory s) bound (Fail u why) (Pass counts) x.1 y.1
  one_finding bound most (Pass counts) (SerialCut v) x y = absurd (x.0 v y.0.kind)
  one_finding bound most (Pass counts) (Nondeterministic v j p) x y = absurd (x.0 v y.0.kind)
  one_finding bound most (Pass counts) (Fail v why) x y = one_against (IsSerialHistory s) bound (Pass counts) (Fail v why) x.1 y.1
  one_finding bound most (Pass counts) (Pass others) x y = one_against (IsSerialHistory s) bound (Pass counts) (Pass others) x.1 y.1

pub one_report : (c : Component) (matrix : Matrix) (bound serial : ℕ) (r other : Report) → Settles c matrix → IsReport c matrix bound serial r → IsReport c matrix bound serial other → r ≡ other
one_report c matrix bound serial r other settles x y =
    let start = start_there c matrix settles in
    let s : State = start.0 in
    let found : r.finding ≡ other.finding = one_finding c matrix s start.1 bound serial r.finding other.finding (x.3 s start.1) (y.3 s start.1) in
    same_parts r other (x.0 ∙ sym y.0) (x.1 ∙ sym y.1) (x.2 ∙ sym y.2) found

pub one_report_against : (Set : List SerialOp → Type 0) (c : Component) (matrix : Matrix) (bound : ℕ) (r other : Report) → Settles c matrix → IsReportAgainst Set c matrix bound r → IsReportAgainst Set c matrix bound other → r ≡ other
one_report_against Set c matrix bound r other settles x y =
    let start = start_there c matrix settles in
    let s : State = start.0 in
    let found : r.finding ≡ other.finding = one_against c matrix s start.1 Set bound r.finding other.finding (x.3 s start.1) (y.3 s start.1) in
    same_parts r other (x.0 ∙ sym y.0) (x.1 ∙ sym y.1) (x.2 ∙ sym y.2) found
