-- A failure against every deterministic set of serial histories.
use Rattle.std.proofs.Common.{◌≡◌, Bool, true, false, ℕ, List, refl, inl, inr, subst, arith}
use Rattle.std.specs.Prelude.{IsTrue, Option, Some, None, IsSomeAnd}
use Rattle.lu_component.specs.Component.{Component}
use Rattle.lu_test.specs.Matrix.{Matrix, cut}
use Rattle.lu_machine.specs.States.{State}
use Rattle.lu_machine.specs.Starts.{IsStart}
use Rattle.lu_machine.proofs.Starting.{other_start, start_there}
use Rattle.lu_history.specs.declared.serial.SerialOp.{SerialOp}
use Rattle.lu_report.specs.declared.report.Finding.{Finding}
use Rattle.lu_report.specs.declared.report.Finding.TheVariants.{SerialCut, Nondeterministic, Fail, Pass}
use Rattle.lu_replay.specs.Confirmed.{IsShown, IsShownWith}
use Rattle.lu_report.specs.Parts.{IsPass}
use Rattle.lu_replay.proofs.RunsAnew.{report_shown}
use Rattle.lu_refute.specs.Linearizable.{IsLinearizable}
use Rattle.lu_serial.specs.Whole.{IsSeriallyWhole, made_calls}
use Rattle.lu_refute.specs.Answers.{IsFailure}
use Rattle.lu_refute.specs.Laws.{FailingIsNotLinearizable, IsDeterministicOf, NoneLinearizable}
use Rattle.lu_refute.proofs.Core.{HasEach}
use Rattle.lu_serial.proofs.Grounds.{seats_start, Ground, ground_of, none_on, start_on}
use Rattle.lu_serial.proofs.Cuts.{start_done}
use Rattle.lu_refute.proofs.Fails.{AreFit, refutes_back}
use Rattle.lu_refute.proofs.Outside.{outside_whole, refuted, true_or_false, whole_cut}
use Rattle.lu_refute.proofs.Own.{lengths_at_start, refutes_at_cut}

module _ (c : Component) (matrix : Matrix) (s : State) (start : IsStart c matrix s) (spec : List SerialOp → Bool) (linear : IsLinearizable c matrix (λ q. IsTrue (spec q))) where
  abbrev ground : Ground
  ground = ground_of c s

  starts : IsStart c matrix (start_on ground matrix)
  starts = other_start c matrix matrix s start refl

  -- each serial history is in the set
  all_in : HasEach (start_on ground matrix) (λ q. IsTrue (spec q))
  all_in q z =
      elim (true_or_false (spec q)) as (λ _. IsTrue (spec q)) [
        | inl is ↦ is
        | inr out ↦
            (let run : IsSeriallyWhole (start_on ground matrix) z.0 q = outside_whole (start_on ground matrix) z.0 q z.1 in
            let lengths = made_calls run.end in
            let bad = refutes_at_cut ground matrix z.0 q run (λ p. IsTrue (spec p)) (λ is. (let e : false ≡ true = subst (λ b. b ≡ true) out is in cc)) in
            let cut_starts = other_start c matrix (cut matrix lengths) s start refl in
            absurd (refuted c matrix (cut matrix lengths) (start_on ground (cut matrix lengths)) (λ p. IsTrue (spec p)) z.0 (lengths, lengths_at_start ground matrix z.0 q run, refl) cut_starts bad linear))
      ]

  module _ (is : IsDeterministicOf matrix spec) where
    fits : AreFit (start_on ground matrix) (λ q. IsTrue (spec q))
    fits = record {
      apart = is.deterministic;
      serial = is.serial;
      room = λ q member t. (let none = start_done ground matrix t in let few = is.fits q member t in omega (arith, none, few));
    }

    against : (bound serial : ℕ) (finding : Finding) → IsShown (start_on ground matrix) bound serial finding → IsFailure finding → ⊥
    against bound serial (SerialCut u) shown failure = failure
    against bound serial (Nondeterministic u before earlier) shown failure =
        let x = shown.1 in
        is.deterministic x.history x.other before earlier (all_in x.history (u, x.ended)) (all_in x.other (x.earlier, x.earlier_ended)) x.conflict
    against bound serial (Fail u why) shown failure =
        let bad = refutes_back (λ q. IsTrue (spec q)) (start_on ground matrix) serial (none_on ground matrix) (seats_start ground matrix) (λ v over. shown.0 v (inl over)) fits all_in u shown.1.0.1 in
        refuted c matrix matrix (start_on ground matrix) (λ q. IsTrue (spec q)) u (whole_cut matrix) starts bad linear
    against bound serial (Pass counts) shown failure = failure

pub none_linearizable : NoneLinearizable
none_linearizable c matrix r spec settles shown is linear = with_bound r.serial shown.0.1
  where
    with_bound : (serial : Option ℕ) → IsSomeAnd serial (IsShownWith c matrix r) → ⊥
    with_bound None p = p
    with_bound (Some n) p =
        let start = start_there c matrix settles in
        against c matrix start.0 start.1 spec linear is r.bound n r.finding (p _ (starts c matrix start.0 start.1 spec linear)) shown.1

no_pass : (finding : Finding) → IsFailure finding → IsPass finding → ⊥
no_pass (SerialCut u) failure pass = pass
no_pass (Nondeterministic u before earlier) failure pass = pass
no_pass (Fail u why) failure pass = pass
no_pass (Pass counts) failure pass = failure

pub failing_is_not_linearizable : FailingIsNotLinearizable
failing_is_not_linearizable c matrix bound serial r spec settles is failure det linear =
    none_linearizable c matrix r spec settles (report_shown c matrix bound serial r is (no_pass r.finding failure), failure) det linear
