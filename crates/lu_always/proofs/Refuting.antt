-- A schedule that ends badly refutes each deterministic specification.
use Rattle.std.proofs.Common.{arith, ◌≡◌, Bool, true, false, ℕ, List, refl, subst, inl, inr}
use Rattle.std.specs.Prelude.{IsTrue}
use Rattle.lu_component.specs.Component.{Component}
use Rattle.lu_test.specs.declared.schedule.Move.{Move}
use Rattle.lu_test.specs.Matrix.{Matrix, cut}
use Rattle.lu_machine.specs.States.{State}
use Rattle.lu_machine.specs.Starts.{IsStart}
use Rattle.lu_machine.proofs.Starting.{other_start}
use Rattle.lu_history.specs.declared.serial.SerialOp.{SerialOp}
use Rattle.lu_serial.specs.Offences.{NoOffence}
use Rattle.lu_serial.specs.Serial.{IsSerialHistory}
use Rattle.lu_refute.specs.Laws.{IsDeterministicOf}
use Rattle.lu_refute.specs.Linearizable.{IsLinearizable, Refutes}
use Rattle.lu_serial.specs.Whole.{IsSeriallyWhole, made_calls}
use Rattle.lu_refute.proofs.Core.{HasEach}
use Rattle.lu_serial.proofs.Grounds.{seats_start}
use Rattle.lu_serial.proofs.Cuts.{start_done}
use Rattle.lu_refute.proofs.Fails.{AreFit, refutes_back}
use Rattle.lu_serial.proofs.Grounds.{Ground, ground_of, grounded, none_on, start_on}
use Rattle.lu_refute.proofs.Outside.{outside_whole, refuted, true_or_false, whole_cut}
use Rattle.lu_refute.proofs.Own.{lengths_at_start, refutes_at_cut}
use Rattle.lu_always.specs.Always.{BadServesNone}

module _ (c : Component) (matrix : Matrix) (s : State) (start : IsStart c matrix s) (spec : List SerialOp → Bool) (linear : IsLinearizable c matrix (λ q. IsTrue (spec q))) where
  abbrev ground : Ground
  ground = ground_of c s

  starts : IsStart c matrix (start_on ground matrix)
  starts = other_start c matrix matrix s start refl

  -- each serial history is in the set
  all_in : HasEach (start_on ground matrix) (λ q. IsTrue (spec q))
  all_in q z =
      elim (true_or_false (spec q)) as (λ _. IsTrue (spec q)) [
        | inl is ↦ is
        | inr out ↦
            (let run : IsSeriallyWhole (start_on ground matrix) z.0 q = outside_whole (start_on ground matrix) z.0 q z.1 in
            let lengths = made_calls run.end in
            let bad = refutes_at_cut ground matrix z.0 q run (λ p. IsTrue (spec p)) (λ is. (let e : false ≡ true = subst (λ b. b ≡ true) out is in cc)) in
            let cut_starts = other_start c matrix (cut matrix lengths) s start refl in
            absurd (refuted c matrix (cut matrix lengths) (start_on ground (cut matrix lengths)) (λ p. IsTrue (spec p)) z.0 (lengths, lengths_at_start ground matrix z.0 q run, refl) cut_starts bad linear))
      ]

  module _ (is : IsDeterministicOf matrix spec) where
    fits : AreFit (start_on ground matrix) (λ q. IsTrue (spec q))
    fits = record {
      apart = is.deterministic;
      serial = is.serial;
      room = λ q member t. (let none = start_done ground matrix t in let few = is.fits q member t in omega (arith, none, few));
    }

    against : (bound : ℕ) (u : List Move) → NoOffence (start_on ground matrix) bound → Refutes (IsSerialHistory (start_on ground matrix)) (start_on ground matrix) u → ⊥
    against bound u none bad =
        let worse = refutes_back (λ q. IsTrue (spec q)) (start_on ground matrix) bound (none_on ground matrix) (seats_start ground matrix) (λ v over. none v (inl over)) fits all_in u bad in
        refuted c matrix matrix (start_on ground matrix) (λ q. IsTrue (spec q)) u (whole_cut matrix) starts worse linear

pub bad_serves_none : BadServesNone
bad_serves_none c matrix s bound u start none bad (spec, serves) =
    let same = grounded c matrix s start in
    against c matrix s start spec serves.1 serves.0 bound u
    (subst (λ x. NoOffence x bound) same none)
    (subst (λ x. Refutes (IsSerialHistory x) x u) same bad)
