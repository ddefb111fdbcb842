-- Cuts that fail after the bound.
use Rattle.std.proofs.Common.{arith, ◌≡◌, ◌<◌, ℕ, Bool, true, false, not, List, refl, subst, inl, inr}
use Rattle.std.proofs.lemmas.Bool.{cases_lt}
use Rattle.lu_component.specs.Component.{Component}
use Rattle.lu_test.specs.Matrix.{Matrix}
use Rattle.lu_machine.specs.States.{State}
use Rattle.lu_machine.specs.Starts.{FromEachStart, Settles}
use Rattle.lu_machine.specs.Schedules.{IsEndedWithin}
use Rattle.lu_machine.proofs.Starting.{start_there}
use Rattle.lu_history.specs.declared.serial.SerialOp.{SerialOp}
use Rattle.lu_serial.specs.Offences.{NoOffence}
use Rattle.lu_serial.specs.Serial.{IsSerialHistory}
use Rattle.lu_graph.specs.Nodes.{IsShortestBad}
use Rattle.lu_report.specs.declared.report.Finding.{Finding}
use Rattle.lu_report.specs.declared.report.Finding.TheVariants.{SerialCut, Nondeterministic, Fail, Pass}
use Rattle.lu_report.specs.declared.report.Report.{Report}
use Rattle.lu_replay.specs.Reports.{IsFinding, IsReport}
use Rattle.lu_replay.proofs.Determined.{one_report}
use Rattle.lu_certify.specs.declared.limits.Limits.{Limits}
use Rattle.lu_certify.specs.Certificates.{Fails, FailsAfter, IsClear, IsFailingReport, IsFailure, IsFullPass, IsProvedGood, IsLivelockFree}
use Rattle.lu_certify.specs.Cuts.{IsLeftOpen}
use Rattle.lu_certify.proofs.Linear.{IsWell, clear_at, good_at, never_bad, never_good, well_not_failing}

-- ---- one state

pub one_length : (Set : List SerialOp → Type 0) (s : State) (m n : ℕ) → IsShortestBad Set s m → IsShortestBad Set s n → m ≡ n
one_length Set s m n x y =
    let first = x.long in
    let second = y.long in
    elim (cases_lt m n) as (λ _. m ≡ n) [
      | inl less ↦ absurd (y.shortest x.schedule (omega (arith, first, less)) x.bad)
      | inr ge ↦ elim (cases_lt n m) as (λ _. m ≡ n) [
        | inl more ↦ absurd (x.shortest y.schedule (omega (arith, second, more)) y.bad)
        | inr le ↦ omega (arith, ge, le)
      ]
    ]

-- a schedule that ends badly has ended within its length
ended_at : (Set : List SerialOp → Type 0) (s : State) (moves : ℕ) (x : IsShortestBad Set s moves) → IsEndedWithin s moves x.schedule
ended_at Set s moves x =
    let long = x.long in
    elim x.bad.holds.0 as (λ _. IsEndedWithin s moves x.schedule) [
      | inl complete ↦ inl (omega (arith, long), record { end = x.bad.end; history = x.bad.history; leads = x.bad.leads; holds = complete })
      | inr stuck ↦ inr (omega (arith, long), record { end = x.bad.end; history = x.bad.history; leads = x.bad.leads; holds = stuck })
    ]

-- at that length the finding is a failure
fails_there : (s : State) (moves serial : ℕ) → NoOffence s serial → IsShortestBad (IsSerialHistory s) s moves → (f : Finding) → IsFinding s moves serial f → IsFailure f
fails_there s moves serial none x (SerialCut u) is = absurd (none u is.0.kind)
fails_there s moves serial none x (Nondeterministic u before earlier) is = tt
fails_there s moves serial none x (Fail u why) is = tt
fails_there s moves serial none x (Pass counts) is =
    never_good (IsSerialHistory s) s x.schedule x.bad (is.1.good x.schedule tt (ended_at (IsSerialHistory s) s moves x))

-- at a smaller bound it is none
passes_before : (s : State) (moves bound serial : ℕ) → bound < moves → NoOffence s serial → IsShortestBad (IsSerialHistory s) s moves → (f : Finding) → IsFinding s bound serial f → IsFailure f → ⊥
passes_before s moves bound serial less none x (SerialCut u) is failure = failure
passes_before s moves bound serial less none x (Nondeterministic u before earlier) is failure = none u is.0.kind
passes_before s moves bound serial less none x (Fail u why) is failure =
    let short = is.1.bad.0 in
    x.shortest u (omega (arith, short, less)) is.1.bad.1
passes_before s moves bound serial less none x (Pass counts) is failure = failure

-- ---- a cut

module _ (c : Component) (matrix : Matrix) (limits : Limits) (settles : Settles c matrix) where
  pub after_fails : (moves : ℕ) → FailsAfter c limits matrix moves → (r : Report) → IsReport c matrix moves limits.serial r → IsFailure r.finding
  after_fails moves behind r report =
      let there = start_there c matrix settles in
      let s = there.0 in
      let here = behind.2 s there.1 in
      fails_there s moves limits.serial here.0 here.2 r.finding (report.3 s there.1)

  after_passes : (moves : ℕ) → FailsAfter c limits matrix moves → (r : Report) → IsReport c matrix limits.bound limits.serial r → IsFailure r.finding → ⊥
  after_passes moves behind r report =
      let there = start_there c matrix settles in
      let s = there.0 in
      let here = behind.2 s there.1 in
      passes_before s moves limits.bound limits.serial behind.0 here.0 here.2 r.finding (report.3 s there.1)

  one_after : (m n : ℕ) → FailsAfter c limits matrix m → FailsAfter c limits matrix n → m ≡ n
  one_after m n x y =
      let there = start_there c matrix settles in
      let s = there.0 in
      one_length (IsSerialHistory s) s m n (x.2 s there.1).2 (y.2 s there.1).2

  -- a failing report is one at some bound, and a failure
  pub failing_is : (r : Report) → IsFailingReport c limits matrix r → (n : ℕ) × IsReport c matrix n limits.serial r × IsFailure r.finding
  failing_is r (inl at) = (limits.bound, at.0, at.1)
  failing_is r (inr behind) = (behind.0, behind.2, after_fails behind.0 behind.1 r behind.2)

  pub one_failing : (r q : Report) → IsFailingReport c limits matrix r → IsFailingReport c limits matrix q → r ≡ q
  one_failing r q (inl x) (inl y) = one_report c matrix limits.bound limits.serial r q settles x.0 y.0
  one_failing r q (inl x) (inr y) = absurd (after_passes y.0 y.1 r x.0 x.1)
  one_failing r q (inr x) (inl y) = absurd (after_passes x.0 x.1 q y.0 y.1)
  one_failing r q (inr x) (inr y) =
      let same : x.0 ≡ y.0 = one_after x.0 y.0 x.1 y.1 in
      one_report c matrix y.0 limits.serial r q settles (subst (λ (n : ℕ). IsReport c matrix n limits.serial r) same x.2) y.2

  -- a cut that is well does not fail
  well_never_fails : FromEachStart c matrix (λ s. IsWell s limits.serial) → Fails c limits matrix → ⊥
  well_never_fails well fails =
      elim fails.1 as (λ _. ⊥) [
        | inl at ↦ well_not_failing c matrix limits.bound limits.serial settles well (fails.0, at.0, at.1)
        | inr behind ↦
            (let there = start_there c matrix settles in
            let s = there.0 in
            let here = behind.1.2 s there.1 in
            never_bad (IsSerialHistory s) s (well s there.1).well here.2.schedule here.2.bad)
      ]

  pub clear_never_fails : IsClear c limits matrix → Fails c limits matrix → ⊥
  clear_never_fails clear = well_never_fails (clear_at c matrix limits clear)

  pub good_never_fails : IsProvedGood c limits matrix → Fails c limits matrix → ⊥
  good_never_fails proved = well_never_fails (good_at c matrix limits proved)

  -- nor does one whose report at the bounds is no failure and that is left open
  pub open_never_fails : (r : Report) → IsReport c matrix limits.bound limits.serial r → (IsFailure r.finding → ⊥) → IsLeftOpen c limits matrix → Fails c limits matrix → ⊥
  open_never_fails r report passes left fails =
      elim fails.1 as (λ _. ⊥) [
        | inl at ↦ passes (subst (λ (x : Report). IsFailure x.finding) (one_report c matrix limits.bound limits.serial fails.0 r settles at.0 report) at.1)
        | inr behind ↦ left.unfailing behind.0 behind.1
      ]

  -- nor is it clear, where its report is no full pass
  pub open_never_clear : (r : Report) → IsReport c matrix limits.bound limits.serial r → (IsFullPass r.finding → ⊥) → IsLeftOpen c limits matrix → IsClear c limits matrix → ⊥
  open_never_clear r report less left (inl has) = less (subst (λ (x : Report). IsFullPass x.finding) (one_report c matrix limits.bound limits.serial has.0 r settles has.1 report) has.2)
  open_never_clear r report less left (inr proved) = left.unproved proved.0

  -- nor is it where it is not known to be free of livelocks
  pub unknown_never_clear : (r : Report) → IsReport c matrix limits.bound limits.serial r → (IsFullPass r.finding → ⊥) → (IsLivelockFree c limits matrix → ⊥) → IsClear c limits matrix → ⊥
  unknown_never_clear r report less unfree (inl has) = less (subst (λ (x : Report). IsFullPass x.finding) (one_report c matrix limits.bound limits.serial has.0 r settles has.1 report) has.2)
  unknown_never_clear r report less unfree (inr proved) = unfree proved.1

-- it was tried first, or it is tried then
pub tried_either : (P : Type 0) (tried : Bool) → (tried ≡ true → P) → (not tried ≡ true → P) → P
tried_either P true first then = first refl
tried_either P false first then = then refl
