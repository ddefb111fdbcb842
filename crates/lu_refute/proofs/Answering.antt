-- What is answered to a confirmed failure, or to confirmed nondeterminism.
use Rattle.std.proofs.Common.{◌≡◌, ℕ, List, Option, Some, None, refl, sym, ap, subst, ◌∙◌, inl, inr}
use Rattle.lu_component.specs.Component.{Component}
use Rattle.lu_test.specs.declared.schedule.Move.{Move}
use Rattle.lu_test.specs.Matrix.{Matrix}
use Rattle.lu_machine.specs.States.{State}
use Rattle.lu_machine.specs.declared.test.Test.{Test}
use Rattle.lu_machine.specs.Starts.{IsStart}
use Rattle.lu_machine.specs.Tests.{IsStartOf}
use Rattle.lu_history.specs.declared.serial.SerialOp.{SerialOp}
use Rattle.lu_serial.specs.Offences.{IsFirstOutside}
use Rattle.lu_report.specs.declared.report.Finding.{Finding}
use Rattle.lu_report.specs.declared.report.Finding.TheVariants.{SerialCut, Nondeterministic, Fail, Pass}
use Rattle.lu_replay.specs.Confirmed.{IsShown}
use Rattle.lu_spec.specs.Specs.{AreOf, IsSpec}
use Rattle.lu_refute.specs.Answers.{IsAnswerTo, IsFailure, IsOutsideAnswer}
use Rattle.lu_refute.specs.Walks.{IsScheduleOfFailure, IsOfFailure}
use Rattle.lu_refute.proofs.Outside.{conflict_outside, fail_outside}

-- where the failing schedule is good for a specification, or there is none, something is outside it
pub some_outside : (c : Component) (matrix : Matrix) (s : State) → IsStart c matrix s → (members : List (List SerialOp)) → IsSpec members → AreOf matrix members → (bound serial : ℕ) (f : Finding) → IsFailure f → IsShown s bound serial f
    → ((u : List Move) → IsOfFailure s members f u → ⊥) → IsFirstOutside s serial members None → ⊥
some_outside c matrix s is members spec of bound serial (SerialCut u) failure shown not_own none = failure
some_outside c matrix s is members spec of bound serial (Nondeterministic u before earlier) failure shown not_own none =
    let found = conflict_outside s serial members u before earlier shown spec.deterministic in
    none found.0 found.1
some_outside c matrix s is members spec of bound serial (Fail u why) failure shown not_own none =
    not_own u (refl, fail_outside c matrix s serial members u is shown.0 (spec, of) none shown.1.0.1)
some_outside c matrix s is members spec of bound serial (Pass counts) failure shown not_own none = failure

-- the failing schedule, over the whole matrix
pub own_answer : (s : State) (serial : ℕ) (members : List (List SerialOp)) (f : Finding) (u : List Move) (copy : Matrix) → IsOfFailure s members f u → copy ≡ s.matrix → IsAnswerTo s serial members f (copy, u)
own_answer s serial members (SerialCut v) u copy of same = of
own_answer s serial members (Nondeterministic v before earlier) u copy of same = absurd of
own_answer s serial members (Fail v why) u copy of same =
    let pair : (copy, u) ≡ (s.matrix, v) = ap (λ (m : Matrix). (m, u)) same ∙ ap (λ (w : List Move). (s.matrix, w)) of.0 in
    inl (of.1, pair)
own_answer s serial members (Pass counts) u copy of same = of

-- the answer from outside
pub outside_answer : (s : State) (serial : ℕ) (members : List (List SerialOp)) (f : Finding) (answer : Matrix × List Move) → IsFailure f → ((u : List Move) → IsOfFailure s members f u → ⊥) → IsOutsideAnswer s serial members answer → IsAnswerTo s serial members f answer
outside_answer s serial members (SerialCut u) answer failure not_own outside = failure
outside_answer s serial members (Nondeterministic u before earlier) answer failure not_own outside = outside
outside_answer s serial members (Fail u why) answer failure not_own outside = inr (λ refutes. not_own u (refl, refutes), outside)
outside_answer s serial members (Pass counts) answer failure not_own outside = failure

-- ---- the same, where the set and the finding are known by equations

pub none_own : (test : Test) (s : State) → IsStartOf test s → (set members : List (List SerialOp)) → set ≡ members → (f finding : Finding) → f ≡ finding → (found : Option (List Move)) → found ≡ None → IsScheduleOfFailure test set f found → (u : List Move) → IsOfFailure s members finding u → ⊥
none_own test s start set members same f finding is None none all u of =
    all s u start (subst (λ (x : Finding). IsOfFailure s set x u) (sym is) (subst (λ (x : List (List SerialOp)). IsOfFailure s x finding u) (sym same) of))
none_own test s start set members same f finding is (Some v) none all u of = absurd cc

pub own_found : (test : Test) (s : State) → IsStartOf test s → (set members : List (List SerialOp)) → set ≡ members → (f finding : Finding) → f ≡ finding → (found : Option (List Move)) (u : List Move) → found ≡ Some u → IsScheduleOfFailure test set f found → IsOfFailure s members finding u
own_found test s start set members same f finding is None u some of = absurd cc
own_found test s start set members same f finding is (Some v) u some of =
    let e : v ≡ u = cc in
    subst (IsOfFailure s members finding) e (subst (λ (x : Finding). IsOfFailure s members x v) is (subst (λ (x : List (List SerialOp)). IsOfFailure s x f v) same (of s start)))
