-- Comparisons with a trusted component.
use Rattle.std.proofs.Common.{arith, ◌≡◌, ◌<◌, ◌+◌, ℕ, zero, suc, List, [], ◌∷◌, length, take, get_or, slice_get, Option, Some, None, Result, Ok, Err, add-one, sym, subst, ◌∙◌}
use Rattle.std.specs.Prelude.{IfOk, IsSomeAnd, MatchOption}
use Rattle.std.specs.List.{AllZip}
use Rattle.std.proofs.lemmas.Slice.Zip.{AllZip-left}
use Rattle.lu_component.specs.declared.component.Op.{Op}
use Rattle.lu_component.specs.Component.{Component}
use Rattle.lu_test.specs.declared.matrix.Call.{Call}
use Rattle.lu_test.specs.Matrix.{IsCallOf, IsOf, Matrix}
use Rattle.lu_machine.specs.Starts.{AllEnd, CanRun}
use Rattle.lu_history.specs.declared.serial.SerialOp.{SerialOp}
use Rattle.lu_refine.specs.ByThread.{Asked, IsMatrixAt}
use Rattle.lu_survey.specs.declared.comparison.Comparison.TheVariants.{AllAgree, First}
use Rattle.lu_survey.specs.declared.comparison.Difference.{Difference}
use Rattle.lu_survey.specs.declared.comparison.Difference.TheVariants.{Concurrently, Serially, TrustedConflict, TrustedCut}
use Rattle.lu_survey.specs.Comparing.{AgreesAt, AreHistories, CanCompare, DiffersAt, HasSameOperations, IsAlike, IsDifferenceBy, IsDifferenceIfAny}
use Rattle.lu_survey.specs.Laws.{ComparedJoin}
use Rattle.lu_survey.proofs.InSlices.{all_both, at_of, first_later, first_stays}

-- ---- operations, place after place

alike_next : (i : ℕ) (ops others : List Op) (d e : Op) → i < length ops → length ops ≡ length others → AllZip IsAlike (take i ops) (take i others) → IsAlike (get_or ops i d) (get_or others i e) → AllZip IsAlike (take (suc i) ops) (take (suc i) others)
alike_next i [] others d e less long all alike = absurd (omega arith)
alike_next i (x ∷ xs) [] d e less long all alike = absurd (omega arith)
alike_next zero (x ∷ xs) (y ∷ ys) d e less long all alike = (alike, tt)
alike_next (suc i) (x ∷ xs) (y ∷ ys) d e less long all alike = (all.0, alike_next i xs ys d e (omega arith) (omega arith) all.1 alike)

pub alike_more : (i : ℕ) (ops others : List Op) (op other : Op) → i < length ops → length ops ≡ length others → AllZip IsAlike (take i ops) (take i others) → op ≡ get_or ops i op → other ≡ get_or others i other → IsAlike op other → AllZip IsAlike (take (i + 1) ops) (take (i + 1) others)
alike_more i ops others op other less long all is its alike =
    rw (add-one i) (alike_next i ops others op other less long all
    (subst (λ (x : Op). IsAlike x (get_or others i other)) is (subst (IsAlike op) its alike)))

-- ---- a matrix of one is one of the other

call_too : (c d : Component) → HasSameOperations c d → (call : Call) → IsCallOf c call → IsCallOf d call
call_too c d same call is =
    with_op (slice_get c.operations call.op) is (AllZip-left IsAlike c.operations d.operations same call.op)
  where
    with_other : (op : Op) (o : Option Op) → length call.args ≡ op.args → IsSomeAnd o (IsAlike op) → IsSomeAnd o (λ other. length call.args ≡ other.args)
    with_other op None size alike = alike
    with_other op (Some other) size alike = size ∙ alike.1

    with_op : (o : Option Op) → IsSomeAnd o (λ op. length call.args ≡ op.args) → MatchOption o (Unit {0}) (λ x. IsSomeAnd (slice_get d.operations call.op) (IsAlike x)) → IsSomeAnd (slice_get d.operations call.op) (λ op. length call.args ≡ op.args)
    with_op None size alike = absurd size
    with_op (Some op) size alike = with_other op (slice_get d.operations call.op) size alike

pub of_too : (c d : Component) (matrix : Matrix) → HasSameOperations c d → IsOf matrix c → IsOf matrix d
of_too c d matrix same of = (
  (λ k e h. call_too c d same _ (of.0 k e h)),
  (λ t row h k e w. call_too c d same _ (of.1 t row h k e w)),
)

pub at_runs_too : (asked : Asked) (trusted : Component) (number : ℕ) (matrix : Matrix) → CanCompare asked trusted → IsMatrixAt asked number matrix → CanRun trusted matrix
at_runs_too asked trusted number matrix can at = record {
  of = of_too asked.component trusted matrix can.operations (at_of asked number matrix can.asked_is at);
  settles = subst (λ (m : Matrix). AllEnd trusted m.setup) (sym at.fills) can.settles;
}

-- ---- one matrix

-- over the set of the trusted component
pub differs_by : (trusted c : Component) (matrix : Matrix) (bound serial : ℕ) (members : List (List SerialOp)) → AreHistories trusted matrix serial members → (found : Option Difference) → IsDifferenceBy members c matrix bound serial found → IsDifferenceIfAny trusted c matrix bound serial found
differs_by trusted c matrix bound serial members set None is = (members, set, is)
differs_by trusted c matrix bound serial members set (Some (Serially u)) is = (members, set, is)
differs_by trusted c matrix bound serial members set (Some (Concurrently r)) is = (members, set, is)
differs_by trusted c matrix bound serial members set (Some (TrustedCut u)) is = absurd is
differs_by trusted c matrix bound serial members set (Some (TrustedConflict u before earlier)) is = absurd is

pub differs_where : {E : Type 0} (trusted c : Component) (matrix : Matrix) (bound serial : ℕ) (members : List (List SerialOp)) → AreHistories trusted matrix serial members → (result : Result (Option Difference) E) → IfOk result (IsDifferenceBy members c matrix bound serial) → IfOk result (IsDifferenceIfAny trusted c matrix bound serial)
differs_where trusted c matrix bound serial members set (Ok found) is = differs_by trusted c matrix bound serial members set found is
differs_where trusted c matrix bound serial members set (Err e) is = tt

-- what is found of the matrix is found of its choice
pub found_at : (trusted : Component) (asked : Asked) (number : ℕ) (matrix : Matrix) (found : Option Difference) → (at : IsMatrixAt asked number matrix) → IsDifferenceIfAny trusted asked.component matrix asked.bound asked.serial found → MatchOption found (AgreesAt trusted asked at.choice) (λ difference. DiffersAt trusted asked difference at.choice)
found_at trusted asked number matrix None at is = subst (λ (m : Matrix). IsDifferenceIfAny trusted asked.component m asked.bound asked.serial None) at.fills is
found_at trusted asked number matrix (Some difference) at is = subst (λ (m : Matrix). IsDifferenceIfAny trusted asked.component m asked.bound asked.serial (Some difference)) at.fills is

-- ---- slices that follow one another

pub compared_join : ComparedJoin
compared_join trusted asked from middle to (First matrix difference) later low high x y =
    first_stays asked (AgreesAt trusted asked) (DiffersAt trusted asked difference) from middle to matrix high x
compared_join trusted asked from middle to (AllAgree count) (First matrix difference) low high x y =
    first_later asked (AgreesAt trusted asked) (DiffersAt trusted asked difference) from middle to count matrix low x y
compared_join trusted asked from middle to (AllAgree count) (AllAgree others) low high x y =
    all_both asked (AgreesAt trusted asked) from middle to count others low high x y
