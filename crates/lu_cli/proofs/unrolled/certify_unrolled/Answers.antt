use Rattle.std.proofs.Common.{◌≡◌, inl, sym, subst}
use Rattle.std.specs.Prelude.{IfOk}
use Rattle.std.proofs.lemmas.Result.{IfOk-weaker}
use Rattle.lu_test.specs.Matrix.{Matrix}
use Rattle.lu_client.specs.Rounds.{times}
use Rattle.lu_cli.specs.declared.request.Repetition.{Repetition}
use Rattle.lu_cli.specs.declared.request.Repetition.TheVariants.{UpTo}
use Rattle.lu_cli.specs.Unrolled.{IsCertifiedUnrolled, IsVerdictOn}
use Rattle.lu_cli.proofs.unrolled.certify_unrolled.Goals as goal

pub returns-in-Forever : goal.returns-in-Forever
returns-in-Forever g c =
    let component = c.args.test.component.now in
    let matrix = c.args.test.matrix.now in
    let is = subst (λ (r : Repetition). IfOk c.certify_all.result (IsVerdictOn component matrix c.args.asked r)) c.in-Forever.is c.certify_all.ensures in
    subst (λ (r : Repetition). IfOk c.certify_all.result (λ answer. IsCertifiedUnrolled component matrix c.args.asked r answer)) (sym c.in-Forever.is) is

pub returns-in-Some : goal.returns-in-Some
returns-in-Some g c =
    let component = c.args.test.component.now in
    let matrix = c.args.test.matrix.now in
    let n = c.in-UpTo.many in
    let made : c.in-Some.matrix ≡ times n matrix = rw c.in-Some.is at c.in_ok-with_rounds-in-UpTo.ensures.made in
    let found : IfOk c.certify_all-in-Some.result (IsVerdictOn component c.in-Some.matrix c.args.asked (UpTo n)) = c.certify_all-in-Some.ensures in
    let there = subst (λ (m : Matrix). IfOk c.certify_all-in-Some.result (IsVerdictOn component m c.args.asked (UpTo n))) made found in
    subst (λ (r : Repetition). IfOk c.certify_all-in-Some.result (λ answer. IsCertifiedUnrolled component matrix c.args.asked r answer)) (sym c.in-UpTo.is)
    (IfOk-weaker c.certify_all-in-Some.result (IsVerdictOn component (times n matrix) c.args.asked (UpTo n)) (λ answer. IsCertifiedUnrolled component matrix c.args.asked (UpTo n) answer) (λ answer is. inl is) there)
