use Rattle.std.proofs.Common.{inl, subst}
use Rattle.std.proofs.lemmas.Option.{IfSome_then}
use Rattle.std.proofs.lemmas.Result.{err_from_is_err_and}
use Rattle.lu_spec.specs.Codes.{spec_code_of}
use Rattle.lu_cli.specs.declared.explanation.Presentation.TheVariants.{Words}
use Rattle.lu_cli.specs.Explanation.{IsExplainedTarget}
use Rattle.lu_cli.specs.Failing.{in_words}
use Rattle.lu_cli.specs.Refusals.{line_answer}
use Rattle.lu_cli.specs.Explain.{IsExplainedAgainstText}
use Rattle.lu_cli.specs.Reading.{ToGiven}
use Rattle.lu_cli.proofs.Explained.{target_answered, target_refused}
use Rattle.lu_cli.proofs.Refuted.{given_refused}
use Rattle.lu_cli.proofs.explain.explain_against.Goals as goal

pub returns-in_err-target : goal.returns-in_err-target
returns-in_err-target c =
    let p = err_from_is_err_and c.from_residual.result c.from_residual.ensures.1 in
    rw (p.1, p.2) (target_refused c.args.target.now (λ t. ToGiven c.args.marks c.args.test.matrix.now c.args.spec.now (λ members. IsExplainedTarget (in_words Words c.args.how) members c.args.test.component.now c.args.test.matrix.now t)) c.in_err-target.field-0.0 c.in_err-target.ensures.refused)

pub returns-in_err-specification : goal.returns-in_err-specification
returns-in_err-specification c =
    let p = err_from_is_err_and c.from_residual-in_err-specification.result c.from_residual-in_err-specification.ensures.1 in
    let component = c.args.test.component.now in
    let matrix = c.args.test.matrix.now in
    let text = c.args.spec.now in
    let fault = c.in_err-specification.field-0.0 in
    let t = c.in_ok-target.target in
    let refused = given_refused c.args.marks matrix text fault (λ members. IsExplainedTarget (in_words Words c.args.how) members component matrix t) c.in_err-specification.ensures.fault in
    rw (p.1, p.2)
    (IfSome_then (line_answer spec_code_of fault) {Q = IsExplainedAgainstText c.args.how component matrix c.args.target.now c.args.marks text} refused
    (λ a is. target_answered c.args.target.now (λ x. ToGiven c.args.marks matrix text (λ members. IsExplainedTarget (in_words Words c.args.how) members component matrix x)) t c.in_ok-target.ensures.read a is))

pub returns : goal.returns
returns c =
    let component = c.args.test.component.now in
    let matrix = c.args.test.matrix.now in
    let text = c.args.spec.now in
    let t = c.in_ok-target.target in
    target_answered c.args.target.now (λ x. ToGiven c.args.marks matrix text (λ members. IsExplainedTarget (in_words Words c.args.how) members component matrix x)) t c.in_ok-target.ensures.read c.in_ok-explain.field-0
    (inl (c.in_ok-specification.specification, c.in_ok-specification.ensures.read, subst (λ members. IsExplainedTarget (in_words Words c.args.how) members component matrix t c.in_ok-explain.field-0) c.tree.ensures.set c.in_ok-explain.ensures))
