use Rattle.std.proofs.Common.{None, Some, arith}
use Rattle.std.proofs.lemmas.Bool.Decides.{Decides-eqb}
use Rattle.std.proofs.lemmas.Slice.Eq.{strip_prefix_is, strip_suffix_is}
use Rattle.lu_report.proofs.Numbers.{if_none, no_front, said, not_said}
use Rattle.lu_report.proofs.line.number_after.Goals as goal

pub returns-in_err-strip_prefix-clause-none : goal.returns-in_err-strip_prefix-clause-none
returns-in_err-strip_prefix-clause-none c =
    let none = strip_prefix_is Decides-eqb c.args.line.now c.as_bytes.result.now None c.in_err-strip_prefix.ensures.cases in
    if_none c.from_residual.result _ (λ n le e. no_front c.args.line.now c.args.front.now c.as_bytes.result.now c.as_bytes.ensures.value none n e)

pub returns-clause-none : goal.returns-clause-none
returns-clause-none c =
    let begins = strip_prefix_is Decides-eqb c.args.line.now c.as_bytes.result.now (Some c.in_ok-strip_prefix.field-0) c.in_ok-strip_prefix.ensures.cases in
    let ends = strip_suffix_is Decides-eqb c.in_ok-strip_prefix.field-0.now _ (Some c.in_ok-word.word) c.in_ok-word.ensures.cases in
    not_said c.args.line.now c.args.front.now c.as_bytes.result.now c.as_bytes.ensures.value c.in_ok-strip_prefix.field-0.now begins c.in_ok-word.word.now ends c.args.most c.number_up_to.result (omega (arith, c.ranges.most.fits)) c.number_up_to.ensures

pub returns-clause-some : goal.returns-clause-some
returns-clause-some c =
    let begins = strip_prefix_is Decides-eqb c.args.line.now c.as_bytes.result.now (Some c.in_ok-strip_prefix.field-0) c.in_ok-strip_prefix.ensures.cases in
    let ends = strip_suffix_is Decides-eqb c.in_ok-strip_prefix.field-0.now _ (Some c.in_ok-word.word) c.in_ok-word.ensures.cases in
    said c.args.line.now c.args.front.now c.as_bytes.result.now c.as_bytes.ensures.value c.in_ok-strip_prefix.field-0.now begins c.in_ok-word.word.now ends c.args.most c.number_up_to.result (omega (arith, c.ranges.most.fits)) c.number_up_to.ensures
