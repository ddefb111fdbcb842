use Rattle.std.proofs.Common.{◌≡◌, ◌∙◌}
use Rattle.std.proofs.lemmas.Result.{IfOk-weaker}
use Rattle.lu_test.specs.Matrix.{cut}
use Rattle.lu_certify.specs.Cuts.{IsCutAt}
use Rattle.lu_certify.proofs.CutLengths.{are_lengths, cut_there}
use Rattle.lu_certify.proofs.cuts.cut_at.Goals as goal

pub cut_to-requires : goal.cut_to-requires
cut_to-requires c =
    are_lengths c.args.matrix.now c.as_slice.result.now c.choice_at-lengths.result.items c.as_slice-2.result.now (c.as_slice.ensures.value ∙ c.length_counts-counts.ensures.counts) c.as_slice-2.ensures.value c.choice_at-lengths.ensures.choice

pub returns : goal.returns
returns c =
    IfOk-weaker c.cut_to.result (λ m. m ≡ cut c.args.matrix.now c.as_slice-2.result.now) (IsCutAt c.args.matrix.now c.args.number)
    (λ smaller is. cut_there c.args.matrix.now c.args.number c.as_slice.result.now c.choice_at-lengths.result.items c.as_slice-2.result.now smaller (c.as_slice.ensures.value ∙ c.length_counts-counts.ensures.counts) c.as_slice-2.ensures.value c.choice_at-lengths.ensures.choice c.choice_at-lengths.ensures.number is) c.cut_to.ensures
