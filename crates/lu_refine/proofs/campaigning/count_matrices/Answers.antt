use Rattle.std.proofs.Common.{refl, subst, sym, ◌∙◌}
use Rattle.lu_choices.specs.Choices.{AreBases}
use Rattle.lu_refine.proofs.Filling.{positions}
use Rattle.lu_refine.proofs.campaigning.count_matrices.Goals as goal

pub count_choices-requires : goal.count_choices-requires
count_choices-requires c =
    subst AreBases (sym (c.as_slice.ensures ∙ c.in_ok-positions.ensures.positions)) (positions c.args.calls c.args.candidates.now (c.in_ok-positions.ensures.within refl))
