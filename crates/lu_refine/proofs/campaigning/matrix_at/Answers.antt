use Rattle.std.proofs.Common.{arith, ℕ, List, ap, subst, sym, ◌∙◌}
use Rattle.lu_choices.specs.Choices.{AreBases, IsChoiceIn, choice_count}
use Rattle.lu_refine.specs.ByThread.{IsRoleChoice, asked_of}
use Rattle.lu_refine.proofs.Filling.{positions}
use Rattle.lu_refine.proofs.campaigning.matrix_at.Goals as goal

pub bases_of-requires : goal.bases_of-requires
bases_of-requires c = c.requires.limits.0.few_candidates

pub choice_at-choice-requires-clause-bases : goal.choice_at-choice-requires-clause-bases
choice_at-choice-requires-clause-bases c =
    subst AreBases (sym (c.as_slice.ensures ∙ c.in_ok-bases.ensures)) (positions c.args.roles.calls c.args.roles.candidates.now c.requires.limits)

pub choice_at-choice-requires-clause-number : goal.choice_at-choice-requires-clause-number
choice_at-choice-requires-clause-number c =
    let count = ap choice_count (c.as_slice.ensures ∙ c.in_ok-bases.ensures) in
    omega (arith, count, c.requires.number)

pub fill-requires-clause-choice : goal.fill-requires-clause-choice
fill-requires-clause-choice c =
    subst (IsRoleChoice (asked_of c.args.roles)) (sym c.as_slice-2.ensures.value)
    (subst (λ (bs : List ℕ). IsChoiceIn bs c.choice_at-choice.result.items) (c.as_slice.ensures ∙ c.in_ok-bases.ensures) c.choice_at-choice.ensures.choice)
