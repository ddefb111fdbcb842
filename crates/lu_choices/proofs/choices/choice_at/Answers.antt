use Rattle.std.proofs.Common.{arith, subst, sym}
use Rattle.lu_choices.specs.Choices.{IsChoiceIn}
use Rattle.lu_choices.proofs.Numbered.{digits_chosen, part_more, part_whole}
use Rattle.lu_choices.proofs.choices.choice_at.Goals as goal

pub loop-base-preserved : goal.loop-base-preserved
loop-base-preserved c =
    part_more c.args.bases.now c.loop-base.base-index c.from-round.result c.loop-base.round c.loop-base.rest c.args.number c.loop-base.choice.items c.push.new.self.items c.requires.bases (omega arith) c.from-round.ensures c.loop-base.invariant c.push.ensures.items

pub returns-clause-choice : goal.returns-clause-choice
returns-clause-choice c =
    let whole = part_whole c.args.bases.now c.loop-base.base-index c.loop-base.round c.loop-base.rest c.args.number c.loop-base.choice.items (omega arith) c.loop-base.invariant in
    subst (IsChoiceIn c.args.bases.now) (sym whole) (digits_chosen c.args.bases.now c.args.number c.requires.number).0

pub returns-clause-number : goal.returns-clause-number
returns-clause-number c =
    let whole = part_whole c.args.bases.now c.loop-base.base-index c.loop-base.round c.loop-base.rest c.args.number c.loop-base.choice.items (omega arith) c.loop-base.invariant in
    rw whole (digits_chosen c.args.bases.now c.args.number c.requires.number).1
