use Rattle.std.proofs.Common.{◌∙◌, subst, sym}
use Rattle.lu_spec.specs.SpecText.{IsReadAs}
use Rattle.lu_spec.proofs.given.read_given_spec.Goals as goal

pub returns-in_ok-spec-clause-read : goal.returns-in_ok-spec-clause-read
returns-in_ok-spec-clause-read c =
    let unmarked = sym c.in_ok-is_marked.ensures ∙ c.if-branch.false in
    let read = subst (IsReadAs c.args.matrix.now c.args.text.now) (sym c.of_spec.ensures) c.in_ok-spec.ensures.read in
    rw unmarked read
