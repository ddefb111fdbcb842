use Rattle.std.proofs.Common.{arith, sym, ◌∙◌, ap, subst}
use Rattle.lu_certify.specs.Looking.{IsFoundAt}
use Rattle.lu_certify.proofs.Looks.{nothing_at}
use Rattle.lu_certify.proofs.KnownCuts.{one_more, there}
use Rattle.lu_certify.proofs.known.take.Goals as goal

pub returns-clause-known : goal.returns-clause-known
returns-clause-known c = λ component m limits known.
    one_more (IsFoundAt component m limits) c.args.known.now.items c.args.number c.replace.new.dest known
    (nothing_at component m limits c.args.number c.replace.new.dest (ap (λ x. x.judged) c.replace.ensures.after ∙ c.nothing-2.ensures.judged) (ap (λ x. x.lost) c.replace.ensures.after ∙ c.nothing-2.ensures.lost))

pub returns-clause-taken : goal.returns-clause-taken
returns-clause-taken c = λ component m limits known.
    subst (IsFoundAt component m limits c.args.number) (sym c.replace.ensures.value)
    (known c.args.number c.index_mut.result.now (there c.args.known.now.items c.args.number c.index_mut.result.now (omega (arith, c.len.ensures, c.if-number-len.false, c.args.known.now.ok)) c.index_mut.ensures.value))
