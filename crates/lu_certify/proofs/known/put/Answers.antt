use Rattle.std.proofs.Common.{arith, slice_set, sym, ◌∙◌, ap, subst}
use Rattle.lu_certify.specs.Looking.{IsFoundAt}
use Rattle.lu_certify.proofs.Looks.{nothing_at}
use Rattle.lu_certify.proofs.KnownCuts.{one_more, there}
use Rattle.lu_certify.proofs.known.put.Goals as goal

pub returns-then-number-len : goal.returns-then-number-len
returns-then-number-len c = λ component m limits known here.
    (let items = c.args.known.now.items in
    let number = c.args.one.number in
    let nothing = c.replace-before.new.dest in
    let old = known number c.index_mut.result.now (there items number c.index_mut.result.now (omega (arith, c.len.ensures, c.if-number-len.true, c.args.known.now.ok)) c.index_mut.ensures.value) in
    let before = subst (IsFoundAt component m limits number) (sym c.replace-before.ensures.value) old in
    let without = one_more (IsFoundAt component m limits) items number nothing known
    (nothing_at component m limits number nothing (ap (λ x. x.judged) c.replace-before.ensures.after ∙ c.nothing.ensures.judged) (ap (λ x. x.lost) c.replace-before.ensures.after ∙ c.nothing.ensures.lost)) in
    one_more (IsFoundAt component m limits) (slice_set items number nothing) number c.with.result without
    (λ smaller at. c.with.ensures component limits smaller (before smaller at) (here smaller at)))
