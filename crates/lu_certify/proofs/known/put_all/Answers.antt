use Rattle.std.proofs.Common.{All, List, sym, subst}
use Rattle.std.specs.Vec.Iter.{into_iter_items}
use Rattle.lu_certify.specs.declared.looked.FoundAt.{FoundAt}
use Rattle.lu_certify.specs.Looking.{IsFoundAt}
use Rattle.lu_certify.proofs.KnownCuts.{all_first, all_rest}
use Rattle.lu_certify.proofs.known.put_all.Goals as goal

pub loop-one-init : goal.loop-one-init
loop-one-init c = λ component m limits known found.
    (known, subst (λ (x : List FoundAt). All (λ one. IsFoundAt component m limits one.number one.found) x) (sym c.into_iter-one-iterator.ensures.into_iter_gives.0) found.each)

pub loop-one-preserved : goal.loop-one-preserved
loop-one-preserved c = λ component m limits known found.
    (let was = c.loop-one.invariant component m limits known found in
    let here : FoundAt → Type 0 = λ one. IsFoundAt component m limits one.number one.found in
    let rest = into_iter_items c.next.new.self in (
      c.put.ensures component m limits was.0 (all_first here (into_iter_items c.loop-one.one-iterator) c.in-Some.one rest c.in-Some.ensures.steps.0 was.1),
      all_rest here (into_iter_items c.loop-one.one-iterator) c.in-Some.one rest c.in-Some.ensures.steps.0 was.1,
    ))

pub returns : goal.returns
returns c = λ component m limits known found. (c.loop-one.invariant component m limits known found).0
