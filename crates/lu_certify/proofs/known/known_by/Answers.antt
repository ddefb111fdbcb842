use Rattle.std.proofs.Common.{Global, Vec, List, sym, subst}
use Rattle.std.specs.Vec.Iter.{into_iter_items}
use Rattle.lu_certify.specs.declared.looked.FoundAt.{FoundAt}
use Rattle.lu_certify.specs.Looking.{AreAllFoundAt, AreFoundAt}
use Rattle.lu_certify.proofs.KnownCuts.{all_first, all_rest}
use Rattle.lu_certify.proofs.known.known_by.Goals as goal

pub loop-list-init : goal.loop-list-init
loop-list-init c = λ component m limits found.
    (c.in_ok-known.ensures component m limits, subst (λ (x : List (Vec FoundAt Global)). AreAllFoundAt component m limits x) (sym c.into_iter-list-iterator.ensures.into_iter_gives.0) found)

pub loop-list-preserved : goal.loop-list-preserved
loop-list-preserved c = λ component m limits found.
    (let was = c.loop-list.invariant component m limits found in
    let each : Vec FoundAt Global → Type 0 = λ list. AreFoundAt component m limits list.items in
    let rest = into_iter_items c.next.new.self in (
      c.put_all.ensures component m limits was.0 (all_first each (into_iter_items c.loop-list.list-iterator) c.in-Some.list rest c.in-Some.ensures.steps.0 was.1),
      all_rest each (into_iter_items c.loop-list.list-iterator) c.in-Some.list rest c.in-Some.ensures.steps.0 was.1,
    ))

pub returns : goal.returns
returns c = λ component m limits found. (c.loop-list.invariant component m limits found).0
