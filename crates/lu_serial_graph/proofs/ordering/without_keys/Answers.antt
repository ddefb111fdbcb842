use Rattle.std.proofs.Common.{rules, arith, ◌≡◌, ◌∷◌, [], map}
use Rattle.std.specs.Vec.Iter.{into_iter_items}
use Rattle.lu_trie.proofs.Histories.{no_entries}
use Rattle.lu_serial_graph.specs.declared.ordering.KeyedRest.{KeyedRest}
use Rattle.lu_serial_graph.specs.Ordering.{position_of}
use Rattle.lu_serial_graph.proofs.Ordered.{unkeyed_all, unkeyed_more}
use Rattle.lu_serial_graph.proofs.ordering.without_keys.Goals as goal

pub loop-position-preserved : goal.loop-position-preserved
loop-position-preserved c =
    let rest = into_iter_items c.loop-position.position-iterator in
    let more = into_iter_items c.next.new.self in
    let x : KeyedRest = c.in-Some.field-0 in
    let is : rest ≡ x ∷ more = search rules in
    rw c.in_ok-push.ensures.items (unkeyed_more c.loop-position.rests.items x rest more (map position_of c.args.keyed.items) is c.loop-position.invariant)

pub returns : goal.returns
returns c =
    let rest = into_iter_items c.loop-position.position-iterator in
    let none : rest ≡ [] = no_entries rest (omega (arith, c.loop-position.position-iterator.rest.ok.0, c.in-None.ensures.steps.0)) in
    unkeyed_all c.loop-position.rests.items rest (map position_of c.args.keyed.items) none c.loop-position.invariant
