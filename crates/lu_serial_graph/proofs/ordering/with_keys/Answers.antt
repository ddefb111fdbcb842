use Rattle.std.proofs.Common.{rules, arith, ◌≡◌, ◌∷◌, [], refl, ◌∙◌, ap}
use Rattle.std.specs.Vec.Iter.{into_iter_items}
use Rattle.lu_machine.specs.declared.position.Position.{Position}
use Rattle.lu_machine.specs.States.{State}
use Rattle.lu_trie.proofs.Histories.{no_entries}
use Rattle.lu_serial_graph.proofs.Ordered.{keyed_all, keyed_more, next_among}
use Rattle.lu_serial_graph.proofs.ordering.with_keys.Goals as goal

pub loop-position-init : goal.loop-position-init
loop-position-init c = record {
  component = refl;
  matrix = refl;
  rests = rw c.new-keyed.ensures.items (search rules);
}

pub stand_at-requires : goal.stand_at-requires
stand_at-requires c =
    let inv = c.loop-position.invariant in
    let p : Position = c.in-Some.position in
    let rest = into_iter_items c.loop-position.position-iterator in
    let more = into_iter_items c.next.new.self in
    let is : rest ≡ p ∷ more = search rules in
    rw (inv.component, inv.matrix) (c.requires p (next_among c.loop-position.keyed.items p rest more c.args.rests.items is inv.rests))

pub loop-position-preserved : goal.loop-position-preserved
loop-position-preserved c =
    let inv = c.loop-position.invariant in
    let p : Position = c.in-Some.position in
    let rest = into_iter_items c.loop-position.position-iterator in
    let more = into_iter_items c.next.new.self in
    let is : rest ≡ p ∷ more = search rules in
    record {
      component = ap (λ (s : State). s.component) c.stand_at.ensures ∙ inv.component;
      matrix = ap (λ (s : State). s.matrix) c.stand_at.ensures ∙ inv.matrix;
      rests = rw c.in_ok-push.ensures.items (keyed_more c.loop-position.keyed.items _ p rest more c.args.rests.items refl is inv.rests);
    }

pub returns-clause-rests : goal.returns-clause-rests
returns-clause-rests c =
    let rest = into_iter_items c.loop-position.position-iterator in
    let none : rest ≡ [] = no_entries rest (omega (arith, c.loop-position.position-iterator.rest.ok.0, c.in-None.ensures.steps.0)) in
    keyed_all c.loop-position.keyed.items rest c.args.rests.items none c.loop-position.invariant.rests
