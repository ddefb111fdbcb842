use Rattle.std.proofs.Common.{◌≡◌, false}
use Rattle.lu_graph.specs.Sections.{HasCritical, inside_count, is_inside}
use Rattle.lu_graph.proofs.guards.Inside.new.Given as goal

abbrev pub invariant-loop : goal.invariant-loop
invariant-loop l = record {
  begin : is_inside l.places.items 0 ≡ false;
  all : HasCritical l.code l.lock l.places.items;
}

abbrev pub decreases-loop : goal.decreases-loop
decreases-loop l = inside_count l.places.items
