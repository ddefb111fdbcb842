use Rattle.std.proofs.Common.{[], refl, sym, subst}
use Rattle.lu_graph.specs.Alive.{ArePossible}
use Rattle.lu_graph.proofs.Listed.{holds_start}
use Rattle.lu_graph.proofs.Sized.{start_sized}
use Rattle.lu_graph.proofs.exploring.search_from.Goals as goal

pub add_first-requires-clause-sized : goal.add_first-requires-clause-sized
add_first-requires-clause-sized g c = start_sized c.args.machine.now.component c.args.machine.now.matrix c.args.machine.now c.requires.starts

pub search-requires-clause-first : goal.search-requires-clause-first
search-requires-clause-first g c =
    holds_start c.args.machine.now c.args.members.now c.deref.result.now c.deref.result.now c.add_first.new.nodes refl
    (subst (ArePossible c.args.members.now []) (sym c.deref.ensures.value) c.in_ok-alive.ensures) c.in_ok-add_first.ensures
