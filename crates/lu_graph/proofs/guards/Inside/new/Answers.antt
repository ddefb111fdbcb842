use Rattle.lu_graph.proofs.Critical.{begin_still}
use Rattle.lu_graph.proofs.guards.Inside.new.Goals as goal

pub loop-preserved : goal.loop-preserved
loop-preserved c = record {
  begin = begin_still c.loop.places.items c.go_through.new.places.items c.go_through.ensures.round.no_more c.loop.invariant.begin;
  all = c.go_through.ensures.round.has c.loop.invariant.all;
}

pub returns-clause-all : goal.returns-clause-all
returns-clause-all c = c.go_through.ensures.round.has c.loop.invariant.all
