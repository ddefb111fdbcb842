use Rattle.std.proofs.Common.{◌≡◌, [], take, refl, sym, ◌∙◌}
use Rattle.lu_graph.specs.declared.holding.Nodes.{Nodes}
use Rattle.lu_graph.proofs.Put.{drop_none, first_after, first_all, first_more, first_none, front_whole, nothing_left}
use Rattle.lu_graph.proofs.Stood.{at_taken}
use Rattle.lu_graph.proofs.traversal.put_next.Goals as goal

pub loop-init : goal.loop-init
loop-init c = record { rest = refl; put = first_none (take c.args.count c.args.rows.now.items) c.args.nodes.now }

pub returns-in_default-clause-put : goal.returns-in_default-clause-put
returns-in_default-clause-put c =
    let rows = c.args.rows.now.items in
    let none : c.loop.rows.items ≡ [] = nothing_left c.loop.rows.items (sym c.loop.rows.ok.0 ∙ c.in_default.ensures.cases.0) in
    first_all (take c.args.count rows) c.args.nodes.now c.loop.nodes c.loop.counter (drop_none c.loop.counter c.args.count rows (sym c.loop.invariant.rest ∙ none)) c.loop.invariant.put

pub loop-preserved : goal.loop-preserved
loop-preserved c =
    let rows = c.args.rows.now.items in
    let row = c.in-Some.row in
    let first = first_after rows c.loop.counter row c.pop_front.new.self.items (sym c.loop.invariant.rest ∙ c.in-Some.ensures.items) in
    let new : Nodes = record c.loop.nodes { rows = c.insert.new.self } in
    record {
      rest = first.1;
      put = first_more (take c.args.count rows) c.args.nodes.now c.loop.nodes new c.loop.counter row (at_taken c.args.count rows c.loop.counter c.loop-test.true ∙ first.0) refl c.in_ok-insert.ensures.keys c.loop.invariant.put;
    }

pub returns-clause-put : goal.returns-clause-put
returns-clause-put c =
    let rows = c.args.rows.now.items in
    first_all (take c.args.count rows) c.args.nodes.now c.loop.nodes c.loop.counter (front_whole c.loop.counter c.args.count rows c.loop-test.false) c.loop.invariant.put
