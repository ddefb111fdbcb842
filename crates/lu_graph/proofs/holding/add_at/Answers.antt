use Rattle.lu_graph.specs.declared.holding.Nodes.{Nodes}
use Rattle.lu_graph.proofs.Held.{held_more}
use Rattle.lu_graph.proofs.holding.add_at.Goals as goal

pub returns : goal.returns
returns c = λ members list alive hold knows known.
    (let new : Nodes = record { rows = c.insert.new.self; parts = c.row_at.new.parts } in
    held_more members c.args.machine.now alive c.args.likely.now.alive c.args.nodes.now new c.in_ok-row.row list c.in_ok-insert.field-0 c.in_ok-row.ensures hold knows known c.in_ok-insert.ensures.added c.in_ok-insert.ensures.keys)
