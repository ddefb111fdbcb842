use Rattle.std.proofs.Common.{sym, ◌∙◌}
use Rattle.lu_graph.proofs.Expanded.{finds_known, finds_new}
use Rattle.lu_graph.proofs.expanding.find.Goals as goal

pub returns-then-contains : goal.returns-then-contains
returns-then-contains c =
    finds_known c.args.machine.now c.args.from.now c.args.event c.args.nodes.now c.in-Some.alive c.in-Some.ensures c.in-Some-known_row.row c.in-Some-known_row.ensures (sym c.contains.ensures ∙ c.if-contains.true)

pub returns : goal.returns
returns c = finds_new c.args.machine.now c.args.from.now c.args.event c.args.nodes.now c.in-Some.alive c.in-Some.ensures c.in-Some-known_row.row c.in-Some-known_row.ensures
