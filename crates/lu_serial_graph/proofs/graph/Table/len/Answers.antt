use Rattle.std.proofs.Common.{arith, [], length, ap, ◌∙◌}
use Rattle.lu_serial_graph.proofs.FlatGraphs.{length-table}
use Rattle.lu_serial_graph.proofs.graph.Table.len.Goals as goal

pub returns : goal.returns
returns g c =
    let nodes = c.self.inside.nodes in
    let long = length-table c.self.inside.links.items [] nodes.items in
    let view = ap length c.self.view_is in
    let count = c.len.ensures ∙ nodes.ok.0 in
    omega (arith, long, view, count)
