use Rattle.lu_serial_graph.proofs.Within.{adds_pair}
use Rattle.lu_serial_graph.proofs.subset.add_known.Goals as goal

pub returns : goal.returns
returns c = rw c.in_ok-insert.ensures.keys (adds_pair c.args.pair c.args.known.now.keys)
