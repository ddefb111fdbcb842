use Rattle.std.proofs.Common.{sym, ◌∙◌}
use Rattle.lu_serial_graph.proofs.Within.{among_found, found_among}
use Rattle.lu_serial_graph.proofs.subset.is_known.Goals as goal

pub returns : goal.returns
returns c = (
  (λ known. found_among c.args.pair c.args.known.now.keys (sym c.contains.ensures ∙ known)),
  (λ among. c.contains.ensures ∙ among_found c.args.pair c.args.known.now.keys among),
)
