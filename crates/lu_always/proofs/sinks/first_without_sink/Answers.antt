use Rattle.std.proofs.Common.{subst}
use Rattle.lu_always.specs.Marking.{IsFirstUnmarked}
use Rattle.lu_always.proofs.Marked.{first_without}
use Rattle.lu_always.proofs.sinks.first_without_sink.Goals as goal

pub returns : goal.returns
returns c = first_without c.args.graph.now c.in_ok-marks.marks.items c.first_unmarked.result c.in_ok-marks.ensures (subst (λ x. IsFirstUnmarked x c.first_unmarked.result) c.as_slice.ensures.value c.first_unmarked.ensures)
