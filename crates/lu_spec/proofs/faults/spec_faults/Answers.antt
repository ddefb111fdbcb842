use Rattle.std.proofs.Common.{rules}
use Rattle.lu_spec.proofs.FaultLines.{of_text}
use Rattle.lu_spec.proofs.faults.spec_faults.Goals as goal

pub returns : goal.returns
returns c = of_text c.args.matrix.now c.args.text.now c.cut_line.result.0.now c.cut_line.result.1.now c.first_fault.result c.in_ok-faults.faults.items c.in_ok-faults-2.faults.items c.cut_line.ensures.line c.cut_line.ensures.whole c.first_fault.ensures (search rules) c.in_ok-faults-2.ensures
