use Rattle.lu_report.proofs.FormLines.{first_fault, no_first_fault}
use Rattle.lu_report.proofs.reader.fault_line.Goals as goal

pub returns-in-None : goal.returns-in-None
returns-in-None c = no_first_fault _ c.in_ok-faults.faults.items _ c.in_ok-faults.ensures (rw c.deref.ensures.value at c.in-None.ensures.value)

pub returns : goal.returns
returns c = λ none. first_fault _ c.in_ok-faults.faults.items c.in-Some.fault.now c.in_ok-faults.ensures (rw c.deref.ensures.value at c.in-Some.ensures.value)
