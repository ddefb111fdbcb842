-- The codes of texts that are no runs.
use Rattle.std.specs.Prelude.{ℕ, List, codes}
use Rattle.lu_run.specs.declared.fault.RunFaultKind.{RunFaultKind}
use Rattle.lu_run.specs.declared.fault.RunFaultKind.TheVariants.{Byte, Form, Number, Foreign, Order}

abbrev pub run_code_of : RunFaultKind → List ℕ
run_code_of Byte = codes "R1"
run_code_of Form = codes "R2"
run_code_of Number = codes "R3"
run_code_of Foreign = codes "R4"
run_code_of Order = codes "R5"
