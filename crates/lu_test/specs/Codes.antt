-- The codes of refused schedules and matrices.
use Rattle.std.specs.Prelude.{ℕ, List, codes}
use Rattle.lu_test.specs.declared.schedule_fault.ScheduleFault.{ScheduleFault}
use Rattle.lu_test.specs.declared.schedule_fault.ScheduleFault.TheVariants.{Form, Number, Limit, Memory}
use Rattle.lu_test.specs.declared.matrix_fault.MatrixFaultKind.{MatrixFaultKind}
use Rattle.lu_test.specs.declared.matrix_fault.MatrixFaultKind.TheVariants as matrix

abbrev pub schedule_code_of : ScheduleFault → List ℕ
schedule_code_of Form = codes "C1"
schedule_code_of Number = codes "C2"
schedule_code_of Limit = codes "C3"
schedule_code_of Memory = codes "memory"

abbrev pub matrix_code_of : MatrixFaultKind → List ℕ
matrix_code_of matrix.Byte = codes "M1"
matrix_code_of matrix.Form = codes "M2"
matrix_code_of matrix.UnknownOp = codes "M3"
matrix_code_of matrix.Arguments = codes "M4"
matrix_code_of matrix.Number = codes "M5"
matrix_code_of matrix.Limit = codes "M6"
