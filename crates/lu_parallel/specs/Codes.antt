-- The codes of checks without a report.
use Rattle.std.specs.Prelude.{ℕ, List, codes}
use Rattle.lu_parallel.specs.declared.fault.CheckFault.{CheckFault}
use Rattle.lu_parallel.specs.declared.fault.CheckFault.TheVariants.{Memory, Worker}

abbrev pub fault_code : CheckFault → List ℕ
fault_code Memory = codes "memory"
fault_code Worker = codes "K2"
