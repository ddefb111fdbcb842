-- The codes of refusals.
use Rattle.std.specs.Prelude.{ℕ, List, codes}
use Rattle.lu_refute.specs.declared.fault.RefuteFault.{RefuteFault}
use Rattle.lu_refute.specs.declared.fault.RefuteFault.TheVariants.{NotShown, Memory}

abbrev pub refute_code_of : RefuteFault → List ℕ
refute_code_of NotShown = codes "F2"
refute_code_of Memory = codes "memory"
