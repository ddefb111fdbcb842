-- The codes of refused specifications.
use Rattle.std.specs.Prelude.{ℕ, List, codes}
use Rattle.lu_spec.specs.declared.fault.SpecFaultKind.{SpecFaultKind}
use Rattle.lu_spec.specs.declared.fault.SpecFaultKind.TheVariants.{Form, Foreign, Nondeterministic}

abbrev pub spec_code_of : SpecFaultKind → List ℕ
spec_code_of Form = codes "S1"
spec_code_of Foreign = codes "S2"
spec_code_of Nondeterministic = codes "S3"
