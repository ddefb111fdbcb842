-- The codes of the kinds of fault in a source's text.
use Rattle.std.specs.Prelude.{ℕ, List, codes}
use Rattle.lu_source_text.specs.declared.fault.SourceFaultKind.{SourceFaultKind}
use Rattle.lu_source_text.specs.declared.fault.SourceFaultKind.TheVariants.{Byte, Missing, Form, Number, Limit, Registers, Flow, Name}

abbrev pub code_of : SourceFaultKind → List ℕ
code_of Byte = codes "O1"
code_of Missing = codes "O7"
code_of Form = codes "O2"
code_of Number = codes "O4"
code_of Limit = codes "O5"
code_of Registers = codes "O8"
code_of Flow = codes "O6"
code_of Name = codes "O3"
