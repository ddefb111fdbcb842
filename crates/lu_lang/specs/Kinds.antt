-- The kinds of fault in a component's text: their codes, and the order in which they are looked
-- for.
use Rattle.std.specs.Prelude.{ℕ, List, codes}
use Rattle.lu_lang.specs.declared.fault.LangFaultKind.{LangFaultKind}
use Rattle.lu_lang.specs.declared.fault.LangFaultKind.TheVariants.{Byte, Missing, Form, Number, Limit, Flow, Name}

abbrev pub code_of : LangFaultKind → List ℕ
code_of Byte = codes "L1"
code_of Missing = codes "L7"
code_of Form = codes "L2"
code_of Number = codes "L4"
code_of Limit = codes "L5"
code_of Flow = codes "L6"
code_of Name = codes "L3"

-- where a kind stands in the order in which faults are looked for
abbrev pub rank : LangFaultKind → ℕ
rank Byte = 0
rank Missing = 1
rank Form = 2
rank Number = 3
rank Limit = 4
rank Flow = 5
rank Name = 6
