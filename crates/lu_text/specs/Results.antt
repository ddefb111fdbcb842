-- What a function returns, unless memory ran out.
use Rattle.std.specs.Prelude.{◌≡◌, List, Option, Result, IfOk, Vec}
use Rattle.lu_text.specs.Faults.{fault_in}

-- this value
abbrev pub Builds : {A E : Type 0} → Result A E → A → Type 0
Builds result value = IfOk result (λ built. built ≡ value)

-- a vector of these items
abbrev pub HasItems : {A Z E : Type 0} → Result (Vec A Z) E → List A → Type 0
HasItems result items = IfOk result (λ built. built.items ≡ items)

-- what is wrong with this line
abbrev pub TellsFault : {Kind A E : Type 0} → Result (Option Kind) E → Result A Kind → Type 0
TellsFault result line = IfOk result (λ fault. fault ≡ fault_in line)
