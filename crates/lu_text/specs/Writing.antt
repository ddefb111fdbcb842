-- Texts that are written a piece at a time.
use Rattle.std.specs.Prelude.{◌≡◌, ℕ, List, ◌++◌, Result, Ok, OnOk, String, string_bytes}
use Rattle.lu_text.specs.Faults.{Grammar, meaning_of}

-- where it succeeds the text grows by these bytes
abbrev pub Writes : {T E Z : Type 0} → Result T E → String Z → String Z → List ℕ → Type 0
Writes result old new bytes = OnOk result (string_bytes new ≡ string_bytes old ++ bytes)

-- the text is read as this value
abbrev pub IsTextOf : {Kind Draft Value Z : Type 0} → Grammar Kind Draft Value → Value → String Z
    → Type 0
IsTextOf g value text = meaning_of g (string_bytes text) ≡ Ok value
