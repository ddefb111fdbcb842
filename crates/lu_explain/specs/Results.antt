-- What a function returns, unless memory ran out.
use Rattle.std.specs.Prelude.{◌≡◌, ℕ, List, Result, IfOk, String, string_bytes}

-- a text of these bytes
abbrev pub HasText : {Z E : Type 0} → Result (String Z) E → List ℕ → Type 0
HasText result bytes = IfOk result (λ text. string_bytes text ≡ bytes)
