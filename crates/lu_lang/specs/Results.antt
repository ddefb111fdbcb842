-- What a function returns of a line, unless memory ran out.
use Rattle.std.specs.Prelude.{◌≡◌, ℕ, List, Option, Result, IfOk, Vec}
use Rattle.std.specs.Option.{option_map}

-- a line of these bytes, where there is to be one
abbrev pub BuildsLine : {Z E : Type 0} → Result (Option (Vec ℕ Z)) E → Option (List ℕ) → Type 0
BuildsLine result line = IfOk result (λ built. option_map (λ l. l.items) built ≡ line)
