-- What a function returns of a line's words, unless memory ran out.
use Rattle.std.specs.Prelude.{◌≡◌, List, Option, Result, IfOk, Vec}
use Rattle.std.specs.Option.{option_map}
use Rattle.lu_text.specs.Lines.{texts}
use Rattle.lu_text.specs.Words.{Word}
use denote.Ref.{Bor}

-- a vector of these words, where there are some
abbrev pub HasWords : {Z E : Type 0} → Result (Option (Vec (Bor Word) Z)) E → Option (List Word)
    → Type 0
HasWords result words = IfOk result (λ built. option_map (λ ws. texts ws.items) built ≡ words)
