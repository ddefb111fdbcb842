-- A history as its first entry and the others, as a slice's pattern reads them.
use Rattle.std.proofs.Common.{◌≡◌, ◌-◌, ◌<◌, ◌≤◌, List, [], ◌∷◌, length, get_or, take, drop, refl, ap, sym, arith}
use Rattle.std.proofs.lemmas.List.{take_all}

pub no_entries : {X : Type 0} (h : List X) → length h < 1 → h ≡ []
no_entries [] lt = refl
no_entries (x ∷ h) lt = absurd (omega arith)

pub first_and_rest : {X : Type 0} (h : List X) (d : X) → 1 ≤ length h → h ≡ get_or h 0 d ∷ take (length h - 1) (drop 1 h)
first_and_rest [] d le = absurd (omega arith)
first_and_rest (x ∷ h) d le = ap (λ t. x ∷ t) (sym (take_all (length (x ∷ h) - 1) h (omega arith)))
