-- Constants that are looked up in a map.
use Rattle.std.proofs.Common.{◌≡◌, ℕ, cond, List, [], ◌∷◌, ◌++◌, Some, refl, ap, ◌∙◌}
use Rattle.std.proofs.lemmas.Cmp.{nat_list_eq_equiv}
use Rattle.std.specs.Prelude.{map, Vec}
use Rattle.std.specs.Map.{lookup}
use Rattle.std.specs.Str.{bytes_eq}
use Rattle.lu_text.specs.Words.{Word}
use Rattle.lu_source_text.specs.Constants.{constant_from, constant_of}

-- what the map has for a name is the value of the constant of this name
pub is_value : {Z : Type 0} (entries : List (Vec ℕ Z × ℕ)) (w : Word) → lookup (λ name. bytes_eq w name.items) entries ≡ constant_from (map constant_of entries) w
is_value [] w = refl
is_value (e ∷ es) w =
    ap (λ same. cond same (Some e.1) (lookup (λ name. bytes_eq w name.items) es)) (nat_list_eq_equiv.symm w e.0.items)
    ∙ ap (cond (bytes_eq e.0.items w) (Some e.1)) (is_value es w)

-- one entry more is one constant more
pub is_last : {Z : Type 0} (entries : List (Vec ℕ Z × ℕ)) (e : Vec ℕ Z × ℕ) → map constant_of (entries ++ e ∷ []) ≡ map constant_of entries ++ constant_of e ∷ []
is_last [] e = refl
is_last (x ∷ xs) e = ap (λ cs. constant_of x ∷ cs) (is_last xs e)
