-- The number of a declared array, as the last of what an instruction reads.
use Rattle.std.proofs.Common.{◌≡◌, ℕ, Bool, true, false, [], ◌∷◌, refl}
use Rattle.std.specs.Prelude.{not, is_some}
use Rattle.std.specs.Result.{result_map_both}
use Rattle.lu_text.specs.Names.{is_long}
use Rattle.lu_text.specs.Words.{Word}
use Rattle.lu_text.specs.Faults.{says}
use Rattle.lu_lang.specs.declared.fault.LangFaultKind.TheVariants.{Limit, Name}
use Rattle.lu_lang.specs.Draft.{ComponentDraft}
use Rattle.lu_lang.specs.Grammar.{found_array, array_number, declared_array}

-- with what is made of the number, the same faults
pub with_array : {A : Type 0} (f : ℕ → A) (d : ComponentDraft) (name : Word) → says ((is_long name, Limit) ∷ (not (is_some (found_array d name)), Name) ∷ []) (f (array_number d name)) ≡ result_map_both f (λ e. e) (declared_array d name)
with_array f d name = go (is_long name) (not (is_some (found_array d name)))
  where
    go : (a b : Bool) → says ((a, Limit) ∷ (b, Name) ∷ []) (f (array_number d name)) ≡ result_map_both f (λ e. e) (says ((a, Limit) ∷ (b, Name) ∷ []) (array_number d name))
    go true b = refl
    go false true = refl
    go false false = refl
