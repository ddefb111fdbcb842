-- Words in memory, and their bytes.
use Rattle.std.proofs.Common.{◌≡◌, ℕ, take, ◌-◌, ◌≤◌, true, List, [], ◌∷◌, length, get_or, drop, sym, arith}
use Rattle.std.specs.Prelude.{codes, not, ◌==◌}
use Rattle.std.specs.List.{list_all}
use Rattle.std.specs.Str.{bytes_eq}
use Rattle.std.proofs.lemmas.List.{length-drop, take_all}
use denote.Ref.{Bor}
use Rattle.lu_text.specs.Lines.{texts}
use Rattle.lu_test.specs.ScheduleText.{has_form}
use Rattle.lu_test.proofs.Parts.{all_texts}

pub form_at : (words : List (Bor (List ℕ))) (d : Bor (List ℕ)) → 1 ≤ length words → bytes_eq (get_or words 0 d).now (codes "schedule") ≡ true → has_form (texts words) ≡ list_all (λ w. not (length w.now == 0)) (drop 1 words)
form_at [] d h e = absurd (omega arith)
form_at (w ∷ ws) d h e = rw e (sym (all_texts (λ word. not (length word == 0)) ws))

pub rest_at : (words : List (Bor (List ℕ))) → take (length words - 1) (drop 1 words) ≡ drop 1 words
rest_at words = take_all _ _ (omega (arith, length-drop 1 words))
