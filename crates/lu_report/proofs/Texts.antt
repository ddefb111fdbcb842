-- Texts that grow line by line.
use Rattle.std.proofs.Common.{◌≡◌, ℕ, List, [], ◌∷◌, ◌++◌, ◌∙◌, sym, ap, append_assoc}
use Rattle.std.specs.List.{concat}
use Rattle.std.proofs.lemmas.List.{append-nil}
use Rattle.std.proofs.lemmas.List.Folds.{concat-append}

pub two_lines : (old first second a b : List ℕ) → first ≡ old ++ a → second ≡ first ++ b → second ≡ old ++ concat (a ∷ b ∷ [])
two_lines old first second a b e f =
    f ∙ (ap (λ x. x ++ b) e ∙ (append_assoc old a b ∙ ap (λ x. old ++ (a ++ x)) (sym (append-nil b))))

pub four_lines : (old first second third fourth a b c d : List ℕ) → first ≡ old ++ a → second ≡ first ++ b → third ≡ second ++ c → fourth ≡ third ++ d → fourth ≡ old ++ concat (a ∷ b ∷ c ∷ d ∷ [])
four_lines old first second third fourth a b c d e f g h =
    let later : fourth ≡ second ++ concat (c ∷ d ∷ []) = two_lines second third fourth c d g h in
    later ∙ (ap (λ x. x ++ concat (c ∷ d ∷ [])) f ∙ (append_assoc first b (concat (c ∷ d ∷ [])) ∙ (ap (λ x. x ++ (b ++ concat (c ∷ d ∷ []))) e ∙ append_assoc old a (b ++ concat (c ∷ d ∷ [])))))

-- a report's lines, one after the other
pub report_lines_in : (first second third fourth fifth line bound : List ℕ) (a b d : List (List ℕ)) → first ≡ line → second ≡ first ++ bound → third ≡ second ++ concat a → fourth ≡ third ++ concat b → fifth ≡ fourth ++ concat d → fifth ≡ concat (line ∷ bound ∷ a ++ (b ++ d))
report_lines_in first second third fourth fifth line bound a b d e f g h i =
    let rest : fifth ≡ second ++ concat (a ++ (b ++ d)) =
    i ∙ (ap (λ x. x ++ concat d) h ∙ (ap (λ x. (x ++ concat b) ++ concat d) g
    ∙ (ap (λ x. x ++ concat d) (append_assoc second (concat a) (concat b)) ∙ (append_assoc second (concat a ++ concat b) (concat d)
    ∙ ap (λ x. second ++ x) (append_assoc (concat a) (concat b) (concat d) ∙ (ap (λ x. concat a ++ x) (sym (concat-append b d)) ∙ sym (concat-append a (b ++ d)))))))) in
    rest ∙ (ap (λ x. x ++ concat (a ++ (b ++ d))) (f ∙ ap (λ x. x ++ bound) e) ∙ append_assoc line bound (concat (a ++ (b ++ d))))
