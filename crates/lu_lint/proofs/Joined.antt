-- What is said of a bundle, part after part.
use Rattle.std.proofs.Common.{◌≡◌, ℕ, List, ◌∷◌, ◌++◌, Option, refl, ap, subst, append_assoc, sym, ◌∙◌}
use denote.Ref.{Bor}
use Rattle.lu_text.specs.Bundle.{meant_parts}
use Rattle.lu_text.specs.Lines.{kept_lines, texts}
use Rattle.lu_test.specs.Matrix.{Matrix}
use Rattle.lu_lint.specs.declared.linting.LintOptions.{LintOptions}
use Rattle.lu_lint.specs.declared.component.ReadComponent.{ReadComponent}
use Rattle.lu_lint.specs.declared.remark.Said.{Said}
use Rattle.lu_lint.specs.Bundle.{AfterComponent, BundleSaid, PartsSaid, component_read, component_said, matrix_read, matrix_said, separators_from}
use Rattle.lu_lint.specs.Further.{AfterMatrix}
use Rattle.lu_lint.specs.Runs.{RunsSaid}
use Rattle.lu_lint.specs.Said.{SaysFurther, above_next}

-- of a matrix, of the parts after it, and by runs
pub of_matrix : (options : LintOptions) (c : ReadComponent) (above below : ℕ) (parts others : List (Bor (List ℕ))) (text : Bor (List ℕ)) (m : Option Matrix) (all one two three : List Said) → parts ≡ text ∷ others → one ≡ all ++ matrix_said c above text.now → m ≡ matrix_read c text.now → below ≡ above_next above text.now
    → SaysFurther (AfterMatrix options.marks m below (texts others)) one two → SaysFurther (RunsSaid options.serial c m above text.now) two three → SaysFurther (AfterComponent options c above (texts parts)) all three
of_matrix options c above below parts others text m all one two three split first is next f r =
    let said = matrix_said c above text.now in
    let further = f.0 in
    let runs = r.0 in
    let P : List (Bor (List ℕ)) → Type 0 = λ x. SaysFurther (AfterComponent options c above (texts x)) all three in
    let after : AfterMatrix options.marks (matrix_read c text.now) (above_next above text.now) (texts others) further = subst (λ (x : Option Matrix). AfterMatrix options.marks x (above_next above text.now) (texts others) further) is (subst (λ (n : ℕ). AfterMatrix options.marks m n (texts others) further) next f.1) in
    let shown = subst (λ (x : Option Matrix). RunsSaid options.serial c x above text.now runs) is r.1 in
    let both : three ≡ one ++ (further ++ runs) = r.2 ∙ (ap (λ (x : List Said). x ++ runs) f.2 ∙ append_assoc one further runs) in
    subst P (sym split) (said ++ (further ++ runs), (further, runs, after, shown, refl), both ∙ (ap (λ (x : List Said). x ++ (further ++ runs)) first ∙ append_assoc all said (further ++ runs)))

-- of a component, and of the parts after it
pub of_component : (options : LintOptions) (parts others : List (Bor (List ℕ))) (text : Bor (List ℕ)) (c : ReadComponent) (below : ℕ) (all one two : List Said) → parts ≡ text ∷ others → one ≡ all ++ component_said text.now → c ≡ component_read text.now → below ≡ above_next 0 text.now
    → SaysFurther (AfterComponent options c below (texts others)) one two → SaysFurther (PartsSaid options (texts parts)) all two
of_component options parts others text c below all one two split first is next h =
    let said = component_said text.now in
    let rest = h.0 in
    let P : List (Bor (List ℕ)) → Type 0 = λ x. SaysFurther (PartsSaid options (texts x)) all two in
    let after : AfterComponent options (component_read text.now) (above_next 0 text.now) (texts others) rest = subst (λ (x : ReadComponent). AfterComponent options x (above_next 0 text.now) (texts others) rest) is (subst (λ (n : ℕ). AfterComponent options c n (texts others) rest) next h.1) in
    subst P (sym split) (said ++ rest, (rest, after, refl), h.2 ∙ (ap (λ (x : List Said). x ++ rest) first ∙ append_assoc all said rest))

-- of the lines between the parts, and of the parts
pub of_bundle : (options : LintOptions) (bundle : List ℕ) (lines parts : List (List ℕ)) (first found : List Said) → lines ≡ kept_lines bundle → parts ≡ meant_parts bundle → first ≡ separators_from 1 lines → SaysFurther (PartsSaid options parts) first found → BundleSaid options bundle found
of_bundle options bundle lines parts first found l p f h =
    let said = h.0 in
    (said, subst (λ (x : List (List ℕ)). PartsSaid options x said) p h.1, h.2 ∙ ap (λ (x : List Said). x ++ said) (f ∙ ap (separators_from 1) l))
