use Rattle.std.proofs.Common.{◌≡◌, ◌∙◌, ◌++◌, List, Vec, ℕ, ap}
use Rattle.lu_lang.specs.ComponentText.{component_text}
use Rattle.lu_cli.specs.Compile.{lent_after}
use Rattle.lu_cli.proofs.Strings.{lent_texts}
use Rattle.lu_cli.proofs.lint.bundle_of.Goals as goal

pub returns : goal.returns
returns c =
    let parts = c.args.parts.now in
    let own = component_text c.args.component.now in
    let begun : c.into_bytes-bundle.result.items ≡ own = ap (λ (v : Vec ℕ _). v.items) c.into_bytes-bundle.ensures.value ∙ c.in_ok-write_component.ensures.text in
    c.in_ok-push_parts.ensures ∙ ap (λ (x : List ℕ). x ++ lent_after parts) begun ∙ ap (λ (x : List ℕ). own ++ x) (lent_texts parts)
