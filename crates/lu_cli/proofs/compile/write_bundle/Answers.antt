use Rattle.std.proofs.Common.{◌≡◌, ◌∙◌, ◌++◌, List, ℕ, ap, string_bytes}
use Rattle.lu_text.specs.Lines.{texts}
use Rattle.lu_lang.specs.ComponentText.{component_text}
use Rattle.lu_cli.specs.Compile.{parts_text, lent_after}
use Rattle.lu_cli.specs.Outcomes.{Answer}
use Rattle.lu_cli.proofs.Strings.{lent_texts}
use Rattle.lu_cli.proofs.compile.write_bundle.Goals as goal

pub returns : goal.returns
returns c =
    let parts = c.args.parts.now in
    let own = component_text c.args.component.now in
    let text : string_bytes c.push_parts.new.text ≡ own ++ parts_text (texts parts) = c.in_ok-push_parts.ensures ∙ ap (λ (x : List ℕ). x ++ lent_after parts) c.in_ok-text.ensures.text ∙ ap (λ (x : List ℕ). own ++ x) (lent_texts parts) in
    ap {B = Answer} (λ (t : List ℕ). record { text = t; status = 0 }) text
