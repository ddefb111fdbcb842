use Rattle.std.proofs.Common.{◌≡◌, ◌∙◌, ◌++◌, ap, arith, take}
use Rattle.std.proofs.lemmas.Grind.{common_steps}
use Rattle.lu_text.specs.Lines.{texts}
use Rattle.lu_source_lint.specs.Faults.{line_with, meant, spelled}
use Rattle.lu_source_lint.proofs.meaning.meant_line.Goals as goal

pub returns : goal.returns
returns c =
    let words = texts c.in_ok-words.words.items in
    let first : texts c.split_at.result.0.now ≡ take c.meant-mending.result.kept words = grind (arith, common_steps, c.split_at.ensures.front, c.deref-2.ensures.value, c.min.ensures, c.len.ensures) in
    let by : (c.meant-mending.result.kept, c.meant-mending.result.after.now) ≡ meant c.args.kind words = c.meant-mending.ensures ∙ ap (λ w. meant c.args.kind (texts w)) c.deref.ensures.value in
    c.in_ok-extend_from_slice.ensures.items ∙ ap (λ t. t ++ c.meant-mending.result.after.now) (c.in_ok-text.ensures ∙ ap spelled first) ∙ ap (line_with words) by ∙ ap (λ w. line_with w (meant c.args.kind w)) c.in_ok-words.ensures
