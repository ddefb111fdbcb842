use Rattle.std.proofs.Common.{ap, ◌∙◌}
use Rattle.std.specs.Prelude.{is_some}
use Rattle.std.specs.List.{list_all}
use Rattle.lu_text.specs.Numbers.{value_in}
use Rattle.lu_test.proofs.Parts.{all_texts}
use Rattle.lu_test.proofs.matrix_text.has_values.Goals as goal

pub returns : goal.returns
returns c = c.are_values.ensures ∙ (all_texts (λ word. is_some (value_in word)) c.argument_words.result.now ∙ ap (list_all (λ word. is_some (value_in word))) c.argument_words.ensures)
