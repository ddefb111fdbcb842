use Rattle.std.proofs.Common.{ap, ◌∙◌}
use Rattle.std.specs.List.{filter_map}
use Rattle.lu_text.specs.Numbers.{value_in}
use Rattle.lu_test.proofs.Parts.{filter_map_texts}
use Rattle.lu_test.proofs.matrix_text.arguments_of.Goals as goal

pub returns : goal.returns
returns c = c.new.ensures ∙ (c.in_ok-numbers.ensures ∙ (filter_map_texts value_in c.argument_words.result.now ∙ ap (filter_map value_in) c.argument_words.ensures))
