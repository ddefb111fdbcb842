use Rattle.std.proofs.Common.{rules, tests}
use Rattle.std.proofs.lemmas.Iterator.{YieldsList-from_slice}
use Rattle.std.proofs.lemmas.Iterator.Search.{any_from_yields_List}
use Rattle.lu_source_text.specs.Grammar.{is_among}
use Rattle.lu_source_lint.specs.Warnings.{calling}
use Rattle.lu_source_lint.proofs.Found.{read_by}
use Rattle.lu_source_lint.proofs.warnings.has_call.Goals as goal

pub returns : goal.returns
returns c = any_from_yields_List (is_among calling) _ _ _ c.any.ensures.ran (read_by (λ w. w.now) (YieldsList-from_slice c.args.words.now cc)) (λ x b q k. search (rules, tests))
