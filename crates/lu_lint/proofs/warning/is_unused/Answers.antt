use Rattle.std.specs.Prelude.{not}
use Rattle.std.proofs.Common.{ap, rules, tests}
use Rattle.std.proofs.lemmas.Iterator.{YieldsList-from_slice}
use Rattle.std.proofs.lemmas.Iterator.Search.{any_from_yields_List}
use Rattle.lu_lang.specs.Grammar.{label_used}
use Rattle.lu_lint.specs.Warnings.{jumps_to_label}
use Rattle.lu_lint.proofs.warning.is_unused.Goals as goal

pub returns : goal.returns
returns c = ap not (any_from_yields_List (λ s. jumps_to_label c.args.label.now.name (label_used s)) _ _ _ c.any.ensures.ran (YieldsList-from_slice c.args.statements.now cc) (λ x b q k. search (rules, tests)))
