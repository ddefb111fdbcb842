use Rattle.std.proofs.Common.{rules, tests}
use Rattle.std.proofs.lemmas.Iterator.{YieldsList-from_slice}
use Rattle.std.proofs.lemmas.Iterator.Consumers.{YieldsList-from_chain}
use Rattle.std.proofs.lemmas.Iterator.Search.{any_from_yields_List}
use Rattle.lu_text.specs.Lines.{texts}
use Rattle.lu_source_lint.specs.Warnings.{calls_on}
use Rattle.lu_source_lint.proofs.Found.{read_by}
use Rattle.lu_source_lint.proofs.warnings.is_called_on.Goals as goal

pub returns : goal.returns
returns c = any_from_yields_List (calls_on c.args.name.now) _ _ _ c.any.ensures.ran
    (YieldsList-from_chain (read_by (λ l. texts l.items) (YieldsList-from_slice c.args.above.now cc)) (read_by (λ l. texts l.items) (YieldsList-from_slice c.args.below.now cc)) (cc) (cc))
    (λ x b q k. search (rules, tests))
