use Rattle.std.proofs.Common.{rules, tests}
use Rattle.std.specs.Prelude.{not, codes}
use Rattle.std.proofs.lemmas.Iterator.{YieldsList-from_slice}
use Rattle.std.proofs.lemmas.Iterator.Search.{any_from_yields_List, YieldsList-from_take_while}
use Rattle.lu_text.specs.Lines.{texts}
use Rattle.lu_source_lint.specs.Faults.{word_is}
use Rattle.lu_source_lint.specs.Warnings.{reads}
use Rattle.lu_source_lint.proofs.Found.{read_by}
use Rattle.lu_source_lint.proofs.warnings.is_read.Goals as goal

pub returns : goal.returns
returns c = any_from_yields_List (reads c.args.name.now) _ _ _ c.any.ensures.ran
    (YieldsList-from_take_while _ (λ words. not (word_is words 0 (codes "op"))) (read_by (λ l. texts l.items) (YieldsList-from_slice c.args.lines.now cc)) c.take_while.ensures.closure c.take_while.ensures.done (λ x b q k. search (rules, tests)))
    (λ x b q k. search (rules, tests))
