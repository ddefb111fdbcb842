use Rattle.std.proofs.Common.{rules, tests}
use Rattle.std.specs.Prelude.{codes}
use Rattle.std.proofs.lemmas.Iterator.{YieldsList-from_map_by, YieldsList-from_slice}
use Rattle.std.proofs.lemmas.Iterator.Consumers.{map_from_collect, YieldsList-at, YieldsList-from_filter}
use Rattle.lu_text.specs.Lines.{texts}
use Rattle.lu_source_lint.specs.Faults.{word_is}
use Rattle.lu_source_lint.specs.Warnings.{name_of}
use Rattle.lu_source_lint.proofs.Found.{read_by}
use Rattle.lu_source_lint.proofs.warnings.shared_names.Goals as goal

pub returns : goal.returns
returns c = map_from_collect _ c.collect.ensures.ran
    (YieldsList-from_map_by _ (λ r. r.now) name_of (YieldsList-at c.map.ensures.source
    (YieldsList-from_filter _ (λ words. word_is words 0 (codes "word")) (read_by (λ l. texts l.items) (YieldsList-from_slice c.args.lines.now cc)) c.filter.ensures.closure (λ x b q k. search (rules, tests))))
    c.map.ensures.closure (λ x r q k. search (rules, tests)))
