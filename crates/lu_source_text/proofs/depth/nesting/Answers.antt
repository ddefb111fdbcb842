use Rattle.std.proofs.Common.{rules, tests, ◌∙◌}
use Rattle.std.proofs.lemmas.Iterator.{YieldsList-from_slice}
use Rattle.std.proofs.lemmas.Iterator.Consumers.{count_from_yields_List, YieldsList-from_filter}
use Rattle.lu_source_text.specs.Grammar.{is_nesting}
use Rattle.lu_source_text.proofs.Nested.{as_many}
use Rattle.lu_source_text.proofs.depth.nesting.Goals as goal

pub returns : goal.returns
returns c =
    count_from_yields_List c.filter.result c.count.result c.count.ensures.ran
    (YieldsList-from_filter _ (λ w. is_nesting w.now) (YieldsList-from_slice c.args.words.now cc) c.filter.ensures.closure (λ x b q k. search (rules, tests)))
    ∙ as_many c.args.words.now
