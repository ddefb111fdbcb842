use Rattle.std.proofs.Common.{◌∙◌, ap, length, rules, sym, tests}
use Rattle.std.proofs.Math.ListN.{length-map}
use Rattle.std.proofs.lemmas.Iterator.{YieldsList-from_slice}
use Rattle.std.proofs.lemmas.Iterator.Search.{position_from_yields_List}
use Rattle.std.specs.List.{position}
use Rattle.std.specs.Option.{unwrap_or}
use Rattle.lu_text.specs.Lines.{texts}
use Rattle.lu_source_lint.specs.Warnings.{is_brace}
use Rattle.lu_source_lint.proofs.Found.{read_by}
use Rattle.lu_source_lint.proofs.warnings.brace.Goals as goal

pub returns : goal.returns
returns c =
    c.unwrap_or.ensures
    ∙ ap (λ o. unwrap_or o (length c.args.words.now)) (position_from_yields_List is_brace _ _ _ c.position.ensures.ran (read_by (λ w. w.now) (YieldsList-from_slice c.args.words.now cc)) (λ x b q k. search (rules, tests)))
    ∙ ap (unwrap_or (position is_brace (texts c.args.words.now))) (sym (length-map c.args.words.now (λ w. w.now)))
