use Rattle.std.proofs.Common.{◌≡◌, rules, tests}
use Rattle.std.specs.List.{list_all, list_any}
use Rattle.std.proofs.lemmas.Iterator.{YieldsList-from_slice}
use Rattle.std.proofs.lemmas.Iterator.Search.{all_from_yields_List, any_from_yields_List}
use Rattle.lu_lint.specs.Warnings.{looks, looks_or_passes}
use Rattle.lu_lint.proofs.warning.only_look.Goals as goal

pub returns-then-any : goal.returns-then-any
returns-then-any c =
    let some : c.any.result ≡ list_any looks c.args.statements.now = any_from_yields_List looks _ _ c.any.result c.any.ensures.ran (YieldsList-from_slice c.args.statements.now cc) (λ x b q k. search (rules, tests)) in
    let each : c.all.result ≡ list_all looks_or_passes c.args.statements.now = all_from_yields_List looks_or_passes _ _ c.all.result c.all.ensures.ran (YieldsList-from_slice c.args.statements.now cc) (λ x b q k. search (rules, tests)) in
    rw (← some, c.if-any.true) each

pub returns-else-any : goal.returns-else-any
returns-else-any c =
    let some : c.any.result ≡ list_any looks c.args.statements.now = any_from_yields_List looks _ _ c.any.result c.any.ensures.ran (YieldsList-from_slice c.args.statements.now cc) (λ x b q k. search (rules, tests)) in
    rw (← some, c.if-any.false)
