use Rattle.std.proofs.Common.{◌≡◌, rules, tests}
use Rattle.std.specs.List.{list_all, list_any}
use Rattle.std.proofs.lemmas.Iterator.{YieldsList-from_slice}
use Rattle.std.proofs.lemmas.Iterator.Search.{all_from_yields_List, any_from_yields_List}
use Rattle.lu_lint.specs.Warnings.{tries, tries_or_passes}
use Rattle.lu_lint.proofs.warning.only_try.Goals as goal

pub returns-then-any : goal.returns-then-any
returns-then-any c =
    let some : c.any.result ≡ list_any tries c.args.statements.now = any_from_yields_List tries _ _ c.any.result c.any.ensures.ran (YieldsList-from_slice c.args.statements.now cc) (λ x b q k. search (rules, tests)) in
    let each : c.all.result ≡ list_all tries_or_passes c.args.statements.now = all_from_yields_List tries_or_passes _ _ c.all.result c.all.ensures.ran (YieldsList-from_slice c.args.statements.now cc) (λ x b q k. search (rules, tests)) in
    rw (← some, c.if-any.true) each

pub returns-else-any : goal.returns-else-any
returns-else-any c =
    let some : c.any.result ≡ list_any tries c.args.statements.now = any_from_yields_List tries _ _ c.any.result c.any.ensures.ran (YieldsList-from_slice c.args.statements.now cc) (λ x b q k. search (rules, tests)) in
    rw (← some, c.if-any.false)
