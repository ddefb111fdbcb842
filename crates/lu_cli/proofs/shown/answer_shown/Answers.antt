use Rattle.std.proofs.Common.{◌≡◌, List, ℕ, Option, Some, rules, subst, sym}
use Rattle.std.specs.Prelude.{MatchOption}
use Rattle.lu_text.specs.Lines.{texts}
use Rattle.lu_text.specs.Words.{exactly_two}
use Rattle.lu_cli.specs.Failing.{IsShownAlone, view_of_failure}
use Rattle.lu_cli.specs.Refusals.{Answered}
use Rattle.lu_cli.specs.Reading.{ToWorded}
use Rattle.lu_cli.specs.Shown.{IsShownAfter}
use Rattle.lu_cli.proofs.shown.answer_shown.Goals as goal

pub returns-in-Some : goal.returns-in-Some
returns-in-Some c =
    let p = c.in-Some in
    let all = texts c.args.parts.now in
    let view = c.args.view in
    let result = c.answer_failing.result in
    let parts : exactly_two all ≡ Some (p.component.now, p.matrix.now) = search rules in
    let shown : Answered (ToWorded p.component.now p.matrix.now (IsShownAlone (view_of_failure view))) result = subst (λ v. Answered (ToWorded p.component.now p.matrix.now (IsShownAlone v)) result) c.of_failure.ensures c.answer_failing.ensures in
    subst (λ (found : Option (List ℕ × List ℕ)). Answered (λ answer. MatchOption found (IsShownAfter view all answer) (λ q. ToWorded q.0 q.1 (IsShownAlone (view_of_failure view)) answer)) result) (sym parts) shown
