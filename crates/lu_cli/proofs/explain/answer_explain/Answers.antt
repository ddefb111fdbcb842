use Rattle.std.proofs.Common.{◌≡◌, List, ℕ, Option, Some, rules, subst, sym}
use Rattle.std.specs.Prelude.{MatchOption}
use Rattle.lu_text.specs.Lines.{texts}
use Rattle.lu_text.specs.Words.{exactly_two}
use Rattle.lu_cli.specs.Failing.{IsShownAlone}
use Rattle.lu_cli.specs.Refusals.{Answered}
use Rattle.lu_cli.specs.Explain.{IsExplainAfter, view_of}
use Rattle.lu_cli.specs.Reading.{ToWorded}
use Rattle.lu_cli.proofs.explain.answer_explain.Goals as goal

pub returns-in-Some : goal.returns-in-Some
returns-in-Some c =
    let p = c.in-Some in
    let all = texts c.args.parts.now in
    let by = c.args.by in
    let result = c.answer_failing.result in
    let parts : exactly_two all ≡ Some (p.component.now, p.matrix.now) = search rules in
    let shown : Answered (ToWorded p.component.now p.matrix.now (IsShownAlone (view_of by))) result = subst (λ v. Answered (ToWorded p.component.now p.matrix.now (IsShownAlone v)) result) c.view_of.ensures c.answer_failing.ensures in
    subst (λ (found : Option (List ℕ × List ℕ)). Answered (λ answer. MatchOption found (IsExplainAfter by c.args.bounds all answer) (λ q. ToWorded q.0 q.1 (IsShownAlone (view_of by)) answer)) result) (sym parts) shown
