use Rattle.std.proofs.Common.{◌≡◌, ℕ, Some, slice_get, sym, ◌∙◌, ap, subst}
use Rattle.std.proofs.lemmas.List.Elements.{All-get_or}
use Rattle.std.proofs.lemmas.Option.{get_or_from_slice_get, slice_get_within}
use Rattle.std.proofs.lemmas.Result.{IfOk-weaker}
use Rattle.std.specs.Prelude.{string_bytes}
use Rattle.lu_run.specs.declared.run.Run.{Run}
use Rattle.lu_run.specs.Bundled.{IsRunOf}
use Rattle.lu_run.specs.Verdicts.{NamesEventOf, TellsFailing}
use Rattle.lu_cli.specs.Outcomes.{Answer}
use Rattle.lu_cli.specs.Runs.{AreJudged, IsReasonFor, run_shown}
use Rattle.lu_cli.proofs.RunAnswers.{names_event}
use Rattle.lu_cli.proofs.runs.judge_runs.Goals as goal

pub reason_of-requires-clause-of : goal.reason_of-requires-clause-of
reason_of-requires-clause-of c =
    let component = c.args.test.component.now in
    let runs = c.args.runs.now in
    let n = c.in-Some.number in
    let tells = subst (TellsFailing component c.args.test.matrix.now c.serial-bound.result runs) c.in-Some.is c.in_ok-first_failing.ensures in
    let within = slice_get_within runs n tells.run tells.at in
    subst (IsRunOf component) (sym c.index-runs-number.is) (All-get_or (IsRunOf component) runs n _ within c.requires)

pub reason_of-requires-clause-names : goal.reason_of-requires-clause-names
reason_of-requires-clause-names c =
    let component = c.args.test.component.now in
    let runs = c.args.runs.now in
    let n = c.in-Some.number in
    let verdict = c.in-Some.verdict in
    let tells = subst (TellsFailing component c.args.test.matrix.now c.serial-bound.result runs) c.in-Some.is c.in_ok-first_failing.ensures in
    let same = c.index-runs-number.is ∙ get_or_from_slice_get runs n tells.run _ tells.at in
    subst (λ (x : Run). NamesEventOf x verdict) (sym same) (names_event component c.serial-bound.result tells.has.0 tells.run verdict tells.has.2)

pub show_run-requires : goal.show_run-requires
show_run-requires c =
    let component = c.args.test.component.now in
    let runs = c.args.runs.now in
    let n = c.in-Some.number in
    let verdict = c.in-Some.verdict in
    let tells = subst (TellsFailing component c.args.test.matrix.now c.serial-bound.result runs) c.in-Some.is c.in_ok-first_failing.ensures in
    let same = c.index-runs-number.is ∙ get_or_from_slice_get runs n tells.run _ tells.at in
    subst (λ (x : Run). NamesEventOf x verdict) (sym same) (names_event component c.serial-bound.result tells.has.0 tells.run verdict tells.has.2)

pub returns-in_ok-reason-in-Some : goal.returns-in_ok-reason-in-Some
returns-in_ok-reason-in-Some c =
    let component = c.args.test.component.now in
    let matrix = c.args.test.matrix.now in
    let runs = c.args.runs.now in
    let n = c.in-Some.number in
    let verdict = c.in-Some.verdict in
    let run = c.index-runs-number.result in
    let text = string_bytes c.in_ok-reason-in-Some.reason in
    let tells = subst (TellsFailing component matrix c.serial-bound.result runs) c.in-Some.is c.in_ok-first_failing.ensures in
    let own = subst (λ (b : ℕ). TellsFailing component matrix b runs (Some (n, verdict))) c.serial-bound.ensures.serial tells in
    let same = c.index-runs-number.is ∙ get_or_from_slice_get runs n own.run _ own.at in
    let at : slice_get runs n ≡ Some run = own.at ∙ ap Some (sym same) in
    let why = subst (λ (b : ℕ). IsReasonFor component matrix b run verdict text) c.serial-bound.ensures.serial c.in_ok-reason-in-Some.ensures in
    IfOk-weaker c.show_run.result (λ (answer : Answer). answer ≡ run_shown component n run verdict c.as_str.result.now) (AreJudged component matrix c.args.bounds runs)
    (λ answer is. (Some (n, verdict), own, (run, at, text, why, is ∙ ap (run_shown component n run verdict) c.as_str.ensures.value))) c.show_run.ensures
