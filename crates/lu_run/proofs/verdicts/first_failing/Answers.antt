use Rattle.std.proofs.Common.{◌≡◌, ◌+◌, [], ◌∷◌, ◌++◌, Some, slice_get, take, sym, ◌∙◌, ap, subst, add-one}
use Rattle.std.proofs.lemmas.List.{take_all}
use Rattle.std.proofs.lemmas.List.Elements.{All-push}
use Rattle.std.proofs.lemmas.Option.{slice_get-get_or}
use Rattle.lu_machine.proofs.Starting.{start_there}
use Rattle.lu_history.proofs.Events.{take_next}
use Rattle.lu_run.specs.declared.judging.RunVerdict.TheVariants.{Passes}
use Rattle.lu_run.specs.Bundled.{IsRunOf}
use Rattle.lu_run.specs.Runs.{matrix_of}
use Rattle.lu_run.specs.Verdicts.{AllPass, HasVerdict}
use Rattle.lu_run.proofs.verdicts.first_failing.Goals as goal

pub judge_run-requires-clause-calls : goal.judge_run-requires-clause-calls
judge_run-requires-clause-calls c =
    (subst (IsRunOf c.args.component.now) (sym c.index-runs-number.is) (c.requires.runs c.loop-number.number c.index-runs-number.result c.loop-number-test.true)).0

pub judge_run-requires-clause-run : goal.judge_run-requires-clause-run
judge_run-requires-clause-run c =
    (subst (IsRunOf c.args.component.now) (sym c.index-runs-number.is) (c.requires.runs c.loop-number.number c.index-runs-number.result c.loop-number-test.true)).1

pub returns-in_default : goal.returns-in_default
returns-in_default c =
    let run = c.index-runs-number.result in
    let i = c.loop-number.number in
    let there = start_there c.args.component.now (matrix_of c.args.matrix.now.setup run.calls.items run.events.items) c.requires.of.settles in
    record {
      before = c.loop-number.invariant;
      run = run;
      at = slice_get-get_or c.args.runs.now i run c.loop-number-test.true ∙ ap Some (sym c.index-runs-number.is);
      fails = c.in_default.not-Passes;
      has = (there.0, there.1, c.in_ok-verdict.ensures there.0 there.1);
    }

pub loop-number-preserved : goal.loop-number-preserved
loop-number-preserved c =
    let run = c.index-runs-number.result in
    let i = c.loop-number.number in
    let runs = c.args.runs.now in
    let component = c.args.component.now in
    let matrix = c.args.matrix.now in
    let bound = c.args.bound in
    let there = start_there component (matrix_of matrix.setup run.calls.items run.events.items) c.requires.of.settles in
    let at : slice_get runs i ≡ Some run = slice_get-get_or runs i run c.loop-number-test.true ∙ ap Some (sym c.index-runs-number.is) in
    let longer : take (i + 1) runs ≡ take i runs ++ run ∷ [] = rw (add-one i) (take_next runs run i at) in
    let has : HasVerdict component matrix bound run c.in_ok-verdict.verdict = (there.0, there.1, c.in_ok-verdict.ensures there.0 there.1) in
    let passes = subst (HasVerdict component matrix bound run) c.in-Passes.is has in
    subst (AllPass component matrix bound) (sym longer) (All-push (λ r. HasVerdict component matrix bound r Passes) (take i runs) run c.loop-number.invariant passes)

pub returns : goal.returns
returns c =
    subst (AllPass c.args.component.now c.args.matrix.now c.args.bound) (take_all c.loop-number.number c.args.runs.now c.loop-number-test.false) c.loop-number.invariant
