use Rattle.std.proofs.Common.{◌≡◌, List, sym, subst}
use Rattle.std.proofs.lemmas.Result.{IfOk-weaker}
use Rattle.std.specs.Prelude.{true}
use Rattle.lu_run.specs.declared.run.RunEvent.{RunEvent}
use Rattle.lu_run.specs.Finding.{Finds}
use Rattle.lu_run.specs.Judging.{HasLinearization, IsPassing, OfRun, RunPasses}
use Rattle.lu_run.proofs.Stuck.{linear_passes}
use Rattle.lu_run.proofs.judging.passes_at_once.Goals as goal

pub returns-clause-finds : goal.returns-clause-finds
returns-clause-finds c =
    let component = c.args.runs.component.now in
    let calls = c.args.runs.calls.now in
    let table = c.args.table.now in
    let events = c.args.run.now.events.items in
    let finds : Finds c.args.runs table events c.find_linearization.result = subst (λ (x : List RunEvent). Finds c.args.runs table x c.find_linearization.result) c.deref.ensures.value c.find_linearization.ensures.finds in
    IfOk-weaker c.find_linearization.result
    (λ found. found ≡ true → OfRun component calls table events (λ s. HasLinearization s events))
    (λ found. found ≡ true → OfRun component calls table events (λ s. RunPasses s c.args.run.now))
    (λ found has is setup s start starts run. subst (IsPassing s events) (sym c.if-run.false) (linear_passes component setup calls events s start run (has is setup s start starts run)))
    finds
