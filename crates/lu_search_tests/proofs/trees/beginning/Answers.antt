use Rattle.std.proofs.Common.{sym, subst}
use Rattle.lu_machine.specs.States.{State}
use Rattle.lu_machine.specs.Runs.{Leads}
use Rattle.lu_machine.proofs.Starting.{start_same}
use Rattle.lu_search_tests.proofs.trees.beginning.Goals as goal

pub returns : goal.returns
returns g c = λ s is.
    let shown = c.in_ok-replay.field-0 in
    let plays = c.in_ok-replay.ensures.shows.1 in
    let end = c.in_ok-replay.ensures.shows.0 in
    let same = start_same c.args.case.now.component c.args.case.now.matrix s plays.0 is plays.1 in
    record { end = end; history = shown.history; leads = subst (λ (x : State). Leads x c.in_ok-schedule.schedule end shown.history) (sym same) plays.2; holds = tt }
