use Rattle.std.proofs.Common.{sym, ◌∙◌, subst}
use Rattle.lu_linearization.specs.Monitors.{by_thread}
use Rattle.lu_run.specs.Following.{HasState}
use Rattle.lu_run.proofs.Known.{asked_state}
use Rattle.lu_run.proofs.finding.take_effect.Goals as goal

pub learn-requires-clause-state : goal.learn-requires-clause-state
learn-requires-clause-state c =
    let from = c.args.from.now in
    let same = asked_state from.configuration.state (by_thread from.pending c.args.thread) (by_thread from.configuration.effects c.args.thread) c.in-Some.question (sym c.question_at.ensures ∙ c.in-Some.is) in
    subst (HasState c.args.table.now) (sym same) c.requires.from.state
