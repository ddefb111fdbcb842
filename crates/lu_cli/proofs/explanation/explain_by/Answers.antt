use Rattle.lu_cli.proofs.Explained.{schedule_from}
use Rattle.lu_cli.proofs.explanation.explain_by.Goals as goal

pub event_moves-requires-clause-leads : goal.event_moves-requires-clause-leads
event_moves-requires-clause-leads g c = schedule_from c.args.test.component.now c.args.test.matrix.now c.args.run.schedule.now c.args.run.shown.now.history c.args.run.shown.now.status c.requires
