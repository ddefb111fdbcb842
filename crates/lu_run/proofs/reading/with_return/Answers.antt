use Rattle.lu_run.specs.Reading.{calls_of_keys}
use Rattle.lu_run.proofs.Saying.{follows_return}
use Rattle.lu_run.proofs.reading.with_return.Goals as goal

pub returns : goal.returns
returns c = λ component sound of. follows_return component (calls_of_keys c.args.draft.keys.keys) c.args.draft.events.items c.push.new.self.items c.args.draft.pending c.args.thread c.from.result c.args.outcome c.args.draft.is_stuck c.in_ok-push.ensures.items c.from.ensures sound of
