use Rattle.lu_run.proofs.Saying.{follows_call}
use Rattle.lu_run.proofs.reading.with_call.Goals as goal

pub returns : goal.returns
returns c = λ component sound of. follows_call component c.args.draft.keys.keys c.number_of.new.keys.keys c.in_ok-key.key c.args.draft.events.items c.push.new.self.items c.args.draft.pending c.args.thread c.from.result c.in-Some.number c.args.call.now c.args.draft.is_stuck
    c.in_ok-number.ensures.keeps (rw c.in-Some.is at c.in_ok-number.ensures.number) c.in_ok-key.ensures c.in_ok-push.ensures.items c.from.ensures sound of
