use Rattle.std.proofs.Common.{refl}
use Rattle.lu_always.proofs.Standings.{not_waiting, waiting_opens}
use Rattle.lu_always.proofs.judging.can_be_stuck.Goals as goal

pub returns-then-is_waiting : goal.returns-then-is_waiting
returns-then-is_waiting c = (
  (λ sure o. c.can_be_stuck.ensures.0 sure),
  (λ all. c.can_be_stuck.ensures.1 (all (waiting_opens c.args.machine.now c.args.thread c.is_waiting.result c.is_waiting.ensures c.if-is_waiting.true))),
)

pub returns : goal.returns
returns c = (
  (λ _ o. absurd (not_waiting c.args.machine.now c.args.thread c.is_waiting.result c.is_waiting.ensures c.if-is_waiting.false o)),
  (λ _. refl),
)
