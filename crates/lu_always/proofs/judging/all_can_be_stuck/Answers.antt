use Rattle.std.proofs.Common.{arith, rules, [], ◌≡◌, true, refl}
use Rattle.lu_linearization.specs.Monitors.{CanBeStuck}
use Rattle.lu_answers.specs.Tables.{Goes, table_of}
use Rattle.lu_always.proofs.Standings.{before_all, before_more}
use Rattle.lu_always.proofs.judging.all_can_be_stuck.Goals as goal

pub loop-thread-preserved : goal.loop-thread-preserved
loop-thread-preserved c =
    let sure : c.can_be_stuck.result ≡ true = search rules in
    before_more c.args.machine.now (λ t. CanBeStuck (Goes (table_of [] c.args.table.now)) t c.args.monitor.now) c.loop-thread.thread c.loop-thread.invariant (c.can_be_stuck.ensures.0 sure)

pub returns : goal.returns
returns c = (
  (λ _. before_all c.args.machine.now (λ t. CanBeStuck (Goes (table_of [] c.args.table.now)) t c.args.monitor.now) c.loop-thread.thread (omega (arith, c.threads-thread-end.ensures.value, c.loop-thread-test.false)) c.loop-thread.invariant),
  (λ _. refl),
)
