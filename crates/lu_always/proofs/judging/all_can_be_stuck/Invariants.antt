use Rattle.std.proofs.Common.{[]}
use Rattle.lu_linearization.specs.Monitors.{CanBeStuck}
use Rattle.lu_answers.specs.Tables.{Goes, table_of}
use Rattle.lu_always.proofs.Standings.{HoldsBefore}
use Rattle.lu_always.proofs.judging.all_can_be_stuck.Given as goal

abbrev pub invariant-loop-thread : goal.invariant-loop-thread
invariant-loop-thread l = HoldsBefore l.fn.machine (λ t. CanBeStuck (Goes (table_of [] l.fn.table)) t l.fn.monitor) l.thread
