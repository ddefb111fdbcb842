use Rattle.std.proofs.Common.{ℕ, ◌<◌, ◌≤◌, length, slice_get, Some, ◌≡◌}
use Rattle.lu_history.specs.declared.serial.SerialOp.{SerialOp}
use Rattle.lu_witness.specs.Witnesses.{entries}
use Rattle.lu_graph.specs.Judging.{room}
use Rattle.lu_graph.proofs.judging.is_whole.Given as goal

abbrev pub invariant-loop-op : goal.invariant-loop-op
invariant-loop-op l = (i : ℕ) (op : SerialOp) → i < l.op-index → slice_get l.member i ≡ Some op → length (entries op.thread l.member) ≤ room l.machine l.waiting op.thread
