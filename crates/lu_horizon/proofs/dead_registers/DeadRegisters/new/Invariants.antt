use Rattle.std.proofs.Common.{◌≡◌, ℕ, ◌<◌, [], get_or, length}
use Rattle.lu_horizon.specs.Dead.{IsDeadTable}
use Rattle.lu_horizon.specs.Rounds.{AreLive}
use Rattle.lu_horizon.proofs.RoundLaws.{IsWithinOp}
use Rattle.lu_horizon.proofs.dead_registers.DeadRegisters.new.Given as goal

abbrev pub invariant-loop-op : goal.invariant-loop-op
invariant-loop-op l = record {
  many : l.op ≡ length l.operations.items;
  table : IsDeadTable l.component l.operations.items;
  within : (op : ℕ) → IsWithinOp l.component op (get_or l.operations.items op []);
  live : (op : ℕ) → op < length l.operations.items → AreLive l.component op (get_or l.operations.items op []);
}
