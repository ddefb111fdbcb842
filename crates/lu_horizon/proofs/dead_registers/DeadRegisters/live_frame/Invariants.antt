use Rattle.std.proofs.Common.{◌≡◌, ℕ, ◌<◌, ◌≤◌, if◌then◌else◌, length, slice_index}
use Rattle.lu_horizon.specs.Dead.{is_dead}
use Rattle.lu_horizon.proofs.dead_registers.DeadRegisters.live_frame.Given as goal

abbrev pub invariant-loop-register : goal.invariant-loop-register
invariant-loop-register l = record {
  eight : length l.registers ≡ 8;
  done : (r : ℕ) → r < l.register → slice_index l.registers r ≡ (if is_dead l.self l.frame.op l.frame.place r then 0 else slice_index l.frame.registers r);
  rest : (r : ℕ) → l.register ≤ r → r < 8 → slice_index l.registers r ≡ 0;
}
