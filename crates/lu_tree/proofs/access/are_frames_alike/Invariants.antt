use Rattle.std.proofs.Common.{◌≡◌, ℕ, ◌<◌, false, slice_index}
use Rattle.lu_horizon.specs.Dead.{is_dead}
use Rattle.lu_tree.proofs.access.are_frames_alike.Given as goal

abbrev pub invariant-loop-register : goal.invariant-loop-register
invariant-loop-register l = record {
  live : (r : ℕ) → r < l.register → is_dead l.fn.dead l.fn.one.op l.fn.one.place r ≡ false → slice_index l.fn.other.registers r ≡ slice_index l.fn.one.registers r;
}
