use Rattle.std.proofs.Common.{◌≡◌}
use Rattle.lu_serial.specs.Whole.{made_calls}
use Rattle.lu_refute.proofs.Shortening.{IsGone}
use Rattle.lu_refute.proofs.shortest.Walk.go_outside.Given as goal

abbrev pub invariant-loop-index : goal.invariant-loop-index
invariant-loop-index l = record {
  gone : IsGone l.fn.self.machine l.set l.moves l.index l.self.machine l.self.entries.items;
  calls : l.self.calls.items ≡ made_calls l.self.machine;
}
