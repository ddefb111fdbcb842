use Rattle.std.proofs.Common.{◌≡◌, ◌*◌, ◌≤◌, ◌^◌, length}
use Rattle.lu_horizon.specs.Tables.{Serves}
use Rattle.lu_horizon.proofs.CapLaws.{AreCapsOf}
use Rattle.lu_horizon.proofs.horizon.Horizon.caps.Given as goal

abbrev pub invariant-loop-t : goal.invariant-loop-t
invariant-loop-t l = record {
  many : length l.caps.items ≡ l.t;
  few : l.all ≤ l.t * 2 ^ 16;
  caps : Serves l.self l.machine → AreCapsOf l.machine l.left l.all l.caps.items;
}
