use Rattle.std.proofs.Common.{◌≡◌, false}
use Rattle.lu_tree.proofs.watch.Watch.stop_within.Given as goal

abbrev pub invariant-loop : goal.invariant-loop
invariant-loop g l = record {
  running : g.Self.Watch.is_stopped l.self ≡ false;
  base : g.Self.Watch.base l.self ≡ g.Self.Watch.base l.fn.self;
}
