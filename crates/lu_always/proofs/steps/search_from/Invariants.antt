use Rattle.std.proofs.Common.{◌≡◌, ◌≤◌, List, length}
use Rattle.lu_linearization.specs.declared.configuration.Configuration.{Configuration as Shown}
use Rattle.lu_linearization.specs.Monitors.{AreInitial}
use Rattle.lu_always.specs.Searching.{AreExitsOfFirst}
use Rattle.lu_always.specs.StepSearch.{AreStepped}
use Rattle.lu_always.proofs.Keeping.{SameBase}
use Rattle.lu_always.proofs.steps.search_from.Given as goal

abbrev pub invariant-loop-index : goal.invariant-loop-index
invariant-loop-index g l = record {
  stepped : (first : List Shown) × AreInitial 0 first × AreStepped l.fn.given.dead.now l.fn.given.rounds l.fn.given.table.now first l.fn.machine l.index l.all;
  same : SameBase l.fn.machine l.machine;
  within : l.index ≤ length l.all;
  many : length l.exits.items ≡ l.index;
  exits : AreExitsOfFirst l.fn.given.dead.now l.fn.given.rounds l.fn.machine l.all l.exits.items;
}
