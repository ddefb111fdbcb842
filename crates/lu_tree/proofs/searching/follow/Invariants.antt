use Rattle.std.proofs.Common.{◌≡◌, take}
use Rattle.lu_machine.specs.States.{progress}
use Rattle.lu_machine.specs.Runs.{Leads}
use Rattle.lu_history.specs.Standing.{Agree}
use Rattle.lu_tree.proofs.searching.follow.Given as goal

abbrev pub invariant-loop-next : goal.invariant-loop-next
invariant-loop-next g l = record {
  leads : Leads l.fn.node.machine (take l.next-index l.schedule) l.node.machine l.node.trail.history;
  agree : Agree (progress l.node.machine) l.node.trail.history;
  tree : l.node.trail.tree ≡ l.fn.node.trail.tree;
}
