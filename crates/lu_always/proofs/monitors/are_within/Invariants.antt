use Rattle.std.proofs.Common.{take}
use Rattle.lu_always.specs.Nodes.{IsWithin}
use Rattle.lu_always.proofs.monitors.are_within.Given as goal

abbrev pub invariant-loop-one : goal.invariant-loop-one
invariant-loop-one l = IsWithin (take l.one-index l.less) l.list
