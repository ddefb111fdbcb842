use Rattle.std.proofs.Common.{◌≡◌, ◌-◌, ◌^◌, min, length, take}
use Rattle.lu_trie.specs.Branches.{members_from}
use Rattle.lu_serial_graph.specs.Graphs.{resolve}
use Rattle.lu_serial_graph.proofs.graph.Table.count.Given as goal

abbrev pub invariant-loop-place : goal.invariant-loop-place
invariant-loop-place g l = l.count ≡ min (length (members_from l.ends (resolve l.self (take l.place-index l.links)))) (2 ^ 64 - 1)
