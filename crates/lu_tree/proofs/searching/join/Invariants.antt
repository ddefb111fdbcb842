use Rattle.std.proofs.Common.{◌≡◌, ◌++◌, map}
use Rattle.lu_tree.proofs.searching.join.Given as goal

abbrev pub invariant-loop-next : goal.invariant-loop-next
invariant-loop-next l = l.moves.items ≡ l.from ++ map (λ m. m.now) l.yielded
