use Rattle.lu_always.proofs.nodes.find_covering.Given as goal

abbrev pub invariant-loop-number : goal.invariant-loop-number
invariant-loop-number l = Unit {0}
