use Rattle.lu_always.proofs.nodes.stands_for.Goals as goal
