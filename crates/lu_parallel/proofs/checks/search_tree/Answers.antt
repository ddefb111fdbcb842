use Rattle.lu_parallel.proofs.checks.search_tree.Goals as goal

pub returns-in-Some-clause-found : goal.returns-in-Some-clause-found
returns-in-Some-clause-found g c = λ s is. rw c.in-Some.is at (c.in_ok-finding-2.ensures.found s is)
