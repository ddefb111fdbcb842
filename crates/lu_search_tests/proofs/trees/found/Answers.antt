use Rattle.lu_search_tests.proofs.trees.found.Goals as goal

pub found_below-requires : goal.found_below-requires
found_below-requires g c = c.in_ok-case.ensures.runs
