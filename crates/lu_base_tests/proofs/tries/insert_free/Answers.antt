use Rattle.std.proofs.Common.{rules}
use Rattle.lu_trie.proofs.Determinism.{deterministic_from_none}
use Rattle.lu_base_tests.proofs.tries.insert_free.Goals as goal

pub returns-in_ok-insert : goal.returns-in_ok-insert
returns-in_ok-insert c = deterministic_from_none _ _ _ c.in_ok-insert.ensures.ok c.requires.deterministic c.conflict-conflict.result (search rules) c.conflict-conflict.ensures
