use Rattle.std.proofs.Common.{length}
use Rattle.lu_trie.proofs.trie.Trie.+insert.Given as goal

abbrev pub decreases-insert : goal.decreases-insert
decreases-insert g l = length l.history.now
