use Rattle.std.proofs.Common.{length}
use Rattle.lu_trie.proofs.trie.Trie.+of_one.Given as goal

abbrev pub decreases-of_one : goal.decreases-of_one
decreases-of_one g l = length l.history.now
