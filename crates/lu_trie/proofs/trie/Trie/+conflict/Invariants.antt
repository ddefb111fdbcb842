use Rattle.std.proofs.Common.{length}
use Rattle.lu_trie.proofs.trie.Trie.+conflict.Given as goal

abbrev pub decreases-conflict : goal.decreases-conflict
decreases-conflict g l = length l.history.now
