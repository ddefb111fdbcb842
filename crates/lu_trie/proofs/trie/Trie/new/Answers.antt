use Rattle.lu_trie.proofs.Kids.{no_branches}
use Rattle.lu_trie.proofs.Serial.{none_serial}
use Rattle.lu_trie.proofs.trie.Trie.new.Goals as goal

pub invariant_of-result : goal.invariant_of-result
invariant_of-result g c = rw c.new.ensures.items record { are = no_branches; serial = none_serial }
