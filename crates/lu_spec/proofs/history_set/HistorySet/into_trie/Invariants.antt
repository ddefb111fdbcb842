use Rattle.std.proofs.Common.{map}
use Rattle.lu_trie.specs.Members.{AllSerial}
use Rattle.lu_spec.proofs.HistoryKeys.{Moved}
use Rattle.lu_spec.proofs.history_set.HistorySet.into_trie.Given as goal

abbrev pub invariant-loop-history : goal.invariant-loop-history
invariant-loop-history l = record {
  moved : Moved l.trie (map (λ history. history.items) l.history-iterator) l.fn.self;
  serial : AllSerial (map (λ history. history.items) l.history-iterator);
}
