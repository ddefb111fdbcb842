use Rattle.std.proofs.Common.{rules, ◌≡◌, None}
use Rattle.lu_trie.specs.Conflicts.{IsDeterministic}
use Rattle.lu_trie.proofs.Determinism.{deterministic_from_none}
use Rattle.lu_serial.specs.Walks.{Learns}
use Rattle.lu_serial.proofs.Learned.{learns_more, stops_at}
use Rattle.lu_serial.proofs.learning.TrieHistoryVisitor.at_end.Goals as goal

pub returns-in_ok-insert : goal.returns-in_ok-insert
returns-in_ok-insert g c =
    let none : c.conflict-found.result ≡ None = search rules in
    let deterministic : IsDeterministic c.insert.new.self = deterministic_from_none c.args.self.now c.insert.new.self c.args.history.now c.in_ok-insert.ensures.ok c.requires.begun.2.0 c.conflict-found.result none c.conflict-found.ensures in
    rw none (λ first shown learns. learns_more c.args.self.now c.insert.new.self shown c.args.history.now learns c.in_ok-insert.ensures.ok deterministic)

pub returns-else-is_none : goal.returns-else-is_none
returns-else-is_none g c = stops_at (λ _. Learns c.args.self.now) c.args.self.now c.args.history.now c.conflict-found.result (search rules) c.conflict-found.ensures
