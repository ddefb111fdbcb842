use Rattle.std.proofs.Common.{rules}
use Rattle.std.proofs.lemmas.List.Sorted.{answers_always}
use Rattle.lu_history.proofs.Derived.{op_order}
use Rattle.lu_trie.specs.Branches.{Branch}
use Rattle.lu_trie.proofs.Searched.{searched}
use Rattle.lu_trie.proofs.trie.find_kid.Goals as goal

pub returns : goal.returns
returns g c =
    let facts = c.binary_search_by_key.ensures in
    let by_label = facts.position (λ (branch : Branch). branch.0) (answers_always _ _ _ (λ f a r h called. search rules)) in
    searched _ c.requires c.args.label _ (λ branch. op_order branch.0 c.args.label) _ facts.bound by_label
