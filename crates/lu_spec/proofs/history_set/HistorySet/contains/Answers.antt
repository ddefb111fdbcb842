use Rattle.std.proofs.Common.{◌∙◌, ap}
use Rattle.lu_trie.specs.Members.{contains}
use Rattle.lu_spec.proofs.HistoryKeys.{has_key}
use Rattle.lu_spec.proofs.history_set.HistorySet.contains.Goals as goal

pub returns : goal.returns
returns c =
    let h = c.args.history.now in
    c.contains.ensures ∙ has_key (λ history. history.items) h c.self.inside.members.keys ∙ ap (λ members. contains members h) c.self.view_is
