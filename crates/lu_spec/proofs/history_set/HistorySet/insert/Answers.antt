use Rattle.lu_spec.proofs.HistoryKeys.{key_adds}
use Rattle.lu_spec.proofs.history_set.HistorySet.insert.Goals as goal

pub returns : goal.returns
returns c =
    rw (c.in_ok-insert.ensures.keys, ← c.self.view_is) (key_adds (λ history. history.items) c.args.history c.self.inside.members.keys)
