use Rattle.std.proofs.Common.{sym, ap, ◌∙◌}
use Rattle.lu_trie.specs.Members.{contains}
use Rattle.lu_serial.proofs.Seeking.{seeks_more}
use Rattle.lu_serial.proofs.outside.SearchHistoryVisitor.at_end.Goals as goal

pub returns-then-contains_below : goal.returns-then-contains_below
returns-then-contains_below g c = λ first shown seeks.
    seeks_more (g.T.SerialTree.members first.tree.now) (g.T.SerialTree.members c.args.self.now.tree.now) shown c.args.history.now seeks
    (sym (ap (λ members. contains members c.args.history.now) c.root.ensures.all) ∙ (sym c.contains_below.ensures ∙ c.if-contains_below.true))

pub returns : goal.returns
returns g c = (
  (λ first shown seeks. seeks),
  sym (ap (λ members. contains members c.args.history.now) c.root.ensures.all) ∙ (sym c.contains_below.ensures ∙ c.if-contains_below.false),
)
