use Rattle.std.proofs.Common.{ap, sym, ◌∙◌, length}
use Rattle.lu_witness.proofs.Beginnings.{begun_witness}
use Rattle.lu_witness.proofs.search.ends.Goals as goal

pub returns-then-ends : goal.returns-then-ends
returns-then-ends g c p are begun = (
  λ e. (sym c.ends.ensures ∙ c.if-ends.true, begun_witness c.args.history.now c.requires.history p begun (λ t. sym (are t) ∙ c.all_taken.ensures.0 e t)),
  λ w. c.all_taken.ensures.1 (λ t. are t ∙ ap length (w.1.parts t)),
)
