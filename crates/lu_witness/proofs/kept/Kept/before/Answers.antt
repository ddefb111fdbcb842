use Rattle.std.proofs.Common.{subst}
use Rattle.lu_history.specs.Histories.{AreBefore}
use Rattle.lu_witness.proofs.Keeping.{kept_before}
use Rattle.lu_witness.proofs.kept.Kept.before.Goals as goal

pub returns : goal.returns
returns c = subst (λ h. AreBefore h c.args.b c.before-2.result.now) c.self.view_is (kept_before c.self.inside.history.now c.self.invariant c.self.inside.alone c.args.b c.before-2.result.now c.before-2.ensures)
