use Rattle.std.proofs.Common.{sym, ◌∙◌}
use Rattle.lu_machine.proofs.Undoing.{set_back}
use Rattle.lu_machine.proofs.machine.Machine.set_owner.Goals as goal

pub returns-clause-back : goal.returns-clause-back
returns-clause-back c =
    let same = set_back c.self.inside.locks.items c.from-2.result c.args.lock c.args.owner c.index.result.now c.from-2.ensures (rw (c.from-2.ensures ∙ sym c.from.ensures) c.index.ensures) in
    rw same c.self.view_is
