use Rattle.std.proofs.Common.{refl}
use Rattle.lu_machine.proofs.Undoing.{set_back}
use Rattle.lu_machine.proofs.machine.Machine.set_cell.Goals as goal

pub returns-clause-back : goal.returns-clause-back
returns-clause-back c =
    let same = set_back c.self.inside.cells.items c.args.cell c.args.cell c.args.value c.index.result.now refl c.index.ensures in
    rw same c.self.view_is
