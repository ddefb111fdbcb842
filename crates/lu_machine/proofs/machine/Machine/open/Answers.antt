use Rattle.std.proofs.Common.{arith, Some, refl, replicate}
use Rattle.lu_machine.specs.declared.event.Event.TheVariants.{Call as Called}
use Rattle.lu_machine.specs.declared.thread.OperationBefore.{OperationBefore}
use Rattle.lu_machine.specs.declared.undo.Shared.TheVariants.{Nothing}
use Rattle.lu_machine.specs.Changes.{before, idle}
use Rattle.lu_machine.specs.Undoes.{has_local}
use Rattle.lu_machine.proofs.Undoing.{can_take, turned_back}
use Rattle.lu_machine.proofs.machine.Machine.open.Goals as goal

pub returns-clause-back : goal.returns-clause-back
returns-clause-back c =
    let nothing : OperationBefore = record { op = c.opening-frame.result.now.op; place = 0; register = 0; value = 0; registers = replicate 8 0 } in
    rw c.set_thread.ensures (turned_back c.args.self.now c.args.thread _ (idle c.args.done) (before (has_local c.args.self.now) (Some (Called c.args.thread c.args.done)) nothing) c.requires.stands refl)

pub returns-clause-fits : goal.returns-clause-fits
returns-clause-fits c =
    rw c.set_thread.ensures (can_take c.args.self.now c.args.self.now Nothing c.args.thread _ (idle c.args.done) _ _ refl tt c.requires.stands (omega arith) (c.opening-frame.ensures.in_code.0, omega arith) (c.requires.few, c.opening-frame.ensures.few))
