use Rattle.lu_machine.proofs.Running.{has_some, run_back, run_fits}
use Rattle.lu_machine.proofs.machine.Machine.apply_as.Goals as goal

pub returns-then-more-gt0-clause-back : goal.returns-then-more-gt0-clause-back
returns-then-more-gt0-clause-back g c =
    let first = c.one_step-undo.ensures in
    let mid = c.one_step-undo.new.self in
    let undo = c.one_step-undo.result in
    let back = first.back (λ e. cc) in
    let some = has_some c.args.self.now mid undo c.more_local-more.result _ back c.more_local-more.ensures c.if-more-gt0.true in
    run_back c.args.self.now mid undo c.args.next.thread _ c.run_on.new.self first.thread some back first.fits c.run_on.ensures

pub returns-then-more-gt0-clause-fits : goal.returns-then-more-gt0-clause-fits
returns-then-more-gt0-clause-fits g c =
    let first = c.one_step-undo.ensures in
    run_fits c.one_step-undo.new.self c.one_step-undo.result c.args.next.thread _ c.run_on.new.self first.thread first.fits c.run_on.ensures
