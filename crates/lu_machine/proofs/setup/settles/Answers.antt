use Rattle.lu_machine.proofs.Starting.{settles_or}
use Rattle.lu_machine.proofs.setup.settles.Goals as goal

pub returns : goal.returns
returns c = settles_or c.args.component.now c.args.matrix.now c.in_ok-alone.alone c.in_ok-setup.setup c.make_all.new.self c.make_all.result c.in_ok-alone.ensures c.in_ok-setup.ensures.empty c.make_all.ensures
