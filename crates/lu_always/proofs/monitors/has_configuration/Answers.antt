use Rattle.lu_always.proofs.Within.{found_holds}
use Rattle.lu_always.proofs.monitors.has_configuration.Goals as goal

pub returns-in-Ok : goal.returns-in-Ok
returns-in-Ok c = λ _. found_holds c.args.list.now c.args.one.now c.binary_search.result c.binary_search.ensures.ok c.binary_search.ensures.bound c.in-Ok.field-0 c.in-Ok.is
