use Rattle.lu_linearization.proofs.Compared.{found_one}
use Rattle.lu_linearization.proofs.configuration.find.Goals as goal

pub returns-clause-found : goal.returns-clause-found
returns-clause-found c = found_one c.args.all.now c.args.one.now c.binary_search.result c.binary_search.ensures.ok
