use Rattle.std.proofs.Common.{sym, ◌∙◌}
use Rattle.lu_linearization.specs.contracts.configuration.ConfigurationOrd.TheImpl as ord
use Rattle.lu_linearization.proofs.Compared.{exact, lists_exact}
use Rattle.lu_always.proofs.monitors.are_same.Goals as goal

pub returns-in-Equal : goal.returns-in-Equal
returns-in-Equal c =
    λ _. lists_exact (ord.ghosts).cmp exact c.args.a.now c.args.b.now (sym c.cmp.ensures ∙ c.in-Equal.is)
