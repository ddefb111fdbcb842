use Rattle.std.proofs.Common.{sym}
use Rattle.lu_always.proofs.Tabled.{found_number}
use Rattle.lu_always.proofs.tables.known_number.Goals as goal

pub returns : goal.returns
returns g c =
    found_number (g.Q.Equivalent.equivalent c.args.query) c.args.table.now.keys c.in_ok-index.index (sym c.in_ok-index.ensures.index) c.number_at.result c.number_at.ensures c.ok.result c.ok.ensures.value
