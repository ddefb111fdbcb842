-- Tables that searches share.
use Rattle.std.specs.Prelude.{ℕ}
use Rattle.lu_component.specs.Component.{Component}
use Rattle.lu_test.specs.Matrix.{Matrix}
use Rattle.lu_machine.specs.declared.test.Test.{Test}
use Rattle.lu_machine.specs.States.{State}
use Rattle.lu_horizon.specs.Dead.{IsDeadTable}
use Rattle.lu_horizon.specs.Tables.{Serves, ServesRuns}
use Rattle.lu_orders.specs.Orders.{CountsUpTo}
use Rattle.lu_tree.specs.declared.lookahead.Lookahead.{Lookahead}
use Rattle.lu_tree.specs.declared.tables.Tables.{Tables}

-- the tables are those of the runs of the component and the matrix
abbrev pub AreRunTables : Component → Matrix → Tables → Type 0
AreRunTables c matrix tables = ServesRuns c matrix tables.horizon × IsDeadTable c tables.dead

-- they are those of the test's runs
abbrev pub AreTablesOf : Test → Tables → Type 0
AreTablesOf test tables = AreRunTables test.component.now test.matrix.now tables

-- and count the orders of this many moves
abbrev pub CountOrdersUpTo : ℕ → Tables → Type 0
CountOrdersUpTo moves tables = CountsUpTo tables.orders moves

-- the tables ahead are those of the run whose state is s
abbrev pub ServesAhead : Lookahead → State → Type 0
ServesAhead ahead s = Serves ahead.tables.now.horizon s
