-- States with 0 in dead registers.
use Rattle.std.specs.Prelude.{◌≡◌, List}
use Rattle.lu_machine.specs.declared.thread.Thread.{Thread}
use Rattle.lu_machine.specs.States.{State}
use Rattle.lu_horizon.specs.Dead.{DeadTable}
use Rattle.lu_graph.specs.Rows.{AreLive}

-- the same state, with 0 in the dead registers of each open operation
abbrev pub IsCleared : DeadTable → State → State → Type 0
IsCleared dead s cleared =
    (live : List Thread) × AreLive dead s.threads live × (cleared ≡ record s { threads = live })
