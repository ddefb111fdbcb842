-- Rests with what they are ordered by.
use Rattle.lu_machine.specs.declared.position.Position.{Position}
use Rattle.lu_serial_graph.specs.declared.ordering.KeyedRest.{KeyedRest}

-- the rest without its key
abbrev pub position_of : KeyedRest → Position
position_of keyed = keyed.position
