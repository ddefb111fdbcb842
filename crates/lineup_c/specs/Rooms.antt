-- Rooms of a caller.
use Rattle.std.specs.Prelude.{List, ◌++◌, length, take, drop}

-- the front of the room is what is put there, as far as it fits, and after it all is as it was
abbrev pub filled : {A : Type 0} → List A → List A → List A
filled put room = take (length room) put ++ drop (length put) room
