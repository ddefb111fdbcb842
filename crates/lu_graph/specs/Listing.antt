-- The members of a set, as they are listed.
use Rattle.std.specs.Prelude.{◌≡◌, ◌++◌, List, map}
use Rattle.std.specs.Global.{Vec}
use Rattle.lu_history.specs.declared.serial.SerialOp.{SerialOp}

-- the histories of these vectors
abbrev pub histories : List (Vec SerialOp) → List (List SerialOp)
histories members = map (λ q. q.items) members

-- after the old histories are these more, each after the path
abbrev pub ListsMore : Vec (Vec SerialOp) → Vec SerialOp → List (List SerialOp)
    → Vec (Vec SerialOp) → Type 0
ListsMore old path below new =
    histories new.items ≡ histories old.items ++ map (λ q. path.items ++ q) below
