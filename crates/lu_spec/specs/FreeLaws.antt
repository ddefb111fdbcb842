-- Laws of specifications that leave outcomes free: without marks they are specifications.
use Rattle.std.specs.Prelude.{◌≡◌, ◌↔◌, ℕ, false, List, map}
use Rattle.lu_text.specs.declared.fault.Fault.{Fault}
use Rattle.lu_history.specs.declared.serial.SerialOp.{SerialOp}
use Rattle.lu_test.specs.Matrix.{Matrix}
use Rattle.lu_trie.specs.Conflicts.{IsDeterministic}
use Rattle.lu_spec.specs.declared.fault.SpecFaultKind.{SpecFaultKind}
use Rattle.lu_spec.specs.declared.marked_line.MarkedOp.{MarkedOp}
use Rattle.lu_spec.specs.Collecting.{IsCollectFault, IsCollectedAs}
use Rattle.lu_spec.specs.FreeSpecs.{AreFirmlyApart, IsFreeFault, IsListedFreely, has_free_entries}
use Rattle.lu_spec.specs.MarkedEntries.{firm}

-- each entry without a mark
abbrev pub firm_all : List (List SerialOp) → List (List MarkedOp)
firm_all listed = map (map firm) listed

-- histories without marks conflict firmly where they conflict
abbrev pub FirmIsPlain : Type 0
FirmIsPlain =
    (listed : List (List SerialOp)) → AreFirmlyApart (firm_all listed) ↔ IsDeterministic listed

-- A text without marks lists the same histories.
abbrev pub ReadAlike : Type 0
ReadAlike =
    (matrix : Matrix) (text : List ℕ) (members : List (List SerialOp))
    → has_free_entries text ≡ false
    → IsListedFreely matrix text members ↔ IsCollectedAs matrix text members

-- It has the same first fault.
abbrev pub RefusedAlike : Type 0
RefusedAlike =
    (matrix : Matrix) (text : List ℕ) (fault : Fault SpecFaultKind)
    → has_free_entries text ≡ false
    → IsFreeFault matrix text fault ↔ IsCollectFault matrix text fault
