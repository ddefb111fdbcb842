-- Laws of the texts of specifications.
use Rattle.std.specs.Prelude.{◌≡◌, ℕ, List, [], ◌∷◌}
use Rattle.lu_text.specs.declared.fault.Fault.TheVariants.{At}
use Rattle.lu_history.specs.declared.serial.SerialOp.{SerialOp}
use Rattle.lu_test.specs.Matrix.{Matrix, IsMatrix}
use Rattle.lu_spec.specs.declared.fault.SpecFaultKind.{SpecFaultKind}
use Rattle.lu_spec.specs.declared.fault.SpecLineFault.{SpecLineFault}
use Rattle.lu_spec.specs.EveryFault.{AreSpecFaults}
use Rattle.lu_spec.specs.Listed.{IsListing}
use Rattle.lu_spec.specs.Specs.{AreOf, IsSpec}
use Rattle.lu_spec.specs.SpecText.{AreListed, IsReadAs, IsSpecFault, spec_text}

-- What is read is written as it was: a set has one spelling.
abbrev pub OneSpelling : Type 0
OneSpelling =
    (matrix : Matrix) (text : List ℕ) (members listed : List (List SerialOp)) →
    IsReadAs matrix text members → IsListing members listed → text ≡ spec_text listed

-- A text that lists histories has no fault: so such a text is read, unless memory is refused.
abbrev pub NoFault : Type 0
NoFault =
    (matrix : Matrix) (text : List ℕ) (members : List (List SerialOp)) (kind : SpecFaultKind)
    (n : ℕ) →
    IsReadAs matrix text members → IsSpecFault matrix text (At kind n) → ⊥

-- The text that is written of a specification of a matrix is read as that specification.
abbrev pub ReadAgain : Type 0
ReadAgain =
    (matrix : Matrix) (members listed : List (List SerialOp)) →
    IsMatrix matrix → IsSpec members → AreOf matrix members → IsListing members listed →
    IsReadAs matrix (spec_text listed) members

-- Where nothing is reported of a text it lists histories of the matrix; else the first fault that
-- is reported is the reader's.
abbrev pub IsListedAsRead : Matrix → List ℕ → List SpecLineFault → Type 0
IsListedAsRead matrix text [] =
    (listed : List (List SerialOp)) × AreListed matrix listed × (text ≡ spec_text listed)
IsListedAsRead matrix text (first ∷ others) = IsSpecFault matrix text (At first.kind first.line)

-- What is reported of a text agrees with its reader.
abbrev pub ListedAsRead : Type 0
ListedAsRead =
    (matrix : Matrix) (text : List ℕ) (faults : List SpecLineFault) →
    AreSpecFaults matrix text faults → IsListedAsRead matrix text faults

-- Nothing is reported of a text that is read.
abbrev pub NoneListed : Type 0
NoneListed =
    (matrix : Matrix) (text : List ℕ) (members : List (List SerialOp))
    (faults : List SpecLineFault) →
    IsReadAs matrix text members → AreSpecFaults matrix text faults → faults ≡ []
