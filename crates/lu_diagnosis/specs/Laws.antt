-- Laws of what is said of two serial runs that differ.
use Rattle.std.specs.Prelude.{◌≡◌, ◌≢◌, ℕ, ◌+◌, ◌++◌, List, [], ◌∷◌, take, Some, slice_get}
use Rattle.lu_history.specs.declared.serial.SerialOp.{SerialOp}
use Rattle.lu_history.specs.declared.serial.SerialOutcome.{SerialOutcome}
use Rattle.lu_trie.specs.Conflicts.{ConflictAt}
use Rattle.lu_diagnosis.specs.SerialRuns.{with_outcome}

-- The runs that are shown of a conflict are the first i + 1 operations of both histories: they
-- begin with the same i operations, and go on with the same thread and different outcomes.
abbrev pub ShownAreBoth : Type 0
ShownAreBoth =
    (h q : List SerialOp) (i : ℕ) (o : SerialOutcome) (op : SerialOp) → ConflictAt h q i o
    → slice_get h i ≡ Some op
    → (take (i + 1) h ≡ take i h ++ op ∷ [])
    × (take (i + 1) q ≡ take i h ++ with_outcome op o ∷ []) × (o ≢ op.outcome)
