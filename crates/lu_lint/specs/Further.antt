-- The parts of a bundle after its matrix.
use Rattle.std.specs.Prelude.{◌≡◌, ℕ, List, [], ◌∷◌, ◌++◌, Option}
use Rattle.lu_test.specs.Matrix.{Matrix}
use Rattle.lu_spec.specs.declared.given.Marks.{Marks}
use Rattle.lu_lint.specs.declared.remark.Said.{Said}
use Rattle.lu_lint.specs.declared.remark.Cause.TheVariants.{FifthPart}
use Rattle.lu_lint.specs.declared.part_kind.PartKind.{PartKind}
use Rattle.lu_lint.specs.declared.part_kind.PartKind.TheVariants.{Specification, Report, History, Schedule}
use Rattle.lu_lint.specs.Said.{SaysFurther, above_next}
use Rattle.lu_lint.specs.Parts.{SaidOfSome, PartSaid, histories_of, kind_of}

-- where parts stand after the fourth, that is said of the line before them
abbrev pub fifth_said : ℕ → List (List ℕ) → List Said
fifth_said above [] = []
fifth_said above (text ∷ texts) = record { line = above; cause = FifthPart } ∷ []

-- what is said of a fourth part, which is to be a specification, and that parts stand after it
abbrev pub FourthSaid : Marks → Option Matrix → ℕ → List (List ℕ) → List Said → Type 0
FourthSaid marks matrix above [] said = said ≡ []
FourthSaid marks matrix above (text ∷ texts) said =
    (first : List Said) × SaidOfSome marks matrix above text first
    × (said ≡ first ++ fifth_said (above_next above text) texts)

-- What is said of the parts after a third part. After a schedule or a report, a specification may
-- stand; after a specification or a recorded history, recorded histories.
abbrev pub AfterThird : Marks → PartKind → Option Matrix → ℕ → List (List ℕ) → List Said → Type 0
AfterThird marks Specification matrix above texts said = said ≡ histories_of matrix above texts
AfterThird marks History matrix above texts said = said ≡ histories_of matrix above texts
AfterThird marks Report matrix above texts said = FourthSaid marks matrix above texts said
AfterThird marks Schedule matrix above texts said = FourthSaid marks matrix above texts said

-- what is said of a third part that is to be this, and of the parts after it
abbrev pub FromThird : Marks → PartKind → Option Matrix → ℕ → List ℕ → List (List ℕ) → List Said → Type 0
FromThird marks kind matrix above text texts said =
    (first : List Said) × PartSaid marks kind matrix above text first
    × SaysFurther (AfterThird marks kind matrix (above_next above text) texts) first said

-- what is said of the parts after a matrix that is read or not
abbrev pub AfterMatrix : Marks → Option Matrix → ℕ → List (List ℕ) → List Said → Type 0
AfterMatrix marks matrix above [] said = said ≡ []
AfterMatrix marks matrix above (text ∷ texts) said =
    FromThird marks (kind_of text) matrix above text texts said
