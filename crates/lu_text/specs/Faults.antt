-- Texts that are read by lines: the value of a text, or its first fault.
use Rattle.std.specs.Prelude.{◌≡◌, ℕ, ◌+◌, Bool, List, [], ◌∷◌, ◌++◌, length, Option, Some, None, Result, Ok, Err, IsErrOf, if◌then◌else◌}
use Rattle.lu_text.specs.declared.fault.Fault.{Fault}
use Rattle.lu_text.specs.declared.fault.Fault.TheVariants.{At, Memory}
use Rattle.lu_text.specs.Lines.{lines_of}

-- ---- what is wrong with one line

-- what may be wrong, in the order in which it is looked for, and whether it is
abbrev pub Tests : Type 0 → Type 0
Tests Kind = List (Bool × Kind)

-- the first that is wrong
abbrev pub first_fault : {Kind : Type 0} → Tests Kind → Option Kind
first_fault [] = None
first_fault (test ∷ tests) = if test.0 then Some test.1 else first_fault tests

-- the fault, or else this
abbrev pub or_else : {Kind A : Type 0} → Option Kind → A → Result A Kind
or_else None x = Ok x
or_else (Some kind) x = Err kind

-- the first that is wrong, or else this
abbrev pub says : {Kind A : Type 0} → Tests Kind → A → Result A Kind
says tests x = or_else (first_fault tests) x

-- what is wrong, if anything is
abbrev pub fault_in : {Kind A : Type 0} → Result A Kind → Option Kind
fault_in (Ok x) = None
fault_in (Err kind) = Some kind

-- the draft after a line, and no fault; or the draft before it, and the line's fault
abbrev pub going_on : {Kind Draft : Type 0} → Draft → Result Draft Kind → Draft × Option Kind
going_on d (Ok next) = (next, None)
going_on d (Err kind) = (d, Some kind)

-- ---- lines one after the other

-- How a text is read: what a draft becomes by a line, and what a draft makes at the end of the
-- text.
pub record Grammar (Kind Draft Value : Type 0) : Type 0 where
  pub nothing : Draft
  pub line : Draft → List ℕ → Result Draft Kind
  pub finish : Draft → Result Value Kind

-- a fault of line n
abbrev pub on_line : {Kind A : Type 0} → ℕ → Result A Kind → Result A (Fault Kind)
on_line n (Ok x) = Ok x
on_line n (Err kind) = Err (At kind n)

abbrev pub then_lines : {Kind A B : Type 0} → Result A (Fault Kind) → (A → Result B (Fault Kind))
    → Result B (Fault Kind)
then_lines (Ok x) rest = rest x
then_lines (Err e) rest = Err e

-- The value of these lines, which begin with line n; or the first fault. One at the end carries the
-- number of lines plus one.
unfoldable pub lines_after : {Kind Draft Value : Type 0} → Grammar Kind Draft Value → ℕ → Draft
    → List (List ℕ) → Result Value (Fault Kind)
lines_after g n d [] = on_line n (g.finish d)
lines_after g n d (line ∷ lines) =
    then_lines (on_line n (g.line d line)) (λ next. lines_after g (n + 1) next lines)

-- the value of a text's lines, or their first fault
abbrev pub meaning_of_lines : {Kind Draft Value : Type 0} → Grammar Kind Draft Value → List (List ℕ)
    → Result Value (Fault Kind)
meaning_of_lines g lines = lines_after g 1 g.nothing lines

-- the value of a text, or its first fault
abbrev pub meaning_of : {Kind Draft Value : Type 0} → Grammar Kind Draft Value → List ℕ
    → Result Value (Fault Kind)
meaning_of g text = meaning_of_lines g (lines_of text)

-- What a reader returned is the value or the fault of the definition, unless memory ran out.
abbrev pub IsUnlessMemory : {Kind A : Type 0} → Fault Kind → Result A (Fault Kind) → Type 0
IsUnlessMemory Memory meant = Unit {0}
IsUnlessMemory (At kind n) meant = meant ≡ Err (At kind n)

abbrev pub Gives : {Kind A : Type 0} → Result A (Fault Kind) → Result A (Fault Kind) → Type 0
Gives (Ok x) meant = meant ≡ Ok x
Gives (Err e) meant = IsUnlessMemory e meant

-- what a reader returned of line n is the line's value or fault, unless memory ran out
abbrev pub OnLine : {Kind A : Type 0} → ℕ → Result A (Fault Kind) → Result A Kind → Type 0
OnLine n returned meant = Gives returned (on_line n meant)

-- ---- the fault is the first one

-- these lines have no fault, and lead from one draft to the other
abbrev pub LeadsTo : {Kind Draft Value : Type 0} → Grammar Kind Draft Value → Draft → List (List ℕ)
    → Draft → Type 0
LeadsTo g d [] to = d ≡ to
LeadsTo {Draft = Draft} g d (line ∷ lines) to =
    (next : Draft) × (g.line d line ≡ Ok next) × LeadsTo g next lines to

-- the next line, or the end where there is none, has the fault
abbrev pub IsNext : {Kind Draft Value : Type 0} → Grammar Kind Draft Value → Draft → List (List ℕ)
    → Kind → Type 0
IsNext g d [] kind = g.finish d ≡ Err kind
IsNext g d (line ∷ lines) kind = g.line d line ≡ Err kind

-- The lines before line n have no fault and lead to a draft at which line n, or the end, has this
-- one.
pub record IsFirstFault {Kind Draft Value : Type 0} (g : Grammar Kind Draft Value) (text : List ℕ)
    (kind : Kind) (n : ℕ) : Type 0 where
  pub before : List (List ℕ)
  pub rest : List (List ℕ)
  pub draft : Draft
  pub cut : lines_of text ≡ before ++ rest
  pub sound : LeadsTo g g.nothing before draft
  pub numbered : n ≡ length before + 1
  pub next : IsNext g draft rest kind

-- a fault that a reader returned is the first one of the text
abbrev pub TellsFirst : {Kind Draft Value A : Type 0} → Grammar Kind Draft Value → List ℕ
    → Result A (Fault Kind) → Type 0
TellsFirst {Kind = Kind} g text returned =
    (kind : Kind) (n : ℕ) → IsErrOf returned (At kind n) → IsFirstFault g text kind n
