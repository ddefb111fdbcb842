-- Specifications that leave outcomes free: beside an entry with the mark `?` other outcomes of the
-- same operation may stand.
use Rattle.std.specs.Prelude.{◌≡◌, ℕ, Bool, false, ◌++◌, MatchBool, List, [], ◌∷◌, map, slice_get, Some, Contains, codes, nat_eq}
use Rattle.std.specs.List.{ends_with, list_any}
use Rattle.lu_text.specs.declared.fault.Fault.{Fault}
use Rattle.lu_text.specs.declared.fault.Fault.TheVariants.{At, Memory}
use Rattle.lu_text.specs.Lines.{lines_of, words_of}
use Rattle.lu_text.specs.Words.{Word}
use Rattle.lu_history.specs.declared.serial.SerialOp.{SerialOp}
use Rattle.lu_history.specs.declared.serial.SerialOutcome.{SerialOutcome}
use Rattle.lu_test.specs.Matrix.{Matrix}
use Rattle.lu_trie.specs.Members.{AllSerial}
use Rattle.lu_trie.specs.Conflicts.{ConflictAt}
use Rattle.lu_spec.specs.declared.fault.SpecFaultKind.{SpecFaultKind}
use Rattle.lu_spec.specs.declared.fault.SpecFaultKind.TheVariants.{Form, Foreign, Nondeterministic}
use Rattle.lu_spec.specs.declared.given.Marks.{Marks}
use Rattle.lu_spec.specs.declared.given.Marks.TheVariants.{Refused, Allowed}
use Rattle.lu_spec.specs.declared.marked_line.MarkedOp.{MarkedOp}
use Rattle.lu_spec.specs.Beginnings.{Has, IsClosed, IsClosureOf}
use Rattle.lu_spec.specs.Collecting.{listing_lines}
use Rattle.lu_spec.specs.MarkedEntries.{SayMarked, SayNoMarked, erased, firm}
use Rattle.lu_spec.specs.SpecText.{IsReadAs, IsSpecFault}
use Rattle.lu_spec.specs.Specs.{AllHaveOutcomes, FitsMatrix}

-- ---- firm conflicts

-- entry i is there, and has no mark
abbrev pub IsFirmAt : List MarkedOp → ℕ → Type 0
IsFirmAt q i = (op : SerialOp) × (slice_get q i ≡ Some (firm op))

-- the operations conflict at i, and neither entry has a mark there
pub record FirmConflictAt (h q : List MarkedOp) (i : ℕ) (o : SerialOutcome) : Type 0 where
  pub conflict : ConflictAt (erased h) (erased q) i o
  pub first : IsFirmAt h i
  pub second : IsFirmAt q i

-- q conflicts firmly with a listed history
abbrev pub HasFirmConflictIn : List (List MarkedOp) → List MarkedOp → Type 0
HasFirmConflictIn listed q =
    (p : List MarkedOp) × Contains listed p × (i : ℕ) × (o : SerialOutcome) × FirmConflictAt q p i o

-- no two listed histories conflict firmly
abbrev pub AreFirmlyApart : List (List MarkedOp) → Type 0
AreFirmlyApart listed = (q : List MarkedOp) → Contains listed q → HasFirmConflictIn listed q → ⊥

-- ---- what the lines of a text list

-- line by line they say these histories, which are of the matrix
abbrev pub SayFreely : Matrix → List (ℕ × List Word) → List (List MarkedOp) → Type 0
SayFreely matrix [] [] = Unit {0}
SayFreely matrix [] (q ∷ listed) = ⊥
SayFreely matrix (line ∷ lines) [] = ⊥
SayFreely matrix (line ∷ lines) (q ∷ listed) =
    SayMarked line.1 q × FitsMatrix matrix (erased q) × SayFreely matrix lines listed

-- these lines list these histories, which do not conflict firmly
pub record AreListedFreely (matrix : Matrix) (lines : List (ℕ × List Word))
    (listed : List (List MarkedOp)) : Type 0 where
  pub say : SayFreely matrix lines listed
  pub apart : AreFirmlyApart listed

-- the histories, without their marks
abbrev pub erased_all : List (List MarkedOp) → List (List SerialOp)
erased_all listed = map erased listed

-- the text lists histories, in any order, and this is all their beginnings and the empty history
abbrev pub IsListedFreely : Matrix → List ℕ → List (List SerialOp) → Type 0
IsListedFreely matrix text closed =
    (listed : List (List MarkedOp)) × AreListedFreely matrix (listing_lines text) listed
    × IsClosureOf (erased_all listed) closed

-- ---- what is wrong with a line

-- no history; one that does not fit the matrix; or one that conflicts so
abbrev pub IsFaultOfFree : Matrix → (List MarkedOp → Type 0) → List Word → SpecFaultKind → Type 0
IsFaultOfFree matrix Conflicts words Form = SayNoMarked words
IsFaultOfFree matrix Conflicts words Foreign =
    (q : List MarkedOp) × SayMarked words q × (FitsMatrix matrix (erased q) → ⊥)
IsFaultOfFree matrix Conflicts words Nondeterministic =
    (q : List MarkedOp) × SayMarked words q × FitsMatrix matrix (erased q) × Conflicts q

-- those before line n list histories, and line n has this fault
pub record IsFaultOfFreeListing (matrix : Matrix) (lines : List (ℕ × List Word))
    (kind : SpecFaultKind) (n : ℕ) : Type 0 where
  pub before : List (ℕ × List Word)
  pub listed : List (List MarkedOp)
  pub are : AreListedFreely matrix before listed
  pub words : List Word
  pub rest : List (ℕ × List Word)
  pub parts : lines ≡ before ++ (n, words) ∷ rest
  pub fault : IsFaultOfFree matrix (HasFirmConflictIn listed) words kind

-- the first fault of a text that lists no histories of the matrix, or refused memory
abbrev pub IsFreeFault : Matrix → List ℕ → Fault SpecFaultKind → Type 0
IsFreeFault matrix text (At kind n) = IsFaultOfFreeListing matrix (listing_lines text) kind n
IsFreeFault matrix text Memory = Unit {0}

-- ---- the set

-- with each member its beginnings are members; the empty history is one; `Stuck` stands only last;
-- returned values are numbers of 32 bits
pub record IsFreeSpec (members : List (List SerialOp)) : Type 0 where
  pub closed : IsClosed members
  pub empty : Has members []
  pub serial : AllSerial members
  pub outcomes : AllHaveOutcomes members

-- ---- texts with marks and without

-- the word ends with `?`
abbrev pub ends_marked : Word → Bool
ends_marked word = ends_with nat_eq word (codes "?")

-- one of the words ends with `?`
abbrev pub have_mark : List Word → Bool
have_mark words = list_any ends_marked words

-- a word of the line ends with `?`
abbrev pub has_mark : List ℕ → Bool
has_mark line = have_mark (words_of line)

-- a word of a line ends with `?`
abbrev pub has_free_entries : List ℕ → Bool
has_free_entries text = list_any has_mark (lines_of text)

-- the text has marks, and they are allowed
abbrev pub is_marked : Marks → List ℕ → Bool
is_marked Refused text = false
is_marked Allowed text = has_free_entries text

-- A text with marks, where they are allowed, lists histories in any order; any other text lists
-- them in the one order that a specification has.
abbrev pub IsGivenAs : Marks → Matrix → List ℕ → List (List SerialOp) → Type 0
IsGivenAs marks matrix text members =
    MatchBool (is_marked marks text) (IsListedFreely matrix text members)
    (IsReadAs matrix text members)

-- the first fault of such a text, or refused memory
abbrev pub IsGivenFault : Marks → Matrix → List ℕ → Fault SpecFaultKind → Type 0
IsGivenFault marks matrix text (At kind n) =
    MatchBool (is_marked marks text) (IsFreeFault matrix text (At kind n))
    (IsSpecFault matrix text (At kind n))
IsGivenFault marks matrix text Memory = Unit {0}
