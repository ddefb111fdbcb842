-- A specification as a person writes it: which histories its lines list, in any order.
use Rattle.std.specs.Prelude.{◌≡◌, ℕ, ◌+◌, ◌++◌, Bool, true, false, ◌&&◌, ◌||◌, not, ◌==◌, if◌then◌else◌, MatchBool, List, [], ◌∷◌, length, codes}
use Rattle.std.specs.Option.{option_map_or}
use Rattle.std.specs.Str.{bytes_eq}
use Rattle.lu_text.specs.declared.fault.Fault.{Fault}
use Rattle.lu_text.specs.declared.fault.Fault.TheVariants.{At, Memory}
use Rattle.lu_text.specs.Lines.{lines_of, words_of}
use Rattle.lu_text.specs.Words.{Word, exactly_three}
use Rattle.lu_history.specs.declared.serial.SerialOp.{SerialOp}
use Rattle.lu_test.specs.Matrix.{Matrix}
use Rattle.lu_trie.specs.Conflicts.{IsDeterministic}
use Rattle.lu_spec.specs.declared.fault.SpecFaultKind.{SpecFaultKind}
use Rattle.lu_spec.specs.declared.fault.SpecFaultKind.TheVariants.{Form, Foreign, Nondeterministic}
use Rattle.lu_spec.specs.declared.collecting.CollectedDraft.{CollectedDraft}
use Rattle.lu_spec.specs.Beginnings.{AddsBeginnings, IsClosureOf}
use Rattle.lu_spec.specs.Specs.{FitsMatrix}
use Rattle.lu_spec.specs.SpecText.{HasConflictIn, SayHistory, SayNoHistory}

-- ---- which lines list histories

abbrev pub are_head : Word × Word × Word → Bool
are_head (a, b, c) =
    bytes_eq a (codes "lineup") && (bytes_eq b (codes "spec") && bytes_eq c (codes "1"))

-- the words `lineup spec 1`
abbrev pub is_head : List Word → Bool
is_head words = option_map_or are_head (exactly_three words) false

-- a line with these words lists a history, where `begun` tells whether a line before it had words:
-- each line with words does, but for a first one that is the head
abbrev pub lists : Bool → List Word → Bool
lists begun words = not (length words == 0) && (begun || not (is_head words))

-- whether this line or one before it had words
abbrev pub has_begun : Bool → List Word → Bool
has_begun begun words = begun || not (length words == 0)

-- the words of the lines that list histories, and their numbers, where the first is line n
abbrev pub listing_from : Bool → ℕ → List (List ℕ) → List (ℕ × List Word)
listing_from begun n [] = []
listing_from begun n (line ∷ lines) =
    (if lists begun (words_of line) then (n, words_of line) ∷ [] else [])
    ++ listing_from (has_begun begun (words_of line)) (n + 1) lines

abbrev pub listing_lines : List ℕ → List (ℕ × List Word)
listing_lines text = listing_from false 1 (lines_of text)

-- ---- what they list

-- line by line they say these histories, which are of the matrix
abbrev pub SayOf : Matrix → List (ℕ × List Word) → List (List SerialOp) → Type 0
SayOf matrix [] [] = Unit {0}
SayOf matrix [] (q ∷ listed) = ⊥
SayOf matrix (line ∷ lines) [] = ⊥
SayOf matrix (line ∷ lines) (q ∷ listed) =
    SayHistory line.1 q × FitsMatrix matrix q × SayOf matrix lines listed

-- these lines list these histories, which do not conflict
pub record AreCollected (matrix : Matrix) (lines : List (ℕ × List Word))
    (listed : List (List SerialOp)) : Type 0 where
  pub say : SayOf matrix lines listed
  pub deterministic : IsDeterministic listed

-- the text lists histories, in any order, and this is all their beginnings and the empty history
abbrev pub IsCollectedAs : Matrix → List ℕ → List (List SerialOp) → Type 0
IsCollectedAs matrix text closed =
    (listed : List (List SerialOp)) × AreCollected matrix (listing_lines text) listed
    × IsClosureOf listed closed

-- ---- what is wrong with a line after the listed histories

-- no history; one that does not fit the matrix; or one that conflicts with a listed one
abbrev pub IsFaultOfWords : Matrix → List (List SerialOp) → List Word → SpecFaultKind → Type 0
IsFaultOfWords matrix listed words Form = SayNoHistory words
IsFaultOfWords matrix listed words Foreign =
    (q : List SerialOp) × SayHistory words q × (FitsMatrix matrix q → ⊥)
IsFaultOfWords matrix listed words Nondeterministic =
    (q : List SerialOp) × SayHistory words q × FitsMatrix matrix q × HasConflictIn listed q

-- those before line n list histories, and line n has this fault
pub record IsFaultOfListing (matrix : Matrix) (lines : List (ℕ × List Word)) (kind : SpecFaultKind)
    (n : ℕ) : Type 0 where
  pub before : List (ℕ × List Word)
  pub listed : List (List SerialOp)
  pub are : AreCollected matrix before listed
  pub words : List Word
  pub rest : List (ℕ × List Word)
  pub parts : lines ≡ before ++ (n, words) ∷ rest
  pub fault : IsFaultOfWords matrix listed words kind

-- the first fault of a text that lists no histories of the matrix, or refused memory
abbrev pub IsCollectFault : Matrix → List ℕ → Fault SpecFaultKind → Type 0
IsCollectFault matrix text (At kind n) = IsFaultOfListing matrix (listing_lines text) kind n
IsCollectFault matrix text Memory = Unit {0}

-- ---- one line

-- the words say the history q, which is of the matrix and conflicts with none of the set
pub record IsOneMore (matrix : Matrix) (set : List (List SerialOp)) (words : List Word)
    (q : List SerialOp) : Type 0 where
  pub said : SayHistory words q
  pub fits : FitsMatrix matrix q
  pub apart : HasConflictIn set q → ⊥

-- the line's fault, which is line n, or refused memory
abbrev pub IsWordsRefusal : Matrix → List (List SerialOp) → List Word → ℕ → Fault SpecFaultKind
    → Type 0
IsWordsRefusal matrix set words n (At kind number) =
    (number ≡ n) × IsFaultOfWords matrix set words kind
IsWordsRefusal matrix set words n Memory = Unit {0}

-- The set with the beginnings of the history that the line lists, where it lists one.
abbrev pub AddsLine : Matrix → Bool → List (List SerialOp) → List Word → List (List SerialOp)
    → Type 0
AddsLine matrix begun set words new =
    MatchBool (lists begun words)
    ((q : List SerialOp) × IsOneMore matrix set words q × AddsBeginnings set new q)
    (new ≡ set)

-- the fault of a line that is to list a history, or refused memory
abbrev pub IsLineRefusal : Matrix → Bool → List (List SerialOp) → List Word → ℕ
    → Fault SpecFaultKind → Type 0
IsLineRefusal matrix begun set words n (At kind number) =
    (lists begun words ≡ true) × (number ≡ n) × IsFaultOfWords matrix set words kind
IsLineRefusal matrix begun set words n Memory = Unit {0}

-- ---- one line after the lines of a draft

-- the next draft has the history that the line lists, where it lists one
abbrev pub CollectsLine : Matrix → CollectedDraft → List Word → CollectedDraft → Type 0
CollectsLine matrix draft words next = AddsLine matrix draft.begun draft.set words next.set

-- the line's fault, which is line n, or refused memory
abbrev pub RefusesLine : Matrix → CollectedDraft → List Word → ℕ → Fault SpecFaultKind → Type 0
RefusesLine matrix draft words n fault = IsLineRefusal matrix draft.begun draft.set words n fault
