-- The text of a specification: its first line, and a line for each history that it lists.
use Rattle.std.specs.Prelude.{◌≡◌, ℕ, ◌+◌, ◌≤◌, ◌⊎◌, List, [], ◌∷◌, ◌++◌, length, map, All, codes}
use Rattle.std.specs.Fmt.{decimal}
use Rattle.std.specs.List.{flat_map, join_with_byte}
use Rattle.std.specs.declared.cmp.Ordering.TheVariants.{Less}
use Rattle.lu_text.specs.declared.fault.Fault.{Fault}
use Rattle.lu_text.specs.declared.fault.Fault.TheVariants.{At, Memory}
use Rattle.lu_text.specs.Lines.{kept_lines}
use Rattle.lu_history.specs.declared.serial.SerialOutcome.{SerialOutcome}
use Rattle.lu_history.specs.declared.serial.SerialOutcome.TheVariants.{Ret, Trap, Stuck}
use Rattle.lu_history.specs.declared.serial.SerialOp.{SerialOp}
use Rattle.lu_history.specs.Order.{op_cmp}
use Rattle.lu_history.specs.Serial.{IsOutcome, IsSerial}
use Rattle.lu_test.specs.Matrix.{Matrix}
use Rattle.lu_trie.specs.Conflicts.{IsDeterministic, ConflictAt}
use Rattle.lu_spec.specs.declared.fault.SpecFaultKind.{SpecFaultKind}
use Rattle.lu_spec.specs.declared.fault.SpecFaultKind.TheVariants.{Form, Foreign, Nondeterministic}
use Rattle.lu_spec.specs.Beginnings.{Has, IsClosureOf}
use Rattle.lu_spec.specs.Specs.{FitsMatrix}

-- ---- the spelling

abbrev pub listed_outcome_text : SerialOutcome → List ℕ
listed_outcome_text (Ret n) = decimal n
listed_outcome_text Trap = codes "trap"
listed_outcome_text Stuck = codes "stuck"

-- `t=outcome`
abbrev pub entry_text : SerialOp → List ℕ
entry_text op = decimal op.thread ++ codes "=" ++ listed_outcome_text op.outcome

-- `history` and the entries
abbrev pub history_words : List SerialOp → List (List ℕ)
history_words q = codes "history" ∷ map entry_text q

-- the words with one space between them
abbrev pub history_line : List SerialOp → List ℕ
history_line q = join_with_byte 32 (history_words q) ++ codes "\n"

abbrev pub first_line : List ℕ
first_line = codes "lineup spec 1\n"

abbrev pub spec_text : List (List SerialOp) → List ℕ
spec_text listed = first_line ++ flat_map history_line listed

-- ---- what may be listed

-- thread 0 to 7
abbrev pub IsEntry : SerialOp → Type 0
IsEntry op = (op.thread ≤ 7) × IsOutcome op.outcome

-- 1 to 16 entries; `Stuck` stands only last
pub record IsListable (q : List SerialOp) : Type 0 where
  pub some : 1 ≤ length q
  pub few : length q ≤ 16
  pub serial : IsSerial q
  pub entries : All IsEntry q

-- the word says no outcome
abbrev pub SaysNoOutcome : List ℕ → Type 0
SaysNoOutcome word =
    (outcome : SerialOutcome) → IsOutcome outcome → word ≡ listed_outcome_text outcome → ⊥

-- the words say these entries
abbrev pub SayEntries : List (List ℕ) → List SerialOp → Type 0
SayEntries words q = All IsEntry q × (words ≡ map entry_text q)

abbrev pub SayNoEntries : List (List ℕ) → Type 0
SayNoEntries words = (q : List SerialOp) → All IsEntry q → words ≡ map entry_text q → ⊥

-- the words say this history, which may be listed
abbrev pub SayHistory : List (List ℕ) → List SerialOp → Type 0
SayHistory words q = IsListable q × (words ≡ history_words q)

abbrev pub SayNoHistory : List (List ℕ) → Type 0
SayNoHistory words = (q : List SerialOp) → IsListable q → words ≡ history_words q → ⊥

-- the line says this history, which may be listed
abbrev pub SaysHistory : List ℕ → List SerialOp → Type 0
SaysHistory line q = IsListable q × (line ≡ history_line q)

abbrev pub SaysNoHistory : List ℕ → Type 0
SaysNoHistory line = (q : List SerialOp) → IsListable q → line ≡ history_line q → ⊥

-- At the first entry in which they differ q has the greater entry: so it is greater than p, and
-- does not begin with it.
abbrev pub ComesAfter : List SerialOp → List SerialOp → Type 0
ComesAfter [] q = ⊥
ComesAfter (a ∷ p) [] = ⊥
ComesAfter (a ∷ p) (b ∷ q) = (op_cmp a b ≡ Less) ⊎ (a ≡ b) × ComesAfter p q

-- q may stand after the listed histories: it comes after the last one
abbrev pub MayFollow : List (List SerialOp) → List SerialOp → Type 0
MayFollow listed q =
    (before : List (List SerialOp)) (p : List SerialOp) → listed ≡ before ++ p ∷ [] → ComesAfter p q

-- a list of histories of the matrix, in order and none a beginning of the next, without conflict
pub record AreListed (matrix : Matrix) (listed : List (List SerialOp)) : Type 0 where
  pub each : (q : List SerialOp) → Has listed q → IsListable q × FitsMatrix matrix q
  pub order : (before : List (List SerialOp)) (q : List SerialOp) (after : List (List SerialOp))
      → listed ≡ before ++ q ∷ after → MayFollow before q
  pub deterministic : IsDeterministic listed

-- ---- what is wrong with a line after the listed histories

-- the line is that of a history that may stand there
abbrev pub IsHistoryLine : List (List SerialOp) → List ℕ → List SerialOp → Type 0
IsHistoryLine listed line q = (line ≡ history_line q) × IsListable q × MayFollow listed q

-- q conflicts with a listed history
abbrev pub HasConflictIn : List (List SerialOp) → List SerialOp → Type 0
HasConflictIn listed q =
    (p : List SerialOp) × Has listed p × (i : ℕ) × (o : SerialOutcome) × ConflictAt q p i o

-- no history's line; that of a history that does not fit the matrix; or that of one that conflicts
-- with a listed one
abbrev pub IsFaultOfLine : Matrix → List (List SerialOp) → List ℕ → SpecFaultKind → Type 0
IsFaultOfLine matrix listed line Form = (q : List SerialOp) → IsHistoryLine listed line q → ⊥
IsFaultOfLine matrix listed line Foreign =
    (q : List SerialOp) × IsHistoryLine listed line q × (FitsMatrix matrix q → ⊥)
IsFaultOfLine matrix listed line Nondeterministic =
    (q : List SerialOp) × IsHistoryLine listed line q × FitsMatrix matrix q × HasConflictIn listed q

-- among the lines after the first line, those before line n are of listed histories, and line n
-- has this fault
pub record IsFaultAmong (matrix : Matrix) (lines : List (List ℕ)) (kind : SpecFaultKind)
    (n : ℕ) : Type 0 where
  pub listed : List (List SerialOp)
  pub are : AreListed matrix listed
  pub line : List ℕ
  pub rest : List (List ℕ)
  pub parts : lines ≡ map history_line listed ++ line ∷ rest
  pub numbered : n ≡ length listed + 2
  pub fault : IsFaultOfLine matrix listed line kind

-- the first line is there, and one after it has this fault
abbrev pub IsFaultAfter : Matrix → List ℕ → SpecFaultKind → ℕ → Type 0
IsFaultAfter matrix text kind n =
    (lines : List (List ℕ)) × (kept_lines text ≡ first_line ∷ lines)
    × IsFaultAmong matrix lines kind n

-- the text does not begin with the first line
abbrev pub HasNoFirstLine : List ℕ → SpecFaultKind → ℕ → Type 0
HasNoFirstLine text kind n =
    (kind ≡ Form) × (n ≡ 1) × ((rest : List (List ℕ)) → kept_lines text ≡ first_line ∷ rest → ⊥)

-- the first fault of a text that is no specification of the matrix, or refused memory
abbrev pub IsSpecFault : Matrix → List ℕ → Fault SpecFaultKind → Type 0
IsSpecFault matrix text (At kind n) = HasNoFirstLine text kind n ⊎ IsFaultAfter matrix text kind n
IsSpecFault matrix text Memory = Unit {0}

-- the text lists these histories, of which the set is the closure
abbrev pub IsReadAs : Matrix → List ℕ → List (List SerialOp) → Type 0
IsReadAs matrix text closed =
    (listed : List (List SerialOp)) × AreListed matrix listed × (text ≡ spec_text listed)
    × IsClosureOf listed closed
