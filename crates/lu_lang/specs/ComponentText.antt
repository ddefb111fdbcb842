-- The canonical text of a component: no comments, no empty lines, one space between words, and
-- labels only where a jump leads.
use Rattle.std.specs.Prelude.{ℕ, List, [], ◌∷◌, ◌++◌, Bool, false, slice_get, codes, ◌==◌, if◌then◌else◌}
use Rattle.std.specs.List.{flat_map, join_with_byte, list_any, enumerate_from}
use Rattle.std.specs.Option.{unwrap_or, option_map}
use Rattle.std.specs.Fmt.{decimal}
use Rattle.lu_text.specs.Words.{Word}
use Rattle.lu_component.specs.declared.instr.Operand.{Operand}
use Rattle.lu_component.specs.declared.instr.Instr.{Instr}
use Rattle.lu_component.specs.declared.instr.Instr.TheVariants.{Set, Compute, Load, Store, Cas, Lock, Unlock, Await, AwaitNot, Pick, Jump, JumpIfZero, Return}
use Rattle.lu_lang.specs.declared.keyword.Keyword.TheVariants as keyword
use Rattle.lu_component.specs.declared.component.Array.{Array}
use Rattle.lu_component.specs.declared.component.Op.{Op}
use Rattle.lu_component.specs.Component.{Component}
use Rattle.lu_component.specs.Operands.{register_word, operand_word}
use Rattle.lu_lang.specs.Words.{keyword_word}

-- ---- words

abbrev pub array_word : Component → ℕ → Word
array_word c array = unwrap_or (option_map (λ a. a.name) (slice_get c.arrays array)) []

abbrev pub lock_word : Component → ℕ → Word
lock_word c lock = unwrap_or (slice_get c.locks lock) []

-- the name of the label at this place
abbrev pub label_word : ℕ → Word
label_word place = codes "L" ++ decimal place

-- ---- instructions

-- a keyword, a cell of an array, and a value
abbrev pub cell_words : Component → Word → ℕ → Operand → Operand → List Word
cell_words c word array i v = word ∷ array_word c array ∷ operand_word i ∷ operand_word v ∷ []

abbrev pub instr_words : Component → Instr → List Word
instr_words c (Set to v) = keyword_word keyword.Set ∷ register_word to ∷ operand_word v ∷ []
instr_words c (Compute by to a b) =
    keyword_word (keyword.Compute by) ∷ register_word to ∷ operand_word a ∷ operand_word b ∷ []
instr_words c (Load to array i) =
    keyword_word keyword.Load ∷ register_word to ∷ array_word c array ∷ operand_word i ∷ []
instr_words c (Store array i v) = cell_words c (keyword_word keyword.Store) array i v
instr_words c (Cas to array i old new) =
    keyword_word keyword.Cas ∷ register_word to ∷ array_word c array
    ∷ operand_word i ∷ operand_word old ∷ operand_word new ∷ []
instr_words c (Lock lock) = keyword_word keyword.Lock ∷ lock_word c lock ∷ []
instr_words c (Unlock lock) = keyword_word keyword.Unlock ∷ lock_word c lock ∷ []
instr_words c (Await array i v) = cell_words c (keyword_word keyword.Await) array i v
instr_words c (AwaitNot array i v) = cell_words c (keyword_word keyword.AwaitNot) array i v
instr_words c (Pick to count) = keyword_word keyword.Pick ∷ register_word to ∷ decimal count ∷ []
instr_words c (Jump target) = keyword_word keyword.Jump ∷ label_word target ∷ []
instr_words c (JumpIfZero v target) =
    keyword_word keyword.JumpIfZero ∷ operand_word v ∷ label_word target ∷ []
instr_words c (Return v) = keyword_word keyword.Return ∷ operand_word v ∷ []

abbrev pub leads_to : ℕ → Instr → Bool
leads_to place (Jump target) = target == place
leads_to place (JumpIfZero v target) = target == place
leads_to place _ = false

-- ---- lines

-- one space between words
abbrev pub spelled : List Word → List ℕ
spelled words = join_with_byte 32 words

abbrev pub line_of_words : List Word → List ℕ
line_of_words words = spelled words ++ 10 ∷ []

abbrev pub cell_text : Component → Word → ℕ → Operand → Operand → List ℕ
cell_text c word array i v = spelled (cell_words c word array i v)

-- a label and a space, where some jump leads to the place
abbrev pub label_text : List Instr → ℕ → List ℕ
label_text code place =
    if list_any (leads_to place) code then label_word place ++ codes ": " else []

-- where local instructions run with a move
abbrev pub local_text : ℕ → List ℕ
local_text local = if local == 0 then [] else line_of_words (codes "local" ∷ decimal local ∷ [])

abbrev pub array_text : Array → List ℕ
array_text array =
    line_of_words (codes "word" ∷ array.name ∷ decimal array.len ∷ decimal array.init ∷ [])

abbrev pub lock_text : List ℕ → List ℕ
lock_text name = line_of_words (codes "lock" ∷ name ∷ [])

-- the line of the instruction at a place, after its label
abbrev pub code_line : Component → List Instr → ℕ × Instr → List ℕ
code_line c code (place, instr) = label_text code place ++ line_of_words (instr_words c instr)

abbrev pub code_text : Component → List Instr → List ℕ
code_text c code = flat_map (code_line c code) (enumerate_from 0 code)

abbrev pub op_text : Component → Op → List ℕ
op_text c op =
    line_of_words (codes "op" ∷ op.name ∷ decimal op.args ∷ [])
    ++ code_text c op.code
    ++ line_of_words (codes "end" ∷ [])

abbrev pub component_text : Component → List ℕ
component_text c =
    line_of_words (codes "component" ∷ c.name ∷ [])
    ++ local_text c.local
    ++ flat_map array_text c.arrays
    ++ flat_map lock_text c.locks
    ++ flat_map (op_text c) c.operations
