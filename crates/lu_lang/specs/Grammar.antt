-- The text of a component: what each line says, or what is wrong with it.
use Rattle.std.specs.Prelude.{find, ℕ, ◌-◌, Bool, true, false, List, [], ◌∷◌, ◌++◌, length, map, take, slice_index, slice_get, Option, Some, None, is_some, Result, Ok, Err, codes, ◌==◌, ◌||◌, not, nat_le, nat_lt, if◌then◌else◌}
use Rattle.std.specs.List.{position, list_all}
use Rattle.std.specs.Str.{bytes_eq}
use Rattle.std.specs.Option.{unwrap_or, option_map}
use Rattle.lu_text.specs.Names.{has_name_form, is_long}
use Rattle.lu_text.specs.Numbers.{value_in}
use Rattle.lu_text.specs.Lines.{words_of, is_allowed}
use Rattle.lu_text.specs.Words.{Word, exactly_one, exactly_two, exactly_three, exactly_five}
use Rattle.lu_text.specs.Faults.{Grammar, says, or_else}
use Rattle.lu_component.specs.declared.instr.Operand.{Operand}
use Rattle.lu_component.specs.declared.instr.Operand.TheVariants.{Num}
use Rattle.lu_component.specs.declared.instr.Arithmetic.{Arithmetic}
use Rattle.lu_component.specs.declared.instr.Instr.{Instr}
use Rattle.lu_component.specs.declared.instr.Instr.TheVariants as instr
use Rattle.lu_component.specs.declared.component.Op.{Op}
use Rattle.lu_lang.specs.declared.draft.Label.{Label}
use Rattle.lu_lang.specs.declared.draft.Statement.{Statement}
use Rattle.lu_lang.specs.declared.draft.Statement.TheVariants.{Plain, Jump, JumpIfZero}
use Rattle.lu_lang.specs.declared.keyword.Keyword.{Keyword}
use Rattle.lu_lang.specs.declared.keyword.Keyword.TheVariants as keyword
use Rattle.lu_lang.specs.declared.fault.LangFaultKind.{LangFaultKind}
use Rattle.lu_lang.specs.declared.fault.LangFaultKind.TheVariants.{Byte, Missing, Form, Number, Limit, Flow, Name}
use Rattle.lu_lang.specs.Kinds.{rank}
use Rattle.lu_component.specs.Component.{Component, operation_number}
use Rattle.lu_lang.specs.Draft.{OpenOp, ComponentDraft, nothing, named, op_begun}
use Rattle.lu_lang.specs.Words.{keyword_in, register_in, operand_in}

-- ---- words

-- the number that a word is, where it is one
abbrev pub value : Word → ℕ
value word = unwrap_or (value_in word) 0

abbrev pub register : Word → ℕ
register word = unwrap_or (register_in word) 0

abbrev pub operand : Word → Operand
operand word = unwrap_or (operand_in word) (Num 0)

abbrev pub is_value : Word → Bool
is_value word = is_some (value_in word)

abbrev pub is_register : Word → Bool
is_register word = is_some (register_in word)

abbrev pub is_operand : Word → Bool
is_operand word = is_some (operand_in word)

-- ---- what is declared so far

-- the number of the array of this name, where there is one
abbrev pub found_array : ComponentDraft → Word → Option ℕ
found_array d name = position (λ a. bytes_eq a.name name) d.arrays

abbrev pub found_lock : ComponentDraft → Word → Option ℕ
found_lock d name = position (λ l. bytes_eq l name) d.locks

abbrev pub find_label : List Label → Word → Option Label
find_label labels name = find (λ l. bytes_eq l.name name) labels

abbrev pub array_number : ComponentDraft → Word → ℕ
array_number d name = unwrap_or (found_array d name) 0

abbrev pub lock_number : ComponentDraft → Word → ℕ
lock_number d name = unwrap_or (found_lock d name) 0

-- ---- declarations, outside an operation

-- `component NAME`, the first line with words
abbrev pub component_line : ComponentDraft → Option Word → Result ComponentDraft LangFaultKind
component_line d None = Err Form
component_line d (Some name) =
    says ((not (has_name_form name), Form) ∷ (is_long name, Limit) ∷ [])
    (record d { name = Some name })

-- `local L`, once, and before the first operation
abbrev pub local_line : ComponentDraft → Option Word → Result ComponentDraft LangFaultKind
local_line d None = Err Form
local_line d (Some most) =
    says ((is_some d.local || nat_le 1 (length d.operations), Form)
    ∷ (not (is_value most), Number)
    ∷ (nat_lt 16 (value most), Limit) ∷ [])
    (record d { local = Some (value most) })

-- `word NAME LEN INIT`
abbrev pub array_line : ComponentDraft → Option (Word × Word × Word)
    → Result ComponentDraft LangFaultKind
array_line d None = Err Form
array_line d (Some (name, len, init)) =
    says ((not (has_name_form name), Form)
    ∷ (not (is_value len) || not (is_value init), Number)
    ∷ (
      is_long name ||
          (nat_le 16 (length d.arrays) || (nat_lt (value len) 1 || nat_lt 64 (value len))),
      Limit,
    )
    ∷ (is_some (found_array d name), Name) ∷ [])
    (record d
    { arrays = d.arrays ++ record { name = name; len = value len; init = value init } ∷ [] })

-- `lock NAME`
abbrev pub lock_line : ComponentDraft → Option Word → Result ComponentDraft LangFaultKind
lock_line d None = Err Form
lock_line d (Some name) =
    says ((not (has_name_form name), Form)
    ∷ (is_long name || nat_le 8 (length d.locks), Limit)
    ∷ (is_some (found_lock d name), Name) ∷ [])
    (record d { locks = d.locks ++ name ∷ [] })

-- `op NAME ARGS`
abbrev pub op_line : ComponentDraft → Option (Word × Word) → Result ComponentDraft LangFaultKind
op_line d None = Err Form
op_line d (Some (name, args)) =
    says ((not (has_name_form name), Form)
    ∷ (not (is_value args), Number)
    ∷ (is_long name || (nat_le 16 (length d.operations) || nat_lt 4 (value args)), Limit)
    ∷ (is_some (operation_number d.operations name), Name) ∷ [])
    (record d { begun = Some (op_begun name (value args)) })

abbrev pub declaration : ComponentDraft → Word → List Word → Result ComponentDraft LangFaultKind
declaration d word words =
    if bytes_eq word (codes "word") then array_line d (exactly_three words)
    else (if bytes_eq word (codes "lock") then lock_line d (exactly_one words)
    else (if bytes_eq word (codes "op") then op_line d (exactly_two words)
    else (if bytes_eq word (codes "local") then local_line d (exactly_one words)
    else Err Form)))

-- ---- instructions

-- `set rD v`
abbrev pub set_line : Option (Word × Word) → Result Statement LangFaultKind
set_line None = Err Form
set_line (Some (dst, v)) =
    says ((not (is_register dst), Form) ∷ (not (is_operand v), Number) ∷ [])
    (Plain (instr.Set (register dst) (operand v)))

-- `add rD a b`, `sub`, `mul`, `eq`, `lt`
abbrev pub compute_line : Arithmetic → Option (Word × Word × Word) → Result Statement LangFaultKind
compute_line arithmetic None = Err Form
compute_line arithmetic (Some (dst, a, b)) =
    says ((not (is_register dst), Form) ∷ (not (is_operand a) || not (is_operand b), Number) ∷ [])
    (Plain (instr.Compute arithmetic (register dst) (operand a) (operand b)))

-- the number of a declared array, or what is wrong with its name
abbrev pub declared_array : ComponentDraft → Word → Result ℕ LangFaultKind
declared_array d name =
    says ((is_long name, Limit) ∷ (not (is_some (found_array d name)), Name) ∷ [])
    (array_number d name)

-- `load rD W i`
abbrev pub load_line : ComponentDraft → Option (Word × Word × Word) → Result Statement LangFaultKind
load_line d None = Err Form
load_line d (Some (dst, array, i)) =
    says ((not (is_register dst) || not (has_name_form array), Form)
    ∷ (not (is_operand i), Number)
    ∷ (is_long array, Limit)
    ∷ (not (is_some (found_array d array)), Name) ∷ [])
    (Plain (instr.Load (register dst) (array_number d array) (operand i)))

-- `cas rD W i old new`
abbrev pub cas_line : ComponentDraft → Option (Word × Word × Word × Word × Word)
    → Result Statement LangFaultKind
cas_line d None = Err Form
cas_line d (Some (dst, array, i, old, new)) =
    says ((not (is_register dst) || not (has_name_form array), Form)
    ∷ (not (is_operand i) || (not (is_operand old) || not (is_operand new)), Number)
    ∷ (is_long array, Limit)
    ∷ (not (is_some (found_array d array)), Name) ∷ [])
    (Plain
    (instr.Cas (register dst) (array_number d array) (operand i) (operand old) (operand new)))

abbrev pub as_plain : {A : Type 0} → (A → Instr) → Result A LangFaultKind
    → Result Statement LangFaultKind
as_plain instruction (Ok x) = Ok (Plain (instruction x))
as_plain instruction (Err kind) = Err kind

-- the lock of `lock L` and `unlock L`
abbrev pub locked : ComponentDraft → Option Word → Result ℕ LangFaultKind
locked d None = Err Form
locked d (Some lock) =
    says ((not (has_name_form lock), Form)
    ∷ (is_long lock, Limit)
    ∷ (not (is_some (found_lock d lock)), Name) ∷ [])
    (lock_number d lock)

-- the array, the index and the value of `store W i v`, `await W i v` and `awaitne W i v`
abbrev pub cell_and_value : ComponentDraft → Option (Word × Word × Word)
    → Result (ℕ × Operand × Operand) LangFaultKind
cell_and_value d None = Err Form
cell_and_value d (Some (array, i, v)) =
    says ((not (has_name_form array), Form)
    ∷ (not (is_operand i) || not (is_operand v), Number)
    ∷ (is_long array, Limit)
    ∷ (not (is_some (found_array d array)), Name) ∷ [])
    (array_number d array, operand i, operand v)

-- `pick rD K`
abbrev pub pick_line : Option (Word × Word) → Result Statement LangFaultKind
pick_line None = Err Form
pick_line (Some (dst, count)) =
    says ((not (is_register dst), Form)
    ∷ (not (is_value count), Number)
    ∷ (nat_lt (value count) 1 || nat_lt 8 (value count), Limit) ∷ [])
    (Plain (instr.Pick (register dst) (value count)))

-- `jump LABEL`
abbrev pub jump_line : Option Word → Result Statement LangFaultKind
jump_line None = Err Form
jump_line (Some label) =
    says ((not (has_name_form label), Form) ∷ (is_long label, Limit) ∷ [])
    (Jump label)

-- `jz v LABEL`
abbrev pub jump_if_zero_line : Option (Word × Word) → Result Statement LangFaultKind
jump_if_zero_line None = Err Form
jump_if_zero_line (Some (v, label)) =
    says ((not (has_name_form label), Form) ∷ (not (is_operand v), Number) ∷
    (is_long label, Limit) ∷ [])
    (JumpIfZero (operand v) label)

-- `return v`
abbrev pub return_line : Option Word → Result Statement LangFaultKind
return_line None = Err Form
return_line (Some v) = says ((not (is_operand v), Number) ∷ []) (Plain (instr.Return (operand v)))

-- by the keyword; no word that is none begins an instruction
abbrev pub statement : ComponentDraft → Option Keyword → List Word → Result Statement LangFaultKind
statement d None words = Err Form
statement d (Some keyword.Set) words = set_line (exactly_two words)
statement d (Some (keyword.Compute arithmetic)) words =
    compute_line arithmetic (exactly_three words)
statement d (Some keyword.Load) words = load_line d (exactly_three words)
statement d (Some keyword.Store) words =
    as_plain (λ (array, i, v). instr.Store array i v) (cell_and_value d (exactly_three words))
statement d (Some keyword.Cas) words = cas_line d (exactly_five words)
statement d (Some keyword.Lock) words =
    as_plain (λ lock. instr.Lock lock) (locked d (exactly_one words))
statement d (Some keyword.Unlock) words =
    as_plain (λ lock. instr.Unlock lock) (locked d (exactly_one words))
statement d (Some keyword.Await) words =
    as_plain (λ (array, i, v). instr.Await array i v) (cell_and_value d (exactly_three words))
statement d (Some keyword.AwaitNot) words =
    as_plain (λ (array, i, v). instr.AwaitNot array i v) (cell_and_value d (exactly_three words))
statement d (Some keyword.Pick) words = pick_line (exactly_two words)
statement d (Some keyword.Jump) words = jump_line (exactly_one words)
statement d (Some keyword.JumpIfZero) words = jump_if_zero_line (exactly_two words)
statement d (Some keyword.Return) words = return_line (exactly_one words)

-- ---- a line of an operation: a label or none, and an instruction

-- the one that is looked for first
abbrev pub sooner : Option LangFaultKind → LangFaultKind → LangFaultKind
sooner None other = other
sooner (Some kind) other = if nat_le (rank kind) (rank other) then kind else other

-- a word `NAME:` is a label
abbrev pub label_in : Word → Option Word
label_in word =
    if slice_index word (length word - 1) == 58 then Some (take (length word - 1) word) else None

-- what is wrong with a label, and with one more instruction
abbrev pub place_fault : OpenOp → Option Word → Option LangFaultKind
place_fault b None = if nat_le 64 (length b.statements) then Some Limit else None
place_fault b (Some label) =
    if not (has_name_form label) then Some Form
    else (if is_long label || nat_le 64 (length b.statements) then Some Limit
    else (if is_some (find_label b.labels label) then Some Name
    else None))

abbrev pub with_label : OpenOp → Option Word → List Label
with_label b None = b.labels
with_label b (Some label) = b.labels ++ record { name = label; place = length b.statements } ∷ []

-- the open operation with this label and instruction
abbrev pub with_statement : OpenOp → Option Word → Statement → OpenOp
with_statement b label s =
    record b { statements = b.statements ++ s ∷ []; labels = with_label b label }

abbrev pub placed : ComponentDraft → OpenOp → Option Word → Option LangFaultKind
    → Result Statement LangFaultKind
    → Result ComponentDraft LangFaultKind
placed d b label fault (Ok s) = or_else fault (record d { begun = Some (with_statement b label s) })
placed d b label fault (Err kind) = Err (sooner fault kind)

-- the label's fault or the instruction's, that which is looked for first; or one instruction more
abbrev pub instr_line : ComponentDraft → OpenOp → Option Word → Word → List Word
    → Result ComponentDraft LangFaultKind
instr_line d b label word words =
    placed d b label (place_fault b label) (statement d (keyword_in word) words)

-- ---- `end`

abbrev pub label_used : Statement → Option Word
label_used (Plain i) = None
label_used (Jump label) = Some label
label_used (JumpIfZero v label) = Some label

abbrev pub is_there : List Label → Option Word → Bool
is_there labels None = true
is_there labels (Some label) = is_some (find_label labels label)

-- each label that is used is there
abbrev pub are_there : OpenOp → Bool
are_there b = list_all (λ s. is_there b.labels (label_used s)) b.statements

abbrev pub is_last : Option Statement → Bool
is_last (Some (Jump label)) = true
is_last (Some (Plain (instr.Return v))) = true
is_last _ = false

-- there is an instruction, and the last is `return` or `jump`
abbrev pub ends_well : OpenOp → Bool
ends_well b = is_last (slice_get b.statements (length b.statements - 1))

-- the place of a label
abbrev pub target : List Label → Word → ℕ
target labels label =
    unwrap_or (option_map (λ l. l.place) (find_label labels label)) 0

-- the instruction, with the place of its label
abbrev pub resolved : List Label → Statement → Instr
resolved labels (Plain i) = i
resolved labels (Jump label) = instr.Jump (target labels label)
resolved labels (JumpIfZero v label) = instr.JumpIfZero v (target labels label)

abbrev pub op_of : OpenOp → Op
op_of b = record { name = b.name; args = b.args; code = map (resolved b.labels) b.statements }

abbrev pub end_line : ComponentDraft → OpenOp → List Word → Result ComponentDraft LangFaultKind
end_line d b [] =
    says ((not (ends_well b), Flow) ∷ (not (are_there b), Name) ∷ [])
    (record d { operations = d.operations ++ op_of b ∷ []; begun = None })
end_line d b (word ∷ words) = Err Form

-- ---- lines

-- by the label, or none, that the first word is; after a label stands an instruction
abbrev pub by_label : ComponentDraft → OpenOp → Option Word → Word → List Word
    → Result ComponentDraft LangFaultKind
by_label d b None word words =
    if bytes_eq word (codes "end") then end_line d b words else instr_line d b None word words
by_label d b (Some label) word [] = Err Form
by_label d b (Some label) word (next ∷ words) = instr_line d b (Some label) next words

-- a line inside an operation
abbrev pub inside : ComponentDraft → OpenOp → Word → List Word → Result ComponentDraft LangFaultKind
inside d b word words = by_label d b (label_in word) word words

-- what is declared, without the open operation
abbrev pub closed : ComponentDraft → ComponentDraft
closed d = record d { begun = None }

-- The first line with words is the `component` line. Then come declarations, and in an open
-- operation instructions.
abbrev pub by_state : ComponentDraft → Option Word → Option OpenOp → Word → List Word
    → Result ComponentDraft LangFaultKind
by_state d None begun word words =
    if bytes_eq word (codes "component") then component_line d (exactly_one words) else Err Missing
by_state d (Some name) None word words = declaration d word words
by_state d (Some name) (Some b) word words = inside (closed d) b word words

abbrev pub by_words : ComponentDraft → List Word → Result ComponentDraft LangFaultKind
by_words d [] = Ok d
by_words d (word ∷ words) = by_state d d.name d.begun word words

unfoldable pub line_of : ComponentDraft → List ℕ → Result ComponentDraft LangFaultKind
line_of d line = if list_all is_allowed line then by_words d (words_of line) else Err Byte

abbrev pub declared : ComponentDraft → Option Word → Option OpenOp → Result Component LangFaultKind
declared d None begun = Err Missing
declared d (Some name) (Some b) = Err Missing
declared d (Some name) None = Ok (named d name)

-- what is declared; or what is wrong, and the draft as it was
abbrev pub declared_or_left : ComponentDraft → Result Component LangFaultKind
    → Result Component (LangFaultKind × ComponentDraft)
declared_or_left d (Ok c) = Ok c
declared_or_left d (Err kind) = Err (kind, d)

-- the text of a component
abbrev pub component_grammar : Grammar LangFaultKind ComponentDraft Component
component_grammar = record {
  nothing = nothing;
  line = line_of;
  finish = λ d. declared d d.name d.begun;
}
