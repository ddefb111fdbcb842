-- The text of a source: what each line says, or what is wrong with it.
use Rattle.std.specs.Prelude.{ℕ, zero, suc, ◌+◌, ◌==◌, nat_lt, nat_le, Bool, true, false, not, ◌&&◌, ◌||◌, if◌then◌else◌, List, [], ◌∷◌, ◌++◌, drop, length, map, take, slice_index, Option, Some, None, is_some, Result, Ok, Err, codes}
use Rattle.std.specs.List.{filter, list_all, list_any, position}
use Rattle.std.specs.Option.{unwrap_or, option_map}
use Rattle.std.specs.Str.{bytes_eq}
use Rattle.lu_text.specs.Names.{has_name_form, is_long, is_name_part}
use Rattle.lu_text.specs.Numbers.{value_in}
use Rattle.lu_text.specs.Lines.{is_allowed, is_blank}
use Rattle.lu_text.specs.Words.{Word, exactly_one}
use Rattle.lu_text.specs.Faults.{Grammar}
use Rattle.lu_component.specs.declared.instr.Operand.{Operand}
use Rattle.lu_component.specs.declared.instr.Operand.TheVariants.{Reg, Num}
pub use Rattle.lu_source_text.specs.Constants.{Constant, constant_from}
use Rattle.lu_source_text.specs.declared.draft.Shared.{Shared}
pub use Rattle.lu_source_text.specs.declared.fault.SourceFaultKind.{SourceFaultKind as Kind}
use Rattle.lu_source_text.specs.declared.fault.SourceFaultKind.TheVariants.{Byte, Missing, Form, Number as Number', Limit, Registers, Flow, Name}
use Rattle.lu_source_text.specs.declared.updates.CellCall.{CellCall}
use Rattle.lu_source_text.specs.declared.updates.CellCall.TheVariants as called
use Rattle.lu_source_text.specs.declared.infix.Infix.{Infix}
use Rattle.lu_source_text.specs.declared.infix.Infix.TheVariants.{Or as Or', And as And', Joins}
use Rattle.lu_source.specs.declared.tree.Action.{Action}
use Rattle.lu_source.specs.declared.tree.Action.TheVariants as action
use Rattle.lu_source.specs.Code.{falls, operation_code}
use Rattle.lu_source.specs.Expressions.{Coded, Expr, as_test, coded, needed, opposite, past, put_at, result}
use Rattle.lu_source.specs.Expressions.Expr.{Number, Local, Read, Swap, Fetch, Pick, Binary, Not, And, Or}
use Rattle.lu_source.specs.declared.updating.Answer.{Answer}
use Rattle.lu_source.specs.declared.updating.Answer.TheVariants.{Success, Before}
use Rattle.lu_source.specs.declared.updating.Update.{Update}
use Rattle.lu_source.specs.declared.updating.Update.TheVariants as update
use Rattle.lu_source.specs.declared.expr.Operator.{Operator}
use Rattle.lu_source.specs.declared.expr.Operator.TheVariants.{Plus, Minus, Times, Equals, Differs, Below, Above, AtMost, AtLeast}
use Rattle.lu_source.specs.Trees.{Operation, Program, Tree}
use Rattle.lu_source.specs.Trees.Tree.{Nothing, Plain, Then, If, IfElse, Loop, Break, BreakUnless, Continue}

-- ---- values, or faults

-- what is made of a value where there is one, else this
abbrev pub where_some : {A B : Type 0} → Option A → B → (A → B) → B
where_some None other go = other
where_some (Some x) other go = go x

-- what comes of a value, or the first fault
abbrev pub on_ok : {A B : Type 0} → Result A Kind → (A → Result B Kind) → Result B Kind
on_ok (Ok x) go = go x
on_ok (Err kind) go = Err kind

-- a fault where the test holds, or else what follows
abbrev pub unless : {A : Type 0} → Bool → Kind → Result A Kind → Result A Kind
unless wrong kind rest = if wrong then Err kind else rest

-- ---- words

-- two bytes that are one word: `==`, `!=`, `<=`, `>=`, `+=`, `-=`, `&&` and `||`
abbrev pub is_pair : ℕ → ℕ → Bool
is_pair a b =
    b == 61 && (a == 61 || (a == 33 || (a == 60 || (a == 62 || (a == 43 || a == 45)))))
    || (a == 38 && b == 38 || a == 124 && b == 124)

-- how many letters, digits and `_` stand first
abbrev pub name_len : List ℕ → ℕ
name_len bytes = unwrap_or (position (λ b. not (is_name_part b)) bytes) (length bytes)

-- how long the first word is, or a blank: all letters, digits and `_`; or two bytes; or one
abbrev pub item_len : List ℕ → ℕ
item_len [] = 0
item_len (b ∷ bs) =
    if is_name_part b then 1 + name_len bs else (if is_pair b (slice_index bs 0) then 2 else 1)

-- whether no word is left: there are no bytes, or a comment begins, with `#` or `//`
abbrev pub is_at_end : List ℕ → Bool
is_at_end [] = true
is_at_end (b ∷ bs) = b == 35 || b == 47 && slice_index bs 0 == 47

-- the words of the bytes, at most n of them and of blanks
abbrev pub words_by : ℕ → List ℕ → List Word
words_by zero bytes = []
words_by (suc n) [] = []
words_by (suc n) (b ∷ bs) =
    if is_at_end (b ∷ bs) then []
    else (if is_blank b then [] else take (item_len (b ∷ bs)) (b ∷ bs) ∷ [])
    ++ words_by n (drop (item_len (b ∷ bs)) (b ∷ bs))

-- the words of a line, up to a comment
abbrev pub source_words : List ℕ → List Word
source_words line = words_by (length line) line

abbrev pub is_word : List ℕ → Word → Bool
is_word a b = bytes_eq a b

-- The statements that words make, after these words of the first one: `;` ends a statement, `{` is
-- the last word of one, and `}` the first.
abbrev pub statements_from : List Word → List Word → List (List Word)
statements_from front [] = front ∷ []
statements_from front (w ∷ ws) =
    if is_word w (codes ";") then front ∷ statements_from [] ws
    else (if is_word w (codes "{") then (front ++ w ∷ []) ∷ statements_from [] ws
    else (if is_word w (codes "}") then front ∷ statements_from (w ∷ []) ws
    else statements_from (front ++ w ∷ []) ws))

-- the statements that words make; some may have no words
abbrev pub statements : List Word → List (List Word)
statements words = statements_from [] words

-- keywords: of declarations, of statements, and of expressions
abbrev pub declaring : List Word
declaring =
    codes "object" ∷ codes "local" ∷ codes "const" ∷ codes "word" ∷ codes "lock" ∷ codes "op"
    ∷ []

abbrev pub stating : List Word
stating =
    codes "unlock" ∷ codes "let" ∷ codes "if" ∷ codes "else" ∷ codes "while" ∷ codes "loop"
    ∷ codes "break" ∷ codes "continue" ∷ codes "return" ∷ codes "await" ∷ codes "assert" ∷ []

abbrev pub valued : List Word
valued = codes "cas" ∷ codes "pick" ∷ codes "true" ∷ codes "false" ∷ []

abbrev pub is_among : List Word → Word → Bool
is_among words word = list_any (is_word word) words

-- what no name may be
abbrev pub is_keyword : Word → Bool
is_keyword word = is_among declaring word || (is_among stating word || is_among valued word)

abbrev pub is_free_name : Word → Bool
is_free_name word = has_name_form word && not (is_keyword word)

-- ---- what is declared

-- what opened a block: the operation, a test, the other side of a test, or a loop
pub data Opening : Type 0 where
  Whole : Opening
  Test : Operand → Opening
  Other : Operand → Tree → Opening
  Turns : Opening

-- An open block: what it does so far, how many locals there were before it, and whether it closes
-- the block around with itself.
pub record Block : Type 0 where
  pub opening : Opening
  pub does : Tree
  pub locals : ℕ
  pub chained : Bool

-- An open operation: how many statements it has so far, its locals by their registers, and its open
-- blocks, the innermost first.
pub record Begun : Type 0 where
  pub name : Word
  pub args : ℕ
  pub lines : ℕ
  pub locals : List Word
  pub blocks : List Block

pub record Drafted : Type 0 where
  pub name : Option Word
  pub local : Option ℕ
  pub constants : List Constant
  pub words : List Shared
  pub locks : List Word
  pub operations : List Operation
  pub begun : Option Begun

abbrev pub nothing : Drafted
nothing = record {
  name = None;
  local = None;
  constants = [];
  words = [];
  locks = [];
  operations = [];
  begun = None;
}

-- where a name stands in a list of names, from k on
abbrev pub position_from : ℕ → List Word → Word → Option ℕ
position_from k [] name = None
position_from k (x ∷ xs) name = if bytes_eq x name then Some k else position_from (k + 1) xs name

-- the number of a shared word, from k on, and whether an index follows
abbrev pub shared_from : ℕ → List Shared → Word → Option (ℕ × Bool)
shared_from k [] name = None
shared_from k (x ∷ xs) name =
    if bytes_eq x.array.name name then Some (k, x.indexed) else shared_from (k + 1) xs name

-- the register of a local
abbrev pub local_in : List Word → Word → Option ℕ
local_in locals name = position_from 0 locals name

-- whether an operation has the name
abbrev pub is_operation : List Operation → Word → Bool
is_operation [] name = false
is_operation (o ∷ os) name = bytes_eq o.name name || is_operation os name

-- whether the name means something already
abbrev pub is_taken : Drafted → List Word → Word → Bool
is_taken d locals name =
    is_some (constant_from d.constants name) || (is_some (shared_from 0 d.words name)
    || (is_some (position_from 0 d.locks name) || is_some (position_from 0 locals name)))

-- ---- expressions

-- what names mean where an expression stands
pub record Scope : Type 0 where
  pub constants : List Constant
  pub words : List Shared
  pub locals : List Word

-- what is read of words, with the words after it
abbrev pub Read' : Type 0 → Type 0
Read' A = Result (A × List Word) Kind

-- the operator that a word is, where it is one
abbrev pub infix_in : Word → Option Infix
infix_in w =
    if is_word w (codes "||") then Some Or'
    else (if is_word w (codes "&&") then Some And'
    else (if is_word w (codes "==") then Some (Joins Equals)
    else (if is_word w (codes "!=") then Some (Joins Differs)
    else (if is_word w (codes "<") then Some (Joins Below)
    else (if is_word w (codes ">") then Some (Joins Above)
    else (if is_word w (codes "<=") then Some (Joins AtMost)
    else (if is_word w (codes ">=") then Some (Joins AtLeast)
    else (if is_word w (codes "+") then Some (Joins Plus)
    else (if is_word w (codes "-") then Some (Joins Minus)
    else (if is_word w (codes "*") then Some (Joins Times)
    else None))))))))))

-- how tightly an operator binds: `||` 1, `&&` 2, comparisons 3, `+` and `-` 4, `*` 5
abbrev pub binding : Infix → ℕ
binding Or' = 1
binding And' = 2
binding (Joins Plus) = 4
binding (Joins Minus) = 4
binding (Joins Times) = 5
binding (Joins _) = 3

-- the expression that an operator makes of two
abbrev pub joined : Infix → Expr → Expr → Expr
joined Or' a b = Or a b
joined And' a b = And a b
joined (Joins by) a b = Binary by a b

-- the first word, and the words after it
abbrev pub first_word : List Word → Read' Word
first_word [] = Err Form
first_word (w ∷ ws) = Ok (w, ws)

-- the first word, and what comes of it and the others
abbrev pub on_first : {A : Type 0} → List Word → (Word → List Word → Result A Kind) → Result A Kind
on_first ws go = on_ok (first_word ws) (λ (w, rest). go w rest)

-- the words after this one, which stands first
abbrev pub after_word : List ℕ → List Word → Result (List Word) Kind
after_word text ws = on_first ws (λ w rest. if is_word w text then Ok rest else Err Form)

-- the first, or else the fault
abbrev pub or_fault : {A : Type 0} → Kind → Option A → Result A Kind
or_fault kind None = Err kind
or_fault kind (Some x) = Ok x

-- the first that is there
abbrev pub either : {A : Type 0} → Option A → Option A → Option A
either None other = other
either (Some x) other = Some x

-- a number: a literal, or a constant's name
abbrev pub number_of : List Constant → Word → Result ℕ Kind
number_of constants w = or_fault Number' (either (value_in w) (constant_from constants w))

-- how tightly a further operator may bind after this one: comparisons do not chain
abbrev pub most_after : Infix → ℕ
most_after by = if binding by == 3 then 2 else binding by

-- what a name stands for that is not followed by an index
abbrev pub named_expr : Scope → Word → Option Expr
named_expr s w =
    either (option_map Local (local_in s.locals w))
    (option_map Number (constant_from s.constants w))

-- a number and the words after it
abbrev pub first_number : List Constant → List Word → Read' ℕ
first_number constants ws =
    on_first ws (λ w rest. on_ok (number_of constants w) (λ k. Ok (k, rest)))

-- How an expression is read that stands inside of another: what names mean there, and what is read
-- of words with operators in it that bind at least so tightly.
pub record Inner : Type 0 where
  pub scope : Scope
  pub read : ℕ → List Word → Read' Expr

-- an expression, and then this word
abbrev pub closed_with : List ℕ → Inner → List Word → Read' Expr
closed_with text inner ws =
    on_ok (inner.read 1 ws) (λ (e, rest). on_ok (after_word text rest) (λ more. Ok (e, more)))

-- a shared word, with an index where it has many cells
abbrev pub cell_with : Word → Inner → List Word → Read' (ℕ × Expr)
cell_with w inner ws =
    on_ok (or_fault Name (shared_from 0 inner.scope.words w)) (λ (k, indexed).
    if indexed then on_ok (after_word (codes "[") ws) (λ index.
    on_ok (closed_with (codes "]") inner index) (λ (i, rest). Ok ((k, i), rest)))
    else Ok ((k, Number 0), ws))

-- a local, a constant, or a cell
abbrev pub name_with : Word → Inner → List Word → Read' Expr
name_with w inner ws =
    where_some (named_expr inner.scope w)
    (on_ok (cell_with w inner ws) (λ (cell, rest). Ok (Read cell.0 cell.1, rest)))
    (λ e. Ok (e, ws))

-- the update that a word is the name of
abbrev pub update_in : Word → Option CellCall
update_in w =
    if is_word w (codes "fetch_add") then Some (called.Fetch update.Add)
    else (if is_word w (codes "fetch_sub") then Some (called.Fetch update.Sub)
    else (if is_word w (codes "fetch_max") then Some (called.Fetch update.Max)
    else (if is_word w (codes "fetch_min") then Some (called.Fetch update.Min)
    else (if is_word w (codes "swap") then Some (called.Fetch update.Swap)
    else (if is_word w (codes "compare_exchange") then Some (called.Swap Before)
    else None)))))

-- whether `(` is the first word
abbrev pub opens : List Word → Bool
opens [] = false
opens (w ∷ ws) = is_word w (codes "(")

-- what a word calls that these words follow: it is `cas`, or the name of an update before `(`
abbrev pub call_in : Word → List Word → Option CellCall
call_in w ws =
    if is_word w (codes "cas") then Some (called.Swap Success)
    else (if opens ws then update_in w else None)

-- `OLD, NEW)` after the cell of a compare-and-swap
abbrev pub swap_with : Answer → ℕ × Expr → Inner → List Word → Read' Expr
swap_with answer cell inner ws =
    on_ok (closed_with (codes ",") inner ws) (λ (old, rest).
    on_ok (closed_with (codes ")") inner rest) (λ (new, more).
    Ok (Swap answer cell.0 cell.1 old new, more)))

-- `EXPR)` after the cell of an update
abbrev pub fetch_with : Update → ℕ × Expr → Inner → List Word → Read' Expr
fetch_with by cell inner ws =
    on_ok (closed_with (codes ")") inner ws) (λ (e, more). Ok (Fetch by cell.0 cell.1 e, more))

-- what follows the cell of a call
abbrev pub operands_with : CellCall → ℕ × Expr → Inner → List Word → Read' Expr
operands_with (called.Swap answer) cell inner ws = swap_with answer cell inner ws
operands_with (called.Fetch by) cell inner ws = fetch_with by cell inner ws

-- `(CELL, OLD, NEW)` or `(CELL, EXPR)` after the word that calls it
abbrev pub call_with : CellCall → Inner → List Word → Read' Expr
call_with by inner ws =
    on_ok (after_word (codes "(") ws) (λ inside. on_first inside (λ w first.
    on_ok (cell_with w inner first) (λ (cell, second).
    on_ok (after_word (codes ",") second) (operands_with by cell inner))))

-- `(K)` after `pick`
abbrev pub pick_from : List Constant → List Word → Read' Expr
pick_from constants ws =
    on_ok (after_word (codes "(") ws) (λ inside.
    on_ok (first_number constants inside) (λ (k, rest).
    unless (nat_lt k 1 || nat_lt 8 k) Limit
    (on_ok (after_word (codes ")") rest) (λ more. Ok (Pick k, more)))))

-- 0 minus an expression
abbrev pub negative : Expr → Expr
negative (Number n) = Number (result Minus 0 n)
negative e = Binary Minus (Number 0) e

-- an expression without operators between two values in it, but for those in parentheses, where it
-- calls nothing of a cell
abbrev pub plain_with : Word → Inner → List Word → Read' Expr
plain_with w inner ws =
    if is_word w (codes "!") then on_ok (inner.read 6 ws) (λ (e, rest). Ok (Not e, rest))
    else (if is_word w (codes "-") then on_ok (inner.read 6 ws) (λ (e, rest). Ok (negative e, rest))
    else (if is_word w (codes "(") then closed_with (codes ")") inner ws
    else (if is_word w (codes "pick") then pick_from inner.scope.constants ws
    else (if is_word w (codes "true") then Ok (Number 1, ws)
    else (if is_word w (codes "false") then Ok (Number 0, ws)
    else (if is_free_name w then name_with w inner ws
    else on_ok (or_fault Number' (value_in w)) (λ k. Ok (Number k, ws))))))))

-- the same, or a call
abbrev pub unary_with : Word → Inner → List Word → Read' Expr
unary_with w inner ws =
    where_some (call_in w ws) (plain_with w inner ws) (λ by. call_with by inner ws)

-- Expressions, by this many steps at most: more than there are words is enough.
abbrev mutual
  -- operators that bind at least so tightly
  pub expr_from : ℕ → Scope → ℕ → List Word → Read' Expr
  expr_from zero s least ws = Err Form
  expr_from (suc n) s least ws =
      on_first ws (λ w rest.
      on_ok (unary_with w (record { scope = s; read = expr_from n s }) rest)
      (λ (left, more). infix_from n s least 5 left more))

  -- operators after a left side, at least and at most so tight
  pub infix_from : ℕ → Scope → ℕ → ℕ → Expr → List Word → Read' Expr
  infix_from zero s least most left ws = Err Form
  infix_from (suc n) s least most left [] = Ok (left, [])
  infix_from (suc n) s least most left (w ∷ ws) =
      where_some (infix_in w) (Ok (left, w ∷ ws)) (λ by.
      if nat_lt (binding by) least then Ok (left, w ∷ ws)
      else (if nat_lt most (binding by) then Err Form
      else on_ok (expr_from n s (binding by + 1) ws)
      (λ (right, rest). infix_from n s least (most_after by) (joined by left right) rest)))

-- expressions inside of another, by this many steps
abbrev pub inner_by : ℕ → Scope → Inner
inner_by n s = record { scope = s; read = expr_from n s }

-- nothing is left of the words
abbrev pub nothing_left : List Word → Result (Unit {0}) Kind
nothing_left [] = Ok tt
nothing_left (w ∷ ws) = Err Form

-- what was read, where nothing is left of the words
abbrev pub all_read : {A : Type 0} → A × List Word → Result A Kind
all_read (x, ws) = on_ok (nothing_left ws) (λ _. Ok x)

-- as many steps as words may take
abbrev pub steps_for : List Word → ℕ
steps_for ws = length ws + 2

-- expressions inside of one that these words are
abbrev pub inner_of : Scope → List Word → Inner
inner_of s ws = inner_by (steps_for ws) s

-- this word stands first, and nothing after it
abbrev pub last_word : List ℕ → List Word → Result (Unit {0}) Kind
last_word text ws = on_ok (after_word text ws) nothing_left

-- ---- constant expressions

-- what the operator gives of two values, where both are known
abbrev pub of_both : Operator → Option ℕ → Option ℕ → Option ℕ
of_both by None right = None
of_both by (Some m) right = option_map (result by m) right

-- the value of an expression that is made of numbers alone, by operators and `!`
abbrev pub folded : Expr → Option ℕ
folded (Number n) = Some n
folded (Binary by a b) = of_both by (folded a) (folded b)
folded (Not a) = option_map opposite (folded a)
folded _ = None

-- a name that is no constant is no number
abbrev pub as_number : {A : Type 0} → Result A Kind → Result A Kind
as_number (Ok x) = Ok x
as_number (Err Name) = Err Number'
as_number (Err kind) = Err kind

-- what names mean where only constants do
abbrev pub constants_alone : List Constant → Scope
constants_alone constants = record { constants = constants; words = []; locals = [] }

-- an expression in which only constants have names, and the words after it
abbrev pub alone : List Constant → List Word → Read' Expr
alone constants ws = as_number (expr_from (steps_for ws) (constants_alone constants) 1 ws)

-- a constant expression, and the words after it
abbrev pub first_constant : List Constant → List Word → Read' ℕ
first_constant constants ws =
    on_ok (alone constants ws) (λ (e, rest).
    on_ok (or_fault Number' (folded e)) (λ n. Ok (n, rest)))

-- a constant expression, after which no word is left
abbrev pub last_number : List Constant → List Word → Result ℕ Kind
last_number constants ws = on_ok (first_constant constants ws) all_read

-- the name that a word is
abbrev pub name_of : Word → Result Word Kind
name_of w = unless (not (is_free_name w)) Form (unless (is_long w) Limit (Ok w))

-- a new name
abbrev pub new_name : Drafted → List Word → Word → Result Word Kind
new_name d locals w = on_ok (name_of w) (λ name. unless (is_taken d locals w) Name (Ok name))

-- ---- declarations

-- `object NAME`, the first line with words
abbrev pub object_line : Drafted → List Word → Result Drafted Kind
object_line d ws =
    on_ok (or_fault Form (exactly_one ws)) (λ w. on_ok (name_of w) (λ name.
    Ok (record d { name = Some name })))

-- `local L`, once, and before the first operation
abbrev pub local_line : Drafted → List Word → Result Drafted Kind
local_line d ws =
    on_ok (last_number d.constants ws) (λ most.
    unless (is_some d.local || nat_lt 0 (length d.operations)) Form
    (unless (nat_lt 16 most) Limit (Ok (record d { local = Some most }))))

-- `const NAME = EXPR`, with a constant expression
abbrev pub const_line : Drafted → List Word → Result Drafted Kind
const_line d ws =
    on_first ws (λ w rest. on_ok (new_name d [] w) (λ name.
    on_ok (after_word (codes "=") rest) (λ more. on_ok (last_number d.constants more) (λ n.
    Ok (record d { constants = d.constants ++ record { name = name; value = n } ∷ [] })))))

-- `[LEN]` or nothing
abbrev pub len_in : Drafted → List Word → Read' (ℕ × Bool)
len_in d [] = Ok ((1, false), [])
len_in d (w ∷ ws) =
    if is_word w (codes "[") then on_ok (first_constant d.constants ws) (λ (n, rest).
    on_ok (after_word (codes "]") rest) (λ more. Ok ((n, true), more)))
    else Ok ((1, false), w ∷ ws)

-- `= INIT` or nothing
abbrev pub init_in : Drafted → List Word → Result ℕ Kind
init_in d [] = Ok 0
init_in d (w ∷ ws) =
    on_ok (after_word (codes "=") (w ∷ ws)) (last_number d.constants)

-- `word NAME`, `word NAME = INIT`, `word NAME[LEN]` or `word NAME[LEN] = INIT`
abbrev pub word_line : Drafted → List Word → Result Drafted Kind
word_line d ws =
    on_first ws (λ w rest. on_ok (new_name d [] w) (λ name. on_ok (len_in d rest) (λ (size, more).
    on_ok (init_in d more) (λ init.
    unless (nat_le 16 (length d.words) || (nat_lt size.0 1 || nat_lt 64 size.0)) Limit
    (Ok (record d {
      words = d.words ++ record {
        array = record { name = name; len = size.0; init = init };
        indexed = size.1;
      } ∷ [];
    }))))))

-- `lock NAME`
abbrev pub lock_line : Drafted → List Word → Result Drafted Kind
lock_line d ws =
    on_first ws (λ w rest. on_ok (new_name d [] w) (λ name. on_ok (nothing_left rest) (λ _.
    unless (nat_le 8 (length d.locks)) Limit (Ok (record d { locks = d.locks ++ name ∷ [] })))))

-- names separated by commas, and then `)`
abbrev pub names_from : List Word → Drafted → List Word → Read' (List Word)
names_from names d [] = Err Form
names_from names d (w ∷ []) = Err Form
names_from names d (w ∷ c ∷ ws) =
    on_ok (new_name d names w) (λ name.
    if is_word c (codes ",") then names_from (names ++ name ∷ []) d ws
    else (if is_word c (codes ")") then Ok (names ++ name ∷ [], ws) else Err Form))

-- `)`, or names and then `)`
abbrev pub names_in : Drafted → List Word → Read' (List Word)
names_in d ws =
    on_first ws (λ w rest.
    if is_word w (codes ")") then Ok ([], rest) else names_from [] d ws)

-- an open block
abbrev pub opened : Opening → ℕ → Bool → Block
opened opening locals chained =
    record { opening = opening; does = Nothing; locals = locals; chained = chained }

-- an operation that does nothing yet: its arguments are its locals
abbrev pub begun_as : Word → List Word → Begun
begun_as name args = record {
  name = name;
  args = length args;
  lines = 0;
  locals = args;
  blocks = opened Whole 0 false ∷ [];
}

-- `op NAME(A, B) {`
abbrev pub op_line : Drafted → List Word → Result Drafted Kind
op_line d ws =
    on_first ws (λ name rest. unless (not (is_free_name name)) Form
    (on_ok (after_word (codes "(") rest) (λ inner. on_ok (names_in d inner) (λ (names, more).
    on_ok (last_word (codes "{") more) (λ _.
    unless (is_long name || (nat_le 16 (length d.operations) || nat_lt 4 (length names))) Limit
    (unless (is_operation d.operations name) Name
    (Ok (record d { begun = Some (begun_as name names) }))))))))

abbrev pub declaration : Drafted → Word → List Word → Result Drafted Kind
declaration d w ws =
    if is_word w (codes "local") then local_line d ws
    else (if is_word w (codes "const") then const_line d ws
    else (if is_word w (codes "word") then word_line d ws
    else (if is_word w (codes "lock") then lock_line d ws
    else (if is_word w (codes "op") then op_line d ws
    else Err Form))))

-- ---- statements

-- The block does this too. After what does not come to its end stands nothing.
abbrev pub does_too : Block → Tree → Result Block Kind
does_too block t =
    unless (not (falls block.does)) Flow (Ok (record block { does = Then block.does t }))

-- the innermost of these blocks does this too
abbrev pub added_to : Tree → List Block → Result (List Block) Kind
added_to t [] = Err Flow
added_to t (block ∷ blocks) = on_ok (does_too block t) (λ now. Ok (now ∷ blocks))

-- the operation with these open blocks
abbrev pub with_blocks : Begun → Result (List Block) Kind → Result Begun Kind
with_blocks b blocks = on_ok blocks (λ now. Ok (record b { blocks = now }))

-- the innermost block does this too
abbrev pub added : Begun → Tree → Result Begun Kind
added b t = with_blocks b (added_to t b.blocks)

-- one block more, with what opened it
abbrev pub deeper : Begun → Opening → Bool → Result Begun Kind
deeper b opening chained =
    unless (nat_le 16 (length b.blocks)) Limit
    (Ok (record b { blocks = opened opening (length b.locals) chained ∷ b.blocks }))

-- an expression's code, where there are registers enough: its last value goes to `to`, and what it
-- needs in between stands in registers from `free` on
abbrev pub code_for : Expr → ℕ → ℕ → Result Coded Kind
code_for e to free = unless (nat_lt 8 (needed e to free)) Registers (Ok (coded e to free))

-- the same after the locals
abbrev pub value_of : Begun → Expr → Result Coded Kind
value_of b e = code_for e (length b.locals) (length b.locals)

-- the same after the locals and a value
abbrev pub value_after : Begun → Operand → Expr → Result Coded Kind
value_after b at e = code_for e (past (length b.locals) at) (past (length b.locals) at)

-- the code of an index, and of a value after it
abbrev pub both_of : Begun → Expr → Expr → Result (Coded × Coded) Kind
both_of b i e =
    on_ok (value_of b i) (λ x. on_ok (value_after b x.at e) (λ y. Ok (x, y)))

-- what names mean in an open operation
abbrev pub scope_of : Drafted → Begun → Scope
scope_of d b = record { constants = d.constants; words = d.words; locals = b.locals }

-- an expression that all the words are
abbrev pub expr_in : Drafted → Begun → List Word → Result Expr Kind
expr_in d b ws = on_ok (expr_from (steps_for ws) (scope_of d b) 1 ws) all_read

-- an expression in front of `{`, which is the last word
abbrev pub expr_before_brace : Drafted → Begun → List Word → Result Expr Kind
expr_before_brace d b ws =
    on_ok (expr_from (steps_for ws) (scope_of d b) 1 ws) (λ (e, rest).
    on_ok (last_word (codes "{") rest) (λ _. Ok e))

-- a cell, and the words after it
abbrev pub cell_in : Word → Drafted → Begun → List Word → Read' (ℕ × Expr)
cell_in w d b ws = cell_with w (inner_of (scope_of d b) ws) ws

-- `= EXPR`, which all the words are
abbrev pub assigned_in : Drafted → Begun → List Word → Result Expr Kind
assigned_in d b ws = on_ok (after_word (codes "=") ws) (expr_in d b)

-- the operator by which a word changes a value, besides `=`; none where it is `=`
abbrev pub changing : Word → Result (Option Operator) Kind
changing w =
    if is_word w (codes "=") then Ok None
    else (if is_word w (codes "+=") then Ok (Some Plus)
    else (if is_word w (codes "-=") then Ok (Some Minus)
    else Err Form))

-- `= EXPR`, `+= EXPR` or `-= EXPR`, which all the words are
abbrev pub changed_in : Drafted → Begun → List Word → Result (Option Operator × Expr) Kind
changed_in d b ws =
    on_first ws (λ w rest. on_ok (changing w) (λ by. on_ok (expr_in d b rest) (λ e. Ok (by, e))))

-- the local becomes the value of the expression
abbrev pub set_local : ℕ → Begun → Expr → Result Tree Kind
set_local r b e = on_ok (code_for e r (length b.locals)) (λ x. Ok (put_at r x))

-- a new local gets its value, by `= EXPR`, where there is a register for it
abbrev pub first_value : Drafted → Begun → List Word → Result Tree Kind
first_value d b ws =
    on_ok (assigned_in d b ws) (λ e. unless (nat_le 8 (length b.locals)) Registers
    (set_local (length b.locals) b e))

-- `let NAME = EXPR`: a local more
abbrev pub let_line : Drafted → Begun → List Word → Result Begun Kind
let_line d b ws =
    on_first ws (λ w rest. on_ok (new_name d b.locals w) (λ name.
    on_ok (first_value d b rest) (λ t. on_ok (added b t) (λ now.
    Ok (record now { locals = now.locals ++ name ∷ [] })))))

-- the codes of two values, and then the action
abbrev pub both_then : Tree → Tree → Action → Tree
both_then first second last = Then first (Then second (Plain last))

-- what a value becomes by an expression: that, or what the operator makes of it and that
abbrev pub changed : Option Operator → Expr → Expr → Expr
changed None old e = e
changed (Some by) old e = Binary by old e

-- the expression that stands for a value
abbrev pub expr_at : Operand → Expr
expr_at (Reg r) = Local r
expr_at (Num n) = Number n

-- The cell becomes the value of the expression, or what the operator makes of its value and that,
-- by a load and a store. Its index is evaluated once.
abbrev pub set_cell : Option Operator → Begun → ℕ × Expr → Expr → Result Tree Kind
set_cell by b cell e =
    on_ok (value_of b cell.1) (λ x.
    on_ok (value_after b x.at (changed by (Read cell.0 (expr_at x.at)) e)) (λ y.
    Ok (both_then x.code y.code (action.Store cell.0 x.at y.at))))

-- neither reads what is shared nor changes it
abbrev pub is_still : Expr → Bool
is_still (Number n) = true
is_still (Local r) = true
is_still (Binary by a b) = is_still a && is_still b
is_still (Not a) = is_still a
is_still (And a b) = is_still a && is_still b
is_still (Or a b) = is_still a && is_still b
is_still _ = false

-- the action by which a cell is awaited
abbrev pub awaiting : Bool → ℕ → Operand → Operand → Action
awaiting equal w i v = if equal then action.Await w i v else action.AwaitNot w i v

-- `== EXPR` or `!= EXPR` after the cell: whether it is to be equal, and what to
abbrev pub compared : Drafted → Begun → List Word → Result (Bool × Expr) Kind
compared d b ws =
    on_first ws (λ by rest.
    unless (not (is_word by (codes "==")) && not (is_word by (codes "!="))) Form
    (on_ok (expr_in d b rest) (λ e. Ok (is_word by (codes "=="), e))))

-- A thread goes on where the cell is equal to the value, or where it is not. Neither the index nor the
-- value may read or change what is shared.
abbrev pub await_cell : Bool → Begun → ℕ × Expr → Expr → Result Tree Kind
await_cell equal b cell e =
    unless (not (is_still cell.1) || not (is_still e)) Flow
    (on_ok (both_of b cell.1 e) (λ (x, y).
    Ok (both_then x.code y.code (awaiting equal cell.0 x.at y.at))))

-- `await CELL == EXPR` and `await CELL != EXPR`
abbrev pub await_tree : Drafted → Begun → List Word → Result Tree Kind
await_tree d b ws =
    on_first ws (λ w rest. unless (not (is_free_name w)) Form
    (on_ok (cell_in w d b rest) (λ (cell, more).
    on_ok (compared d b more) (λ (equal, e). await_cell equal b cell e))))

abbrev pub is_loop : Opening → Bool
is_loop Turns = true
is_loop _ = false

-- whether some open block is a loop
abbrev pub in_loop : List Block → Bool
in_loop [] = false
in_loop (block ∷ blocks) = is_loop block.opening || in_loop blocks

-- `break` or `continue`
abbrev pub leave : Begun → Tree → List Word → Result Tree Kind
leave b t ws =
    on_ok (nothing_left ws) (λ _. unless (not (in_loop b.blocks)) Flow (Ok t))

-- `return` and `return EXPR`
abbrev pub return_tree : Drafted → Begun → List Word → Result Tree Kind
return_tree d b [] = Ok (Plain (action.Return (Num 0)))
return_tree d b (w ∷ ws) =
    on_ok (expr_in d b (w ∷ ws)) (λ e.
    on_ok (value_of b e) (λ x. Ok (Then x.code (Plain (action.Return x.at)))))

-- the lock of `lock NAME` and `unlock NAME`
abbrev pub lock_number : Drafted → List Word → Result ℕ Kind
lock_number d ws =
    on_ok (or_fault Form (exactly_one ws)) (λ name. or_fault Name (position_from 0 d.locks name))

-- `lock NAME` and `unlock NAME`
abbrev pub owner_tree : Drafted → (ℕ → Action) → List Word → Result Tree Kind
owner_tree d act ws = on_ok (lock_number d ws) (λ l. Ok (Plain (act l)))

-- `(CELL, OLD, NEW)` or `(CELL, EXPR)` after the word that calls it, whose value nobody asks for
abbrev pub call_tree : CellCall → Drafted → Begun → List Word → Result Tree Kind
call_tree by d b ws =
    on_ok (call_with by (inner_of (scope_of d b) ws) ws) (λ (e, rest).
    on_ok (nothing_left rest) (λ _. on_ok (value_of b e) (λ x. Ok x.code)))

-- `NAME = EXPR` and `NAME[EXPR] = EXPR`, and the same with `+=` and `-=`
abbrev pub assign : Word → Drafted → Begun → List Word → Result Tree Kind
assign w d b ws =
    where_some (local_in b.locals w)
    (on_ok (cell_in w d b ws) (λ (cell, rest).
    on_ok (changed_in d b rest) (λ (by, e). set_cell by b cell e)))
    (λ r. on_ok (changed_in d b ws) (λ (by, e). set_local r b (changed by (Local r) e)))

-- a load of a cell that no array has, by which an operation traps
abbrev pub trapping : Action
trapping = action.Load 0 0 (Num 64)

-- The operation traps where the expression is 0, by a load of the first shared word, which a source
-- has to have.
abbrev pub assert_tree : Drafted → Begun → List Word → Result Tree Kind
assert_tree d b ws =
    unless (length d.words == 0) Form
    (on_ok (expr_in d b ws) (λ e. on_ok (value_of b (as_test e)) (λ x.
    Ok (Then x.code (IfElse x.at Nothing (Plain trapping))))))

-- what is tested by an expression of which only counts whether it is 0
abbrev pub tested : Begun → Expr → Result (Begun × Operand) Kind
tested b e =
    on_ok (value_of b (as_test e)) (λ x. on_ok (added b x.code) (λ now. Ok (now, x.at)))

-- `if EXPR {`
abbrev pub if_line : Bool → Drafted → Begun → List Word → Result Begun Kind
if_line chained d b ws =
    on_ok (expr_before_brace d b ws) (λ e.
    on_ok (tested b e) (λ (now, v). deeper now (Test v) chained))

-- `while EXPR {`, after what a jump back leads to
abbrev pub while_line : Drafted → Begun → List Word → Result Begun Kind
while_line d b ws =
    on_ok (added b Nothing) (λ here.
    on_ok (expr_before_brace d here ws) (λ e. on_ok (deeper here Turns false) (λ inside.
    on_ok (tested inside e) (λ (now, v). added now (BreakUnless v)))))

-- `loop {`, after what a jump back leads to
abbrev pub loop_line : Begun → List Word → Result Begun Kind
loop_line b ws =
    on_ok (added b Nothing) (λ here. on_ok (last_word (codes "{") ws) (λ _.
    deeper here Turns false))

-- ---- `}`

-- what a block does that a `}` closes, after which nothing else stands
abbrev pub closed_by : Opening → Tree → Tree
closed_by Whole does = does
closed_by (Test v) does = If v does
closed_by (Other v first) does = IfElse v first does
closed_by Turns does = Loop does

-- The block around does this too, which a block in it did; and it is closed itself where that block
-- closes it.
abbrev pub closing : Tree → Bool → List Block → Result (List Block) Kind
closing t both [] = Err Flow
closing t both (block ∷ blocks) =
    on_ok (does_too block t) (λ now.
    if both then closing (closed_by now.opening now.does) now.chained blocks
    else Ok (now ∷ blocks))

-- the operation is there, where it has at most 64 instructions
abbrev pub whole_line : Drafted → Begun → Tree → Result Drafted Kind
whole_line d b t =
    unless (nat_lt 64 (length (operation_code t))) Limit (Ok (record d {
      operations = d.operations ++ record { name = b.name; args = b.args; body = t } ∷ [];
      begun = None;
    }))

-- the draft with this open operation
abbrev pub going : Drafted → Begun → Drafted
going d b = record d { begun = Some b }

abbrev pub keeps_going : Drafted → Result Begun Kind → Result Drafted Kind
keeps_going d made = on_ok made (λ b. Ok (going d b))

-- a block ends, and with it its locals; the blocks around do what it did
abbrev pub end_block : Begun → Block → Result Begun Kind
end_block b block =
    with_blocks (record b { locals = take block.locals b.locals })
    (closing (closed_by block.opening block.does) block.chained b.blocks)

abbrev pub is_whole : Opening → Bool
is_whole Whole = true
is_whole (Test v) = false
is_whole (Other v t) = false
is_whole Turns = false

-- `}`
abbrev pub end_line : Drafted → Begun → Block → Result Drafted Kind
end_line d b block =
    if is_whole block.opening then whole_line d b block.does
    else keeps_going d (end_block b block)

-- the other side of the test of a block, by what opened it
abbrev pub other_by : Begun → Block → Opening → Result Begun Kind
other_by b block (Test v) = Ok (record b {
  locals = take block.locals b.locals;
  blocks = opened (Other v block.does) block.locals block.chained ∷ b.blocks;
})
other_by b block Whole = Err Form
other_by b block (Other v t) = Err Form
other_by b block Turns = Err Form

-- the other side of the test of a block, where it was opened by one
abbrev pub other_side : Begun → Block → Result Begun Kind
other_side b block = other_by b block block.opening

-- `{` and `if EXPR {`, after `} else`
abbrev pub else_line : Drafted → Begun → List Word → Result Begun Kind
else_line d b ws =
    on_first ws (λ w rest.
    if is_word w (codes "{") then on_ok (nothing_left rest) (λ _. Ok b)
    else (if is_word w (codes "if") then if_line true d b rest else Err Form))

-- a line that begins with `}`, where this is the innermost block, and these words come after
abbrev pub closes : Block → Drafted → Begun → List Word → Result Drafted Kind
closes block d b [] = end_line d b block
closes block d b (w ∷ ws) =
    if is_word w (codes "else")
    then keeps_going d (on_ok (other_side b block) (λ other. else_line d other ws))
    else Err Form

-- the same, by the open blocks
abbrev pub close_blocks : List Block → Drafted → Begun → List Word → Result Drafted Kind
close_blocks [] d b ws = Err Flow
close_blocks (block ∷ blocks) d b ws = closes block d (record b { blocks = blocks }) ws

-- a line that begins with `}`, and the words after it
abbrev pub close_line : Drafted → Begun → List Word → Result Drafted Kind
close_line d b ws = close_blocks b.blocks d b ws

-- ---- lines

-- a statement that opens no block, declares no local, and calls nothing of a cell
abbrev pub plain : Word → Drafted → Begun → List Word → Result Tree Kind
plain w d b ws =
    if is_word w (codes "break") then leave b Break ws
    else (if is_word w (codes "continue") then leave b Continue ws
    else (if is_word w (codes "return") then return_tree d b ws
    else (if is_word w (codes "lock") then owner_tree d action.Lock ws
    else (if is_word w (codes "unlock") then owner_tree d action.Unlock ws
    else (if is_word w (codes "await") then await_tree d b ws
    else (if is_word w (codes "assert") then assert_tree d b ws
    else (if not (is_free_name w) then Err Form
    else assign w d b ws)))))))

-- the same, or a call
abbrev pub simple : Word → Drafted → Begun → List Word → Result Tree Kind
simple w d b ws = where_some (call_in w ws) (plain w d b ws) (λ by. call_tree by d b ws)

-- a line of an operation that closes no block
abbrev pub statement : Word → Drafted → Begun → List Word → Result Begun Kind
statement w d b ws =
    if is_word w (codes "let") then let_line d b ws
    else (if is_word w (codes "if") then if_line false d b ws
    else (if is_word w (codes "while") then while_line d b ws
    else (if is_word w (codes "loop") then loop_line b ws
    else on_ok (simple w d b ws) (added b))))

-- a statement of an operation, which has at most 256 of them, each `}` counted
abbrev pub inside : Word → Drafted → Begun → List Word → Result Drafted Kind
inside w d b ws = unless (nat_le 256 b.lines) Limit (counted (record b { lines = b.lines + 1 }))
  where
    counted : Begun → Result Drafted Kind
    counted now =
        if is_word w (codes "}") then close_line d now ws
        else keeps_going d (statement w d now ws)

-- what is declared, without the open operation
abbrev pub aside : Drafted → Drafted
aside d = record d { begun = None }

-- The first line with words is the `object` line. Then come declarations, and in an open operation
-- statements.
abbrev pub by_state : Drafted → Option Word → Option Begun → Word → List Word → Result Drafted Kind
by_state d None begun w ws = if is_word w (codes "object") then object_line d ws else Err Missing
by_state d (Some name) None w ws = declaration d w ws
by_state d (Some name) (Some b) w ws = inside w (aside d) b ws

-- a line with words, by the first and the others
abbrev pub worded_line : Drafted → Word → List Word → Result Drafted Kind
worded_line d w ws = by_state d d.name d.begun w ws

abbrev pub by_words : Drafted → List Word → Result Drafted Kind
by_words d [] = Ok d
by_words d (w ∷ ws) = worded_line d w ws

-- Whether a word makes an expression of others, or lets one stand in another: an operator, also
-- that of `+=` and `-=`, `(` or `[`.
abbrev pub is_nesting : Word → Bool
is_nesting w =
    is_some (infix_in w)
    || (is_word w (codes "!") || (is_word w (codes "(") || (is_word w (codes "[")
    || (is_word w (codes "+=") || is_word w (codes "-=")))))

-- how many of the words do
abbrev pub nesting : List Word → ℕ
nesting ws = length (filter is_nesting ws)

-- whether a line has more words, or more operators, `(` and `[`, than it may have
abbrev pub is_too_long : List Word → Bool
is_too_long ws = nat_lt 256 (length ws) || nat_lt 64 (nesting ws)

-- one statement after the other
abbrev pub by_statements : Drafted → List (List Word) → Result Drafted Kind
by_statements d [] = Ok d
by_statements d (words ∷ others) = on_ok (by_words d words) (λ next. by_statements next others)

-- a line of bytes that are allowed, with at most 256 words and 64 operators, `(` and `[`
unfoldable pub line_of : Drafted → List ℕ → Result Drafted Kind
line_of d line =
    unless (not (list_all is_allowed line)) Byte
    (unless (is_too_long (source_words line)) Limit
    (by_statements d (statements (source_words line))))

abbrev pub program_of : Drafted → Option Word → Option Begun → Result Program Kind
program_of d None begun = Err Missing
program_of d (Some name) (Some b) = Err Missing
program_of d (Some name) None = Ok (record {
  name = name;
  local = unwrap_or d.local 16;
  arrays = map (λ w. w.array) d.words;
  locks = d.locks;
  operations = d.operations;
})

abbrev pub source_grammar : Grammar Kind Drafted Program
source_grammar = record {
  nothing = nothing;
  line = line_of;
  finish = λ d. program_of d d.name d.begun;
}
