-- What the reader's functions return: what the definitions say, unless memory ran out.
use Rattle.std.specs.Prelude.{◌≡◌, ℕ, Bool, List, [], ◌∷◌, Option, MatchOption, Result, Ok, Err, Vec}
use denote.Ref.{Bor}
use Rattle.lu_text.specs.Lines.{texts}
use Rattle.lu_text.specs.Words.{Word}
use Rattle.lu_component.specs.declared.instr.Operand.{Operand}
use Rattle.lu_source.specs.declared.expr.Expr.{Expr as Boxed}
use Rattle.lu_source.specs.Evaluations.{coded_of, expr_of}
use Rattle.lu_source.specs.declared.expr.Evaluation.{Evaluation}
use Rattle.lu_source.specs.declared.expr.Operator.{Operator}
use Rattle.lu_source.specs.declared.tree.Stmt.{Stmt}
use Rattle.lu_source.specs.Expressions.{Coded, Expr}
use Rattle.lu_source.specs.Shapes.{tree_of}
use Rattle.lu_source.specs.Trees.{Tree}
use Rattle.lu_source_text.specs.declared.fault.Refusal.{Refusal}
use Rattle.lu_source_text.specs.declared.fault.Refusal.TheVariants.{Kind as OfKind, Memory}
use Rattle.lu_source_text.specs.declared.scope.Cell.{Cell}
use Rattle.lu_source_text.specs.declared.scope.Scope.{Scope as Lent}
use Rattle.lu_source_text.specs.Drafts.{begun_of, block_of, blocks_of, drafted_of}
use Rattle.lu_source_text.specs.declared.draft.Block.{Block as HeldBlock}
use Rattle.lu_source_text.specs.declared.draft.Begun.{Begun as HeldBegun}
use Rattle.lu_source_text.specs.declared.draft.Draft.{Draft}
use Rattle.lu_source_text.specs.Grammar.{Begun, Block, Drafted, Inner, Kind, Read', Scope, both_of, infix_from, inner_by, tested}

-- a refusal is the fault, unless memory ran out
abbrev pub IsRefused : {B : Type 0} → Refusal → Result B Kind → Type 0
IsRefused Memory meant = Unit {0}
IsRefused (OfKind kind) meant = meant ≡ Err kind

-- what was returned, seen so, is the value or the fault, unless memory ran out
abbrev pub Reads : {A B : Type 0} → (A → B) → Result A Refusal → Result B Kind → Type 0
Reads seen (Ok x) meant = meant ≡ Ok (seen x)
Reads seen (Err e) meant = IsRefused e meant

-- words in memory that are left
abbrev pub Left : Type 0
Left = Bor (List (Bor Word))

-- what is read of words, seen so, and the words after it
abbrev pub with_rest : {A B : Type 0} → (A → B) → A × Left → B × List Word
with_rest seen read = (seen read.0, texts read.1.now)

-- ---- what definitions say of values of the code

-- what is said of words, in a draft
abbrev pub in_draft : {A : Type 0} → (Drafted → List Word → A) → Draft → List (Bor Word) → A
in_draft said d words = said (drafted_of d) (texts words)

-- what is said of a line, by its first word and the others, in a draft
abbrev pub in_line : {A : Type 0} → (Drafted → Word → List Word → A) → Draft → Word
    → List (Bor Word) → A
in_line said d word words = said (drafted_of d) word (texts words)

-- what is said of a draft and its open operation
abbrev pub within : {A : Type 0} → Draft → HeldBegun → (Drafted → Begun → A) → A
within d b said = said (drafted_of d) (begun_of b)

-- what is said of words, in a draft and its open operation
abbrev pub in_begun : {A : Type 0} → (Drafted → Begun → List Word → A) → Draft → HeldBegun
    → List (Bor Word) → A
in_begun said d b words = within d b said (texts words)

-- what names mean there
abbrev pub meanings : Lent → Scope
meanings s = record { constants = s.constants.now; words = s.words.now; locals = s.locals.now }

-- what is said of words inside of an expression, which is read by at most this many steps
abbrev pub by_steps : {A : Type 0} → (Inner → List Word → A) → ℕ → Lent → List (Bor Word) → A
by_steps said steps s words = said (inner_by steps (meanings s)) (texts words)

-- what is said of operators after this left side, at least and at most so tight
abbrev pub infix_after : Boxed → ℕ → ℕ → ℕ → Lent → List (Bor Word) → Read' Expr
infix_after left least most steps s words =
    infix_from steps (meanings s) least most (expr_of left) (texts words)

-- ---- values

-- the value itself
abbrev pub ReadsAlone : {A : Type 0} → Result A Refusal → Result A Kind → Type 0
ReadsAlone returned meant = Reads (λ x. x) returned meant

abbrev pub ReadsBegun : Result HeldBegun Refusal → Result Begun Kind → Type 0
ReadsBegun returned meant = Reads begun_of returned meant

-- a length, whether it is written, and the words after it
abbrev pub ReadsSize : Result (ℕ × Bool × Left) Refusal → Result ((ℕ × Bool) × List Word) Kind
    → Type 0
ReadsSize returned meant =
    Reads (λ (n, written, rest). ((n, written), texts rest.now)) returned meant

abbrev pub ReadsNames : {Z : Type 0} → Result (Vec Word Z × Left) Refusal
    → Result (List Word × List Word) Kind → Type 0
ReadsNames returned meant = Reads (with_rest (λ names. names.items)) returned meant

abbrev pub ReadsWord : Result (Bor Word × Left) Refusal → Result (Word × List Word) Kind → Type 0
ReadsWord returned meant = Reads (with_rest (λ word. word.now)) returned meant

abbrev pub ReadsWords : Result Left Refusal → Result (List Word) Kind → Type 0
ReadsWords returned meant = Reads (λ rest. texts rest.now) returned meant

abbrev pub ReadsNumber : Result (ℕ × Left) Refusal → Result (ℕ × List Word) Kind → Type 0
ReadsNumber returned meant = Reads (with_rest (λ n. n)) returned meant

abbrev pub ReadsExpr : Result (Boxed × Left) Refusal → Result (Expr × List Word) Kind → Type 0
ReadsExpr returned meant = Reads (with_rest expr_of) returned meant

-- a cell, without the boxes of its index
abbrev pub cell_of : Cell → ℕ × Expr
cell_of cell = (cell.array, expr_of cell.index)

abbrev pub ReadsCell : Result (Cell × Left) Refusal → Result ((ℕ × Expr) × List Word) Kind → Type 0
ReadsCell returned meant = Reads (with_rest cell_of) returned meant

-- ---- in an open operation

-- whether to be equal, and what to
abbrev pub ReadsCompared : Result (Bool × Boxed) Refusal → Result (Bool × Expr) Kind → Type 0
ReadsCompared returned meant = Reads (λ (equal, e). (equal, expr_of e)) returned meant

-- the operator that changes a value, where there is one, and by what
abbrev pub ReadsChanged : Result (Option Operator × Boxed) Refusal
    → Result (Option Operator × Expr) Kind → Type 0
ReadsChanged returned meant = Reads (λ (by, e). (by, expr_of e)) returned meant

-- an expression that all the words are
abbrev pub ReadsWhole : Result Boxed Refusal → Result Expr Kind → Type 0
ReadsWhole returned meant = Reads expr_of returned meant

abbrev pub ReadsTree : Result Stmt Refusal → Result Tree Kind → Type 0
ReadsTree returned meant = Reads tree_of returned meant

abbrev pub ReadsCode : Result Evaluation Refusal → Result Coded Kind → Type 0
ReadsCode returned meant = Reads coded_of returned meant

-- what is said of a cell and an expression, in an open operation
abbrev pub on_cell : {A : Type 0} → (Begun → ℕ × Expr → Expr → A) → HeldBegun → Cell → Boxed → A
on_cell said b cell e = said (begun_of b) (cell_of cell) (expr_of e)

-- the code of an index, and of a value after it
abbrev pub ReadsBoth : Result (Evaluation × Evaluation) Refusal → HeldBegun → Boxed → Boxed → Type 0
ReadsBoth returned b i e =
    Reads (λ (x, y). (coded_of x, coded_of y)) returned
    (both_of (begun_of b) (expr_of i) (expr_of e))

abbrev pub ReadsBlock : Result HeldBlock Refusal → Result Block Kind → Type 0
ReadsBlock returned meant = Reads block_of returned meant

-- ---- what becomes of an open operation

-- all the blocks are the others, and this one inside of them
abbrev pub HasInside : {Z : Type 0} → Vec HeldBlock Z → HeldBlock → Vec HeldBlock Z → Type 0
HasInside all block others = blocks_of all.items ≡ block_of block ∷ blocks_of others.items

-- the innermost block is taken out, where there is one
abbrev pub TakesInnermost : {Z : Type 0} → Option HeldBlock → Vec HeldBlock Z → Vec HeldBlock Z
    → Type 0
TakesInnermost returned old new =
    MatchOption returned (blocks_of old.items ≡ []) (λ block. HasInside old block new)

-- the open blocks become what is made of them, or the fault is there
abbrev pub BlocksBecome : {Z : Type 0} → Result (Unit {0}) Refusal → Vec HeldBlock Z
    → Vec HeldBlock Z → (List Block → Result (List Block) Kind) → Type 0
BlocksBecome returned old new made =
    Reads (λ _. blocks_of new.items) returned (made (blocks_of old.items))

-- the open operation becomes what is made of it, or the fault is there
abbrev pub Becomes : Result (Unit {0}) Refusal → HeldBegun → HeldBegun
    → (Begun → Result Begun Kind) → Type 0
Becomes returned old new made = Reads (λ _. begun_of new) returned (made (begun_of old))

-- the draft is now what is meant, or the fault is there
abbrev pub DraftIs : Result (Unit {0}) Refusal → Draft → Result Drafted Kind → Type 0
DraftIs returned new meant = Reads (λ _. drafted_of new) returned meant

-- the draft is now what a line of these words makes of it and of its open operation
abbrev pub DraftTakes : Result (Unit {0}) Refusal
    → (Drafted → Begun → List Word → Result Drafted Kind) → Draft → HeldBegun → List (Bor Word)
    → Draft → Type 0
DraftTakes returned line old b words new = DraftIs returned new (in_begun line old b words)

-- the open operation becomes what a line of these words makes of it in the draft
abbrev pub ReadsLine : Result (Unit {0}) Refusal
    → (Drafted → Begun → List Word → Result Begun Kind) → Draft → List (Bor Word) → HeldBegun
    → HeldBegun → Type 0
ReadsLine returned line d words old new =
    Becomes returned old new (λ b. line (drafted_of d) b (texts words))

-- the value that is tested by an expression, and the open operation with the code that leads to it
abbrev pub ReadsTest : Result Operand Refusal → HeldBegun → HeldBegun → Boxed → Type 0
ReadsTest returned old new e =
    Reads (λ v. (begun_of new, v)) returned (tested (begun_of old) (expr_of e))
