-- What the lines of a text are read as, beside the faults that are reported of them.
use Rattle.std.proofs.Common.{◌≡◌, ℕ, ◌+◌, Bool, true, false, List, [], ◌∷◌, ◌++◌, Option, Some, None, Result, Ok, Err, refl, sym, ap, subst, ◌∙◌}
use Rattle.std.specs.Prelude.{Vec, ◌==◌, ◌&&◌, IfSome, IsSome, is_none, is_some, length, not}
use Rattle.std.specs.Option.{unwrap_or}
use Rattle.std.specs.Result.{result_ok}
use Rattle.lu_text.specs.declared.fault.Fault.{Fault}
use Rattle.lu_text.specs.Faults.{Grammar, fault_in, going_on, lines_after, on_line, says, then_lines}
use Rattle.lu_component.specs.Component.{Component}
use Rattle.lu_lang.specs.declared.fault.LangFaultKind.{LangFaultKind}
use Rattle.lu_lang.specs.Draft.{ComponentDraft}
use Rattle.lu_lang.specs.Faulty.{FaultyDraft}
use Rattle.lu_lang.specs.Grammar.{component_grammar, line_of}
use Rattle.lu_lang.specs.Meant.{faulty_grammar, mend_faulty, read_as as meant_as, with_draft}
use Rattle.lu_lang.specs.Sound.{IsSoundDraft}
use Rattle.lu_lang.proofs.Drafts.{line_keeps}
use Rattle.lu_test.specs.declared.matrix_fault.MatrixFaultKind.{MatrixFaultKind}
use Rattle.lu_test.specs.declared.matrix.Call.{Call}
use Rattle.lu_test.specs.declared.matrix_fault.MatrixFaultKind.TheVariants.{Limit}
use Rattle.lu_test.specs.Matrix.{IsOf, Matrix, matrix_with}
use Rattle.lu_test.specs.MatrixText.{finished, grammar_by}
use Rattle.lu_test.specs.Signatures.{Signature}
use Rattle.lu_test.specs.MatrixText as matrix
use Rattle.lu_lint.specs.declared.component.ReadComponent.{ReadComponent}
use Rattle.lu_lint.specs.declared.remark.Remark.{Remark}
use Rattle.lu_lint.specs.declared.remark.Said.{Said}
use Rattle.lu_lint.specs.Bundle.{LintsComponentLines, component_lines_said, component_read, component_said, warnings_said}
use Rattle.lu_lint.specs.Component.{component_lint, read_as, read_or_left}
use Rattle.lu_lint.specs.Component.{faulty_of_lines, read_of_lines}
use Rattle.lu_lint.specs.Said.{SaysAndReads, said_of, said_of_text}
use Rattle.lu_lang.proofs.Understood.{faulty_meaning}
use Rattle.lu_text.specs.Lines.{lines_of}
use Rattle.lu_lint.specs.Lint.{left_by}
use Rattle.lu_lint.specs.Matrix.{matrix_if, matrix_mend, left_by as left_matrix}
use Rattle.lu_lint.proofs.MatrixSteps.{left_same}

-- while no line has had a fault, the lines to come give what all of them give; afterwards nothing
abbrev pub Reads : {Kind Draft Value : Type 0} → Grammar Kind Draft Value → Bool → ℕ → Draft → List (List ℕ) → Result Value (Fault Kind) → Type 0
Reads g true n d lines all = lines_after g n d lines ≡ all
Reads g false n d lines all = result_ok all ≡ None

-- a line has a fault or none
pub free : (some none : Bool) → some ≡ not none → none ≡ not some
free some true e = rw e refl
free some false e = rw e refl

-- one line more
pub reads_on : {Kind Draft Value : Type 0} (g : Grammar Kind Draft Value) (mend : Draft → List ℕ → List (List ℕ) → Draft) (sound none : Bool) (n : ℕ) (d d1 next : Draft) (fault : Option Kind) (line : List ℕ) (after rest : List (List ℕ)) (all : Result Value (Fault Kind))
    → is_some fault ≡ not none → (d1, fault) ≡ going_on d (g.line d line) → next ≡ left_by mend d1 line after fault → Reads g sound n d (line ∷ rest) all → Reads g (sound && none) (n + 1) next rest all
unfolding lines_after
reads_on g mend false none n d d1 next fault line after rest all is e left h = h
reads_on {Kind = Kind} {Draft = Draft} g mend true none n d d1 next fault line after rest all is e left h = rw (free (is_some fault) none is) (go (g.line d line) e h)
  where
    go : (r : Result Draft Kind) → (d1, fault) ≡ going_on d r → then_lines (on_line n r) (λ x. lines_after g (n + 1) x rest) ≡ all → Reads g (true && is_none fault) (n + 1) next rest all
    go (Ok y) f k =
        let same : d1 ≡ y = ap (λ (x : Draft × Option Kind). x.0) f in
        let free : fault ≡ None = ap (λ (x : Draft × Option Kind). x.1) f in
        rw (left, free, same) k
    go (Err kind) f k =
        let some : fault ≡ Some kind = ap (λ (x : Draft × Option Kind). x.1) f in
        rw (some, ← k) refl

-- ---- a component

-- while no line has had a fault, what is declared obeys the rules of components
abbrev pub KeepsRules : Bool → FaultyDraft → Type 0
KeepsRules sound f = sound ≡ true → IsSoundDraft f.draft

pub rules_on : (sound none : Bool) (f f1 next : FaultyDraft) (fault : Option LangFaultKind) (line : List ℕ) (after whole rest : List (List ℕ)) → whole ≡ line ∷ rest → after ≡ rest → is_some fault ≡ not none → (f1, fault) ≡ going_on f (faulty_grammar.line f line) → next ≡ left_by mend_faulty f1 line after fault → KeepsRules sound f → KeepsRules (sound && none) next
rules_on false none f f1 next fault line after whole rest cut same is e left h k = absurd cc
rules_on true none f f1 next fault line after whole rest cut same is e left h k = go (line_of f.draft (meant_as f line)) refl e (sym (free (is_some fault) none is) ∙ k)
  where
    go : (r : Result ComponentDraft LangFaultKind) → line_of f.draft (meant_as f line) ≡ r → (f1, fault) ≡ going_on f (with_draft f r) → is_none fault ≡ true → IsSoundDraft next.draft
    go (Ok d) read g free =
        let same : f1 ≡ record f { draft = d } = ap (λ (x : FaultyDraft × Option LangFaultKind). x.0) g in
        let free : fault ≡ None = ap (λ (x : FaultyDraft × Option LangFaultKind). x.1) g in
        rw (left, free, same) (line_keeps f.draft (h refl) (meant_as f line) d read)
    go (Err kind) read g free =
        let some : fault ≡ Some kind = ap (λ (x : FaultyDraft × Option LangFaultKind). x.1) g in
        absurd (let free = rw some at free in cc)

-- no line is left
pub component_done : (sound : Bool) (n : ℕ) (f left : FaultyDraft) (all : Result Component (Fault LangFaultKind)) → Reads faulty_grammar sound n f [] all → f ≡ left → read_as f sound ≡ read_or_left all left
unfolding lines_after
component_done false n f left all h same = go all h
  where
    go : (r : Result Component (Fault LangFaultKind)) → result_ok r ≡ None → read_as f false ≡ read_or_left r left
    go (Ok c) k = absurd cc
    go (Err e) k = rw same refl
component_done true n f left all h same = rw (← h, ← same) (go (component_grammar.finish f.draft))
  where
    go : (r : Result Component LangFaultKind) → read_or_left r f ≡ read_or_left (on_line n r) f
    go (Ok c) = refl
    go (Err kind) = refl

-- what is said of a component, and what it is read as
component_text : (text : List ℕ) (lines : List (List ℕ)) (c : ReadComponent) (all next : List Said) → lines ≡ lines_of text → (next ≡ all ++ component_lines_said lines) × (c ≡ read_of_lines lines) → (next ≡ all ++ component_said text) × (c ≡ component_read text)
component_text text lines c all next is e =
    let read : read_of_lines (lines_of text) ≡ component_read text = ap (λ (r : Result Component (Fault LangFaultKind)). read_or_left r (faulty_of_lines (lines_of text))) (faulty_meaning text) in (
      e.0
          ∙ (ap (λ (x : List (List ℕ)). all ++ component_lines_said x) is
          ∙ ap (λ (x : ReadComponent). all ++ (said_of_text component_lint 0 text ++ warnings_said x (lines_of text))) read),
      e.1 ∙ (ap read_of_lines is ∙ read),
    )

pub of_component : {E Y Z : Type 0} (text : List ℕ) (lines : List (List ℕ)) (before : Vec Remark Y) (result : Result (Vec Remark Z × ReadComponent) E) → lines ≡ lines_of text → LintsComponentLines result before lines → SaysAndReads result before (component_said text) (component_read text)
of_component text lines before (Ok (next, c)) is e = component_text text lines c (said_of before.items) (said_of next.items) is e
of_component text lines before (Err error) is e = tt

-- ---- a matrix

pub matrix_done : (g : Grammar MatrixFaultKind matrix.MatrixDraft Matrix) (sound : Bool) (n : ℕ) (d : matrix.MatrixDraft) (all : Result Matrix (Fault MatrixFaultKind)) → g.finish d ≡ finished d → Reads g sound n d [] all → matrix_if d sound ≡ result_ok all
unfolding lines_after
matrix_done g false n d all is h = sym h
matrix_done g true n d all is h = rw (← h, is) (go (finished d))
  where
    go : (r : Result Matrix MatrixFaultKind) → result_ok r ≡ result_ok (on_line n r)
    go (Ok m) = refl
    go (Err kind) = refl

-- the matrix of a component that lines without a fault left
pub made : (c : Component) (d : matrix.MatrixDraft) (setup : List Call) (new : Option Matrix) → fault_in (finished d) ≡ None → setup ≡ unwrap_or d.setup [] → IfSome new (λ m. m ≡ matrix_with setup d.threads) → (IsOf (matrix_with setup d.threads) c → IsSome new) → IsOf (matrix.matrix_of d) c → new ≡ matrix_if d true
made c d setup new none is calls of fits = go (length d.threads == 0) none new calls (of (subst (λ (xs : List Call). IsOf (matrix_with xs d.threads) c) (sym is) fits))
  where
    left : Matrix
    left = matrix.matrix_of d

    go : (b : Bool) → fault_in (says ((b, Limit) ∷ []) left) ≡ None → (new : Option Matrix) → IfSome new (λ m. m ≡ matrix_with setup d.threads) → IsSome new → new ≡ result_ok (says ((b, Limit) ∷ []) left)
    go true none new calls some = absurd cc
    go false none None calls some = absurd (let e : false ≡ true = some in cc)
    go false none (Some m) calls some = ap (λ (x : Matrix). Some x) (calls ∙ ap (λ (xs : List Call). matrix_with xs d.threads) is)

-- one line more of a matrix
pub matrix_on : (all : List Signature) (sound none : Bool) (n : ℕ) (d d1 next : matrix.MatrixDraft) (fault : Option MatrixFaultKind) (line : List ℕ) (rest : List (List ℕ)) (meant : Result Matrix (Fault MatrixFaultKind))
    → is_some fault ≡ not none → (d1, fault) ≡ going_on d (matrix.line_of all d line) → next ≡ left_matrix d1 line fault → Reads (grammar_by all) sound n d (line ∷ rest) meant → Reads (grammar_by all) (sound && none) (n + 1) next rest meant
matrix_on all sound none n d d1 next fault line rest meant is e left h =
    reads_on (grammar_by all) matrix_mend sound none n d d1 next fault line [] rest meant is e (left ∙ left_same d1 line [] fault) h
