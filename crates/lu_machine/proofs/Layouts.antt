-- Where the cells of each array stand among all.
use Rattle.std.proofs.Common.{◌≡◌, ℕ, zero, suc, ◌+◌, ◌<◌, ◌≤◌, List, [], ◌∷◌, ◌++◌, length, replicate, take, Option, Some, None, slice_get, slice_set, get_or, refl, sym, ◌∙◌, ap, arith, length-append}
use Rattle.std.proofs.lemmas.List.{take_more, append-nil, length-replicate, length-set}
use Rattle.std.proofs.lemmas.List.Concat.{flat_map-append}
use Rattle.std.proofs.lemmas.List.Sums.{sum_by-cons}
use Rattle.std.proofs.lemmas.Bool.{lt-ltb, le-ltb}
use Rattle.std.proofs.lemmas.Option.{same_Some, slice_get-get_or, get_or_from_slice_get}
use Rattle.lu_component.specs.declared.component.Array.{Array}
use Rattle.lu_machine.specs.declared.program.Agenda.{Agenda}
use Rattle.lu_machine.specs.declared.program.Task.{Task}
use Rattle.lu_machine.specs.declared.span.Span.{Span}
use Rattle.lu_component.specs.Component.{Component}
use Rattle.lu_machine.specs.States.{State, first_cell, cell_of}
use Rattle.lu_machine.specs.Starts.{initial_cells}
use Rattle.lu_machine.specs.Layout.{IsLaidOut, IsStanding, StandsIn, spans_of}
use Rattle.lu_test.specs.Matrix.{Matrix}
use Rattle.lu_machine.specs.declared.thread.Thread.{Thread}
use Rattle.std.proofs.lemmas.List.Elements.{All-set}

first_cell-none : (arrays : List Array) → first_cell arrays zero ≡ 0
unfolding first_cell
first_cell-none arrays = refl

first_cell-cons : (a : Array) (arrays : List Array) (w : ℕ) → first_cell (a ∷ arrays) (suc w) ≡ a.len + first_cell arrays w
unfolding first_cell
first_cell-cons a arrays w = sum_by-cons (λ (b : Array). b.len) a (take w arrays)

pub length-spans_of : (before : ℕ) (arrays : List Array) → length (spans_of before arrays) ≡ length arrays
length-spans_of before [] = refl
length-spans_of before (a ∷ arrays) = ap suc (length-spans_of (before + a.len) arrays)

span_same : (m n : ℕ) (a b : Array) → m ≡ n → a ≡ b → ◌≡◌ {A = Option Span} (Some (record { first = m; len = a.len })) (Some (record { first = n; len = b.len }))
span_same m n a b p q = rw (p, q) refl

-- the span of array w begins after the cells of the arrays before it
pub slice_get-spans_of : (before : ℕ) (arrays : List Array) (w : ℕ) (a : Array) → slice_get arrays w ≡ Some a → slice_get (spans_of before arrays) w ≡ Some (record { first = before + first_cell arrays w; len = a.len })
slice_get-spans_of before [] w a is = cc
slice_get-spans_of before (b ∷ arrays) zero a is =
    span_same _ _ b a (omega (arith, first_cell-none (b ∷ arrays))) (same_Some b a is)
slice_get-spans_of before (b ∷ arrays) (suc w) a is =
    slice_get-spans_of (before + b.len) arrays w a is
    ∙ span_same _ _ a a (omega (arith, first_cell-cons b arrays w)) refl

-- a cell of array w is one of all cells
pub cell_within : (arrays : List Array) (w i : ℕ) (a : Array) → slice_get arrays w ≡ Some a → i < a.len → first_cell arrays w + i < first_cell arrays (length arrays)
cell_within [] w i a is h = cc
cell_within (b ∷ arrays) zero i a is h =
    let same : b.len ≡ a.len = ap (λ (x : Array). x.len) (same_Some b a is) in
    omega (arith, first_cell-none (b ∷ arrays), first_cell-cons b arrays (length arrays))
cell_within (b ∷ arrays) (suc w) i a is h =
    omega (arith, first_cell-cons b arrays w, first_cell-cons b arrays (length arrays), cell_within arrays w i a is h)

-- what the span of array w tells of its cell i
pub record Tells (c : Component) (cells : List ℕ) (w i : ℕ) (span : Span) : Type 0 where
  pub inside : i < span.len → (cell_of c w i ≡ Some (span.first + i)) × (span.first + i < length cells)
  pub past : span.len ≤ i → cell_of c w i ≡ None

array_tells : (c : Component) (cells : List ℕ) (w i : ℕ) (a : Array) (span : Span) → slice_get c.arrays w ≡ Some a → length cells ≡ first_cell c.arrays (length c.arrays) → span.first ≡ first_cell c.arrays w → span.len ≡ a.len → Tells c cells w i span
unfolding cell_of
array_tells c cells w i a span at many first len = record {
  inside = λ below. (
    rw (at, lt-ltb i a.len (omega arith)) (ap (λ n. Some (n + i)) (sym first)),
    omega (arith, cell_within c.arrays w i a at (omega arith)),
  );
  past = λ above. rw (at, le-ltb i a.len (omega arith)) refl;
}

pub span_tells : (c : Component) (spans : List Span) (cells : List ℕ) (w i : ℕ) (span : Span) → spans ≡ spans_of 0 c.arrays → length cells ≡ first_cell c.arrays (length c.arrays) → w < length c.arrays → span ≡ get_or spans w span → Tells c cells w i span
span_tells c spans cells w i span are many below read =
    let none : Array = record { name = []; len = 0; init = 0 } in
    let a : Array = get_or c.arrays w none in
    let at : slice_get c.arrays w ≡ Some a = slice_get-get_or c.arrays w none below in
    let expected : Span = record { first = 0 + first_cell c.arrays w; len = a.len } in
    let there : slice_get spans w ≡ Some expected = rw are (slice_get-spans_of 0 c.arrays w a at) in
    let is : span ≡ expected = read ∙ get_or_from_slice_get spans w expected span there in
    array_tells c cells w i a span at many (omega (arith, ap (λ (x : Span). x.first) is)) (ap (λ (x : Span). x.len) is)

-- a state whose machine keeps these spans, rows and agendas
abbrev pub Keeps : List Span → List (List Task) → List Agenda → State → Type 0
Keeps spans rows agendas s = IsLaidOut s.component s.matrix spans rows agendas s.cells s.locks s.threads

pub spans_many : (spans : List Span) (rows : List (List Task)) (agendas : List Agenda) (s : State) → Keeps spans rows agendas s → length spans ≡ length s.component.arrays
spans_many spans rows agendas s keeps = ap length keeps.spans_are ∙ length-spans_of 0 s.component.arrays

pub kept_tells : (spans : List Span) (rows : List (List Task)) (agendas : List Agenda) (s : State) (w n i : ℕ) (span : Span) → Keeps spans rows agendas s → w < length s.component.arrays → n ≡ w → span ≡ get_or spans n span → Tells s.component s.cells w i span
kept_tells spans rows agendas s w n i span keeps below same read =
    span_tells s.component spans s.cells w i span keeps.spans_are keeps.cells_are below (rw same at read)

length-initial_cells-cons : (a : Array) (arrays : List Array) → length (initial_cells (a ∷ arrays)) ≡ a.len + length (initial_cells arrays)
length-initial_cells-cons a arrays = rw (length-append, length-replicate) refl

-- the cells of all arrays are as many as stand before an array after the last
pub length-initial_cells : (arrays : List Array) → length (initial_cells arrays) ≡ first_cell arrays (length arrays)
length-initial_cells [] = sym (first_cell-none [])
length-initial_cells (a ∷ arrays) =
    omega (arith, length-initial_cells-cons a arrays, length-initial_cells arrays, first_cell-cons a arrays (length arrays))

spans_of-append : (before : ℕ) (arrays : List Array) (a : Array) (first : ℕ) → first ≡ before + length (initial_cells arrays) → spans_of before (arrays ++ a ∷ []) ≡ spans_of before arrays ++ record { first = first; len = a.len } ∷ []
spans_of-append before [] a first is =
    let same : before ≡ first = omega arith in
    ap (λ (n : ℕ). let span : Span = record { first = n; len = a.len } in span ∷ []) same
spans_of-append before (b ∷ arrays) a first is =
    ap (λ (spans : List Span). record { first = before; len = b.len } ∷ spans) (spans_of-append (before + b.len) arrays a first (omega (arith, length-initial_cells-cons b arrays)))

-- the first arrays, so many, have their spans and their cells
pub record AreLaid (arrays : List Array) (many : ℕ) (spans : List Span) (cells : List ℕ) : Type 0 where
  pub spans_are : spans ≡ spans_of 0 (take many arrays)
  pub cells_are : cells ≡ initial_cells (take many arrays)

pub laid_more : (arrays : List Array) (many : ℕ) (spans : List Span) (cells : List ℕ) (a : Array) → AreLaid arrays many spans cells → many < length arrays → a ≡ get_or arrays many a → AreLaid arrays (many + 1) (spans ++ record { first = length cells; len = a.len } ∷ []) (cells ++ replicate a.len a.init)
laid_more arrays many spans cells a laid below read =
    let more : take (many + 1) arrays ≡ take many arrays ++ a ∷ [] =
    take_more arrays many a below ∙ ap (λ (b : Array). take many arrays ++ b ∷ []) (sym read) in
    record {
      spans_are =
          ap (λ (x : List Span). x ++ record { first = length cells; len = a.len } ∷ []) laid.spans_are
          ∙ sym (spans_of-append 0 (take many arrays) a (length cells) (omega (arith, ap length laid.cells_are)))
          ∙ ap (spans_of 0) (sym more);
      cells_are =
          ap (λ (x : List ℕ). x ++ replicate a.len a.init) laid.cells_are
          ∙ sym (initial_cells-append (take many arrays) a)
          ∙ ap initial_cells (sym more);
    }
  where
    initial_cells-append : (arrays : List Array) (a : Array) → initial_cells (arrays ++ a ∷ []) ≡ initial_cells arrays ++ replicate a.len a.init
    initial_cells-append arrays a = rw (flat_map-append, append-nil) refl

-- a thread that stands elsewhere leaves the layout as it is
pub laid_moved : (c : Component) (matrix : Matrix) (spans : List Span) (rows : List (List Task)) (agendas : List Agenda) (cells : List ℕ) (locks : List (Option ℕ)) (threads : List Thread) (t : ℕ) (now : Thread) → IsLaidOut c matrix spans rows agendas cells locks threads → IsStanding now → StandsIn c now → IsLaidOut c matrix spans rows agendas cells locks (slice_set threads t now)
laid_moved c matrix spans rows agendas cells locks threads t now laid stands in_code = record {
  component = laid.component;
  matrix_is = laid.matrix_is;
  matrix_of = laid.matrix_of;
  spans_are = laid.spans_are;
  rows_are = laid.rows_are;
  agendas_are = laid.agendas_are;
  cells_are = laid.cells_are;
  cells_fit = laid.cells_fit;
  locks_are = laid.locks_are;
  threads_are = rw (length-set threads t now) laid.threads_are;
  stand = All-set IsStanding threads t now stands laid.stand;
  in_code = All-set (StandsIn c) threads t now in_code laid.in_code;
}
