-- Rows that stand in several tables, each in the one that the sum of its numbers says.
use Rattle.std.specs.Prelude.{◌≡◌, ℕ, ◌+◌, ◌<◌, ◌%◌, Bool, ◌&&◌, false, nat_eq, List, [], ◌∷◌, map, filter, length, sum, slice_index, slice_index_or, All, Option, Some, None}
use Rattle.std.specs.Global.{Vec}
use Rattle.std.specs.List.{IsDistinct, list_any}
use lib.Pointwise.{pointwise}
use Rattle.indexmap.specs.IndexSet.{insert_all, insert_key}
use Rattle.lu_graph.specs.declared.row.Row.{Row}
use Rattle.lu_graph.specs.declared.row_table.RowIndex.{RowIndex}
use Rattle.lu_graph.specs.declared.row_table.Share.{Share}
use Rattle.lu_graph.specs.declared.row_table.Share.TheVariants.{Filled, Started}
use Rattle.lu_graph.specs.declared.row_table.Table.{Table}
use Rattle.lu_graph.specs.declared.row_table.TheConstants.{TABLES}

-- whether these are the same
abbrev pub row_eq : Row → Row → Bool
row_eq a b =
    nat_eq a.cells b.cells && (nat_eq a.locks b.locks
    && (pointwise nat_eq a.threads b.threads && nat_eq a.alive b.alive))

-- the number of the row's table
abbrev pub table_of : Row → ℕ
table_of row = (row.cells + row.locks + sum row.threads + row.alive) % TABLES

-- whether the row's table has this number
abbrev pub is_of : ℕ → Row → Bool
is_of number row = nat_eq (table_of row) number

-- these rows, with those of the others put in that are of the table of this number
abbrev pub with_own : ℕ → List Row → List Row → List Row
with_own number others rows = insert_all row_eq rows (filter (is_of number) others)

-- the rows of each table
abbrev pub rows_in : List Table → List (List Row)
rows_in tables = map (λ t. t.rows.keys) tables

-- the rows of the table of this number
abbrev pub rows_of : List (List Row) → ℕ → List Row
rows_of lists number = slice_index_or lists number []

-- whether the table of this number has the row
abbrev pub has_row : List (List Row) → ℕ → Row → Bool
has_row lists number row = list_any (row_eq row) (rows_of lists number)

-- what is read where there is no row
abbrev pub no_row : Row
no_row = record { cells = 0; locks = 0; threads = []; alive = 0 }

-- the rows that stand at these indices of the tables
abbrev pub rows_at : List (List Row) → List RowIndex → List Row
rows_at lists order = map (λ p. slice_index_or (rows_of lists p.table) p.index no_row) order

-- a row stands at this index of its table
abbrev pub IsThere : List (List Row) → RowIndex → Type 0
IsThere lists p = p.index < length (rows_of lists p.table)

-- each table has its own of the rows in order, and then those that are new among its own of `next`
pub record HaveNext (lists : List (List Row)) (order : List RowIndex) (next : List Row) : Type 0
  where
    pub four : length lists ≡ TABLES
    pub there : All (IsThere lists) order
    pub own : (n : ℕ) → n < TABLES
        → rows_of lists n ≡ with_own n next (filter (is_of n) (rows_at lists order))
    pub unique : IsDistinct row_eq (rows_at lists order)

-- the tables have the rows in order and no others, each once
abbrev pub HaveAll : List (List Row) → List RowIndex → Type 0
HaveAll lists order = HaveNext lists order []

-- each table has its own of these rows too
pub record PutsEach (rows : List Row) (old new : List (List Row)) : Type 0 where
  pub many : length new ≡ length old
  pub own : (n : ℕ) → n < length old → rows_of new n ≡ with_own n rows (rows_of old n)

-- unless memory was refused, the table of this number has its own of these rows too
abbrev pub HasTaken : ℕ → List Row → Table → Table → Type 0
HasTaken number rows old new =
    new.is_refused ≡ false → new.rows.keys ≡ with_own number rows old.rows.keys

-- so it is of each table
abbrev pub HaveTaken : List Row → List Table → List Table → Type 0
HaveTaken rows old new =
    (n : ℕ) (d : Table) → n < length old
    → HasTaken n rows (slice_index_or old n d) (slice_index_or new n d)

-- a thread was promised to fill the old table of this number, or it is filled
abbrev pub IsShare : ℕ → List Row → Table → Share → Type 0
IsShare number rows old (Started handle) =
    (handle.promise.number ≡ number) × (handle.promise.rows.now ≡ rows)
    × (handle.promise.before.value ≡ old)
IsShare number rows old (Filled table) = HasTaken number rows old table

-- it is the table of such a share, once it is filled
abbrev pub HasShare : Share → Table → Type 0
HasShare share table =
    (number : ℕ) (rows : List Row) (old : Table) → IsShare number rows old share
    → HasTaken number rows old table

-- the tables have this many rows
abbrev pub AreLengths : List ℕ → List (List Row) → Type 0
AreLengths counts lists = (n : ℕ) → n < TABLES → slice_index counts n ≡ length (rows_of lists n)

-- this many of the rows are of each table
abbrev pub AreCounts : List ℕ → List Row → Type 0
AreCounts counts rows =
    (n : ℕ) → n < TABLES → slice_index counts n ≡ length (filter (is_of n) rows)

-- whether it is this row
abbrev pub is_row : Row → Option Row → Bool
is_row row None = false
is_row row (Some other) = row_eq row other

-- the row is among those in order, as the last where it is new, and then come the others
pub record IsOrdered (lists : List (List Row)) (row : Row) (next : List Row)
    (old new : List RowIndex) (counts : List ℕ) : Type 0 where
  pub have : HaveNext lists new next
  pub keys : rows_at lists new ≡ insert_key row_eq (rows_at lists old) row
  pub many : AreCounts counts (rows_at lists new)

-- so it is, where it came first of those that come next
abbrev pub PutsInOrder : List (List Row) → Row → List ℕ → List ℕ → List RowIndex → List RowIndex
    → Type 0
PutsInOrder lists row counts new_counts order new =
    (next : List Row) → HaveNext lists order (row ∷ next) → AreCounts counts (rows_at lists order)
    → IsOrdered lists row next order new new_counts

-- so it is in these tables
abbrev pub Orders : List Table → Row → List ℕ → List ℕ → Vec RowIndex → Vec RowIndex → Type 0
Orders tables row counts new_counts order new =
    PutsInOrder (rows_in tables) row counts new_counts order.items new.items

-- all the rows are among those in order, and no others come next
pub record AreOrdered (lists : List (List Row)) (rows : List Row) (old new : List RowIndex)
    : Type 0 where
  pub have : HaveAll lists new
  pub keys : rows_at lists new ≡ insert_all row_eq (rows_at lists old) rows
