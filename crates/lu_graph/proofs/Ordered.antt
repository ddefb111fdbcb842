-- Rows that are put into several tables at once, and get their places in order then.
use Rattle.std.proofs.Common.{arith, ◌≡◌, ℕ, zero, suc, ◌+◌, ◌<◌, Bool, true, false, List, [], ◌∷◌, ◌++◌, length, get_or, drop, Option, Some, None, slice_get, refl, sym, ◌∙◌, ap, subst, inl, inr, add-one, drop-cons}
use Rattle.std.specs.Prelude.{filter, slice_index, slice_index_or}
use Rattle.std.specs.List.{IsDistinct, list_any}
use Rattle.std.proofs.Math.ListN.{set}
use Rattle.std.proofs.lemmas.Bool.{cases_lt}
use Rattle.std.proofs.lemmas.Bool.Decides.{Decides-eqb}
use Rattle.std.proofs.lemmas.List.{get_or_read_under, get_or-map, get_or-set_other, get_or-set_same, length-map, length_push}
use Rattle.std.proofs.lemmas.List.Folds.{list_any_at}
use Rattle.std.proofs.lemmas.Option.{slice_get_within}
use Rattle.indexmap.specs.IndexSet.{insert_all, insert_key}
use Rattle.lu_graph.specs.declared.row.Row.{Row}
use Rattle.lu_graph.specs.declared.row_table.RowIndex.{RowIndex}
use Rattle.lu_graph.specs.declared.row_table.Table.{Table}
use Rattle.lu_graph.specs.InTables.{AreCounts, AreLengths, HasTaken, HaveAll, HaveNext, HaveTaken, IsOrdered, PutsEach, PutsInOrder, is_of, is_row, row_eq, rows_at, rows_in, rows_of, table_of}
use Rattle.lu_graph.proofs.Among.{at_left}
use Rattle.lu_graph.proofs.Held.{found_at}
use Rattle.lu_graph.proofs.Many.{equal_apart, some_at}
use Rattle.lu_graph.proofs.Same.{same_row}
use Rattle.lu_graph.proofs.Tabled.{any_own, filter_first, key_new, more_behind, new_behind, number_is, own_other, own_same, passed, placed, same_itself}

-- ---- rows that are put in

pub drop_first : (rows : List Row) (i : ℕ) (d : Row) → i < length rows → drop i rows ≡ get_or rows i d ∷ drop (i + 1) rows
drop_first rows i d lt = rw (add-one, drop-cons rows i d) refl

-- what is put in next may go to what is there
pub takes_own : (n : ℕ) (keys rows all : List Row) (i : ℕ) (d : Row) → i < length rows → table_of (get_or rows i d) ≡ n → insert_all row_eq keys (filter (is_of n) (drop i rows)) ≡ all → insert_all row_eq (insert_key row_eq keys (get_or rows i d)) (filter (is_of n) (drop (i + 1) rows)) ≡ all
takes_own n keys rows all i d lt own is =
    sym (ap (λ xs. insert_all row_eq keys (filter (is_of n) xs)) (drop_first rows i d lt)
    ∙ ap (insert_all row_eq keys) (filter_first (is_of n) (get_or rows i d) (drop (i + 1) rows) true ((Decides-eqb (table_of (get_or rows i d)) n).1 own))) ∙ is

pub leaves_other : (n : ℕ) (keys rows all : List Row) (i : ℕ) (d : Row) → i < length rows → (table_of (get_or rows i d) ≡ n → ⊥) → insert_all row_eq keys (filter (is_of n) (drop i rows)) ≡ all → insert_all row_eq keys (filter (is_of n) (drop (i + 1) rows)) ≡ all
leaves_other n keys rows all i d lt other is =
    sym (ap (λ xs. insert_all row_eq keys (filter (is_of n) xs)) (drop_first rows i d lt)
    ∙ ap (insert_all row_eq keys) (filter_first (is_of n) (get_or rows i d) (drop (i + 1) rows) false (not_so (is_of n (get_or rows i d)) refl))) ∙ is
  where
    not_so : (b : Bool) → is_of n (get_or rows i d) ≡ b → is_of n (get_or rows i d) ≡ false
    not_so true e = absurd (other (number_is n (get_or rows i d) e))
    not_so false e = e

not_any : {A : Type 0} (p : A → Bool) (xs : List A) (n : ℕ) (d : A) → n < length xs → list_any p xs ≡ false → p (get_or xs n d) ≡ false
not_any p xs n d lt none = by (p (get_or xs n d)) refl
  where
    by : (b : Bool) → p (get_or xs n d) ≡ b → p (get_or xs n d) ≡ false
    by true e = absurd (let some = list_any_at p xs n d lt e in cc)
    by false e = e

-- where no memory was refused, each table has its own
pub all_taken : (old new : List Table) (rows : List Row) → length new ≡ length old → HaveTaken rows old new → list_any (λ (t : Table). t.is_refused) new ≡ false → PutsEach rows (rows_in old) (rows_in new)
all_taken old new rows many taken none =
    let keys : Table → List Row = λ (t : Table). t.rows.keys in
    let long = length-map old keys in
    let long_new = length-map new keys in
    record {
      many = long_new ∙ (many ∙ sym long);
      own = λ n lt.
          (let within : n < length old = omega (arith, long) in
          let d = (some_at old n within).0 in
          let fine : (get_or new n d).is_refused ≡ false = not_any (λ (t : Table). t.is_refused) new n d (omega arith) none in
          get_or-map keys new n d [] (omega arith)
          ∙ (taken n d within fine ∙ ap (λ xs. insert_all row_eq xs (filter (is_of n) rows)) (sym (get_or-map keys old n d [] within))));
    }

-- so it is of the table that stands at the place
pub taken_at : (rows : List Row) (old : List Table) (i : ℕ) (x new d : Table) → length old ≡ 4 → i < 4 → x ≡ get_or old i x → HasTaken i rows x new → HasTaken i rows (slice_index_or old i d) new
taken_at rows old i x new d many lt at taken = subst (λ t. HasTaken i rows t new) (get_or_read_under old i 4 x d at lt (sym many)) taken

-- four tables, each of which has
pub four_taken : (rows : List Row) (old : List Table) (a b c e : Table) → length old ≡ 4 → ((d : Table) → HasTaken 0 rows (slice_index_or old 0 d) a) → ((d : Table) → HasTaken 1 rows (slice_index_or old 1 d) b) → ((d : Table) → HasTaken 2 rows (slice_index_or old 2 d) c)
    → ((d : Table) → HasTaken 3 rows (slice_index_or old 3 d) e) → HaveTaken rows old (a ∷ b ∷ c ∷ e ∷ [])
four_taken rows old a b c e many p q r s zero d lt = p d
four_taken rows old a b c e many p q r s (suc zero) d lt = q d
four_taken rows old a b c e many p q r s (suc (suc zero)) d lt = r d
four_taken rows old a b c e many p q r s (suc (suc (suc zero))) d lt = s d
four_taken rows old a b c e many p q r s (suc (suc (suc (suc n)))) d lt = absurd (omega (arith, lt, many))

-- ---- how many there are

pub length_more : (counts : List ℕ) (lists : List (List Row)) (i many : ℕ) → i < length counts → many ≡ length (rows_of lists i) → ((n : ℕ) → n < i → slice_index counts n ≡ length (rows_of lists n)) → (n : ℕ) → n < i + 1 → slice_index (set counts i many) n ≡ length (rows_of lists n)
length_more counts lists i many lt is before n below = elim (cases_lt n i) as (λ _. slice_index (set counts i many) n ≡ length (rows_of lists n)) [
  | inl less ↦ (let apart : n ≡ i → ⊥ = (λ e. omega arith) in get_or-set_other counts i n many 0 apart ∙ before n less)
  | inr past ↦
      (let same : i ≡ n = omega arith in
      subst (λ m. slice_index (set counts i many) m ≡ length (rows_of lists m)) same (get_or-set_same counts i many 0 lt ∙ is))
]

-- the tables have the rows in order, and so as many
pub counted : (old new : List (List Row)) (order : List RowIndex) (counts : List ℕ) → HaveAll old order → rows_at new order ≡ rows_at old order → AreLengths counts old → AreCounts counts (rows_at new order)
counted old new order counts have same many n lt =
    many n lt ∙ (ap length (have.own n lt) ∙ ap (λ xs. length (filter (is_of n) xs)) (sym same))

module _ (keys : List Row) (counts : List ℕ) (row : Row) (n count : ℕ) (is : n ≡ table_of row) (small : n < 4) (four : length counts ≡ 4) (at : count ≡ slice_index counts n) (many : AreCounts counts keys) (absent : list_any (row_eq row) keys ≡ false) where
  pub counted_more : AreCounts (set counts n (count + 1)) (insert_key row_eq keys row)
  counted_more m lt = by (is_of m row) refl
    where
      by : (b : Bool) → is_of m row ≡ b → slice_index (set counts n (count + 1)) m ≡ length (filter (is_of m) (insert_key row_eq keys row))
      by true e =
          let same : n ≡ m = is ∙ number_is m row e in
          let new : list_any (row_eq row) (filter (is_of m) keys) ≡ false =
          subst (λ k. list_any (row_eq row) (filter (is_of k) keys) ≡ false) (number_is m row e) (any_own row keys ∙ absent) in
          subst (λ k. slice_index (set counts n (count + 1)) k ≡ length (filter (is_of m) (insert_key row_eq keys row))) same
          (get_or-set_same counts n (count + 1) 0 (omega arith)
          ∙ (ap (λ k. k + 1) (at ∙ (ap (slice_index counts) same ∙ many m lt))
          ∙ sym (ap length (own_same m keys row e ∙ key_new (filter (is_of m) keys) row new) ∙ length_push (filter (is_of m) keys) row)))
      by false e =
          get_or-set_other counts n m (count + 1) 0 (λ same. let yes : is_of m row ≡ true = (Decides-eqb (table_of row) m).1 (sym is ∙ sym same) in absurd (cc))
          ∙ (many m lt ∙ sym (ap length (own_other m keys row e)))

-- ---- the order

this_row : (row : Row) (o : Option Row) → is_row row o ≡ true → o ≡ Some row
this_row row None is = absurd (cc)
this_row row (Some other) is = ap Some (sym ((same_row row other).0 is))

at_seam : (xs : List Row) (row : Row) (more : List Row) → slice_get (xs ++ row ∷ more) (length xs) ≡ Some row
at_seam [] row more = refl
at_seam (x ∷ xs) row more = at_seam xs row more

module _ (lists : List (List Row)) (order : List RowIndex) (counts : List ℕ) (row : Row) (n count : ℕ) (is : n ≡ table_of row) (small : n < 4) (at : count ≡ slice_index counts n) where
  abbrev keys : List Row
  keys = rows_at lists order

  module _ (next : List Row) (have : HaveNext lists order (row ∷ next)) (many : AreCounts counts keys) where
    as_many : count ≡ length (filter (is_of (table_of row)) keys)
    as_many = at ∙ (many n small ∙ ap (λ m. length (filter (is_of m) keys)) is)

    -- no row stands twice in a table, so one that stands behind those in order is none of them
    absent_so : is_row row (slice_get (rows_of lists n) count) ≡ true → IsDistinct row_eq (rows_of lists n) → list_any (row_eq row) keys ≡ false
    absent_so here distinct = by (list_any (row_eq row) keys) refl
      where
        by : (b : Bool) → list_any (row_eq row) keys ≡ b → list_any (row_eq row) keys ≡ false
        by false e = e
        by true e =
            let own = filter (is_of (table_of row)) keys in
            let more = more_behind own (filter (is_of (table_of row)) (row ∷ next)) in
            let all : rows_of lists n ≡ own ++ more.0 = ap (rows_of lists) is ∙ (have.own (table_of row) (subst (λ m. m < 4) is small) ∙ more.1) in
            let other = found_at (row_eq row) own (any_own row keys ∙ e) in
            let within = slice_get_within own other.0 other.1 other.2 in
            let first : slice_get (rows_of lists n) other.0 ≡ Some other.1 = ap (λ xs. slice_get xs other.0) all ∙ at_left own more.0 other.0 other.1 other.2 in
            let alike : row_eq other.1 row ≡ true = (same_row other.1 row).1 (sym ((same_row row other.1).0 other.3)) in
            absurd (equal_apart row_eq (rows_of lists n) distinct other.0 count other.1 row (subst (λ m. other.0 < m) (sym as_many) within) first (this_row row (slice_get (rows_of lists n) count) here) alike)

    there_so : is_row row (slice_get (rows_of lists n) count) ≡ false → list_any (row_eq row) keys ≡ true
    there_so elsewhere = by (list_any (row_eq row) keys) refl
      where
        by : (b : Bool) → list_any (row_eq row) keys ≡ b → list_any (row_eq row) keys ≡ true
        by true e = e
        by false e =
            let own = filter (is_of (table_of row)) keys in
            let behind = new_behind lists order row next have (subst (λ m. m < 4) is small) e in
            let here : slice_get (rows_of lists n) count ≡ Some row =
            ap (λ m. slice_get (rows_of lists m) count) is ∙ (ap (λ xs. slice_get xs count) behind.1
            ∙ (ap (slice_get (own ++ row ∷ behind.0)) as_many ∙ at_seam own row behind.0)) in
            let yes : is_row row (slice_get (rows_of lists n) count) ≡ true = ap (is_row row) here ∙ same_itself row in
            absurd (cc)

  pub puts_new : (p : RowIndex) → is_row row (slice_get (rows_of lists n) count) ≡ true → IsDistinct row_eq (rows_of lists n) → length counts ≡ 4 → p.table ≡ n → p.index ≡ count → PutsInOrder lists row counts (set counts n (count + 1)) order (order ++ p ∷ [])
  puts_new p here distinct four table index next have many =
      let absent = absent_so next have many here distinct in
      let done = placed lists order row next have (subst (λ m. m < 4) is small) p (table ∙ is) (index ∙ as_many next have many) absent in
      record {
        have = done.0;
        keys = done.1;
        many = subst (AreCounts (set counts n (count + 1))) (sym done.1) (counted_more keys counts row n count is small four at many absent);
      }

  pub puts_old : is_row row (slice_get (rows_of lists n) count) ≡ false → PutsInOrder lists row counts counts order order
  puts_old elsewhere next have many =
      let done = passed lists order row next have (subst (λ m. m < 4) is small) (there_so next have many elsewhere) in
      record { have = done.0; keys = done.1; many = many }

-- one after the other, to the last
pub ordered_more : (lists : List (List Row)) (rows first : List Row) (old new : List RowIndex) (counts new_counts : List ℕ) (i : ℕ) (d : Row) → i < length rows → PutsInOrder lists (get_or rows i d) counts new_counts old new → HaveNext lists old (drop i rows) → AreCounts counts (rows_at lists old) → insert_all row_eq (rows_at lists old) (drop i rows) ≡ insert_all row_eq first rows
    → IsOrdered lists (get_or rows i d) (drop (i + 1) rows) old new new_counts × (insert_all row_eq (rows_at lists new) (drop (i + 1) rows) ≡ insert_all row_eq first rows)
ordered_more lists rows first old new counts new_counts i d lt puts have many is =
    let front = drop_first rows i d lt in
    let step = puts (drop (i + 1) rows) (subst (HaveNext lists old) front have) many in
    (step, ap (λ xs. insert_all row_eq xs (drop (i + 1) rows)) step.keys ∙ (ap (insert_all row_eq (rows_at lists old)) (sym front) ∙ is))
