-- Rows that stand in several tables, as more are put in.
use Rattle.std.proofs.Common.{arith, ◌≡◌, ℕ, ◌<◌, Bool, true, false, cond, if◌then◌else◌, List, [], ◌∷◌, ◌++◌, length, get_or, map, Some, slice_get, refl, sym, ◌∙◌, ap, subst, inl, inr, append_assoc, length-append}
use Rattle.std.specs.Prelude.{All, OnErr, Result, Ok, Err, filter, nat_eq, not}
use Rattle.std.specs.Cmp.{IsEquivalence}
use Rattle.std.specs.List.{IsDistinct, list_any}
use Rattle.std.proofs.Math.ListN.{length-set, set}
use Rattle.std.proofs.Math.Seq.{get_or-append_seam}
use Rattle.std.proofs.lemmas.Bool.Decides.{Decides-eqb}
use Rattle.std.proofs.lemmas.List.{append-nil, get_or-map, get_or-set_other, get_or-set_same, get_or_append_left, get_or_past, length-map, map-append, map-set, set-get_or}
use Rattle.std.proofs.lemmas.List.Elements.{All-cons, All-head, All-nil, All-push, All-tail, filter-append}
use Rattle.std.proofs.lemmas.Bool.{cases_lt}
use Rattle.std.proofs.lemmas.Map.Keys.{IsDistinct-push}
use Rattle.std.proofs.lemmas.Map.Views.{any-filter_same}
use Rattle.std.proofs.lemmas.Option.{slice_get-get_or, slice_get_within, get_or_from_slice_get}
use Rattle.indexmap.specs.IndexSet.{insert_all, insert_key}
use Rattle.lu_graph.specs.declared.row.Row.{Row}
use Rattle.lu_graph.specs.declared.row_table.RowIndex.{RowIndex}
use Rattle.lu_graph.specs.declared.row_table.Table.{Table}
use Rattle.lu_graph.specs.InTables.{HaveAll, HaveNext, IsThere, PutsEach, is_of, no_row, row_eq, rows_at, rows_in, rows_of, table_of}
use Rattle.lu_graph.proofs.Same.{same_row}

pub same_itself : (a : Row) → row_eq a a ≡ true
same_itself a = (same_row a a).1 refl

pub row_laws : IsEquivalence row_eq
row_laws = record {
  refl = same_itself;
  symm = λ x y. either x y (row_eq x y) (row_eq y x) refl refl;
  congr = λ x y z is. ap (λ a. row_eq a z) ((same_row x y).0 is);
}
  where
    either : (x y : Row) (a b : Bool) → row_eq x y ≡ a → row_eq y x ≡ b → row_eq x y ≡ row_eq y x
    either x y true b p q = p ∙ sym ((same_row y x).1 (sym ((same_row x y).0 p)))
    either x y false true p q = (same_row x y).1 (sym ((same_row y x).0 q)) ∙ sym q
    either x y false false p q = p ∙ sym q

-- where one is the same, it is of the same table
same_table : (row k : Row) → row_eq row k ≡ true → is_of (table_of row) k ≡ true
same_table row k is =
    subst (λ (r : Row). nat_eq (table_of r) (table_of row) ≡ true) ((same_row row k).0 is) ((Decides-eqb (table_of row) (table_of row)).1 refl)

-- a row is among all where it is among those of its table
pub any_own : (row : Row) (rows : List Row) → list_any (row_eq row) (filter (is_of (table_of row)) rows) ≡ list_any (row_eq row) rows
any_own row rows = any-filter_same (row_eq row) (is_of (table_of row)) true (same_table row) rows

-- ---- one table

-- what was there stays, with more behind it
pub more_behind : (xs ys : List Row) → (more : List Row) × (insert_all row_eq xs ys ≡ xs ++ more)
more_behind xs [] = ([], sym (append-nil xs))
more_behind xs (y ∷ ys) = by (list_any (row_eq y) xs) refl (more_behind (insert_key row_eq xs y) ys)
  where
    by : (b : Bool) → list_any (row_eq y) xs ≡ b → (more : List Row) × (insert_all row_eq (insert_key row_eq xs y) ys ≡ insert_key row_eq xs y ++ more) → (more : List Row) × (insert_all row_eq (insert_key row_eq xs y) ys ≡ xs ++ more)
    by true e (more, is) = (more, is ∙ ap (λ b. (if b then xs else xs ++ y ∷ []) ++ more) e)
    by false e (more, is) = (y ∷ more, is ∙ (ap (λ b. (if b then xs else xs ++ y ∷ []) ++ more) e ∙ append_assoc xs (y ∷ []) more))

filter_one : (p : Row → Bool) (row : Row) (b : Bool) → p row ≡ b → filter p (row ∷ []) ≡ cond b (row ∷ []) []
filter_one p row b is = ap (λ x. cond x (row ∷ []) []) is

pub filter_first : (p : Row → Bool) (row : Row) (rows : List Row) (b : Bool) → p row ≡ b → filter p (row ∷ rows) ≡ cond b (row ∷ filter p rows) (filter p rows)
filter_first p row rows b is = ap (λ x. cond x (row ∷ filter p rows) (filter p rows)) is

pub key_new : (rows : List Row) (row : Row) → list_any (row_eq row) rows ≡ false → insert_key row_eq rows row ≡ rows ++ row ∷ []
key_new rows row is = ap (λ b. if b then rows else rows ++ row ∷ []) is

key_old : (rows : List Row) (row : Row) → list_any (row_eq row) rows ≡ true → insert_key row_eq rows row ≡ rows
key_old rows row is = ap (λ b. if b then rows else rows ++ row ∷ []) is

-- one of another table changes nothing
pub own_other : (n : ℕ) (rows : List Row) (row : Row) → is_of n row ≡ false → filter (is_of n) (insert_key row_eq rows row) ≡ filter (is_of n) rows
own_other n rows row other = by (list_any (row_eq row) rows) refl
  where
    by : (b : Bool) → list_any (row_eq row) rows ≡ b → filter (is_of n) (insert_key row_eq rows row) ≡ filter (is_of n) rows
    by true e = ap (filter (is_of n)) (key_old rows row e)
    by false e =
        ap (filter (is_of n)) (key_new rows row e) ∙ (filter-append (is_of n) rows (row ∷ [])
        ∙ (ap (λ more. filter (is_of n) rows ++ more) (filter_one (is_of n) row false other) ∙ append-nil (filter (is_of n) rows)))

pub number_is : (n : ℕ) (row : Row) → is_of n row ≡ true → table_of row ≡ n
number_is n row is = (Decides-eqb (table_of row) n).0 is

any_of : (n : ℕ) (rows : List Row) (row : Row) → is_of n row ≡ true → list_any (row_eq row) (filter (is_of n) rows) ≡ list_any (row_eq row) rows
any_of n rows row is = subst (λ m. list_any (row_eq row) (filter (is_of m) rows) ≡ list_any (row_eq row) rows) (number_is n row is) (any_own row rows)

-- its own table changes in the same way
pub own_same : (n : ℕ) (rows : List Row) (row : Row) → is_of n row ≡ true → filter (is_of n) (insert_key row_eq rows row) ≡ insert_key row_eq (filter (is_of n) rows) row
own_same n rows row own = by (list_any (row_eq row) rows) refl
  where
    by : (b : Bool) → list_any (row_eq row) rows ≡ b → filter (is_of n) (insert_key row_eq rows row) ≡ insert_key row_eq (filter (is_of n) rows) row
    by true e = ap (filter (is_of n)) (key_old rows row e) ∙ sym (key_old (filter (is_of n) rows) row (any_of n rows row own ∙ e))
    by false e =
        ap (filter (is_of n)) (key_new rows row e) ∙ (filter-append (is_of n) rows (row ∷ [])
        ∙ (ap (λ more. filter (is_of n) rows ++ more) (filter_one (is_of n) row true own)
        ∙ sym (key_new (filter (is_of n) rows) row (any_of n rows row own ∙ e))))

-- what comes next may go to the rows before
own_step : (n : ℕ) (rows next : List Row) (row : Row) → insert_all row_eq (filter (is_of n) rows) (filter (is_of n) (row ∷ next)) ≡ insert_all row_eq (filter (is_of n) (insert_key row_eq rows row)) (filter (is_of n) next)
own_step n rows next row = by (is_of n row) refl
  where
    by : (b : Bool) → is_of n row ≡ b → insert_all row_eq (filter (is_of n) rows) (filter (is_of n) (row ∷ next)) ≡ insert_all row_eq (filter (is_of n) (insert_key row_eq rows row)) (filter (is_of n) next)
    by true e =
        ap (insert_all row_eq (filter (is_of n) rows)) (filter_first (is_of n) row next true e)
        ∙ ap (λ xs. insert_all row_eq xs (filter (is_of n) next)) (sym (own_same n rows row e))
    by false e =
        ap (insert_all row_eq (filter (is_of n) rows)) (filter_first (is_of n) row next false e)
        ∙ ap (λ xs. insert_all row_eq xs (filter (is_of n) next)) (sym (own_other n rows row e))

still_distinct : (rows : List Row) (row : Row) → IsDistinct row_eq rows → IsDistinct row_eq (insert_key row_eq rows row)
still_distinct rows row unique = by (list_any (row_eq row) rows) refl
  where
    by : (b : Bool) → list_any (row_eq row) rows ≡ b → IsDistinct row_eq (insert_key row_eq rows row)
    by true e = subst (IsDistinct row_eq) (sym (key_old rows row e)) unique
    by false e = subst (IsDistinct row_eq) (sym (key_new rows row e)) (IsDistinct-push row_laws rows row unique e)

-- ---- places

-- where each table has more behind, each place has the row that it had
stay_at : (old new : List (List Row)) → ((n : ℕ) → n < length old → (more : List Row) × (rows_of new n ≡ rows_of old n ++ more)) → (p : RowIndex) → IsThere old p → IsThere new p × (get_or (rows_of new p.table) p.index no_row ≡ get_or (rows_of old p.table) p.index no_row)
stay_at old new longer p at = elim (cases_lt p.table (length old)) as (λ _. IsThere new p × (get_or (rows_of new p.table) p.index no_row ≡ get_or (rows_of old p.table) p.index no_row)) [
  | inl lt ↦
      (let more = longer p.table lt in
      let long = ap length more.1 in
      let both = length-append (rows_of old p.table) more.0 in (
        omega arith,
        ap (λ xs. get_or xs p.index no_row) more.1 ∙ get_or_append_left (rows_of old p.table) more.0 no_row p.index at,
      ))
  | inr past ↦
      (let none : rows_of old p.table ≡ [] = get_or_past old p.table [] past in
      let zero = ap length none in
      absurd (omega arith))
]

pub stay : (old new : List (List Row)) → ((n : ℕ) → n < length old → (more : List Row) × (rows_of new n ≡ rows_of old n ++ more)) → (order : List RowIndex) → All (IsThere old) order → All (IsThere new) order × (rows_at new order ≡ rows_at old order)
stay old new longer [] at = (All-nil (IsThere new), refl)
stay old new longer (p ∷ order) at =
    let here = stay_at old new longer p (All-head (IsThere old) p order at) in
    let rest = stay old new longer order (All-tail (IsThere old) p order at) in (
      All-cons (IsThere new) p order here.0 rest.0,
      ap (λ x. x ∷ rows_at new order) here.1 ∙ ap (λ xs. get_or (rows_of old p.table) p.index no_row ∷ xs) rest.1,
    )

-- a place tells its row
pub row_there : (lists : List (List Row)) (order : List RowIndex) (place : ℕ) (p : RowIndex) → All (IsThere lists) order → slice_get order place ≡ Some p → slice_get (rows_of lists p.table) p.index ≡ slice_get (rows_at lists order) place
row_there lists order place p at is =
    let lt = slice_get_within order place p is in
    let same : get_or order place p ≡ p = get_or_from_slice_get order place p p is in
    let f : RowIndex → Row = λ q. get_or (rows_of lists q.table) q.index no_row in
    let long = length-map order f in
    slice_get-get_or (rows_of lists p.table) p.index no_row (subst (IsThere lists) same (at place p lt))
    ∙ (ap Some (sym (get_or-map f order place p no_row lt ∙ ap f same)) ∙ sym (slice_get-get_or (map f order) place no_row (omega arith)))

-- ---- all tables

-- each table takes its own of more rows
pub filled : (old new : List (List Row)) (order : List RowIndex) (rows : List Row) → HaveAll old order → PutsEach rows old new → HaveNext new order rows × (rows_at new order ≡ rows_at old order)
filled old new order rows have puts =
    let longer : (n : ℕ) → n < length old → (more : List Row) × (rows_of new n ≡ rows_of old n ++ more) = (λ n lt.
    let more = more_behind (rows_of old n) (filter (is_of n) rows) in (more.0, puts.own n lt ∙ more.1)) in
    let still = stay old new longer order have.there in
    let four = have.four in (
      record {
        four = puts.many ∙ four;
        there = still.0;
        own = λ n lt.
            puts.own n (omega arith) ∙ (ap (λ xs. insert_all row_eq xs (filter (is_of n) rows)) (have.own n lt)
            ∙ ap (λ xs. insert_all row_eq (filter (is_of n) xs) (filter (is_of n) rows)) (sym still.1));
        unique = subst (IsDistinct row_eq) (sym still.1) have.unique;
      },
      still.1,
    )

module _ (lists : List (List Row)) (order : List RowIndex) (row : Row) (next : List Row) (have : HaveNext lists order (row ∷ next)) where
  abbrev keys : List Row
  keys = rows_at lists order

  abbrev own_keys : List Row
  own_keys = filter (is_of (table_of row)) keys

  module _ (small : table_of row < 4) where
    -- a row that is there is passed over
    pub passed : list_any (row_eq row) keys ≡ true → HaveNext lists order next × (keys ≡ insert_key row_eq keys row)
    passed known =
        let same = key_old keys row known in (
          record {
            four = have.four;
            there = have.there;
            own = λ n lt. have.own n lt ∙ (own_step n keys next row ∙ ap (λ xs. insert_all row_eq (filter (is_of n) xs) (filter (is_of n) next)) same);
            unique = have.unique;
          },
          sym same,
        )

    -- one that is new stands behind its own table's rows
    pub new_behind : list_any (row_eq row) keys ≡ false → (more : List Row) × (rows_of lists (table_of row) ≡ own_keys ++ row ∷ more)
    new_behind new =
        let own : is_of (table_of row) row ≡ true = (Decides-eqb (table_of row) (table_of row)).1 refl in
        let rest = filter (is_of (table_of row)) next in
        let more = more_behind (own_keys ++ row ∷ []) rest in (
          more.0,
          have.own (table_of row) small
              ∙ (ap (insert_all row_eq own_keys) (filter_first (is_of (table_of row)) row next true own)
              ∙ (ap (λ xs. insert_all row_eq xs rest) (key_new own_keys row (any_own row keys ∙ new))
              ∙ (more.1 ∙ append_assoc own_keys (row ∷ []) more.0))),
        )

    -- and gets a place
    pub placed : (p : RowIndex) → p.table ≡ table_of row → p.index ≡ length own_keys → list_any (row_eq row) keys ≡ false → HaveNext lists (order ++ p ∷ []) next × (rows_at lists (order ++ p ∷ []) ≡ insert_key row_eq keys row)
    placed p table index new =
        let behind = new_behind new in
        let f : RowIndex → Row = λ q. get_or (rows_of lists q.table) q.index no_row in
        let its : rows_of lists p.table ≡ own_keys ++ row ∷ behind.0 = ap (rows_of lists) table ∙ behind.1 in
        let here : f p ≡ row =
        ap (λ xs. get_or xs p.index no_row) its ∙ (ap (λ i. get_or (own_keys ++ row ∷ behind.0) i no_row) index ∙ get_or-append_seam own_keys row behind.0 no_row) in
        let long = ap length its in
        let both = length-append own_keys (row ∷ behind.0) in
        let all : rows_at lists (order ++ p ∷ []) ≡ insert_key row_eq keys row =
        map-append f order (p ∷ []) ∙ (ap (λ r. keys ++ r ∷ []) here ∙ sym (key_new keys row new)) in (
          record {
            four = have.four;
            there = All-push (IsThere lists) order p have.there (omega arith);
            own = λ n lt. have.own n lt ∙ (own_step n keys next row ∙ ap (λ xs. insert_all row_eq (filter (is_of n) xs) (filter (is_of n) next)) (sym all));
            unique = subst (IsDistinct row_eq) (sym all) (still_distinct keys row have.unique);
          },
          all,
        )

-- ---- one row is put in

-- its table has the rows that are read
pub read_own : (tables : List Table) (n : ℕ) (d : Table) → n < length tables → rows_of (rows_in tables) n ≡ (get_or tables n d).rows.keys
read_own tables n d lt = get_or-map (λ (t : Table). t.rows.keys) tables n d [] lt

pub put_kept : (tables : List Table) (n : ℕ) (d new : Table) → n < length tables → new.rows.keys ≡ (get_or tables n d).rows.keys → rows_in (set tables n new) ≡ rows_in tables
put_kept tables n d new lt same =
    map-set (λ (t : Table). t.rows.keys) tables n new
    ∙ (ap (set (rows_in tables) n) (same ∙ sym (read_own tables n d lt)) ∙ set-get_or (rows_in tables) n [])

pub put_one : (tables : List Table) (n : ℕ) (d new : Table) (row : Row) → n < length tables → n ≡ table_of row → new.rows.keys ≡ insert_key row_eq (get_or tables n d).rows.keys row → PutsEach (row ∷ []) (rows_in tables) (rows_in (set tables n new))
put_one tables n d new row lt number keys =
    let f : Table → List Row = λ (t : Table). t.rows.keys in
    let all : rows_in (set tables n new) ≡ set (rows_in tables) n new.rows.keys = map-set f tables n new in
    let long = length-map tables f in
    record {
      many = ap length all ∙ length-set (rows_in tables) n new.rows.keys;
      own = λ m within. ap (λ ls. rows_of ls m) all ∙ by m (omega (arith, long)) within (is_of m row) refl;
    }
  where
    by : (m : ℕ) → n < length (rows_in tables) → m < length (rows_in tables) → (b : Bool) → is_of m row ≡ b → rows_of (set (rows_in tables) n new.rows.keys) m ≡ insert_all row_eq (rows_of (rows_in tables) m) (filter (is_of m) (row ∷ []))
    by m there within true e =
        let same : n ≡ m = number ∙ number_is m row e in
        subst (λ i. rows_of (set (rows_in tables) n new.rows.keys) i ≡ insert_all row_eq (rows_of (rows_in tables) i) (filter (is_of m) (row ∷ []))) same
        (get_or-set_same (rows_in tables) n new.rows.keys [] there
        ∙ (keys ∙ (ap (λ xs. insert_key row_eq xs row) (sym (read_own tables n d lt))
        ∙ ap (insert_all row_eq (rows_of (rows_in tables) n)) (sym (filter_one (is_of m) row true e)))))
    by m there within false e =
        get_or-set_other (rows_in tables) n m new.rows.keys [] (λ same. let yes : is_of m row ≡ true = (Decides-eqb (table_of row) m).1 (sym number ∙ sym same) in absurd (cc))
        ∙ ap (insert_all row_eq (rows_of (rows_in tables) m)) (sym (filter_one (is_of m) row false e))

pub on_err : {T E P : Type 0} (r : Result T E) → P → OnErr r P
on_err (Ok x) p = tt
on_err (Err e) p = p

distinct_none : IsDistinct row_eq []
unfolding IsDistinct
distinct_none = tt

-- no rows stand in tables that have none
pub none_there : (lists : List (List Row)) (order : List RowIndex) → length lists ≡ 4 → All (λ l. l ≡ []) lists → order ≡ [] → HaveAll lists order
none_there lists order four empty none =
    subst (HaveAll lists) (sym none) (record {
      four = four;
      there = All-nil (IsThere lists);
      own = λ n lt. empty n [] (omega arith);
      unique = distinct_none;
    })

pub none_each : {a b c d : List Row} → a ≡ [] → b ≡ [] → c ≡ [] → d ≡ [] → All (λ (l : List Row). l ≡ []) (a ∷ b ∷ c ∷ d ∷ [])
none_each {a} {b} {c} {d} p q r s =
    let IsNone : List Row → Type 0 = λ l. l ≡ [] in
    All-cons IsNone a (b ∷ c ∷ d ∷ []) p (All-cons IsNone b (c ∷ d ∷ []) q (All-cons IsNone c (d ∷ []) r (All-cons IsNone d [] s (All-nil IsNone))))

-- a row is there where its table has it
pub known : (lists : List (List Row)) (order : List RowIndex) (row : Row) (n : ℕ) → HaveAll lists order → n ≡ table_of row → n < 4 → list_any (row_eq row) (rows_of lists n) ≡ list_any (row_eq row) (rows_at lists order)
known lists order row n have is small =
    ap (list_any (row_eq row)) (have.own n small)
    ∙ (ap (λ m. list_any (row_eq row) (filter (is_of m) (rows_at lists order))) is ∙ any_own row (rows_at lists order))

is_absent : (there added : Bool) → added ≡ not there → added ≡ true → there ≡ false
is_absent true added is so = absurd (cc)
is_absent false added is so = refl

is_there : (there added : Bool) → added ≡ not there → added ≡ false → there ≡ true
is_there true added is so = refl
is_there false added is so = absurd (cc)

module _ (old new : List (List Row)) (order : List RowIndex) (row : Row) (n : ℕ) (have : HaveAll old order) (puts : PutsEach (row ∷ []) old new) (is : n ≡ table_of row) (small : n < 4) (added : Bool) (was : added ≡ not (list_any (row_eq row) (rows_of old n))) where
  filled_one : HaveNext new order (row ∷ []) × (rows_at new order ≡ rows_at old order)
  filled_one = filled old new order (row ∷ []) have puts

  there_now : (b : Bool) → list_any (row_eq row) (rows_of old n) ≡ b → list_any (row_eq row) (rows_at new order) ≡ b
  there_now b so = ap (list_any (row_eq row)) filled_one.1 ∙ (sym (known old order row n have is small) ∙ so)

  pub was_new : added ≡ not (list_any (row_eq row) (rows_at old order))
  was_new = was ∙ ap not (known old order row n have is small)

  pub inserted_new : (p : RowIndex) (after : List RowIndex) → added ≡ true → p.table ≡ n → p.index ≡ length (rows_of old n) → after ≡ order ++ p ∷ [] → HaveAll new after × (rows_at new after ≡ insert_key row_eq (rows_at old order) row)
  inserted_new p after so table index all =
      let mine : p.index ≡ length (filter (is_of (table_of row)) (rows_at new order)) =
      index ∙ (ap length (have.own n small) ∙ (ap (λ m. length (filter (is_of m) (rows_at old order))) is
      ∙ ap (λ xs. length (filter (is_of (table_of row)) xs)) (sym filled_one.1))) in
      let done = placed new order row [] filled_one.0 (subst (λ m. m < 4) is small) p (table ∙ is) mine
      (there_now false (is_absent (list_any (row_eq row) (rows_of old n)) added was so)) in
      subst (λ (o : List RowIndex). HaveAll new o × (rows_at new o ≡ insert_key row_eq (rows_at old order) row)) (sym all)
      (done.0, done.1 ∙ ap (λ xs. insert_key row_eq xs row) filled_one.1)

  pub inserted_old : (after : List RowIndex) → added ≡ false → after ≡ order → HaveAll new after × (rows_at new after ≡ insert_key row_eq (rows_at old order) row)
  inserted_old after so same =
      let done = passed new order row [] filled_one.0 (subst (λ m. m < 4) is small)
      (there_now true (is_there (list_any (row_eq row) (rows_of old n)) added was so)) in
      subst (λ (o : List RowIndex). HaveAll new o × (rows_at new o ≡ insert_key row_eq (rows_at old order) row)) (sym same)
      (done.0, done.1 ∙ ap (λ xs. insert_key row_eq xs row) filled_one.1)
