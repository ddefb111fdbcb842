-- What was found of a node is put in.
use Rattle.std.proofs.Common.{arith, ◌≡◌, ◌⊎◌, ℕ, zero, suc, ◌+◌, ◌≤◌, Bool, true, false, if◌then◌else◌, List, [], ◌∷◌, ◌++◌, length, take, drop, Some, slice_get, refl, sym, ◌∙◌, ap, subst, inl, inr, add-one, append_assoc}
use Rattle.std.specs.Prelude.{All}
use Rattle.std.specs.List.{list_any}
use Rattle.std.specs.Global.{Vec}
use Rattle.std.proofs.lemmas.List.{append-nil}
use Rattle.std.proofs.lemmas.List.Elements.{All-cons, All-head, All-nil, All-push, All-tail, All-weaker}
use Rattle.std.proofs.lemmas.List.Sums.{fold-append}
use Rattle.indexmap.specs.IndexSet.{insert_all, insert_key}
use Rattle.lu_component.specs.Component.{Component}
use Rattle.lu_test.specs.Matrix.{Matrix}
use Rattle.lu_history.specs.declared.serial.SerialOp.{SerialOp}
use Rattle.lu_history.proofs.Events.{take_next}
use Rattle.lu_graph.specs.declared.holding.Nodes.{Nodes}
use Rattle.lu_graph.specs.declared.row.Parts.{Parts}
use Rattle.lu_graph.specs.declared.row.Row.{Row}
use Rattle.lu_graph.specs.Expanding.{IsRowOfSuch, PutsNext}
use Rattle.lu_graph.specs.Growing.{CanStandThere, GrowsBy, IsNext, IsNextBy, Keeps}
use Rattle.lu_graph.specs.Holding.{Hold}
use Rattle.lu_graph.specs.Kept.{Kept}
use Rattle.lu_graph.specs.Nodes.{IsAmong}
use Rattle.lu_graph.specs.Rows.{Grow, IsRowOf}
use Rattle.lu_graph.proofs.Among.{all_at, at_last}
use Rattle.lu_graph.proofs.Grown.{grows_on, keeps_more}
use Rattle.lu_graph.proofs.Held.{HoldRows, hold_of_rows, rows_of_hold, rows_put, rows_there}
use Rattle.lu_graph.proofs.Same.{grow_none, one_node, row_eq}

-- ---- some rows are put in

-- The rows have become these, of a list: those that are done are there, and no others were added
-- than such.
pub record PutsSoFar (members : List (Vec SerialOp)) (c : Component) (matrix : Matrix) (Such : Kept → Type 0) (list : List Kept) (parts : Parts) (done keys : List Row) : Type 0 where
  pub now : List Kept
  pub hold : HoldRows members parts keys now
  pub there : All (λ row. Keeps (λ kept. IsRowOf parts kept row) now) done
  pub grows : GrowsBy c matrix Such list now

module _ (members : List (Vec SerialOp)) (c : Component) (matrix : Matrix) (Such : Kept → Type 0) (list : List Kept) (parts : Parts) where
  abbrev IsThere : List Kept → Row → Type 0
  IsThere now row = Keeps (λ kept. IsRowOf parts kept row) now

  -- a machine can stand there too
  abbrev IsSuch : Kept → Type 0
  IsSuch kept = CanStandThere c matrix kept × Such kept

  puts_none : (keys : List Row) → HoldRows members parts keys list → PutsSoFar members c matrix Such list parts [] keys
  puts_none keys hold = record {
    now = list;
    hold = hold;
    there = All-nil (IsThere list);
    grows = ([], sym (append-nil list), All-nil IsSuch);
  }

  puts_more : (done : List Row) (row : Row) (keys : List Row) → PutsSoFar members c matrix Such list parts done keys → IsRowOfSuch IsSuch parts row → PutsSoFar members c matrix Such list parts (done ++ row ∷ []) (insert_key row_eq keys row)
  puts_more done row keys so_far (kept, its, such) = by (list_any (row_eq row) keys) refl
    where
      by : (b : Bool) → list_any (row_eq row) keys ≡ b → PutsSoFar members c matrix Such list parts (done ++ row ∷ []) (if b then keys else keys ++ row ∷ [])
      by false none =
          let now = so_far.now ++ kept ∷ [] in
          record {
            now = now;
            hold = rows_put members parts keys so_far.now kept row its so_far.hold;
            there = All-push (IsThere now) done row
                (All-weaker (IsThere so_far.now) (IsThere now) (λ r k. keeps_more (λ x. IsRowOf parts x r) so_far.now (kept ∷ []) now refl k) done so_far.there)
                (length so_far.now, kept, at_last so_far.now kept, its);
            grows = grows_on c matrix Such list so_far.now now so_far.grows (kept ∷ [], refl, All-cons IsSuch kept [] such (All-nil IsSuch));
          }
      by true found = record {
        now = so_far.now;
        hold = so_far.hold;
        there = All-push (IsThere so_far.now) done row so_far.there (rows_there members parts keys so_far.now row so_far.hold found);
        grows = so_far.grows;
      }

  puts_each : (rows done keys : List Row) → PutsSoFar members c matrix Such list parts done keys → All (IsRowOfSuch IsSuch parts) rows → PutsSoFar members c matrix Such list parts (done ++ rows) (insert_all row_eq keys rows)
  puts_each [] done keys so_far such = subst (λ x. PutsSoFar members c matrix Such list parts x keys) (sym (append-nil done)) so_far
  puts_each (row ∷ rows) done keys so_far such =
      subst (λ x. PutsSoFar members c matrix Such list parts x (insert_all row_eq keys (row ∷ rows))) (append_assoc done (row ∷ []) rows)
      (puts_each rows (done ++ row ∷ []) (insert_key row_eq keys row)
      (puts_more done row keys so_far (All-head (IsRowOfSuch IsSuch parts) row rows such))
      (All-tail (IsRowOfSuch IsSuch parts) row rows such))

  -- where all are put in
  pub puts_all : (rows keys : List Row) → HoldRows members parts keys list → All (IsRowOfSuch (λ kept. CanStandThere c matrix kept × Such kept) parts) rows → PutsSoFar members c matrix Such list parts rows (insert_all row_eq keys rows)
  puts_all rows keys hold such = puts_each rows [] keys (puts_none keys hold) such

-- these rows are put in, one after the other where they are not there
pub record PutsIn (rows : List Row) (old new : Nodes) : Type 0 where
  pub keys : new.rows.keys ≡ insert_all row_eq old.rows.keys rows
  pub parts : new.parts ≡ old.parts

-- the nodes are those of the list then
pub put_hold : (members : List (Vec SerialOp)) (c : Component) (matrix : Matrix) (Such : Kept → Type 0) (list : List Kept) (rows : List Row) (old new : Nodes) (puts : PutsIn rows old new) (so_far : PutsSoFar members c matrix Such list old.parts rows (insert_all row_eq old.rows.keys rows)) → Hold members new so_far.now
put_hold members c matrix Such list rows old new puts so_far = hold_of_rows members new old.parts (insert_all row_eq old.rows.keys rows) so_far.now puts.parts puts.keys so_far.hold

-- what is there, or has one of these rows, is there
pub put_there : (list now : List Kept) (parts : Parts) (rows : List Row) → (more : List Kept) → now ≡ list ++ more → All (λ row. Keeps (λ kept. IsRowOf parts kept row) now) rows → (Such : Kept → Type 0)
    → Keeps Such list ⊎ ((row : Row) × IsAmong rows row × IsRowOfSuch Such parts row) → Keeps Such now
put_there list now parts rows more is there Such (inl keeps) = keeps_more Such list more now is keeps
put_there list now parts rows more is there Such (inr (row, (j, at), (kept, its, such))) =
    let put = all_at (λ (r : Row). Keeps (λ k. IsRowOf parts k r) now) rows there j row at in
    (put.0, put.1, put.2, subst Such (one_node parts kept put.1 row its put.3) such)

pub puts_next : (rows : List Row) (old new : Nodes) → PutsIn rows old new → PutsNext rows old new
puts_next rows old new puts members s list alive hold are =
    let Such : Kept → Type 0 = IsNext members s alive in
    let so_far = puts_all members s.component s.matrix Such list old.parts rows old.rows.keys (rows_of_hold members old list hold) are.such in
    record {
      list = so_far.now;
      hold = put_hold members s.component s.matrix Such list rows old new puts so_far;
      grown = record {
        there = λ m made event goes step.
            put_there list so_far.now old.parts rows so_far.grows.0 so_far.grows.1 so_far.there (IsNextBy members s alive made event) (are.there m made event goes step);
        grows = so_far.grows;
      };
      parts = subst (Grow old.parts) (sym puts.parts) (grow_none old.parts);
    }

-- ---- the first of a list

first_left : {A : Type 0} (xs : List A) (n : ℕ) (x : A) (rest : List A) → drop n xs ≡ x ∷ rest → (slice_get xs n ≡ Some x) × (rest ≡ drop (suc n) xs)
first_left [] zero x rest is = absurd (cc)
first_left [] (suc n) x rest is = absurd (cc)
first_left (y ∷ xs) zero x rest is = (cc, cc)
first_left (y ∷ xs) (suc n) x rest is = first_left xs n x rest is

pub first_after : {A : Type 0} (xs : List A) (n : ℕ) (x : A) (rest : List A) → drop n xs ≡ x ∷ rest → (slice_get xs n ≡ Some x) × (rest ≡ drop (n + 1) xs)
first_after xs n x rest is =
    let one = first_left xs n x rest is in
    (one.0, one.1 ∙ ap (λ k. drop k xs) (sym (add-one n)))

take_none : {A : Type 0} (k : ℕ) (xs : List A) → xs ≡ [] → take zero (take k xs) ≡ take k xs
take_none zero xs none = refl
take_none (suc k) [] none = refl
take_none (suc k) (x ∷ xs) none = absurd (cc)

-- where nothing is left of a list after its first, these are all of its front
pub drop_none : {A : Type 0} (n m : ℕ) (xs : List A) → drop n xs ≡ [] → take n (take m xs) ≡ take m xs
drop_none zero m xs none = take_none m xs none
drop_none (suc n) zero xs none = refl
drop_none (suc n) (suc m) [] none = refl
drop_none (suc n) (suc m) (x ∷ xs) none = ap (λ ys. x ∷ ys) (drop_none n m xs none)

pub front_whole : {A : Type 0} (n m : ℕ) (xs : List A) → m ≤ n → take n (take m xs) ≡ take m xs
front_whole n zero xs le = by n
  where
    by : (k : ℕ) → take k (take zero xs) ≡ take zero xs
    by zero = refl
    by (suc k) = refl
front_whole zero (suc m) xs le = absurd (omega (arith, le))
front_whole (suc n) (suc m) [] le = refl
front_whole (suc n) (suc m) (x ∷ xs) le = ap (λ ys. x ∷ ys) (front_whole n m xs (omega (arith, le)))

pub nothing_left : {A : Type 0} (xs : List A) → length xs ≡ 0 → xs ≡ []
nothing_left [] none = refl
nothing_left (x ∷ xs) none = absurd (omega (arith, none))

-- ---- the first rows, so many

-- those before number n are put in
abbrev pub PutsFirst : List Row → Nodes → ℕ → Nodes → Type 0
PutsFirst rows old n new = PutsIn (take n rows) old new

pub first_none : (rows : List Row) (old : Nodes) → PutsFirst rows old 0 old
first_none rows old = record { keys = refl; parts = refl }

-- one more than before
pub all_but_last : (keys rows : List Row) (n : ℕ) (row : Row) → slice_get rows n ≡ Some row → insert_all row_eq keys (take (n + 1) rows) ≡ insert_key row_eq (insert_all row_eq keys (take n rows)) row
all_but_last keys rows n row at =
    let next : take (n + 1) rows ≡ take n rows ++ row ∷ [] = rw (add-one n) (take_next rows row n at) in
    ap (insert_all row_eq keys) next ∙ fold-append (insert_key row_eq) keys (take n rows) (row ∷ [])

pub first_more : (rows : List Row) (old mid new : Nodes) (n : ℕ) (row : Row) → slice_get rows n ≡ Some row → new.parts ≡ mid.parts → new.rows.keys ≡ insert_key row_eq mid.rows.keys row → PutsFirst rows old n mid → PutsFirst rows old (n + 1) new
first_more rows old mid new n row at same is before = record {
  keys = is ∙ (ap (λ xs. insert_key row_eq xs row) before.keys ∙ sym (all_but_last old.rows.keys rows n row at));
  parts = same ∙ before.parts;
}

pub first_all : (rows : List Row) (old new : Nodes) (n : ℕ) → take n rows ≡ rows → PutsFirst rows old n new → PutsNext rows old new
first_all rows old new n all before = puts_next rows old new (subst (λ x. PutsIn x old new) all before)
