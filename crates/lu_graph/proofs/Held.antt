-- The nodes that were found, as one more is put in.
use Rattle.std.proofs.Common.{arith, ◌≡◌, ℕ, zero, suc, Bool, true, false, ◌||◌, if◌then◌else◌, List, [], ◌∷◌, ◌++◌, length, Some, slice_get, refl, sym, ◌∙◌, ap, subst, inl, inr}
use Rattle.std.specs.Prelude.{not}
use Rattle.std.specs.Bool.{beq}
use Rattle.std.specs.List.{list_any}
use Rattle.std.proofs.lemmas.List.{append-nil, length_push}
use Rattle.std.proofs.lemmas.List.Elements.{All-cons, All-nil}
use Rattle.std.proofs.lemmas.Bool.{cases_lt}
use Rattle.std.proofs.lemmas.Option.{slice_get_past, slice_get_within}
use Rattle.indexmap.specs.IndexSet.{insert_key}
use Rattle.lu_machine.specs.States.{State}
use Rattle.lu_graph.specs.declared.holding.Nodes.{Nodes}
use Rattle.lu_graph.specs.Kept.{Kept}
use Rattle.lu_graph.specs.declared.row.Parts.{Parts}
use Rattle.lu_graph.specs.declared.row.Row.{Row}
use Rattle.lu_graph.specs.Growing.{AddsOne, CanStandThere, state_of}
use Rattle.lu_graph.specs.Holding.{Hold, HoldMore, Knows, StandsFor}
use Rattle.std.specs.Global.{Vec}
use Rattle.lu_history.specs.declared.serial.SerialOp.{SerialOp}
use Rattle.lu_graph.specs.Numbered.{IsNumber, is_list}
use Rattle.lu_graph.specs.Possibilities.{AreLeft, IsNumberOf}
use Rattle.lu_graph.specs.Rows.{Grow, IsRowAt, IsRowOf, KnowsDead}
use Rattle.lu_graph.proofs.Among.{at_either, at_last, only_one}
use Rattle.lu_graph.proofs.Many.{some_at}
use Rattle.lu_graph.proofs.Numbers.{number_stays}
use Rattle.lu_graph.proofs.Possible.{same_list}
use Rattle.lu_graph.proofs.Recalled.{left_none}
use Rattle.lu_graph.proofs.StatesAlike.{from_table}
use Rattle.lu_graph.proofs.Same.{live_alike, one_node, row_eq, row_of_stays, same_row, still_live}

-- where one passes a test, it stands somewhere
pub found_at : {A : Type 0} (test : A → Bool) (xs : List A) → list_any test xs ≡ true → (i : ℕ) × (x : A) × (slice_get xs i ≡ Some x) × (test x ≡ true)
found_at test [] h = absurd (cc)
found_at test (x ∷ xs) h = by (test x) refl (found_at test xs) h
  where
    by : (b : Bool) → test x ≡ b → (list_any test xs ≡ true → (i : ℕ) × (y : _) × (slice_get xs i ≡ Some y) × (test y ≡ true)) → (b || list_any test xs) ≡ true → (i : ℕ) × (y : _) × (slice_get (x ∷ xs) i ≡ Some y) × (test y ≡ true)
    by true e rest g = (zero, x, refl, e)
    by false e rest g = let r = rest g in (suc r.0, r.1, r.2, r.3)

-- it is new, so it goes last
pub put_last : (row : Row) (rows new : List Row) (added : Bool) → added ≡ true → added ≡ not (list_any (row_eq row) rows) → new ≡ insert_key row_eq rows row → new ≡ rows ++ row ∷ []
put_last row rows new added so is keys = keys ∙ ap (λ b. if b then rows else rows ++ row ∷ []) (is_not (list_any (row_eq row) rows) (sym is ∙ so))
  where
    is_not : (b : Bool) → not b ≡ true → b ≡ false
    is_not true h = absurd (cc)
    is_not false h = refl

-- it is there, so nothing changes
pub put_nowhere : (row : Row) (rows new : List Row) (added : Bool) → added ≡ false → added ≡ not (list_any (row_eq row) rows) → new ≡ insert_key row_eq rows row → (list_any (row_eq row) rows ≡ true) × (new ≡ rows)
put_nowhere row rows new added not_so is keys =
    let found = is_so (list_any (row_eq row) rows) (sym is ∙ not_so) in
    (found, keys ∙ ap (λ b. if b then rows else rows ++ row ∷ []) found)
  where
    is_so : (b : Bool) → not b ≡ false → b ≡ true
    is_so true h = refl
    is_so false h = absurd (cc)

module _ (s : State) (alive : List Bool) (number : ℕ) (before parts : Parts) (row : Row) (at : IsRowAt s number before parts row) (knows : IsNumberOf before.alive alive number) where
  -- what is kept for the state
  abbrev pub node : Kept
  node = record { cells = s.cells; locks = s.locks; threads = at.live; alive = alive }

  -- what is possible has the number in the row
  alive_there : IsNumber (is_list beq alive) parts.alive.lists.keys row.alive
  alive_there =
      subst (IsNumber (is_list beq alive) parts.alive.lists.keys) (sym at.alive)
      (number_stays (is_list beq alive) before.alive.lists.keys parts.alive.lists.keys number at.grows.alive knows)

  pub row_of_it : IsRowOf parts node row
  row_of_it = record { is = at.is; live = still_live parts.dead s.threads at.live at.are; alive = alive_there }

  module _ (known : KnowsDead s.component before.dead) where
    pub stands_so : StandsFor s alive node
    stands_so =
        let there : KnowsDead s.component parts.dead = subst (KnowsDead s.component) (sym at.grows.dead) known in (
          from_table s.component parts.dead there s (state_of s.component s.matrix node) refl
              (record { component = refl; matrix_is = refl; cells = refl; locks = refl; threads = live_alike parts.dead s.threads at.live at.are }),
          refl,
        )

    -- and what has its row stands for it
    pub stands_for : (kept : Kept) → IsRowOf parts kept row → StandsFor s alive kept
    stands_for kept is = subst (StandsFor s alive) (one_node parts node kept row row_of_it is) stands_so

  -- the first
  pub held_first : (members : List (Vec SerialOp)) (rows : List Row) (new : Nodes) → rows ≡ [] → before.alive.returns.entries ≡ [] → new.parts ≡ parts → new.rows.keys ≡ insert_key row_eq rows row → Hold members new (node ∷ [])
  held_first members rows new none fresh same_parts keys =
      let one : new.rows.keys ≡ row ∷ [] = keys ∙ ap (λ xs. insert_key row_eq xs row) none in
      record {
        many = ap length one;
        rows = λ i r k p q.
            (let first = only_one row i r (subst (λ x. slice_get x i ≡ Some r) one p) in
            let second = only_one node i k q in
            subst (λ x. IsRowOf x k r) (sym same_parts) (subst (λ x. IsRowOf parts x r) second.1 (subst (IsRowOf parts node) first.1 row_of_it)));
        left = subst (λ (x : Parts). AreLeft members x.alive) (sym same_parts) (subst (AreLeft members) (sym at.same) (left_none members before.alive fresh));
      }

-- parts that have grown
pub hold_grown : (members : List (Vec SerialOp)) (old : Nodes) (parts : Parts) (list : List Kept) → Grow old.parts parts → AreLeft members parts.alive → Hold members old list → Hold members (record old { parts = parts }) list
hold_grown members old parts list grown left hold = record {
  many = hold.many;
  rows = λ i r k p q. row_of_stays old.parts parts k r grown (hold.rows i r k p q);
  left = left;
}

-- These are the rows of a list, in order, by these parts.
pub record HoldRows (members : List (Vec SerialOp)) (parts : Parts) (keys : List Row) (list : List Kept) : Type 0 where
  pub many : length keys ≡ length list
  pub rows : (i : ℕ) (row : Row) (kept : Kept) → slice_get keys i ≡ Some row → slice_get list i ≡ Some kept → IsRowOf parts kept row
  pub left : AreLeft members parts.alive

pub rows_of_hold : (members : List (Vec SerialOp)) (nodes : Nodes) (list : List Kept) → Hold members nodes list → HoldRows members nodes.parts nodes.rows.keys list
rows_of_hold members nodes list hold = record { many = hold.many; rows = hold.rows; left = hold.left }

pub hold_of_rows : (members : List (Vec SerialOp)) (nodes : Nodes) (parts : Parts) (keys : List Row) (list : List Kept) → nodes.parts ≡ parts → nodes.rows.keys ≡ keys → HoldRows members parts keys list → Hold members nodes list
hold_of_rows members nodes parts keys list same_parts same hold = record {
  many = ap length same ∙ hold.many;
  rows = λ i r k p q. subst (λ x. IsRowOf x k r) (sym same_parts) (hold.rows i r k (subst (λ x. slice_get x i ≡ Some r) same p) q);
  left = subst (λ (x : Parts). AreLeft members x.alive) (sym same_parts) hold.left;
}

-- one more row
pub rows_put : (members : List (Vec SerialOp)) (parts : Parts) (keys : List Row) (list : List Kept) (kept : Kept) (row : Row) → IsRowOf parts kept row → HoldRows members parts keys list → HoldRows members parts (keys ++ row ∷ []) (list ++ kept ∷ [])
rows_put members parts keys list kept row its hold =
    let many = hold.many in
    let first = length_push keys row in
    let second = length_push list kept in
    record {
      many = omega (arith, many, first, second);
      rows = λ i r k p q.
          elim (at_either keys (row ∷ []) i r p) as (λ _. IsRowOf parts k r) [
            | inl (lt, there) ↦
                elim (at_either list (kept ∷ []) i k q) as (λ _. IsRowOf parts k r) [
                  | inl (less, here) ↦ hold.rows i r k there here
                  | inr (j, e, here) ↦ absurd (omega (arith, lt, e, many))
                ]
            | inr (m, e, there) ↦
                elim (at_either list (kept ∷ []) i k q) as (λ _. IsRowOf parts k r) [
                  | inl (less, here) ↦ absurd (omega (arith, less, e, many))
                  | inr (j, f, here) ↦
                      (let one = only_one row m r there in
                      let two = only_one kept j k here in
                      subst (λ x. IsRowOf parts x r) two.1 (subst (IsRowOf parts kept) one.1 its))
                ]
          ];
      left = hold.left;
    }

-- the node of a row that is there
pub rows_there : (members : List (Vec SerialOp)) (parts : Parts) (keys : List Row) (list : List Kept) (row : Row) → HoldRows members parts keys list → list_any (row_eq row) keys ≡ true → (i : ℕ) × (kept : Kept) × (slice_get list i ≡ Some kept) × IsRowOf parts kept row
rows_there members parts keys list row hold found =
    let one = found_at (row_eq row) keys found in
    let within = slice_get_within keys one.0 one.1 one.2 in
    let kept = some_at list one.0 (let many = hold.many in omega (arith, within, many)) in
    let same : row ≡ one.1 = (same_row row one.1).0 one.3 in
    (one.0, kept.0, kept.1, subst (IsRowOf parts kept.0) (sym same) (hold.rows one.0 one.1 kept.0 one.2 kept.1))

-- one more row of the same parts
pub held_put : (members : List (Vec SerialOp)) (old new : Nodes) (list : List Kept) (kept : Kept) (row : Row) → new.parts ≡ old.parts → new.rows.keys ≡ old.rows.keys ++ row ∷ [] → IsRowOf old.parts kept row → Hold members old list → Hold members new (list ++ kept ∷ [])
held_put members old new list kept row same_parts rows its hold =
    hold_of_rows members new old.parts (old.rows.keys ++ row ∷ []) (list ++ kept ∷ []) same_parts rows
    (rows_put members old.parts old.rows.keys list kept row its (rows_of_hold members old list hold))

-- the same rows of the same parts
pub held_same : (members : List (Vec SerialOp)) (old new : Nodes) (list : List Kept) → new.parts ≡ old.parts → new.rows.keys ≡ old.rows.keys → Hold members old list → Hold members new list
held_same members old new list same_parts rows hold = hold_of_rows members new old.parts old.rows.keys list same_parts rows (rows_of_hold members old list hold)

-- the node of a row that is there
pub node_there : (members : List (Vec SerialOp)) (nodes : Nodes) (list : List Kept) (row : Row) → Hold members nodes list → list_any (row_eq row) nodes.rows.keys ≡ true → (i : ℕ) × (kept : Kept) × (slice_get list i ≡ Some kept) × IsRowOf nodes.parts kept row
node_there members nodes list row hold found = rows_there members nodes.parts nodes.rows.keys list row (rows_of_hold members nodes list hold) found

-- it is put in, if it is not there
pub held_more : (members : List (Vec SerialOp)) (s : State) (alive : List Bool) (number : ℕ) (old new : Nodes) (row : Row) (list : List Kept) (added : Bool) → IsRowAt s number old.parts new.parts row → Hold members old list → Knows old alive number → KnowsDead s.component old.parts.dead
    → added ≡ not (list_any (row_eq row) old.rows.keys) → new.rows.keys ≡ insert_key row_eq old.rows.keys row → HoldMore members (AddsOne s.component s.matrix (StandsFor s alive) list) old new
held_more members s alive number old new row list added at hold knows known is keys = by added refl
  where
    mid : Nodes
    mid = record old { parts = new.parts }

    grown : Hold members mid list
    grown = hold_grown members old new.parts list at.grows (subst (AreLeft members) (sym at.same) hold.left) hold

    by : (b : Bool) → added ≡ b → HoldMore members (AddsOne s.component s.matrix (StandsFor s alive) list) old new
    by true so =
        let rows = put_last row old.rows.keys new.rows.keys added so is keys in
        let one = node s alive number old.parts new.parts row at knows in
        let stands = stands_so s alive number old.parts new.parts row at knows known in
        let Such : Kept → Type 0 = λ (k : Kept). CanStandThere s.component s.matrix k × StandsFor s alive k in
        record {
          list = list ++ one ∷ [];
          hold = held_put members mid new list one row refl rows (row_of_it s alive number old.parts new.parts row at knows) grown;
          grown = record {
            there = (length list, one, at_last list one, stands);
            grows = (one ∷ [], refl, All-cons Such one [] (at.can, stands) (All-nil Such));
          };
          parts = at.grows;
        }
    by false not_so =
        let put = put_nowhere row old.rows.keys new.rows.keys added not_so is keys in
        let there = node_there members mid list row grown put.0 in
        let Such : Kept → Type 0 = λ (k : Kept). CanStandThere s.component s.matrix k × StandsFor s alive k in
        record {
          list = list;
          hold = held_same members mid new list refl put.1 grown;
          grown = record {
            there = (there.0, there.1, there.2, stands_for s alive number old.parts new.parts row at knows known there.1 there.3);
            grows = ([], sym (append-nil list), All-nil Such);
          };
          parts = at.grows;
        }

-- the nodes are those of one list
pub one_hold : (members : List (Vec SerialOp)) (nodes : Nodes) (list other : List Kept) → Hold members nodes list → Hold members nodes other → list ≡ other
one_hold members nodes list other first second = same_list list other (λ i. elim (cases_lt i (length list)) as (λ _. slice_get list i ≡ slice_get other i) [
  | inl lt ↦
      (let many = first.many in
      let as_many = second.many in
      let row = some_at nodes.rows.keys i (omega (arith, lt, many)) in
      let a = some_at list i lt in
      let b = some_at other i (omega (arith, lt, many, as_many)) in
      a.1 ∙ (ap Some (one_node nodes.parts a.0 b.0 row.0 (first.rows i row.0 a.0 row.1 a.1) (second.rows i row.0 b.0 row.1 b.1)) ∙ sym b.1))
  | inr past ↦
      (let many = first.many in
      let as_many = second.many in
      slice_get_past list i past ∙ sym (slice_get_past other i (omega (arith, past, many, as_many))))
])
