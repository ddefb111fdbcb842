-- What is found ahead of the search.
use Rattle.std.proofs.Common.{arith, ◌≡◌, ◌≤◌, ℕ, zero, suc, List, [], ◌∷◌, ◌++◌, length, take, drop, Some, slice_get, refl, sym, ◌∙◌, ap, subst, inl}
use Rattle.std.specs.Prelude.{All}
use Rattle.std.specs.Global.{Vec}
use Rattle.std.proofs.Math.Seq.{drop-nil, take-nil}
use Rattle.std.proofs.lemmas.List.{append-nil, length-drop, take-append-drop}
use Rattle.std.proofs.lemmas.List.Elements.{All-append, All-cons, All-drop, All-head, All-nil, All-tail, All-take, All-weaker}
use Rattle.std.proofs.lemmas.Option.{slice_get_within}
use Rattle.lu_component.specs.Component.{Component}
use Rattle.lu_test.specs.Matrix.{Matrix}
use Rattle.lu_machine.specs.Starts.{Settles}
use Rattle.lu_machine.proofs.Starting.{start_component, start_matrix, start_there}
use Rattle.lu_history.specs.declared.serial.SerialOp.{SerialOp}
use Rattle.lu_graph.specs.declared.expanding.Expansion.{Expansion}
use Rattle.lu_graph.specs.declared.expanding.Expansions.{Expansions}
use Rattle.lu_graph.specs.declared.holding.Nodes.{Nodes}
use Rattle.lu_graph.specs.declared.row.Row.{Row}
use Rattle.lu_graph.specs.Expanding.{AllCanStand, AreExpandedIn, AreFound, AreFoundBetween, AreAhead, IsBetween, IsExpandedIn, IsNextBetween, IsNextThere, IsRowOfSuch, PutsAhead, count_all}
use Rattle.lu_graph.specs.Growing.{CanStandThere, GrowsBy, IsNextBy, Keeps, state_of}
use Rattle.lu_graph.specs.Holding.{Hold}
use Rattle.lu_graph.specs.Kept.{Kept}
use Rattle.lu_graph.specs.Rows.{CanStandAtRow, IsRowOf, KnowsDead}
use Rattle.lu_graph.specs.Visiting.{AreVisitedFrom, IsReachedAndSound}
use Rattle.lu_graph.proofs.Among.{all_at, at_left}
use Rattle.lu_graph.proofs.Expanded.{found_for}
use Rattle.lu_graph.proofs.Held.{rows_of_hold}
use Rattle.lu_graph.proofs.Many.{some_at}
use Rattle.lu_graph.proofs.Put.{PutsIn, nothing_left, put_hold, put_there, puts_all}

all_from_at : {A : Type 0} (P : A → Type 0) (xs : List A) → ((i : ℕ) (x : A) → slice_get xs i ≡ Some x → P x) → All P xs
all_from_at P [] each = All-nil P
all_from_at P (x ∷ xs) each = All-cons P x xs (each zero x refl) (all_from_at P xs (λ i y at. each (suc i) y at))

module _ (members : List (Vec SerialOp)) (c : Component) (matrix : Matrix) (settles : Settles c matrix) (list : List Kept) (visited : ℕ) (all : AreVisitedFrom members c matrix list visited) where
  stands_at : (i : ℕ) (kept : Kept) → slice_get list i ≡ Some kept → CanStandThere c matrix kept
  stands_at i kept at =
      let there = start_there c matrix settles in
      let s = there.0 in
      let sound = all_at (IsReachedAndSound s members) list (all s there.1).reached i kept at in
      subst (λ x. CanStandThere c x kept) (start_matrix c matrix s there.1) (subst (λ d. CanStandThere d s.matrix kept) (start_component c matrix s there.1) sound.0)

  -- a machine can stand at each node
  pub all_stand : (nodes : Nodes) → Hold members nodes list → AllCanStand c matrix nodes
  all_stand nodes hold =
      all_from_at (CanStandAtRow c matrix nodes.parts) nodes.rows.keys
      (λ i row at.
      (let within = slice_get_within nodes.rows.keys i row at in
      let kept = some_at list i (let many = hold.many in omega (arith, within, many)) in
      (kept.0, hold.rows i row kept.0 at kept.1, stands_at i kept.0 kept.1)))

-- a node that stood there stands there, where more come after it
pub there_then : (list more now : List Kept) → now ≡ list ++ more → (i : ℕ) (kept : Kept) → slice_get list i ≡ Some kept → slice_get now i ≡ Some kept
there_then list more now is i kept at = subst (λ x. slice_get x i ≡ Some kept) (sym is) (at_left list more i kept at)

-- ---- all rows are put in at once

module _ (members : List (Vec SerialOp)) (c : Component) (matrix : Matrix) (from end : ℕ) (list : List Kept) where
  abbrev IsSuch : Kept → Type 0
  IsSuch kept = CanStandThere c matrix kept × IsNextBetween members c matrix list from end kept

  -- nothing changes
  pub ahead_alone : (nodes : Nodes) → Hold members nodes list → AreAhead members c matrix from end list nodes nodes
  ahead_alone nodes hold = record {
    now = list;
    hold = hold;
    grows = ([], sym (append-nil list), All-nil IsSuch);
    parts = refl;
  }

  module _ (old : Nodes) where
    abbrev HasSuch : Row → Type 0
    HasSuch = IsRowOfSuch IsSuch old.parts

    such_there : (e : Expansion) (rows : List Row) → IsBetween from end e → IsExpandedIn members c matrix old.parts list e rows → All HasSuch rows
    such_there e rows between it =
        All-weaker (IsRowOfSuch (IsNextThere members (state_of c matrix it.kept) it.kept.alive) old.parts) HasSuch
        (λ row is. (is.0, is.1, (is.2.0, (e.number, it.kept, between.0, between.1, it.there, is.2.1)))) rows it.is.next.such

    all_such : (es : List Expansion) (rows : List Row) → length rows ≡ count_all es → All (IsBetween from end) es → AreExpandedIn members c matrix old.parts list es rows → All HasSuch rows
    all_such [] rows many between none = subst (All HasSuch) (sym (nothing_left rows many)) (All-nil HasSuch)
    all_such (e ∷ es) rows many between (it, more) =
        let left : length (drop e.count rows) ≡ count_all es = (let long = length-drop e.count rows in omega (arith, many, long)) in
        subst (All HasSuch) (take-append-drop e.count rows)
        (All-append HasSuch (take e.count rows) (drop e.count rows)
        (such_there e (take e.count rows) (All-head (IsBetween from end) e es between) it)
        (all_such es (drop e.count rows) left (All-tail (IsBetween from end) e es between) more))

    -- where they have become those of a list, in which all these rows are
    module _ (now more : List Kept) (is : now ≡ list ++ more) where
      abbrev IsThere : Row → Type 0
      IsThere row = Keeps (λ kept. IsRowOf old.parts kept row) now

      expanded_then : (e : Expansion) (rows : List Row) → All IsThere rows → IsExpandedIn members c matrix old.parts list e rows → IsExpandedIn members c matrix old.parts now e []
      expanded_then e rows there it =
          let s = state_of c matrix it.kept in
          record {
            kept = it.kept;
            there = subst (λ x. slice_get x e.number ≡ Some it.kept) (sym is) (at_left list more e.number it.kept it.there);
            is = record {
              good_is = it.is.good_is;
              next = record {
                such = All-nil (IsRowOfSuch (IsNextThere members s it.kept.alive) old.parts);
                there = λ m made event goes step. inl (put_there list now old.parts rows more is there (IsNextBy members s it.kept.alive made event) (it.is.next.there m made event goes step));
              };
            };
          }

      all_then : (es : List Expansion) (rows left : List Row) → left ≡ [] → All IsThere rows → AreExpandedIn members c matrix old.parts list es rows → AreExpandedIn members c matrix old.parts now es left
      all_then [] rows left none there all = tt
      all_then (e ∷ es) rows left none there (it, all) = (
        subst (IsExpandedIn members c matrix old.parts now e) (sym (ap (take e.count) none ∙ take-nil e.count)) (expanded_then e (take e.count rows) (All-take IsThere e.count rows there) it),
        all_then es (drop e.count rows) (drop e.count left) (ap (drop e.count) none ∙ drop-nil e.count) (All-drop IsThere e.count rows there) all,
      )

    put_in_then : (new : Nodes) (before ahead : Expansions) → PutsIn before.rows.items old new → ahead.nodes.items ≡ before.nodes.items → ahead.rows.items ≡ [] → Hold members old list → KnowsDead c old.parts.dead → AreFoundBetween c matrix members old from end before → AreAhead members c matrix from end list old new × AreFound c matrix members new ahead
    put_in_then new before ahead puts same none hold known found =
        let es = before.nodes.items in
        let rows = before.rows.items in
        let all = found.are.each list hold known in
        let Such : Kept → Type 0 = IsNextBetween members c matrix list from end in
        let so_far = puts_all members c matrix Such list old.parts rows old.rows.keys (rows_of_hold members old list hold) (all_such es rows found.many found.within all) in
        let held = put_hold members c matrix Such list rows old new puts so_far in (
          record { now = so_far.now; hold = held; grows = so_far.grows; parts = puts.parts },
          found_for c matrix members new ahead so_far.now held
              (subst (λ x. AreExpandedIn members c matrix x so_far.now ahead.nodes.items ahead.rows.items) (sym puts.parts)
              (subst (λ xs. AreExpandedIn members c matrix old.parts so_far.now xs ahead.rows.items) (sym same)
              (all_then so_far.now so_far.grows.0 so_far.grows.1 es rows ahead.rows.items none so_far.there all))),
        )

pub puts_nothing : (ahead : Expansions) (nodes : Nodes) → PutsAhead ahead ahead nodes nodes
puts_nothing ahead nodes members c matrix from end list hold known found = (ahead_alone members c matrix from end list nodes hold, found.are)

pub puts_ahead : (before ahead : Expansions) (old new : Nodes) → PutsIn before.rows.items old new → ahead.nodes.items ≡ before.nodes.items → ahead.rows.items ≡ [] → PutsAhead before ahead old new
puts_ahead before ahead old new puts same none members c matrix from end list hold known found =
    put_in_then members c matrix from end list old new before ahead puts same none hold known found

-- what came from nodes before one end came from nodes before a later one
pub grows_within : (members : List (Vec SerialOp)) (c : Component) (matrix : Matrix) (list : List Kept) (from end limit : ℕ) → end ≤ limit → (now : List Kept) → GrowsBy c matrix (IsNextBetween members c matrix list from end) list now → GrowsBy c matrix (IsNextBetween members c matrix list from limit) list now
grows_within members c matrix list from end limit le now grows = (
  grows.0,
  grows.1,
  All-weaker (λ (kept : Kept). CanStandThere c matrix kept × IsNextBetween members c matrix list from end kept) (λ (kept : Kept). CanStandThere c matrix kept × IsNextBetween members c matrix list from limit kept)
      (λ kept is. (is.0, (is.1.0, is.1.1, is.1.2, (let lt = is.1.3 in omega (arith, lt, le)), is.1.4, is.1.5))) grows.0 grows.2,
)
