-- One state is discovered.
use Rattle.std.proofs.Common.{◌≡◌, ◌⊎◌, ℕ, Bool, true, false, if◌then◌else◌, [], ◌∷◌, ◌++◌, Some, slice_get, refl, sym, ◌∙◌, ap, inl, inr}
use Rattle.std.specs.Prelude.{not}
use Rattle.std.specs.List.{list_any}
use Rattle.indexmap.specs.IndexSet.{insert_key}
use Rattle.lu_test.specs.declared.schedule.Move.{Move}
use Rattle.lu_machine.specs.declared.position.Position.{Position}
use Rattle.lu_machine.specs.Positions.{CanStandAt, at_position}
use Rattle.lu_machine.specs.States.{State}
use Rattle.lu_machine.proofs.Positions.{HaveSame, position_eq, same_position}
use Rattle.lu_graph.specs.declared.discovering.Discovered.{Discovered}
use Rattle.lu_graph.specs.Discovering.{AddsNone, AddsOne, Discovers, discovery, edge}

-- positions of the same cells, locks and threads are those of one state
stands_same : (s : State) (p q : Position) → HaveSame p q → at_position s p ≡ at_position s q
stands_same s p q is =
    ap (λ x. let y : State = record s { cells = x; locks = p.locks.items; threads = p.threads.items } in y) is.0
    ∙ (ap (λ x. let y : State = record s { cells = q.cells.items; locks = x; threads = p.threads.items } in y) is.1.0
    ∙ ap (λ x. let y : State = record s { cells = q.cells.items; locks = q.locks.items; threads = x } in y) is.1.1)

pub equal_stand : (s : State) (p q : Position) → position_eq p q ≡ true → at_position s p ≡ at_position s q
equal_stand s p q is = stands_same s p q ((same_position p q).0 is)

have_same : (s : State) (p q : Position) → at_position s p ≡ at_position s q → HaveSame p q
have_same s p q is = (ap (λ (x : State). x.cells) is, (ap (λ (x : State). x.locks) is, ap (λ (x : State). x.threads) is))

pub stand_equal : (s : State) (p q : Position) → at_position s p ≡ at_position s q → position_eq p q ≡ true
stand_equal s p q is = (same_position p q).1 (have_same s p q is)

module _ (now : State) (from : ℕ) (made : Move) (old new : Discovered) (position : Position) (to : ℕ) (here : at_position now position ≡ now) (stands : CanStandAt now.component now.matrix position) where
  by_test : (found is_new : Bool) → list_any (position_eq position) old.positions.keys ≡ found → is_new ≡ not found → new.positions.keys ≡ insert_key position_eq old.positions.keys position
      → new.discoveries.items ≡ (if is_new then old.discoveries.items ++ discovery from made ∷ [] else old.discoveries.items)
      → AddsNone old new ⊎ AddsOne now (discovery from made) old new
  by_test true is_new e tells keys ways =
      inl (
        keys ∙ ap (λ b. if b then old.positions.keys else old.positions.keys ++ position ∷ []) e,
        ways ∙ ap (λ b. if b then old.discoveries.items ++ discovery from made ∷ [] else old.discoveries.items) tells,
      )
  by_test false is_new e tells keys ways =
      inr (
        position,
        keys ∙ ap (λ b. if b then old.positions.keys else old.positions.keys ++ position ∷ []) e,
        ways ∙ ap (λ b. if b then old.discoveries.items ++ discovery from made ∷ [] else old.discoveries.items) tells,
        stands,
        here,
      )

  pub discovers : (is_new : Bool) → (stored : (k : Position) × (slice_get new.positions.keys to ≡ Some k) × (position_eq position k ≡ true)) → is_new ≡ not (list_any (position_eq position) old.positions.keys) → new.positions.keys ≡ insert_key position_eq old.positions.keys position
      → new.discoveries.items ≡ (if is_new then old.discoveries.items ++ discovery from made ∷ [] else old.discoveries.items)
      → new.edges.items ≡ old.edges.items ++ edge from to ∷ [] → Discovers now from made old new
  discovers is_new stored tells keys ways edges = record {
    to = to;
    position = stored.0;
    there = stored.1;
    is = sym (equal_stand now position stored.0 stored.2) ∙ here;
    edges = edges;
    adds = by_test (list_any (position_eq position) old.positions.keys) is_new refl tells keys ways;
  }
