-- What is found of nodes before they are gone through.
use Rattle.std.proofs.Common.{arith, ◌≡◌, ◌⊎◌, ℕ, ◌+◌, ◌≤◌, Bool, true, List, [], ◌∷◌, ◌++◌, length, length-append, take, drop, Option, Some, slice_get, refl, sym, ◌∙◌, ap, subst, inl, inr}
use Rattle.std.specs.Prelude.{All, IfSome}
use Rattle.std.specs.List.{list_any}
use Rattle.std.specs.Global.{Vec}
use Rattle.std.proofs.lemmas.List.{drop-append-le, length-drop, take-append-le, take_all}
use Rattle.std.proofs.lemmas.List.Elements.{All-append, All-nil, All-push, All-weaker}
use Rattle.std.proofs.lemmas.Option.{same_Some, slice_get_within}
use Rattle.lu_component.specs.Component.{Component}
use Rattle.lu_test.specs.declared.schedule.Move.{Move}
use Rattle.lu_test.specs.Matrix.{Matrix}
use Rattle.lu_machine.specs.declared.event.Event.{Event}
use Rattle.lu_machine.specs.Events.{IsEventInRange}
use Rattle.lu_machine.specs.States.{State}
use Rattle.lu_machine.specs.Steps.{Step, picks_of}
use Rattle.lu_machine.proofs.Keeping.{step_moved}
use Rattle.lu_history.specs.declared.serial.SerialOp.{SerialOp}
use Rattle.lu_graph.specs.declared.expanding.Expansion.{Expansion}
use Rattle.lu_graph.specs.declared.expanding.Found.TheVariants.{Known, New}
use Rattle.lu_graph.specs.declared.holding.Nodes.{Nodes}
use Rattle.lu_graph.specs.declared.row.Parts.{Parts}
use Rattle.lu_graph.specs.declared.row.Row.{Row}
use Rattle.lu_graph.specs.declared.expanding.Expansions.{Expansions}
use Rattle.lu_graph.specs.Expanding.{AreExpandedIn, AreFound, AreFoundBetween, AreNext, AreNextOf, Finds, FindsAt, FindsMore, HasMore, IsBetween, IsExpandedIn, IsExpansion, IsGoneThrough, IsInSameRuns, IsNextThere, IsRowOfSuch, PutsNext, Takes, count_all}
use Rattle.lu_graph.specs.First.{GoesFirst}
use Rattle.lu_graph.specs.Growing.{AddsNext, CanStandThere, ComesBy, IsNextBy, Keeps, TakeTurns, state_of}
use Rattle.lu_graph.specs.Holding.{Hold, HoldMore, HoldsNext, Knows}
use Rattle.lu_graph.specs.Judging.{JudgesGood}
use Rattle.lu_graph.specs.Kept.{Kept}
use Rattle.lu_graph.specs.Nodes.{IsAmong}
use Rattle.lu_graph.specs.Possibilities.{Gives, RecallsAfter}
use Rattle.lu_graph.specs.Rows.{Grow, IsRowAmong, IsRowOf, KnowsDead, StandsAtRow}
use Rattle.lu_graph.proofs.Added.{comes_by}
use Rattle.lu_graph.proofs.Among.{at_last, at_left}
use Rattle.lu_graph.proofs.Grown.{LeadsBelow, leads_all, leads_more, leads_none, leads_turn}
use Rattle.lu_graph.proofs.Held.{node, node_there, one_hold, row_of_it, stands_for, stands_so}
use Rattle.lu_graph.proofs.Many.{some_at}
use Rattle.lu_graph.proofs.Put.{nothing_left}
use Rattle.lu_graph.proofs.Same.{row_eq, row_of_stays}

-- ---- one move

module _ (s : State) (from : Row) (event : Option Event) (nodes : Nodes) (n : ℕ) (recalls : RecallsAfter s event from.alive nodes.parts.alive n) (row : Row) (at : IsRowAmong nodes.parts s n row) where
  -- a node with the row is that of s
  pub finds_known : list_any (row_eq row) nodes.rows.keys ≡ true → FindsAt s from event nodes Known
  finds_known there members list alive hold knows known =
      let one = recalls members alive knows hold.left in
      let met = node_there members nodes list row hold there in
      let stands = stands_for s one.list n nodes.parts nodes.parts row at one.number known met.1 met.3 in
      (met.0, met.1, met.2, comes_by members s alive one.list event one.such met.1 stands)

  pub finds_new : FindsAt s from event nodes (New row)
  finds_new members list alive hold knows known =
      let one = recalls members alive knows hold.left in (
        node s one.list n nodes.parts nodes.parts row at one.number,
        row_of_it s one.list n nodes.parts nodes.parts row at one.number,
        (at.can, comes_by members s alive one.list event one.such (node s one.list n nodes.parts nodes.parts row at one.number) (stands_so s one.list n nodes.parts nodes.parts row at one.number known)),
      )

-- ---- all moves

module _ (members : List (Vec SerialOp)) (s : State) (alive : List Bool) (parts : Parts) (list : List Kept) where
  -- the node to which a move leads is there, or its row is
  abbrev IsFound : List Row → State → Option Event → Type 0
  IsFound rows made event =
      Keeps (IsNextBy members s alive made event) list
      ⊎ ((row : Row) × IsAmong rows row × IsRowOfSuch (IsNextBy members s alive made event) parts row)

  -- so it is of the moves before this one that go first
  pub record IsFoundBelow (rows : List Row) (limit : Move) : Type 0 where
    pub such : All (IsRowOfSuch (IsNextThere members s alive) parts) rows
    pub there : LeadsBelow s (IsFound rows) limit

  found_none : (first end : ℕ) → TakeTurns s first end → IsFoundBelow [] (record { thread = first; pick = 0 })
  found_none first end turns = record {
    such = All-nil (IsRowOfSuch (IsNextThere members s alive) parts);
    there = leads_none s (IsFound []) first end turns;
  }

  module _ (t p : ℕ) (rows : List Row) (made : State) (event : Option Event) (range : IfSome event IsEventInRange) (goes : GoesFirst s (record { thread = t; pick = p })) (step : Step s (record { thread = t; pick = p }) made event) (before : IsFoundBelow rows (record { thread = t; pick = p })) where
    -- in runs of the component and the matrix of s
    comes_so : (kept : Kept) → ComesBy made.component made.matrix members made alive event kept → IsNextBy members s alive made event kept
    comes_so kept comes =
        let moved = step_moved s (record { thread = t; pick = p }) made event step in
        record { range = range; comes = subst (λ (x : Matrix). ComesBy s.component x members made alive event kept) moved.matrix (subst (λ (x : Component). ComesBy x made.matrix members made alive event kept) moved.component comes) }

    can_so : (kept : Kept) → CanStandThere made.component made.matrix kept → CanStandThere s.component s.matrix kept
    can_so kept can =
        let moved = step_moved s (record { thread = t; pick = p }) made event step in
        subst (λ (x : Matrix). CanStandThere s.component x kept) moved.matrix (subst (λ (x : Component). CanStandThere x made.matrix kept) moved.component can)

    found_there : Keeps (ComesBy made.component made.matrix members made alive event) list → IsFoundBelow rows (record { thread = t; pick = p + 1 })
    found_there (i, kept, at, comes) = record {
      such = before.such;
      there = leads_more s (IsFound rows) (IsFound rows) t p made event step (λ next e h. h) (inl (i, kept, at, comes_so kept comes)) before.there;
    }

    found_new : (row : Row) → Finds members made alive event parts list (New row) → IsFoundBelow (rows ++ row ∷ []) (record { thread = t; pick = p + 1 })
    found_new row (kept, its, (can, comes)) = record {
      such = All-push (IsRowOfSuch (IsNextThere members s alive) parts) rows row before.such (kept, its, (can_so kept can, (record { thread = t; pick = p }, made, event, goes, step, comes_so kept comes)));
      there = leads_more s (IsFound (rows ++ row ∷ [])) (IsFound rows) t p made event step still (inr (row, (length rows, at_last rows row), (kept, its, comes_so kept comes))) before.there;
    }
      where
        still : (next : State) (e : Option Event) → IsFound rows next e → IsFound (rows ++ row ∷ []) next e
        still next e (inl keeps) = inl keeps
        still next e (inr (r, (i, at), is)) = inr (r, (i, at_left rows (row ∷ []) i r at), is)

  found_turn : (t p : ℕ) (rows : List Row) → picks_of s t ≤ p → IsFoundBelow rows (record { thread = t; pick = p }) → IsFoundBelow rows (record { thread = t + 1; pick = 0 })
  found_turn t p rows all before = record { such = before.such; there = leads_turn s (IsFound rows) t p all before.there }

  found_all : (first t end : ℕ) (rows : List Row) → TakeTurns s first end → end ≤ t → IsFoundBelow rows (record { thread = t; pick = 0 }) → AreNext members s alive parts list rows
  found_all first t end rows turns past before = record { such = before.such; there = leads_all s (IsFound rows) first t end turns past before.there }

-- so it is wherever the nodes are those of a list
module _ (s : State) (from : Row) (nodes : Nodes) where
  abbrev pub AreFoundBelow : List Row → Move → Type 0
  AreFoundBelow rows limit =
      (members : List (Vec SerialOp)) (list : List Kept) (alive : List Bool) → Hold members nodes list → Knows nodes alive from.alive
      → KnowsDead s.component nodes.parts.dead → IsFoundBelow members s alive nodes.parts list rows limit

  pub below_first : (first end : ℕ) → TakeTurns s first end → AreFoundBelow [] (record { thread = first; pick = 0 })
  below_first first end turns members list alive hold knows known = found_none members s alive nodes.parts list first end turns

  module _ (t p : ℕ) (rows : List Row) (made : State) (event : Option Event) (range : IfSome event IsEventInRange) (goes : GoesFirst s (record { thread = t; pick = p })) (step : Step s (record { thread = t; pick = p }) made event) (before : AreFoundBelow rows (record { thread = t; pick = p })) where
    known_made : KnowsDead s.component nodes.parts.dead → KnowsDead made.component nodes.parts.dead
    known_made known = subst (λ x. KnowsDead x nodes.parts.dead) (sym (step_moved s (record { thread = t; pick = p }) made event step).component) known

    pub below_known : FindsAt made from event nodes Known → AreFoundBelow rows (record { thread = t; pick = p + 1 })
    below_known finds members list alive hold knows known =
        found_there members s alive nodes.parts list t p rows made event range goes step (before members list alive hold knows known) (finds members list alive hold knows (known_made known))

    pub below_new : (row : Row) → FindsAt made from event nodes (New row) → AreFoundBelow (rows ++ row ∷ []) (record { thread = t; pick = p + 1 })
    below_new row finds members list alive hold knows known =
        found_new members s alive nodes.parts list t p rows made event range goes step (before members list alive hold knows known) row (finds members list alive hold knows (known_made known))

  pub below_next : (t p : ℕ) (rows : List Row) → picks_of s t ≤ p → AreFoundBelow rows (record { thread = t; pick = p }) → AreFoundBelow rows (record { thread = t + 1; pick = 0 })
  below_next t p rows all before members list alive hold knows known = found_turn members s alive nodes.parts list t p rows all (before members list alive hold knows known)

  pub below_last : (first t end : ℕ) (rows : List Row) → TakeTurns s first end → end ≤ t → AreFoundBelow rows (record { thread = t; pick = 0 }) → AreNextOf s from nodes rows
  below_last first t end rows turns past before members list alive hold knows known = found_all members s alive nodes.parts list first t end rows turns past (before members list alive hold knows known)

-- ---- as the list grows

module _ (members : List (Vec SerialOp)) (c : Component) (matrix : Matrix) (old new : Parts) (grown : Grow old new) (list extra longer : List Kept) (is : longer ≡ list ++ extra) where
  row_still : (Such : Kept → Type 0) (row : Row) → IsRowOfSuch Such old row → IsRowOfSuch Such new row
  row_still Such row (kept, its, such) = (kept, row_of_stays old new kept row grown its, such)

  expanded_stays : (e : Expansion) (rows : List Row) → IsExpandedIn members c matrix old list e rows → IsExpandedIn members c matrix new longer e rows
  expanded_stays e rows it =
      let s = state_of c matrix it.kept in
      let next = it.is.next in
      record {
        kept = it.kept;
        there = subst (λ x. slice_get x e.number ≡ Some it.kept) (sym is) (at_left list extra e.number it.kept it.there);
        is = record {
          good_is = it.is.good_is;
          next = record {
            such = All-weaker (IsRowOfSuch (IsNextThere members s it.kept.alive) old) (IsRowOfSuch (IsNextThere members s it.kept.alive) new) (row_still (IsNextThere members s it.kept.alive)) rows next.such;
            there = λ m made event goes step. still (IsNextBy members s it.kept.alive made event) (next.there m made event goes step);
          };
        };
      }
    where
      still : (Such : Kept → Type 0) → Keeps Such list ⊎ ((row : Row) × IsAmong rows row × IsRowOfSuch Such old row) → Keeps Such longer ⊎ ((row : Row) × IsAmong rows row × IsRowOfSuch Such new row)
      still Such (inl (i, kept, at, such)) = inl (i, kept, subst (λ x. slice_get x i ≡ Some kept) (sym is) (at_left list extra i kept at), such)
      still Such (inr (row, among, such)) = inr (row, among, row_still Such row such)

  pub all_stay : (es : List Expansion) (rows : List Row) → AreExpandedIn members c matrix old list es rows → AreExpandedIn members c matrix new longer es rows
  all_stay [] rows none = none
  all_stay (e ∷ es) rows (it, others) = (expanded_stays e (take e.count rows) it, all_stay es (drop e.count rows) others)

-- ---- several

count_append : (es fs : List Expansion) → count_all (es ++ fs) ≡ count_all es + count_all fs
count_append [] fs = omega arith
count_append (e ∷ es) fs = let rest = count_append es fs in omega (arith, rest)

module _ (members : List (Vec SerialOp)) (c : Component) (matrix : Matrix) (parts : Parts) (list : List Kept) where
  pub all_append : (es fs : List Expansion) (rows others : List Row) → length rows ≡ count_all es → AreExpandedIn members c matrix parts list es rows → AreExpandedIn members c matrix parts list fs others → AreExpandedIn members c matrix parts list (es ++ fs) (rows ++ others)
  all_append [] fs rows others many none all = subst (λ (x : List Row). AreExpandedIn members c matrix parts list fs (x ++ others)) (sym (nothing_left rows many)) all
  all_append (e ∷ es) fs rows others many (it, more) all =
      let within : e.count ≤ length rows = omega (arith, many) in
      let left : length (drop e.count rows) ≡ count_all es = (let long = length-drop e.count rows in omega (arith, many, long)) in (
        subst (IsExpandedIn members c matrix parts list e) (sym (take-append-le e.count rows others within)) it,
        subst (AreExpandedIn members c matrix parts list (es ++ fs)) (sym (drop-append-le e.count rows others within)) (all_append es fs (drop e.count rows) others left more all),
      )

  pub all_one : (e : Expansion) (rows : List Row) → length rows ≡ e.count → IsExpandedIn members c matrix parts list e rows → AreExpandedIn members c matrix parts list (e ∷ []) rows
  all_one e rows many it = (subst (IsExpandedIn members c matrix parts list e) (sym (take_all e.count rows (omega (arith, many)))) it, tt)

  -- what was found of the node at this place is found of the state where a machine stands there
  pub expanded_here : (e : Expansion) (rows : List Row) → IsExpandedIn members c matrix parts list e rows → (place : ℕ) → e.number ≡ place → (kept : Kept) → slice_get list place ≡ Some kept → IsExpansion members (state_of c matrix kept) kept.alive parts list e.is_good rows
  expanded_here e rows it place here kept at =
      let same : it.kept ≡ kept = same_Some it.kept kept (sym it.there ∙ (ap (slice_get list) here ∙ at)) in
      subst (λ (k : Kept). IsExpansion members (state_of c matrix k) k.alive parts list e.is_good rows) same it.is

-- ---- as it was found

-- what was found of the nodes of one list
pub found_for : (c : Component) (matrix : Matrix) (members : List (Vec SerialOp)) (nodes : Nodes) (found : Expansions) (list : List Kept) → Hold members nodes list → AreExpandedIn members c matrix nodes.parts list found.nodes.items found.rows.items → AreFound c matrix members nodes found
found_for c matrix members nodes found list hold all = record {
  each = λ other holds known. subst (λ x. AreExpandedIn members c matrix nodes.parts x found.nodes.items found.rows.items) (one_hold members nodes list other hold holds) all;
}

pub found_nothing : (c : Component) (matrix : Matrix) (members : List (Vec SerialOp)) (nodes : Nodes) (found : Expansions) → found.nodes.items ≡ [] → AreFound c matrix members nodes found
found_nothing c matrix members nodes found none = record {
  each = λ list hold known. subst (λ es. AreExpandedIn members c matrix nodes.parts list es found.rows.items) (sym none) tt;
}

pub between_nothing : (c : Component) (matrix : Matrix) (members : List (Vec SerialOp)) (nodes : Nodes) (from end : ℕ) (found : Expansions) → found.nodes.items ≡ [] → found.rows.items ≡ [] → AreFoundBetween c matrix members nodes from end found
between_nothing c matrix members nodes from end found none empty = record {
  are = found_nothing c matrix members nodes found none;
  within = subst (All (IsBetween from end)) (sym none) (All-nil (IsBetween from end));
  many = ap length empty ∙ sym (ap count_all none);
}

-- in runs of the same component and matrix
pub found_same : (c d : Component) (m n : Matrix) (members : List (Vec SerialOp)) (nodes : Nodes) (found : Expansions) → c ≡ d → m ≡ n → AreFound c m members nodes found → AreFound d n members nodes found
found_same c d m n members nodes found p q is = subst (λ x. AreFound d x members nodes found) q (subst (λ x. AreFound x m members nodes found) p is)

pub found_joined : (c : Component) (matrix : Matrix) (members : List (Vec SerialOp)) (nodes : Nodes) (from end : ℕ) (one other all : Expansions) → all.nodes.items ≡ one.nodes.items ++ other.nodes.items → all.rows.items ≡ one.rows.items ++ other.rows.items → AreFoundBetween c matrix members nodes from end one → AreFoundBetween c matrix members nodes from end other → AreFoundBetween c matrix members nodes from end all
found_joined c matrix members nodes from end one other all nodes_are rows_are first second = record {
  are = record {
    each = λ list hold known.
        subst (λ es. AreExpandedIn members c matrix nodes.parts list es all.rows.items) (sym nodes_are)
        (subst (AreExpandedIn members c matrix nodes.parts list (one.nodes.items ++ other.nodes.items)) (sym rows_are)
        (all_append members c matrix nodes.parts list one.nodes.items other.nodes.items one.rows.items other.rows.items first.many (first.are.each list hold known) (second.are.each list hold known)));
  };
  within = subst (All (IsBetween from end)) (sym nodes_are) (All-append (IsBetween from end) one.nodes.items other.nodes.items first.within second.within);
  many =
      (let long = ap length rows_are ∙ length-append one.rows.items other.rows.items in
      let sum = ap count_all nodes_are ∙ count_append one.nodes.items other.nodes.items in
      let a = first.many in
      let b = second.many in
      omega (arith, long, sum, a, b));
}

-- one node more
module _ (members : List (Vec SerialOp)) (m : State) (nodes : Nodes) (place : ℕ) (row : Row) (at : slice_get nodes.rows.keys place ≡ Some row) (now : State) (stands : StandsAtRow nodes.parts row m now) (bits : List Bool) (gives : Gives nodes.parts.alive row.alive bits) (good : Bool) (judges : JudgesGood members now bits good) where
  pub found_more : (old new : Expansions) (rows : List Row) → AreNextOf now row nodes rows → HasMore place good rows old new → FindsMore m members nodes place old new
  found_more old new rows next more from end after before_end before =
      let e : Expansion = record { number = place; is_good = good; count = length rows } in
      record {
        are = record {
          each = λ list hold known.
              (let within = slice_get_within nodes.rows.keys place row at in
              let kept = some_at list place (let many = hold.many in omega (arith, within, many)) in
              let its = hold.rows place row kept.0 at kept.1 in
              let here = stands kept.0 its in
              let s = state_of m.component m.matrix kept.0 in
              let there : KnowsDead now.component nodes.parts.dead = subst (λ (x : State). KnowsDead x.component nodes.parts.dead) (sym here) known in
              let one : IsExpandedIn members m.component m.matrix nodes.parts list e rows = record {
                kept = kept.0;
                there = kept.1;
                is = record {
                  good_is = subst (λ x. JudgesGood members x kept.0.alive good) here (subst (λ x. JudgesGood members now x good) (gives kept.0.alive its.alive) judges);
                  next = subst (λ x. AreNext members x kept.0.alive nodes.parts list rows) here (next members list kept.0.alive hold its.alive there);
                };
              } in
              subst (λ es. AreExpandedIn members m.component m.matrix nodes.parts list es new.rows.items) (sym more.nodes)
              (subst (AreExpandedIn members m.component m.matrix nodes.parts list (old.nodes.items ++ e ∷ [])) (sym more.rows)
              (all_append members m.component m.matrix nodes.parts list old.nodes.items (e ∷ []) old.rows.items rows before.many (before.are.each list hold known) (all_one members m.component m.matrix nodes.parts list e rows refl one))));
        };
        within = subst (All (IsBetween from end)) (sym more.nodes) (All-push (IsBetween from end) old.nodes.items e before.within (after, before_end));
        many =
            (let long = ap length more.rows ∙ length-append old.rows.items rows in
            let sum = ap count_all more.nodes ∙ count_append old.nodes.items (e ∷ []) in
            let was = before.many in
            omega (arith, long, sum, was));
      }

-- a machine that stands at a node is one of the same component and matrix
pub same_runs : (m now : State) (kept : Kept) → now ≡ state_of m.component m.matrix kept → IsInSameRuns m now
same_runs m now kept is = record { component = ap (λ (s : State). s.component) is; matrix_is = ap (λ (s : State). s.matrix) is }

-- ---- going through a node

module _ (members : List (Vec SerialOp)) (m : State) (place : ℕ) (row : Row) (before ahead : Expansions) (old new : Nodes) where
  -- it was found before where it leads
  module _ (e : Expansion) (takes : Takes place before.nodes.items ahead.nodes.items (Some e)) (puts : PutsNext (take e.count before.rows.items) old new) (found : AreFound m.component m.matrix members old before) (list : List Kept) (hold : Hold members old list) (known : KnowsDead m.component old.parts.dead) where
    all_found : AreExpandedIn members m.component m.matrix old.parts list (e ∷ ahead.nodes.items) before.rows.items
    all_found = subst (λ es. AreExpandedIn members m.component m.matrix old.parts list es before.rows.items) takes.1 (found.each list hold known)

    pub through_found : (kept : Kept) → slice_get list place ≡ Some kept → IsGoneThrough members (state_of m.component m.matrix kept) kept.alive list old new e.is_good
    through_found kept at =
        let is = expanded_here members m.component m.matrix old.parts list e (take e.count before.rows.items) all_found.0 place takes.0 kept at in
        record { good_is = is.good_is; more = puts members (state_of m.component m.matrix kept) list kept.alive hold is.next }

    pub found_left : ahead.rows.items ≡ drop e.count before.rows.items → AreFound m.component m.matrix members new ahead
    found_left rest =
        let it = all_found.0 in
        let more = puts members (state_of m.component m.matrix it.kept) list it.kept.alive hold it.is.next in
        found_for m.component m.matrix members new ahead more.list more.hold
        (subst (AreExpandedIn members m.component m.matrix new.parts more.list ahead.nodes.items) (sym rest)
        (all_stay members m.component m.matrix old.parts new.parts more.parts list more.grown.grows.0 more.list more.grown.grows.1 ahead.nodes.items (drop e.count before.rows.items) all_found.1))

  -- it was not
  module _ (now : State) (stands : StandsAtRow old.parts row m now) (holds : HoldsNext members now row old new) (list : List Kept) (hold : Hold members old list) (known : KnowsDead m.component old.parts.dead) (kept : Kept) (its : IsRowOf old.parts kept row) where
    more_alone : HoldMore members (AddsNext members (state_of m.component m.matrix kept) kept.alive list) old new
    more_alone =
        let here = stands kept its in
        let there : KnowsDead now.component old.parts.dead = subst (λ (x : State). KnowsDead x.component old.parts.dead) (sym here) known in
        subst (λ x. HoldMore members (AddsNext members x kept.alive list) old new) here (holds list kept.alive hold its.alive there)

    pub through_alone : (bits : List Bool) → Gives old.parts.alive row.alive bits → (good : Bool) → JudgesGood members now bits good → IsGoneThrough members (state_of m.component m.matrix kept) kept.alive list old new good
    through_alone bits gives good judges = record {
      good_is = subst (λ x. JudgesGood members x kept.alive good) (stands kept its) (subst (λ x. JudgesGood members now x good) (gives kept.alive its.alive) judges);
      more = more_alone;
    }

    pub alone_left : AreFound m.component m.matrix members old before → ahead.nodes.items ≡ before.nodes.items → ahead.rows.items ≡ before.rows.items → AreFound m.component m.matrix members new ahead
    alone_left found same rest =
        let more = more_alone in
        found_for m.component m.matrix members new ahead more.list more.hold
        (subst (λ es. AreExpandedIn members m.component m.matrix new.parts more.list es ahead.rows.items) (sym same)
        (subst (AreExpandedIn members m.component m.matrix new.parts more.list before.nodes.items) (sym rest)
        (all_stay members m.component m.matrix old.parts new.parts more.parts list more.grown.grows.0 more.list more.grown.grows.1 before.nodes.items before.rows.items (found.each list hold known))))
