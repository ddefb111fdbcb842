-- One node is visited.
use Rattle.std.proofs.Common.{arith, ◌≡◌, ℕ, ◌+◌, ◌<◌, ◌≤◌, leb, Bool, true, false, List, length, Some, slice_get, refl, sym, ◌∙◌, ap, subst, inl, inr}
use Rattle.std.specs.Prelude.{◌↔◌, IsTrue}
use Rattle.std.specs.Global.{Vec}
use Rattle.std.proofs.lemmas.Bool.{le-leb, leb-true}
use Rattle.std.proofs.lemmas.Option.{slice_get_within}
use Rattle.lu_component.specs.Component.{Component}
use Rattle.lu_test.specs.Matrix.{Matrix}
use Rattle.lu_machine.specs.Starts.{FromEachStart, IsStart, Settles}
use Rattle.lu_machine.specs.declared.event.Event.{Event}
use Rattle.lu_machine.specs.States.{State, progress}
use Rattle.lu_history.specs.Standing.{Agree}
use Rattle.lu_horizon.specs.Dead.{DeadTable}
use Rattle.lu_machine.proofs.Starting.{start_component, start_matrix, start_same, start_there}
use Rattle.lu_history.specs.declared.serial.SerialOp.{SerialOp}
use Rattle.lu_history.proofs.Following.{start_agrees}
use Rattle.lu_graph.specs.Kept.{Kept}
use Rattle.lu_graph.specs.declared.level.Level.{Level}
use Rattle.lu_graph.specs.Expanding.{IsNextBetween}
use Rattle.lu_graph.specs.Guards.{TellsGuarded}
use Rattle.lu_graph.specs.Growing.{AddsNext, CanStandThere, GrowsBy, HasStart, state_of}
use Rattle.lu_graph.specs.Judging.{IsOneOf, JudgesGood}
use Rattle.lu_graph.specs.Nodes.{AreStatesAlike, EndsWellOnFewNodes, HasFewNodes, IsBadAt, IsGoodIfEnded, IsShortestBad}
use Rattle.lu_graph.specs.Rows.{KnowsDead}
use Rattle.lu_graph.specs.Visiting.{AreVisitedFrom, IsFor, IsLevelAt, IsReachedAndSound, its}
use Rattle.lu_graph.proofs.Alike.{IsLike, one_kept}
use Rattle.lu_graph.proofs.Among.{all_at}
use Rattle.lu_graph.proofs.Closing.{component_of}
use Rattle.lu_graph.proofs.StatesAlike.{progress_alike, states_back, states_ended, states_good}
use Rattle.lu_graph.proofs.Aside.{first_tells_all}
use Rattle.lu_graph.proofs.Explored.{has_all, known, visited_ahead, visited_more, visited_none, well}
use Rattle.lu_graph.proofs.Levels.{AreSearched, searched_ahead, searched_level, searched_more, searched_none, shortest_bad}
use Rattle.lu_graph.proofs.Many.{no_more_apart}
use Rattle.lu_graph.proofs.Same.{AreDifferent}

-- so it is from each start
abbrev pub AreSearchedFrom : List (Vec SerialOp) → Component → Matrix → List Kept → ℕ → ℕ → ℕ → Type 0
AreSearchedFrom members c matrix list place moves end = (s : State) → IsStart c matrix s → AreSearched members s list place moves end

-- what holds from each start, where component and matrix are known by equations
pub from_same : (c d : Component) (m n : Matrix) → c ≡ d → m ≡ n → (P : State → Type 0) → FromEachStart d n P → FromEachStart c m P
from_same c d m n p q P all s is = all s (subst (λ x. IsStart d x s) q (subst (λ x. IsStart x m s) p is))

module _ (members : List (Vec SerialOp)) (c : Component) (matrix : Matrix) (settles : Settles c matrix) (dead : DeadTable) (dead_known : KnowsDead c dead) where
  -- the dead registers of the component of a start
  known_at : (s : State) → IsStart c matrix s → KnowsDead s.component dead
  known_at s is = subst (λ x. KnowsDead x dead) (sym (start_component c matrix s is)) dead_known

  -- the start alone
  module _ (s : State) (at : IsStart c matrix s) (list : List Kept) (start : HasStart members s list) where
    from : (r : State) → IsStart c matrix r → HasStart members r list
    from r is = subst (λ (x : State). HasStart members x list) (start_same c matrix s r at is) start

    pub visited_first : AreVisitedFrom members c matrix list 0
    visited_first r is = visited_none r members dead (known_at r is) list (start_agrees c matrix r is) (from r is)

    pub searched_first : (many : ℕ) → many ≡ length list → AreSearchedFrom members c matrix list 0 0 many
    searched_first many long r is = subst (AreSearched members r list 0 0) (sym long) (searched_none r members dead (known_at r is) list (start_agrees c matrix r is) (from r is))

    pub one_there : (many : ℕ) → many ≡ length list → 0 < many
    one_there many long = let there = start.2.there in let lt = slice_get_within list there.0 there.1 there.2 in omega (arith, lt, long)

  module _ (list : List Kept) (place : ℕ) (all : AreVisitedFrom members c matrix list place) where
    -- all were gone through
    module _ (most : ℕ) (past : length list ≤ place) (few : length list ≤ most) where
      pub few_nodes : FromEachStart c matrix (λ s. HasFewNodes (IsOneOf members) s most)
      few_nodes s is =
          let x = has_all s members dead (known_at s is) list place past (all s is) in
          let many = x.1 in
          (x.0, x.2, omega (arith, many, few))

      pub ends_well_there : (guarded : List Bool) → TellsGuarded c guarded → (moves end : ℕ) → AreSearchedFrom members c matrix list place moves end → FromEachStart c matrix (λ s. EndsWellOnFewNodes (IsOneOf members) s most)
      ends_well_there guarded told moves end known s is = (few_nodes s is, well s members dead (known_at s is) list place past (all s is) (first_tells_all c matrix guarded s told is) (known s is).good)

    -- they are too many
    pub no_more_than : (most : ℕ) → AreDifferent dead list → (s : State) → IsStart c matrix s → HasFewNodes (IsOneOf members) s most → length list ≤ most
    no_more_than most differ s is holds =
        let x = all s is in
        let within = no_more_apart (IsLike members s) list (λ i j x y n lt at there p q. differ i j x y lt at there (one_kept members s dead (known_at s is) x y n p q)) holds.0
        (λ i kept at.
        (let one = all_at (IsReachedAndSound s members) list x.reached i kept at in
        let like = holds.1 one.1.schedule one.1.end one.1.history one.1.first one.1.leads in
        (like.0, like.1, record { end = one.1.end; history = one.1.history; is = one.1.is; alike = like.2 }))) in
        let few = holds.2 in
        omega (arith, within, few)

    pub too_many : (most : ℕ) → AreDifferent dead list → most < length list → FromEachStart c matrix (λ s. HasFewNodes (IsOneOf members) s most → ⊥)
    too_many most differ many s is holds = let few = no_more_than most differ s is holds in omega (arith, few, many)

    pub many_or_few : (most : ℕ) → AreDifferent dead list → (n : ℕ) → n ≡ length list → most ≤ place → FromEachStart c matrix (λ s. IsTrue (leb n most) ↔ HasFewNodes (IsOneOf members) s most)
    many_or_few most differ n many past s at = (
      (λ t. let few = leb-true n most t in few_nodes most (omega (arith, few, many, past)) (omega (arith, few, many)) s at),
      (λ few. let within = no_more_than most differ s at few in le-leb n most (omega (arith, within, many))),
    )

    -- nodes were found ahead, to which moves lead from nodes from the place on
    module _ (m : State) (component : m.component ≡ c) (matrix_is : m.matrix ≡ matrix) (end : ℕ) (new : List Kept) (grows : GrowsBy m.component m.matrix (IsNextBetween members m.component m.matrix list place end) list new) where
      grows_at : (s : State) → IsStart c matrix s → GrowsBy s.component s.matrix (IsNextBetween members s.component s.matrix list place end) list new
      grows_at s is =
          let Grows : Component → Matrix → Type 0 = λ d x. GrowsBy d x (IsNextBetween members d x list place end) list new in
          subst (λ x. Grows s.component x) (matrix_is ∙ sym (start_matrix c matrix s is)) (subst (λ d. Grows d m.matrix) (component ∙ sym (start_component c matrix s is)) grows)

      pub visited_then : place ≤ length list → AreVisitedFrom members c matrix new place
      visited_then within s is = visited_ahead s members dead (known_at s is) list new place end within (grows_at s is) (all s is)

      pub searched_then : (moves : ℕ) → place < end → AreSearchedFrom members c matrix list place moves end → AreSearchedFrom members c matrix new place moves end
      searched_then moves less searched s is = searched_ahead s members dead (known_at s is) list place moves end (searched s is) new (grows_at s is) less

    module _ (m : State) (component : m.component ≡ c) (matrix_is : m.matrix ≡ matrix) (kept : Kept) (at : slice_get list place ≡ Some kept) where
      -- where the machine stands then
      here : (s : State) → IsStart c matrix s → state_of m.component m.matrix kept ≡ its s kept
      here s is =
          let make : Component → Matrix → State = λ d x. state_of d x kept in
          ap (λ d. make d m.matrix) (component ∙ sym (start_component c matrix s is)) ∙ ap (λ x. make s.component x) (matrix_is ∙ sym (start_matrix c matrix s is))

      sound : (s : State) (is : IsStart c matrix s) → IsReachedAndSound s members kept
      sound s is = known s members dead (known_at s is) list list place kept at (all s is)

      pub can_stand : CanStandThere m.component m.matrix kept
      can_stand =
          let there = start_there c matrix settles in
          let s = there.0 in
          let x = (sound s there.1).0 in
          let y = subst (λ d. CanStandThere d s.matrix kept) (start_component c matrix s there.1 ∙ sym component) x in
          subst (λ d. CanStandThere m.component d kept) (start_matrix c matrix s there.1 ∙ sym matrix_is) y

      module _ (now : State) (alive : List Bool) (stands : now ≡ state_of m.component m.matrix kept) (are : alive ≡ kept.alive) where
        -- what holds where the machine stands holds of the node
        of_node : (P : State → List Bool → Type 0) (s : State) → IsStart c matrix s → P now alive → P (its s kept) kept.alive
        of_node P s is x = subst (P (its s kept)) are (subst (λ z. P z alive) (stands ∙ here s is) x)

        -- what is judged there
        judged : (good : Bool) → JudgesGood members now alive good → (s : State) → IsStart c matrix s → JudgesGood members (its s kept) kept.alive good
        judged good says s is = of_node (λ z bits. JudgesGood members z bits good) s is says

        -- what holds of what is kept holds of a state for which it is
        agree_for : {s : State} (x : State) (h : List Event) → IsFor s members x h kept → Agree (progress (its s kept)) h
        agree_for {s} x h for = subst (λ p. Agree p h) (sym (progress_alike x (its s kept) for.state)) for.agree

        module _ (s : State) (is : IsStart c matrix s) (x : State) (h : List Event) (for : IsFor s members x h kept) where
          component_for : x.component ≡ s.component
          component_for = component_of s members dead (known_at s is) kept x h for

          back_for : AreStatesAlike (its s kept) x
          back_for = states_back s.component dead (known_at s is) x (its s kept) component_for for.state

          good_for : IsGoodIfEnded (IsOneOf members) (its s kept) h → IsGoodIfEnded (IsOneOf members) x h
          good_for good ended =
              states_good s.component dead (known_at s is) (IsOneOf members) (its s kept) x h refl back_for
              (good (states_ended s.component dead (known_at s is) x (its s kept) component_for for.state ended))

          bad_for : IsBadAt (IsOneOf members) (its s kept) h → IsBadAt (IsOneOf members) x h
          bad_for bad = (
            states_ended s.component dead (known_at s is) (its s kept) x refl back_for bad.0,
            λ good. bad.1 (states_good s.component dead (known_at s is) (IsOneOf members) x (its s kept) h component_for for.state good),
          )

        module _ (new : List Kept) (adds : AddsNext members now alive list new) where
          pub visited_next : AreVisitedFrom members c matrix new (place + 1)
          visited_next s is = visited_more s members dead (known_at s is) list new place kept at (all s is) (of_node (λ z bits. AddsNext members z bits list new) s is adds)

          pub searched_next : (moves end : ℕ) → AreSearchedFrom members c matrix list place moves end → place < end → (good : Bool) → good ≡ true → JudgesGood members now alive good → AreSearchedFrom members c matrix new (place + 1) moves end
          searched_next moves end searched less good fine says s is =
              searched_more s members dead (known_at s is) list place moves end (searched s is) less kept at new (of_node (λ z bits. AddsNext members z bits list new) s is adds)
              (λ x h for. good_for s is x h for (subst (JudgesGood members (its s kept) kept.alive) fine (judged good says s is) h for.well_formed (agree_for x h for) for.possible))

        pub badly : (guarded : List Bool) → TellsGuarded c guarded → (moves end : ℕ) → AreSearchedFrom members c matrix list place moves end → place < end → (good : Bool) → good ≡ false → JudgesGood members now alive good → FromEachStart c matrix (λ s. IsShortestBad (IsOneOf members) s moves)
        badly guarded told moves end searched less good fails says s is =
            shortest_bad s members dead (known_at s is) list place moves end (searched s is) less kept at (first_tells_all c matrix guarded s told is)
            (λ x h for. bad_for s is x h for (subst (JudgesGood members (its s kept) kept.alive) fails (judged good says s is) h for.well_formed (agree_for x h for) for.possible))

    -- the level of the place
    pub searched_at : (old level : Level) (many : ℕ) → many ≡ length list → AreSearchedFrom members c matrix list place old.moves old.end → old.moves < old.end → (kept : Kept) → Some kept ≡ slice_get list place → IsLevelAt old place many level → (place < level.end) × (level.moves < level.end) × AreSearchedFrom members c matrix list place level.moves level.end
    searched_at old level many long known some kept at (inl (lt, moves, end)) = (
      omega (arith, lt, end),
      omega (arith, moves, end, some),
      λ s is. subst (λ x. AreSearched members s list place x level.end) (sym moves) (subst (λ x. AreSearched members s list place old.moves x) (sym end) (known s is)),
    )
    searched_at old level many long known some kept at (inr (le, moves, end)) = (
      (let within = slice_get_within list place kept (sym at) in omega (arith, within, long, end)),
      (let within = slice_get_within list place kept (sym at) in omega (arith, within, long, end, moves, some, le)),
      λ s is. subst (λ x. AreSearched members s list place x level.end) (sym moves) (subst (λ x. AreSearched members s list place (old.moves + 1) x) (sym (end ∙ long)) (searched_level s members dead (known_at s is) list place old.moves old.end (known s is) (all s is) le)),
    )
