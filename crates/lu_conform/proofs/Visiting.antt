-- One stage is visited.
use Rattle.std.proofs.Common.{arith, ◌≡◌, ℕ, ◌+◌, ◌<◌, ◌≤◌, List, [], ◌∷◌, length, reverse, Some, None, slice_get, sym, ◌∙◌, ap, subst}
use Rattle.std.specs.Prelude.{All}
use Rattle.std.specs.List.{IsDistinct}
use Rattle.std.specs.Map.{keys_of}
use Rattle.std.proofs.lemmas.List.Elements.{All-nil, All-cons}
use Rattle.lu_component.specs.Component.{Component, IsComponent}
use Rattle.lu_test.specs.declared.schedule.Move.{Move}
use Rattle.lu_test.specs.Matrix.{Matrix, IsMatrix}
use Rattle.lu_test.specs.Schedule.{IsMove}
use Rattle.lu_machine.specs.declared.event.Event.{Event}
use Rattle.lu_machine.specs.declared.thread.Activity.TheVariants.{Idle}
use Rattle.lu_machine.specs.declared.thread.Thread.{Thread}
use Rattle.lu_machine.specs.Runs.{Leads}
use Rattle.lu_machine.specs.Starts.{IsStart, Settles}
use Rattle.lu_machine.specs.States.{State}
use Rattle.lu_machine.proofs.Keeping.{step_moved, step_keeps_threads}
use Rattle.lu_machine.proofs.Moves.{feasible_is_move}
use Rattle.lu_machine.proofs.Starting.{start_component, start_matrix, start_same, start_there, start_threads}
use Rattle.lu_machine.proofs.StepLaws.{step_feasible}
use Rattle.lu_recorded.specs.declared.recorded.Recorded.{Recorded}
use Rattle.lu_conform.specs.Growing.{AddsNext, AddsStage, Entry}
use Rattle.lu_conform.specs.Packing.{CanStandWith, owners_in, standing_in, standing_with, values_in}
use Rattle.lu_conform.specs.Showing.{HasManyStages, IsEndOf, IsShortest, IsShownBy, IsShownByNone}
use Rattle.lu_conform.specs.Stages.{stage_of}
use Rattle.lu_conform.specs.Ways.{HasParentsBefore, IsWayTo}
use Rattle.lu_conform.proofs.Explored.{Explored, IsReached, ShowsFrom, explored_more, explored_none, its, known, none_shows, shortest_here}
use Rattle.lu_conform.proofs.Many.{no_more}
use Rattle.lu_conform.proofs.Same.{kept_eq}
use Rattle.lu_conform.proofs.WaysBack.{way_back_same}
use Rattle.std.proofs.lemmas.List.{length-replicate, reverse-reverse}

-- the moves of a schedule are moves of threads
all_moves : (u : List Move) (s end : State) (h : List Event) → IsComponent s.component → length s.threads ≤ 8 → Leads s u end h → All IsMove u
all_moves [] s end h is few leads = All-nil IsMove
all_moves (m ∷ u) s end h is few leads =
    let step = leads.3 in
    let moved = step_moved s m leads.0 leads.1 step in
    let same = step_keeps_threads s m leads.0 leads.1 step in
    let rest : All IsMove u = all_moves u leads.0 end leads.2 (subst IsComponent (sym moved.component) is) (omega arith) leads.4 in
    All-cons IsMove m u (feasible_is_move s is few m (step_feasible s m leads.0 leads.1 step)) rest

-- from each start
abbrev pub KnownTo : Component → Matrix → Recorded → List Entry → ℕ → Type 0
KnownTo c matrix recorded list place = (s : State) → IsStart c matrix s → Explored s recorded list place

module _ (c : Component) (matrix : Matrix) (settles : Settles c matrix) (recorded : Recorded) where
  pub known_none : (s : State) → IsStart c matrix s → (old list : List Entry) → old ≡ [] → AddsStage s.component s.matrix (stage_of s 0) None old list → KnownTo c matrix recorded list 0
  known_none s at old list none adds r is =
      let same = start_same c matrix s r at is in
      explored_none r recorded list
      (subst (λ (x : State). AddsStage x.component x.matrix (stage_of x 0) None [] list) same (subst (λ x. AddsStage s.component s.matrix (stage_of s 0) None x list) none adds))

  -- what shows it shows it from the start
  from_start : (s : State) → IsStart c matrix s → (u : List Move) → IsShownBy c matrix recorded u → ShowsFrom s recorded u
  from_start s is u (end, plays, stuck) =
      (end, subst (λ x. Leads x u end recorded.history) (start_same c matrix plays.0 s plays.1 is) plays.2, stuck)

  module _ (list : List Entry) (place : ℕ) (all : KnownTo c matrix recorded list place) where
    -- all were gone through
    pub none_there : length list ≤ place → IsShownByNone c matrix recorded
    none_there past u shows =
        let start = start_there c matrix settles in
        none_shows start.0 recorded list place past (all start.0 start.1) u (from_start start.0 start.1 u shows)

    -- they are too many
    pub too_many : IsDistinct kept_eq (keys_of list) → (most : ℕ) → most < length list → HasManyStages c matrix recorded most
    too_many distinct most many s is few =
        let x = all s is in
        let within = no_more s recorded list x.far x.reached distinct few.0 few.1 in
        omega (arith, within, few.2, many)

    module _ (m : State) (component : m.component ≡ c) (matrix_is : m.matrix ≡ matrix) (entry : Entry) (at : slice_get list place ≡ Some entry) where
      -- where the machine stands then
      here : (s : State) → IsStart c matrix s → standing_with m entry.0.numbers.items ≡ (its s entry.0).state
      here s is =
          let numbers = entry.0.numbers.items in
          let make : Component → Matrix → State = λ d x. record { component = d; matrix = x; cells = values_in d x numbers; locks = owners_in d numbers; threads = standing_in d x numbers } in
          ap (λ d. make d m.matrix) (component ∙ sym (start_component c matrix s is)) ∙ ap (λ x. make s.component x) (matrix_is ∙ sym (start_matrix c matrix s is))

      reached : (s : State) (is : IsStart c matrix s) → IsReached s recorded list (all s is).far place entry
      reached s is = known s recorded list list place entry at (all s is)

      pub parents_before : HasParentsBefore list
      parents_before = let there = start_there c matrix settles in (all there.0 there.1).parents

      pub can_stand : CanStandWith m.component m.matrix entry.0.numbers.items
      can_stand =
          let there = start_there c matrix settles in
          let s = there.0 in
          let x = (reached s there.1).stands in
          let y = subst (λ d. CanStandWith d s.matrix entry.0.numbers.items) (start_component c matrix s there.1 ∙ sym component) x in
          subst (λ d. CanStandWith m.component d entry.0.numbers.items) (start_matrix c matrix s there.1 ∙ sym matrix_is) y

      pub are_moves : IsComponent c → IsMatrix matrix → (u : List Move) → IsWayTo list place u → All IsMove u
      are_moves sound limits u way =
          let there = start_there c matrix settles in
          let s = there.0 in
          let idle : Thread = record { done = 0; activity = Idle } in
          let threads = ap length (start_threads c matrix s there.1) ∙ length-replicate (length matrix.threads) idle in
          let most = limits.limits.few in
          let r = reached s there.1 in
          let is : u ≡ reverse r.back = sym (reverse-reverse u) ∙ ap reverse (way_back_same list place (reverse u) r.back way r.way) in
          subst (All IsMove) (sym is)
          (all_moves (reverse r.back) s (its s entry.0).state r.history (subst IsComponent (sym (start_component c matrix s there.1)) sound) (omega (arith, threads, most)) r.leads)

      pub shortest_way : (u : List Move) → IsWayTo list place u → IsEndOf recorded (stage_of (standing_with m entry.0.numbers.items) entry.0.seen) → IsShortest c matrix recorded u
      shortest_way u way ends =
          let there = start_there c matrix settles in
          let s = there.0 in
          let ends' : IsEndOf recorded (its s entry.0) = subst (λ (x : State). IsEndOf recorded (stage_of x entry.0.seen)) (here s there.1) ends in
          let best = shortest_here s recorded list list place entry at (all s there.1) u way ends' in
          record {
            shows = (best.0.0, (s, there.1, best.0.1), best.0.2);
            shortest = λ v shows. best.1 v (from_start s there.1 v shows);
          }

      pub known_more : (IsEndOf recorded (stage_of (standing_with m entry.0.numbers.items) entry.0.seen) → ⊥) → (new : List Entry) → AddsNext (standing_with m entry.0.numbers.items) recorded.history entry.0.seen place list new → KnownTo c matrix recorded new (place + 1)
      known_more not_here new adds s is =
          let same = here s is in
          explored_more s recorded list new place entry at (all s is)
          (subst (λ z. AddsNext z recorded.history entry.0.seen place list new) same adds)
          (λ ends. not_here (subst (λ (z : State). IsEndOf recorded (stage_of z entry.0.seen)) (sym same) ends))
