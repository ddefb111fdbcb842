-- States are discovered from the places of a list, one after the other.
use Rattle.std.proofs.Common.{arith, ◌≡◌, ℕ, ◌+◌, ◌<◌, ◌≤◌, Bool, true, List, [], ◌∷◌, ◌++◌, length, map, Some, None, slice_get, sym, ◌∙◌, ap, subst, inl, inr, length-append, refl}
use Rattle.std.specs.Prelude.{◌↔◌, IsTrue}
use Rattle.std.specs.List.{IsDistinct}
use Rattle.std.proofs.lemmas.Bool.{cases_lt}
use Rattle.std.proofs.lemmas.List.{length-map, length_push}
use Rattle.std.proofs.lemmas.Option.{same_Some, slice_get_within}
use Rattle.lu_component.specs.Component.{Component}
use Rattle.lu_test.specs.declared.schedule.Move.{Move}
use Rattle.lu_test.specs.Matrix.{Matrix}
use Rattle.lu_machine.specs.declared.event.Event.{Event}
use Rattle.lu_machine.specs.declared.position.Position.{Position}
use Rattle.lu_machine.specs.Ends.{IsEnded}
use Rattle.lu_machine.specs.Positions.{CanStandAt, at_position}
use Rattle.lu_machine.specs.Runs.{Leads}
use Rattle.lu_machine.specs.Starts.{IsStart, Settles, first_move}
use Rattle.lu_machine.specs.States.{State}
use Rattle.lu_machine.specs.Steps.{Step}
use Rattle.lu_machine.proofs.Positions.{position_eq}
use Rattle.lu_machine.proofs.Starting.{start_component, start_matrix, start_same, start_there}
use Rattle.lu_graph.specs.declared.discovering.Discovered.{Discovered}
use Rattle.lu_graph.specs.declared.exploring_states.StateGraph.{StateGraph}
use Rattle.lu_graph.specs.Discovering.{Entry, Extends, HasOnly, IsReachedSo, IsSearched, SearchesNext, state_of}
use Rattle.lu_graph.specs.Exploring.{AreEnded, IsExplored}
use Rattle.lu_graph.specs.Hopeless.{HasAllStates, HasFewStates, NoMoveLeaves}
use Rattle.lu_graph.specs.Marking.{IsMarked}
use Rattle.lu_graph.specs.Nodes.{IsAmong}
use Rattle.lu_graph.proofs.Among.{all_at, at_first, at_image, at_last, at_left, image_at}
use Rattle.lu_graph.proofs.Many.{no_more}
use Rattle.lu_graph.proofs.OneState.{stand_equal}
use Rattle.lu_graph.proofs.Searched.{position_same, searched_none}

-- what is known before this place, of runs from s
pub record Charts (s : State) (found : Discovered) (place : ℕ) (ended : List Bool) : Type 0 where
  pub within : place ≤ length found.positions.keys
  pub searched : IsSearched s found place first_move
  pub marks : AreEnded s found.positions.keys place ended

-- from each start
abbrev pub ChartsFrom : Component → Matrix → Discovered → ℕ → List Bool → Type 0
ChartsFrom c matrix found place ended = (s : State) → IsStart c matrix s → Charts s found place ended

abbrev stand_of : Entry → Position
stand_of entry = entry.position

-- where a list is closed, each schedule leads to one of it
leads_among : (states : List State) → NoMoveLeaves states → (s : State) → IsAmong states s → (u : List Move) (end : State) (h : List Event) → Leads s u end h → IsAmong states end
leads_among states closed s is [] end h leads = subst (IsAmong states) (sym leads.0) is
leads_among states closed s is (m ∷ u) end h leads = leads_among states closed leads.0 (closed s m leads.0 leads.1 is leads.3) u end leads.2 leads.4

module _ (s : State) (found : Discovered) (place : ℕ) (ended : List Bool) (known : Charts s found place ended) where
  -- the entry of a position
  entry_of : (i : ℕ) (position : Position) → slice_get found.positions.keys i ≡ Some position → (entry : Entry) × (slice_get known.searched.entries i ≡ Some entry) × (entry.position ≡ position)
  entry_of i position at = at_image stand_of known.searched.entries i position (subst (λ (xs : List Position). slice_get xs i ≡ Some position) known.searched.positions at)

  pub stands_there : (i : ℕ) (position : Position) → slice_get found.positions.keys i ≡ Some position → CanStandAt s.component s.matrix position
  stands_there i position at =
      let one = entry_of i position at in
      subst (CanStandAt s.component s.matrix) one.2 (all_at (IsReachedSo s) known.searched.entries known.searched.reached i one.0 one.1).stands

  many : length found.positions.keys ≡ length known.searched.entries
  many = ap (λ (xs : List Position). length xs) known.searched.positions ∙ length-map known.searched.entries stand_of

  abbrev states : List State
  states = map (state_of s) known.searched.entries

  -- where all places were gone through
  pub has_all : length found.positions.keys ≤ place → HasAllStates s (map (state_of s) known.searched.entries)
  has_all all = record {
    start = (0, image_at (state_of s) known.searched.entries 0 known.searched.start.0 s known.searched.start.1 known.searched.start.2);
    closed = λ one m next event is step.
        (let entry = at_image (state_of s) known.searched.entries is.0 one is.1 in
        let within = slice_get_within known.searched.entries is.0 entry.0 entry.1 in
        let size = many in
        let before : is.0 < place = omega (arith, within, size, all) in
        let on = known.searched.closed is.0 entry.0 m next event (inl before) entry.1 (subst (λ (x : State). Step x m next event) (sym entry.2) step) in
        (on.0, image_at (state_of s) known.searched.entries on.0 on.1 next on.2 on.3));
  }

  pub has_few : (most : ℕ) → length found.positions.keys ≤ place → length found.positions.keys ≤ most → HasFewStates s most
  has_few most all few =
      let size = many in
      let same : length (map (state_of s) known.searched.entries) ≡ length known.searched.entries = length-map known.searched.entries (state_of s) in
      (map (state_of s) known.searched.entries, has_all all, omega (arith, size, same, few))

  -- no list that has all is shorter
  pub no_fewer : (most : ℕ) → IsDistinct position_eq found.positions.keys → HasFewStates s most → length found.positions.keys ≤ most
  no_fewer limit distinct few =
      let there : (i : ℕ) (position : Position) → slice_get found.positions.keys i ≡ Some position → (state : State) × IsAmong few.0 state × (at_position s position ≡ state) = λ i position at. (
        at_position s position,
        (let one = entry_of i position at in
            let reached = all_at (IsReachedSo s) known.searched.entries known.searched.reached i one.0 one.1 in
            subst (λ (p : Position). IsAmong few.0 (at_position s p)) one.2
            (leads_among few.0 few.1.closed s few.1.start one.0.path (state_of s one.0) reached.history reached.leads)),
        refl,
      ) in
      let less = no_more position_eq (λ position state. at_position s position ≡ state) (λ p q state one other. stand_equal s p q (one ∙ sym other)) found.positions.keys distinct few.0 there in
      let most = few.2 in
      omega (arith, less, most)

module _ (c : Component) (matrix : Matrix) (settles : Settles c matrix) where
  pub charts_none : (s : State) → IsStart c matrix s → (found : Discovered) → HasOnly s found → (ended : List Bool) → ended ≡ [] → ChartsFrom c matrix found 0 ended
  charts_none s at found only ended none r is =
      let same = start_same c matrix s r at is in
      record {
        within = omega arith;
        searched = searched_none r found (subst (λ (x : State). HasOnly x found) same only);
        marks = record { size = ap (λ (xs : List Bool). length xs) none; are = λ i position lt. absurd (omega arith) };
      }

  module _ (found : Discovered) (place : ℕ) (ended : List Bool) (all : ChartsFrom c matrix found place ended) where
    -- too many
    pub many_states : (most : ℕ) → IsDistinct position_eq found.positions.keys → most < length found.positions.keys → (s : State) → IsStart c matrix s → IsExplored most s None
    many_states most distinct more s is few = (let less = no_fewer s found place ended (all s is) most distinct few in omega (arith, less, more))

    -- all were gone through
    pub explored : (most : ℕ) (graph : StateGraph) → graph.found ≡ found → graph.ended.items ≡ ended → length found.positions.keys ≤ place → length found.positions.keys ≤ most → (s : State) → IsStart c matrix s → IsExplored most s (Some graph)
    explored most graph same marks past few s is =
        let x = all s is in
        let within = x.within in
        let whole : place ≡ length found.positions.keys = omega (arith, past, within) in
        let told : AreEnded s found.positions.keys (length found.positions.keys) ended = subst (λ (n : ℕ). AreEnded s found.positions.keys n ended) whole x.marks in (
          has_few s found place ended x most past few,
          record {
            number = place;
            all = subst (λ (f : Discovered). length f.positions.keys ≤ place) (sym same) past;
            searched = subst (λ (f : Discovered). IsSearched s f place first_move) (sym same) x.searched;
            ended = subst (λ (f : Discovered). AreEnded s f.positions.keys (length f.positions.keys) graph.ended.items) (sym same)
                (subst (λ (xs : List Bool). AreEnded s found.positions.keys (length found.positions.keys) xs) (sym marks) told);
          },
        )

    module _ (m : State) (component : m.component ≡ c) (matrix_is : m.matrix ≡ matrix) (position : Position) (at : slice_get found.positions.keys place ≡ Some position) where
      here : (s : State) → IsStart c matrix s → at_position m position ≡ at_position s position
      here s is = position_same m s position (component ∙ sym (start_component c matrix s is)) (matrix_is ∙ sym (start_matrix c matrix s is))

      pub can_stand : CanStandAt m.component m.matrix position
      can_stand =
          let there = start_there c matrix settles in
          let s = there.0 in
          let x = stands_there s found place ended (all s there.1) place position at in
          let y = subst (λ d. CanStandAt d s.matrix position) (start_component c matrix s there.1 ∙ sym component) x in
          subst (λ d. CanStandAt m.component d position) (start_matrix c matrix s there.1 ∙ sym matrix_is) y

      ended_more : (s : State) (is : IsStart c matrix s) (new : Discovered) → Extends found.positions.keys new.positions.keys → (over : Bool) → IsTrue over ↔ IsEnded (at_position m position) → AreEnded s new.positions.keys (place + 1) (ended ++ over ∷ [])
      ended_more s is new stay over tells =
          let x = all s is in
          let within = slice_get_within found.positions.keys place position at in
          record {
            size = (let long = length_push ended over in let size = x.marks.size in omega (arith, long, size));
            are = λ i q lt there.
                (let old : slice_get found.positions.keys i ≡ Some q = at_first found.positions.keys stay.0 i q (omega (arith, within, lt)) (subst (λ (xs : List Position). slice_get xs i ≡ Some q) stay.1 there) in
                let size = x.marks.size in
                elim (cases_lt i place) as (λ _. IsMarked (ended ++ over ∷ []) i ↔ IsEnded (at_position s q)) [
                  | inl less ↦
                      (let told = x.marks.are i q less old in (
                        (λ marked. told.0 (at_first ended (over ∷ []) i true (omega (arith, less, size)) marked)),
                        (λ e. at_left ended (over ∷ []) i true (told.1 e)),
                      ))
                  | inr least ↦
                      (let same : i ≡ place = omega (arith, lt, least) in
                      let it : position ≡ q = same_Some position q (sym at ∙ (ap (slice_get found.positions.keys) (sym same) ∙ old)) in
                      let stands : at_position m position ≡ at_position s q = here s is ∙ ap (λ (p : Position). at_position s p) it in
                      let last : slice_get (ended ++ over ∷ []) i ≡ Some over = subst (λ (n : ℕ). slice_get (ended ++ over ∷ []) n ≡ Some over) (size ∙ sym same) (at_last ended over) in (
                        (λ marked. subst IsEnded stands (tells.0 (same_Some over true (sym last ∙ marked)))),
                        (λ e. last ∙ ap (λ (b : Bool). Some b) (tells.1 (subst IsEnded (sym stands) e))),
                      ))
                ]);
          }

      pub charts_more : (now : State) → now ≡ at_position m position → (new : Discovered) → Extends found.positions.keys new.positions.keys → SearchesNext now place found new → (over : Bool) → IsTrue over ↔ IsEnded now → (marks : List Bool) → marks ≡ ended ++ over ∷ [] → ChartsFrom c matrix new (place + 1) marks
      charts_more now stands new stay next over tells marks pushed s is =
          let within = slice_get_within found.positions.keys place position at in
          let told : IsTrue over ↔ IsEnded (at_position m position) = subst (λ (x : State). IsTrue over ↔ IsEnded x) stands tells in
          record {
            within =
                (let size : length new.positions.keys ≡ length found.positions.keys + length stay.0 = ap (λ (xs : List Position). length xs) stay.1 ∙ length-append found.positions.keys stay.0 in
                omega (arith, within, size));
            searched = next s position at (sym (stands ∙ here s is)) (all s is).searched;
            marks = subst (λ (xs : List Bool). AreEnded s new.positions.keys (place + 1) xs) (sym pushed) (ended_more s is new stay over told);
          }
