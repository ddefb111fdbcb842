-- From which of the states that were discovered a schedule ends, and the first from which none does.
use Rattle.std.proofs.Common.{arith, ◌≡◌, ℕ, ◌<◌, ◌≤◌, Bool, true, false, List, [], ◌∷◌, ◌++◌, length, map, Option, Some, None, slice_get, refl, sym, ◌∙◌, ap, subst, inl, inr, append_assoc}
use Rattle.std.proofs.lemmas.Bool.{cases_lt}
use Rattle.std.proofs.lemmas.List.{append-nil, length-map}
use Rattle.std.proofs.lemmas.Option.{same_Some, slice_get_within}
use Rattle.lu_test.specs.declared.schedule.Move.{Move}
use Rattle.lu_test.specs.Schedule.{AreMoves}
use Rattle.lu_machine.specs.declared.event.Event.{Event}
use Rattle.lu_machine.specs.declared.position.Position.{Position}
use Rattle.lu_machine.specs.Ends.{IsEnded}
use Rattle.lu_machine.specs.Runs.{Leads, with_event}
use Rattle.lu_machine.specs.Schedules.{Reaches}
use Rattle.lu_machine.specs.Starts.{first_move}
use Rattle.lu_machine.specs.States.{State}
use Rattle.lu_machine.specs.Steps.{Step}
use Rattle.lu_graph.specs.declared.discovering.Discovery.{Discovery}
use Rattle.lu_graph.specs.declared.edge.Edge.{Edge}
use Rattle.lu_graph.specs.declared.exploring_states.StateGraph.{StateGraph}
use Rattle.lu_graph.specs.Discovering.{Entry, IsMoveAlong, IsNoLater, IsReachedSo, IsSearched, LeadsOn, edge, state_of}
use Rattle.lu_graph.specs.Exploring.{AreInOrder, ArePaths, IsStateGraph}
use Rattle.lu_graph.specs.Hopeless.{IsFirstLost, IsHopeless, LosesHope, NeverLosesHope}
use Rattle.lu_graph.specs.Marking.{AreMarkedBack, IsMarked, LeadsToMark}
use Rattle.lu_graph.proofs.Among.{all_at, at_image, image_at}
use Rattle.lu_graph.proofs.Earlier.{no_later_push, no_later_trans, not_longer, not_smaller}
use Rattle.lu_graph.proofs.Many.{some_at}
use Rattle.lu_graph.proofs.Spread.{IsFirstUnmarked}

abbrev pub position_of : Entry → Position
position_of entry = entry.position

abbrev pub path_of : Entry → List Move
path_of entry = entry.path

module _ (s : State) (graph : StateGraph) (is : IsStateGraph s graph) where
  abbrev known : IsSearched s graph.found is.number first_move
  known = is.searched

  abbrev edges : List Edge
  edges = graph.found.edges.items

  abbrev ended : List Bool
  ended = graph.ended.items

  pub many : length graph.found.positions.keys ≡ length known.entries
  many = ap (λ (xs : List Position). length xs) known.positions ∙ length-map known.entries position_of

  past : (i : ℕ) (entry : Entry) → slice_get known.entries i ≡ Some entry → i < is.number
  past i entry at = let within = slice_get_within known.entries i entry at in let all = is.all in let m = many in omega (arith, within, all, m)

  key_at : (i : ℕ) (entry : Entry) → slice_get known.entries i ≡ Some entry → slice_get graph.found.positions.keys i ≡ Some entry.position
  key_at i entry at = subst (λ (xs : List Position). slice_get xs i ≡ Some entry.position) (sym known.positions) (image_at position_of known.entries i entry entry.position at refl)

  leads_on : (i : ℕ) (entry : Entry) (m : Move) (next : State) (event : Option Event) → slice_get known.entries i ≡ Some entry → Step (state_of s entry) m next event → LeadsOn s known.entries edges i entry m next
  leads_on i entry m next event at step = known.closed i entry m next event (inl (past i entry at)) at step

  marks : (i : ℕ) (entry : Entry) → slice_get known.entries i ≡ Some entry → (IsMarked ended i → IsEnded (state_of s entry)) × (IsEnded (state_of s entry) → IsMarked ended i)
  marks i entry at =
      let key = key_at i entry at in
      let within = slice_get_within graph.found.positions.keys i entry.position key in
      let told = is.ended.are i entry.position within key in
      (told.0, told.1)

  -- ---- ways along edges, and schedules that end

  ends_by_way : (way : List ℕ) (i : ℕ) (entry : Entry) → slice_get known.entries i ≡ Some entry → LeadsToMark edges ended i way → (u : List Move) × Reaches (state_of s entry) u (λ end _. IsEnded end)
  ends_by_way [] i entry at h = ([], record { end = state_of s entry; history = []; leads = (refl, refl); holds = (marks i entry at).0 h })
  ends_by_way (j ∷ way) i entry at h =
      let e = all_at (IsMoveAlong s known.entries) edges known.along h.0.0 (edge i j) h.0.1 in
      let rest = ends_by_way way j e.1 e.5 h.1 in
      let same : e.0 ≡ entry = same_Some e.0 entry (sym e.4 ∙ at) in
      let step : Step (state_of s entry) e.2 (state_of s e.1) e.3 = subst (λ (x : Entry). Step (state_of s x) e.2 (state_of s e.1) e.3) same e.6 in
      (e.2 ∷ rest.0, record { end = rest.1.end; history = with_event e.3 rest.1.history; leads = (state_of s e.1, e.3, rest.1.history, step, rest.1.leads, refl); holds = rest.1.holds })

  way_by_ends : (u : List Move) (i : ℕ) (entry : Entry) (end : State) (h : List Event) → slice_get known.entries i ≡ Some entry → Leads (state_of s entry) u end h → IsEnded end → (way : List ℕ) × LeadsToMark edges ended i way
  way_by_ends [] i entry end h at leads over = ([], (marks i entry at).1 (subst IsEnded leads.0 over))
  way_by_ends (m ∷ u) i entry end h at leads over =
      let on = leads_on i entry m leads.0 leads.1 at leads.3 in
      let rest = way_by_ends u on.0 on.1 end leads.2 on.2 (subst (λ (x : State). Leads x u end leads.2) (sym on.3) leads.4) over in
      (on.0 ∷ rest.0, (on.5, rest.1))

  -- ---- each schedule leads to an entry whose path is no later

  met_from : (u : List Move) (i : ℕ) (entry : Entry) (before : List Move) (end : State) (h : List Event) → slice_get known.entries i ≡ Some entry → IsNoLater entry.path before → Leads (state_of s entry) u end h
      → (j : ℕ) × (other : Entry) × (slice_get known.entries j ≡ Some other) × (state_of s other ≡ end) × IsNoLater other.path (before ++ u)
  met_from [] i entry before end h at late leads = (i, entry, at, sym leads.0, subst (λ (x : List Move). IsNoLater entry.path x) (sym (append-nil before)) late)
  met_from (m ∷ u) i entry before end h at late leads =
      let on = leads_on i entry m leads.0 leads.1 at leads.3 in
      let later = no_later_trans on.1.path (entry.path ++ m ∷ []) (before ++ m ∷ []) on.4 (no_later_push entry.path before m late) in
      let rest = met_from u on.0 on.1 (before ++ m ∷ []) end leads.2 on.2 later (subst (λ (x : State). Leads x u end leads.2) (sym on.3) leads.4) in
      (rest.0, rest.1, rest.2, rest.3, subst (λ (x : List Move). IsNoLater rest.1.path x) (append_assoc before (m ∷ []) u) rest.4)

  met : (v : List Move) (end : State) (h : List Event) → Leads s v end h → (j : ℕ) × (other : Entry) × (slice_get known.entries j ≡ Some other) × (state_of s other ≡ end) × IsNoLater other.path v
  met v end h leads =
      let start = known.start in
      met_from v 0 start.0 [] end h start.1 (inl start.3) (subst (λ (x : State). Leads x v end h) (sym start.2) leads)

  -- ---- what is marked at last

  module _ (hopeful : List Bool) (size : length hopeful ≡ length graph.ended.items) (are : AreMarkedBack graph.found.edges.items graph.ended.items hopeful) where
    sized : length hopeful ≡ length known.entries
    sized = size ∙ (is.ended.size ∙ many)

    hopeless_here : (i : ℕ) (entry : Entry) → slice_get known.entries i ≡ Some entry → slice_get hopeful i ≡ Some false → IsHopeless (state_of s entry)
    hopeless_here i entry at unmarked u r =
        let way = way_by_ends u i entry r.end r.history at r.leads r.holds in
        let marked = (are i).1 way in
        let same = same_Some false true (sym unmarked ∙ marked) in
        cc

    never_hopeless : (i : ℕ) (entry : Entry) → slice_get known.entries i ≡ Some entry → IsMarked hopeful i → IsHopeless (state_of s entry) → ⊥
    never_hopeless i entry at marked hopeless =
        let way = (are i).0 marked in
        let ends = ends_by_way way.0 i entry at way.1 in
        hopeless ends.0 ends.1

    -- a schedule that loses hope leads to an entry that is not marked
    lost_at : (v : List Move) → LosesHope s v → (j : ℕ) × (other : Entry) × (slice_get known.entries j ≡ Some other) × IsNoLater other.path v × (IsMarked hopeful j → ⊥) × (j < length hopeful)
    lost_at v r =
        let m = met v r.end r.history r.leads in
        let within = slice_get_within known.entries m.0 m.1 m.2 in
        let z = sized in
        (m.0, m.1, m.2, m.4, (λ marked. never_hopeless m.0 m.1 m.2 marked (subst IsHopeless (sym m.3) r.holds)), omega (arith, within, z))

    -- where all are marked, none does
    pub none_lost : IsFirstUnmarked hopeful None → (v : List Move) → LosesHope s v → ⊥
    none_lost all v r = let x = lost_at v r in x.4 (all x.0 x.5)

    module _ (place : ℕ) (first : IsFirstUnmarked hopeful (Some place)) where
      there : (entry : Entry) × (slice_get known.entries place ≡ Some entry)
      there =
          let within = slice_get_within hopeful place false first.0 in
          let z = sized in
          some_at known.entries place (omega (arith, within, z))

      -- the path to it is no later than a schedule that loses hope
      no_later : (v : List Move) → LosesHope s v → IsNoLater there.0.path v
      no_later v r =
          let x = lost_at v r in
          elim (cases_lt x.0 place) as (λ _. IsNoLater there.0.path v) [
            | inl lt ↦ absurd (x.4 (first.1 x.0 lt))
            | inr le ↦ elim (cases_lt place x.0) as (λ _. IsNoLater there.0.path v) [
              | inl lt ↦ no_later_trans there.0.path x.1.path v (inr (known.rising place x.0 there.0 x.1 lt there.1 x.2)) x.3
              | inr ge ↦
                  (let same : x.0 ≡ place = omega (arith, le, ge) in
                  let it : x.1 ≡ there.0 = same_Some x.1 there.0 (sym x.2 ∙ (ap (slice_get known.entries) same ∙ there.1)) in
                  subst (λ (e : Entry). IsNoLater e.path v) it x.3)
            ]
          ]

      lost : LosesHope s there.0.path
      lost =
          let before = all_at (IsReachedSo s) known.entries known.reached place there.0 there.1 in
          record { end = state_of s there.0; history = before.history; leads = before.leads; holds = hopeless_here place there.0 there.1 first.0 }

      paths_here : slice_get (map path_of known.entries) place ≡ Some there.0.path
      paths_here = image_at path_of known.entries place there.0 there.0.path there.1 refl

      -- it is the first that does
      pub first_lost : (u : List Move) → AreMoves u → slice_get (map path_of known.entries) place ≡ Some u → IsFirstLost s u
      first_lost u moves at =
          let same : there.0.path ≡ u = same_Some there.0.path u (sym paths_here ∙ at) in
          subst (IsFirstLost s) same (record {
            moves = subst AreMoves (sym same) moves;
            lost = lost;
            shortest = λ v less r. not_longer there.0.path v (no_later v r) less;
            least = λ v long smaller r. not_smaller there.0.path v (no_later v r) long smaller;
          })

      -- so some schedule does
      pub some_lost : NeverLosesHope s → ⊥
      some_lost never = never there.0.path lost

      -- where its path is longer than a schedule, no schedule does
      pub all_longer : (u : List Move) → slice_get (map path_of known.entries) place ≡ Some u → 4112 < length u → (v : List Move) → AreMoves v → LosesHope s v → ⊥
      all_longer u at long v moves r =
          let same : there.0.path ≡ u = same_Some there.0.path u (sym paths_here ∙ at) in
          let few : length v ≤ 4112 = moves.0 in
          not_longer u v (subst (λ (x : List Move). IsNoLater x v) same (no_later v r)) (omega (arith, few, long))

  -- ---- the ways by which states were discovered

  abbrev pub paths : List (List Move)
  paths = map path_of known.entries

  entry_at : (i : ℕ) (way : Discovery) → slice_get graph.found.discoveries.items i ≡ Some way → (entry : Entry) × (slice_get known.entries i ≡ Some entry) × (entry.way ≡ way)
  entry_at i way at = at_image (λ (entry : Entry). entry.way) known.entries i way (subst (λ (xs : List Discovery). slice_get xs i ≡ Some way) known.discoveries at)

  pub are_paths : ArePaths graph.found.discoveries.items (map path_of known.entries)
  are_paths = record {
    start = image_at path_of known.entries 0 known.start.0 [] known.start.1 known.start.3;
    each = λ i way lt at.
        (let one = entry_at i way at in
        let parent = known.parents i one.0 lt one.1 in
        let from : slice_get (map path_of known.entries) way.from ≡ Some parent.0.path =
        subst (λ (d : Discovery). slice_get (map path_of known.entries) d.from ≡ Some parent.0.path) one.2 (image_at path_of known.entries one.0.way.from parent.0 parent.0.path parent.2 refl) in
        (parent.0.path, from, image_at path_of known.entries i one.0 (parent.0.path ++ way.made ∷ []) one.1 (parent.3 ∙ ap (λ (d : Discovery). parent.0.path ++ d.made ∷ []) one.2)));
  }

  pub in_order : AreInOrder graph.found.discoveries.items
  in_order i way lt at =
      let one = entry_at i way at in
      let parent = known.parents i one.0 lt one.1 in
      subst (λ (d : Discovery). d.from < i) one.2 parent.1
