-- What was discovered, as the moves of a state are gone through.
use Rattle.std.proofs.Common.{arith, ◌≡◌, ◌⊎◌, ℕ, ◌+◌, ◌<◌, ◌≤◌, List, [], ◌∷◌, ◌++◌, length, map, Option, Some, slice_get, refl, sym, ◌∙◌, ap, subst, inl, inr}
use Rattle.std.specs.Prelude.{All}
use Rattle.std.proofs.lemmas.Bool.{cases_lt}
use Rattle.std.proofs.lemmas.List.{append-nil, length_push, map-append}
use Rattle.std.proofs.lemmas.List.Elements.{All-append, All-cons, All-nil, All-push, All-weaker}
use Rattle.std.proofs.lemmas.Option.{same_Some, slice_get_within}
use Rattle.lu_component.specs.Component.{Component}
use Rattle.lu_test.specs.declared.schedule.Move.{Move}
use Rattle.lu_test.specs.Matrix.{Matrix}
use Rattle.lu_test.specs.Schedule.{IsMove}
use Rattle.lu_machine.specs.declared.event.Event.{Event}
use Rattle.lu_machine.specs.declared.position.Position.{Position}
use Rattle.lu_machine.specs.Order.{IsMoveBelow}
use Rattle.lu_machine.specs.Positions.{CanStandAt, at_position}
use Rattle.lu_machine.specs.Runs.{Leads, with_event}
use Rattle.lu_machine.specs.Starts.{first_move}
use Rattle.lu_machine.specs.States.{State}
use Rattle.lu_machine.specs.Steps.{Step, picks_of}
use Rattle.lu_machine.proofs.Keeping.{step_moved}
use Rattle.lu_machine.proofs.Moves.{feasible_within}
use Rattle.lu_machine.proofs.Orders.{same_move}
use Rattle.lu_machine.proofs.Paths.{child_leads}
use Rattle.lu_machine.proofs.StepLaws.{step_feasible, step_same}
use Rattle.lu_graph.specs.declared.discovering.Discovered.{Discovered}
use Rattle.lu_graph.specs.declared.discovering.Discovery.{Discovery}
use Rattle.lu_graph.specs.declared.edge.Edge.{Edge}
use Rattle.lu_graph.specs.Discovering.{Discovers, Entry, HasOnly, HasParent, IsEarlier, IsMoveAlong, IsNoLater, IsPast, IsReachedSo, IsSearched, LeadsOn, discovery, edge, state_of}
use Rattle.lu_graph.proofs.Among.{all_at, at_either, at_first, at_image, at_last, at_left, only_one}
use Rattle.lu_graph.proofs.Earlier.{earlier_last, earlier_push, earlier_trans}

-- the same position in two runs of one component and matrix
pub position_same : (a b : State) (p : Position) → a.component ≡ b.component → a.matrix ≡ b.matrix → at_position a p ≡ at_position b p
position_same a b p c m =
    let make : Component → Matrix → State = λ d x. record { component = d; matrix = x; cells = p.cells.items; locks = p.locks.items; threads = p.threads.items } in
    ap (λ d. make d a.matrix) c ∙ ap (λ x. make b.component x) m

-- what was searched, with the entry at the place
abbrev pub SearchedAt : State → Discovered → ℕ → Move → Entry → Type 0
SearchedAt s found place limit here = (known : IsSearched s found place limit) × (slice_get known.entries place ≡ Some here)

-- ---- the start

pub searched_none : (s : State) (found : Discovered) → HasOnly s found → IsSearched s found 0 first_move
searched_none s found (position, keys, ways, none, stands, is) =
    let entry : Entry = record { position = position; way = discovery 0 first_move; path = [] } in
    let whole : IsReachedSo s entry = record { stands = stands; move = (omega arith, omega arith); history = []; leads = (is, refl) } in
    record {
      entries = entry ∷ [];
      positions = keys;
      discoveries = ways;
      start = (entry, refl, is, refl);
      reached = All-cons (IsReachedSo s) entry [] whole (All-nil (IsReachedSo s));
      rising = λ i j before after lt hi hj. (let z = (only_one entry j after hj).0 in absurd (omega (arith, lt, z)));
      parents = λ i one lt hi. (let z = (only_one entry i one hi).0 in absurd (omega (arith, lt, z)));
      closed = λ i one m next event past hi step. absurd (elim past as (λ _. ⊥) [
        | inl lt ↦ omega arith
        | inr (here, below) ↦ elim below as (λ _. ⊥) [ inl lt ↦ omega arith | inr (e, lt) ↦ omega arith ]
      ]);
      along = subst (All (IsMoveAlong s (entry ∷ []))) (sym none) (All-nil (IsMoveAlong s (entry ∷ [])));
      frontier = λ i one here hi hh.
          (let same : entry ≡ one = (only_one entry i one hi).1 in
          let empty : length one.path ≡ 0 = ap (λ (e : Entry). length e.path) (sym same) in
          let long = length_push here.path first_move in
          inl (omega (arith, empty, long)));
    }

-- ---- one move more

-- the last of these entries is one that is added
pub record IsNew (s : State) (place : ℕ) (here : Entry) (m : Move) (x : Entry) : Type 0 where
  pub reached : IsReachedSo s x
  pub way : x.way ≡ discovery place m
  pub path : x.path ≡ here.path ++ m ∷ []

leads_on_more : (s : State) (old more : List Entry) (edges others : List Edge) (i : ℕ) (entry : Entry) (m : Move) (next : State) → LeadsOn s old edges i entry m next → LeadsOn s (old ++ more) (edges ++ others) i entry m next
leads_on_more s old more edges others i entry m next (j, other, at, is, late, (k, among)) =
    (j, other, at_left old more j other at, is, late, (k, at_left edges others k (edge i j) among))

along_more : (s : State) (old more : List Entry) (e : Edge) → IsMoveAlong s old e → IsMoveAlong s (old ++ more) e
along_more s old more e (before, after, m, event, at, to, step) =
    (before, after, m, event, at_left old more e.from before at, at_left old more e.to after to, step)

module _ (s : State) (old new : Discovered) (place t p : ℕ) (here : Entry) (next : State) (event : Option Event) where
  abbrev now : Move
  now = record { thread = t; pick = p }

  module _ (known : IsSearched s old place (record { thread = t; pick = p })) (at : slice_get known.entries place ≡ Some here) (move : IsMove (record { thread = t; pick = p })) (step : Step (state_of s here) (record { thread = t; pick = p }) next event) where
    abbrev limit : Move
    limit = record { thread = t; pick = p + 1 }

    component_is : next.component ≡ s.component
    component_is = (step_moved (state_of s here) now next event step).component

    matrix_is : next.matrix ≡ s.matrix
    matrix_is = (step_moved (state_of s here) now next event step).matrix

    up : IsMoveBelow now limit
    up = inr (refl, omega arith)

    module _ (more : List Entry) (only : (i : ℕ) (x : Entry) → slice_get more i ≡ Some x → (i ≡ 0) × IsNew s place here (record { thread = t; pick = p }) x) where
      abbrev entries : List Entry
      entries = known.entries ++ more

      fresh : (i : ℕ) (x : Entry) → slice_get entries i ≡ Some x → ((i < length known.entries) × (slice_get known.entries i ≡ Some x)) ⊎ ((i ≡ length known.entries) × IsNew s place here now x)
      fresh i x h = elim (at_either known.entries more i x h) as (λ _. ((i < length known.entries) × (slice_get known.entries i ≡ Some x)) ⊎ ((i ≡ length known.entries) × IsNew s place here now x)) [
        | inl old_one ↦ inl old_one
        | inr (k, is, e) ↦ (let z = only k x e in let none = z.0 in inr (omega (arith, is, none), z.1))
      ]

      within : place < length known.entries
      within = slice_get_within known.entries place here at

      old_at : (i : ℕ) (x : Entry) → i ≤ place → slice_get entries i ≡ Some x → slice_get known.entries i ≡ Some x
      old_at i x le h = let w = within in at_first known.entries more i x (omega (arith, w, le)) h

      still_here : slice_get entries place ≡ Some here
      still_here = at_left known.entries more place here at

      -- each path is no later than that of the entry here with this move
      none_later : (i : ℕ) (x : Entry) → slice_get entries i ≡ Some x → IsNoLater x.path (here.path ++ now ∷ [])
      none_later i x h = elim (fresh i x h) as (λ _. IsNoLater x.path (here.path ++ now ∷ [])) [
        | inl (lt, e) ↦ inr (known.frontier i x here e at)
        | inr (last, is) ↦ inl is.path
      ]

      all_reached : (i : ℕ) (x : Entry) → slice_get more i ≡ Some x → IsReachedSo s x
      all_reached i x h = (only i x h).1.reached

      rising : (i j : ℕ) (before after : Entry) → i < j → slice_get entries i ≡ Some before → slice_get entries j ≡ Some after → IsEarlier before.path after.path
      rising i j before after lt hi hj =
          elim (fresh i before hi) as (λ _. IsEarlier before.path after.path) [
            | inl (less, e) ↦ elim (fresh j after hj) as (λ _. IsEarlier before.path after.path) [
              | inl (under, f) ↦ known.rising i j before after lt e f
              | inr (last, is) ↦ subst (λ (u : List Move). IsEarlier before.path u) (sym is.path) (known.frontier i before here e at)
            ]
            | inr (first, _) ↦ elim (fresh j after hj) as (λ _. IsEarlier before.path after.path) [
              | inl (under, f) ↦ absurd (omega (arith, first, under, lt))
              | inr (last, is) ↦ absurd (omega (arith, first, last, lt))
            ]
          ]

      parent_of_new : (i : ℕ) (x : Entry) → i ≡ length known.entries → IsNew s place here now x → HasParent entries i x
      parent_of_new i x last is =
          let way = sym is.way in
          let w = within in
          let less : place < i = omega (arith, last, w) in (
            here,
            subst (λ (d : Discovery). d.from < i) way less,
            subst (λ (d : Discovery). slice_get entries d.from ≡ Some here) way still_here,
            is.path ∙ ap (λ (d : Discovery). here.path ++ d.made ∷ []) way,
          )

      parents : (i : ℕ) (x : Entry) → 0 < i → slice_get entries i ≡ Some x → HasParent entries i x
      parents i x lt h = elim (fresh i x h) as (λ _. HasParent entries i x) [
        | inl (less, e) ↦ (let r = known.parents i x lt e in (r.0, r.1, at_left known.entries more x.way.from r.0 r.2, r.3))
        | inr (last, is) ↦ parent_of_new i x last is
      ]

      module _ (adds : Discovers next place (record { thread = t; pick = p }) old new) (positions : new.positions.keys ≡ map (λ (entry : Entry). entry.position) (known.entries ++ more)) where
        -- the entry to which the move leads
        met : (other : Entry) × (slice_get entries adds.to ≡ Some other) × (state_of s other ≡ next)
        met =
            let one = at_image (λ (entry : Entry). entry.position) entries adds.to adds.position (subst (λ (xs : List Position). slice_get xs adds.to ≡ Some adds.position) positions adds.there) in
            let there : at_position s one.0.position ≡ at_position s adds.position = ap (λ (q : Position). at_position s q) one.2 in
            (one.0, one.1, there ∙ (sym (position_same next s adds.position component_is matrix_is) ∙ adds.is))

        leads_here : LeadsOn s entries new.edges.items place here now next
        leads_here =
            let other = met in (
              adds.to,
              other.0,
              other.1,
              other.2,
              none_later adds.to other.0 other.1,
              (length old.edges.items, subst (λ (es : List Edge). slice_get es (length old.edges.items) ≡ Some (edge place adds.to)) (sym adds.edges) (at_last old.edges.items (edge place adds.to))),
            )

        led_before : (i : ℕ) (entry : Entry) (m : Move) (to : State) → LeadsOn s known.entries old.edges.items i entry m to → LeadsOn s entries new.edges.items i entry m to
        led_before i entry m to leads =
            subst (λ (es : List Edge). LeadsOn s entries es i entry m to) (sym adds.edges) (leads_on_more s known.entries more old.edges.items (edge place adds.to ∷ []) i entry m to leads)

        closed : (i : ℕ) (entry : Entry) (m : Move) (to : State) (e : Option Event) → IsPast i m place limit → slice_get entries i ≡ Some entry → Step (state_of s entry) m to e → LeadsOn s entries new.edges.items i entry m to
        closed i entry m to e (inl lt) h other =
            led_before i entry m to (known.closed i entry m to e (inl lt) (old_at i entry (omega (arith, lt)) h) other)
        closed i entry m to e (inr (same, inl lt)) h other =
            led_before i entry m to (known.closed i entry m to e (inr (same, inl lt)) (old_at i entry (omega (arith, same)) h) other)
        closed i entry m to e (inr (same, inr (thread, lt))) h other =
            elim (cases_lt m.pick p) as (λ _. LeadsOn s entries new.edges.items i entry m to) [
              | inl less ↦ led_before i entry m to (known.closed i entry m to e (inr (same, inr (thread, less))) (old_at i entry (omega (arith, same)) h) other)
              | inr least ↦
                  (let one : now ≡ m = same_move now m (sym thread) (omega arith) in
                  let it : here ≡ entry = same_Some here entry (sym at ∙ (ap (slice_get known.entries) (sym same) ∙ old_at i entry (omega (arith, same)) h)) in
                  let made : Step (state_of s entry) m next event = subst (λ (x : Entry). Step (state_of s x) m next event) it (subst (λ (x : Move). Step (state_of s here) x next event) one step) in
                  let there : next ≡ to = (step_same (state_of s entry) m next to event e made other).0 in
                  subst (λ (x : State). LeadsOn s entries new.edges.items i entry m x) there
                  (subst (λ (x : Move). LeadsOn s entries new.edges.items i entry x next) one
                  (subst (λ (x : Entry). LeadsOn s entries new.edges.items i x now next) it
                  (subst (λ (k : ℕ). LeadsOn s entries new.edges.items k here now next) (sym same) leads_here))))
            ]

        along_here : IsMoveAlong s entries (edge place adds.to)
        along_here = let other = met in (here, other.0, now, event, still_here, other.1, subst (λ (x : State). Step (state_of s here) now x event) (sym other.2) step)

        along : All (IsMoveAlong s entries) new.edges.items
        along =
            subst (All (IsMoveAlong s entries)) (sym adds.edges)
            (All-push (IsMoveAlong s entries) old.edges.items (edge place adds.to)
            (All-weaker (IsMoveAlong s known.entries) (IsMoveAlong s entries) (λ x h. along_more s known.entries more x h) old.edges.items known.along) along_here)

        frontier : (i : ℕ) (entry one : Entry) → slice_get entries i ≡ Some entry → slice_get entries place ≡ Some one → IsEarlier entry.path (one.path ++ limit ∷ [])
        frontier i entry one hi ho =
            let it : here ≡ one = same_Some here one (sym still_here ∙ ho) in
            let after : IsEarlier (here.path ++ now ∷ []) (here.path ++ limit ∷ []) = earlier_last here.path now limit up in
            subst (λ (x : Entry). IsEarlier entry.path (x.path ++ limit ∷ [])) it
            (elim (none_later i entry hi) as (λ _. IsEarlier entry.path (here.path ++ limit ∷ [])) [
              | inl same ↦ subst (λ (u : List Move). IsEarlier u (here.path ++ limit ∷ [])) (sym same) after
              | inr less ↦ earlier_trans entry.path (here.path ++ now ∷ []) (here.path ++ limit ∷ []) less after
            ])

        searched : All (IsReachedSo s) more → new.discoveries.items ≡ map (λ (entry : Entry). entry.way) (known.entries ++ more) → SearchedAt s new place (record { thread = t; pick = p + 1 }) here
        searched reached ways =
            let after : IsSearched s new place limit = record {
              entries = entries;
              positions = positions;
              discoveries = ways;
              start = (known.start.0, at_left known.entries more 0 known.start.0 known.start.1, known.start.2, known.start.3);
              reached = All-append (IsReachedSo s) known.entries more known.reached reached;
              rising = rising;
              parents = parents;
              closed = closed;
              along = along;
              frontier = frontier;
            } in
            (after, still_here)

    no_entry : (i : ℕ) (x : Entry) → slice_get [] i ≡ Some x → (i ≡ 0) × IsNew s place here now x
    no_entry i x h = absurd (cc)

    pub searched_more : Discovers next place (record { thread = t; pick = p }) old new → SearchedAt s new place (record { thread = t; pick = p + 1 }) here
    searched_more adds = elim adds.adds as (λ _. SearchedAt s new place limit here) [
      | inl (keys, ways) ↦
          searched [] no_entry adds
          (keys ∙ (known.positions ∙ ap (map (λ (entry : Entry). entry.position)) (sym (append-nil known.entries))))
          (All-nil (IsReachedSo s))
          (ways ∙ (known.discoveries ∙ ap (map (λ (entry : Entry). entry.way)) (sym (append-nil known.entries))))
      | inr (position, keys, ways, stands, is) ↦
          (let entry : Entry = record { position = position; way = discovery place now; path = here.path ++ now ∷ [] } in
          let before = all_at (IsReachedSo s) known.entries known.reached place here at in
          let state_is : next ≡ state_of s entry = sym (sym (position_same next s position component_is matrix_is) ∙ is) in
          let leads = child_leads s here.path (state_of s here) before.history before.leads now next event step in
          let reached : IsReachedSo s entry = record {
            stands = subst (λ x. CanStandAt s.component x position) matrix_is (subst (λ d. CanStandAt d next.matrix position) component_is stands);
            move = move;
            history = before.history ++ with_event event [];
            leads = subst (λ (x : State). Leads s (here.path ++ now ∷ []) x (before.history ++ with_event event [])) state_is leads;
          } in
          let made : IsNew s place here now entry = record { reached = reached; way = refl; path = refl } in
          searched (entry ∷ [])
          (λ i x h. (let one = only_one entry i x h in (one.0, subst (IsNew s place here now) one.1 made))) adds
          (keys ∙ (ap (λ (xs : List Position). xs ++ position ∷ []) known.positions ∙ sym (map-append (λ (e : Entry). e.position) known.entries (entry ∷ []))))
          (All-cons (IsReachedSo s) entry [] reached (All-nil (IsReachedSo s)))
          (ways ∙ (ap (λ (xs : List Discovery). xs ++ discovery place now ∷ []) known.discoveries ∙ sym (map-append (λ (e : Entry). e.way) known.entries (entry ∷ [])))))
    ]

-- ---- all moves of a thread, and of all threads

module _ (s : State) (found : Discovered) (place t p : ℕ) (here : Entry) where
  pub searched_turn : (known : IsSearched s found place (record { thread = t; pick = p })) → slice_get known.entries place ≡ Some here → picks_of (state_of s here) t ≤ p → SearchedAt s found place (record { thread = t + 1; pick = 0 }) here
  searched_turn known at all =
      let after : IsSearched s found place (record { thread = t + 1; pick = 0 }) = record {
        entries = known.entries;
        positions = known.positions;
        discoveries = known.discoveries;
        start = known.start;
        reached = known.reached;
        rising = known.rising;
        parents = known.parents;
        along = known.along;
        closed = λ i entry m next event past h step. elim past as (λ _. LeadsOn s known.entries found.edges.items i entry m next) [
          | inl lt ↦ known.closed i entry m next event (inl lt) h step
          | inr (same, below) ↦ elim below as (λ _. LeadsOn s known.entries found.edges.items i entry m next) [
            | inl under ↦ elim (cases_lt m.thread t) as (λ _. LeadsOn s known.entries found.edges.items i entry m next) [
              | inl lt ↦ known.closed i entry m next event (inr (same, inl lt)) h step
              | inr ge ↦
                  (let thread : m.thread ≡ t = omega (arith, under, ge) in
                  let it : here ≡ entry = same_Some here entry (sym at ∙ (ap (slice_get known.entries) (sym same) ∙ h)) in
                  let able : m.pick < picks_of (state_of s entry) m.thread = step_feasible (state_of s entry) m next event step in
                  let few : picks_of (state_of s entry) m.thread ≤ p = subst (λ (k : ℕ). picks_of (state_of s entry) k ≤ p) (sym thread) (subst (λ (x : Entry). picks_of (state_of s x) t ≤ p) it all) in
                  known.closed i entry m next event (inr (same, inr (thread, omega (arith, able, few)))) h step)
            ]
            | inr (thread, lt) ↦ absurd (omega (arith, lt))
          ]
        ];
        frontier = λ i entry one hi ho.
            earlier_trans entry.path (one.path ++ record { thread = t; pick = p } ∷ []) (one.path ++ record { thread = t + 1; pick = 0 } ∷ []) (known.frontier i entry one hi ho)
            (earlier_last one.path (record { thread = t; pick = p }) (record { thread = t + 1; pick = 0 }) (inl (omega arith)));
      } in
      (after, at)

  pub searched_on : (known : IsSearched s found place (record { thread = t; pick = 0 })) → slice_get known.entries place ≡ Some here → length (state_of s here).threads ≤ t → IsSearched s found (place + 1) first_move
  searched_on known at all = record {
    entries = known.entries;
    positions = known.positions;
    discoveries = known.discoveries;
    start = known.start;
    reached = known.reached;
    rising = known.rising;
    parents = known.parents;
    along = known.along;
    closed = λ i entry m next event past h step. elim past as (λ _. LeadsOn s known.entries found.edges.items i entry m next) [
      | inl lt ↦ elim (cases_lt i place) as (λ _. LeadsOn s known.entries found.edges.items i entry m next) [
        | inl less ↦ known.closed i entry m next event (inl less) h step
        | inr least ↦
            (let same : i ≡ place = omega (arith, lt, least) in
            let it : here ≡ entry = same_Some here entry (sym at ∙ (ap (slice_get known.entries) (sym same) ∙ h)) in
            let under = feasible_within (state_of s entry) m (step_feasible (state_of s entry) m next event step) in
            let few : length (state_of s entry).threads ≤ t = subst (λ (x : Entry). length (state_of s x).threads ≤ t) it all in
            known.closed i entry m next event (inr (same, inl (omega (arith, under, few)))) h step)
      ]
      | inr (same, below) ↦ absurd (elim below as (λ _. ⊥) [ inl lt ↦ omega arith | inr (e, lt) ↦ omega arith ])
    ];
    frontier = λ i entry one hi ho.
        earlier_trans entry.path (here.path ++ record { thread = t; pick = 0 } ∷ []) (one.path ++ first_move ∷ []) (known.frontier i entry here hi at)
        (earlier_push here.path one.path (record { thread = t; pick = 0 }) first_move (known.rising place (place + 1) here one (omega arith) at ho));
  }
