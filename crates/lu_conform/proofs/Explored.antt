-- What is known of the stages that are kept, as they are gone through.
use Rattle.std.proofs.Common.{arith, ◌≡◌, ℕ, ◌+◌, ◌<◌, ◌≤◌, ◌⊎◌, cond, List, [], ◌∷◌, ◌++◌, length, reverse, Option, Some, None, slice_get, refl, sym, ◌∙◌, ap, subst, inl, inr, length-append}
use Rattle.std.specs.Prelude.{All}
use Rattle.std.proofs.Math.Dec.{ltb}
use Rattle.std.proofs.lemmas.Bool.{cases_lt, cond_above, cond_below}
use Rattle.std.proofs.lemmas.Grind.{reverse_onto}
use Rattle.std.proofs.lemmas.Option.{same_Some, slice_get_within}
use Rattle.std.proofs.lemmas.List.{append-nil, length-reverse, reverse-reverse}
use Rattle.lu_test.specs.declared.schedule.Move.{Move}
use Rattle.lu_machine.specs.declared.event.Event.{Event}
use Rattle.lu_machine.specs.Runs.{Leads, with_event}
use Rattle.lu_machine.specs.States.{State}
use Rattle.lu_machine.specs.Steps.{Step}
use Rattle.lu_machine.proofs.Paths.{child_leads}
use Rattle.lu_recorded.specs.declared.recorded.Recorded.{Recorded}
use Rattle.lu_conform.specs.declared.kept.Arrival.{Arrival}
use Rattle.lu_conform.specs.declared.kept.Kept.{Kept}
use Rattle.lu_conform.specs.Growing.{AddsNext, AddsStage, Entry, IsKeptAs, IsNext, stands_for}
use Rattle.lu_conform.specs.Packing.{CanStandWith}
use Rattle.lu_conform.specs.Showing.{IsEndOf, IsStuckAs}
use Rattle.lu_conform.specs.Stages.{Follows, Stage, stage_of}
use Rattle.lu_conform.specs.Ways.{HasParentsBefore, IsWayBack, IsWayTo}
use Rattle.lu_conform.proofs.Among.{all_at, at_first, at_left, in_either}
use Rattle.lu_conform.proofs.Onward.{followed, on_from}
use Rattle.lu_conform.proofs.WaysBack.{arrival_is, arrival_there, way_back_more, way_back_same}

-- u shows what was recorded, from the state s
abbrev pub ShowsFrom : State → Recorded → List Move → Type 0
ShowsFrom s recorded u = (end : State) × Leads s u end recorded.history × IsStuckAs recorded end

module _ (s : State) where
  -- the stage of what is kept, in runs that start in s
  abbrev pub its : Kept → Stage
  its kept = stands_for s.component s.matrix kept

  -- one of the list stands for the stage, reached by no more than so many moves: far says how many, of each place
  abbrev pub KeepsWithin : List Entry → (ℕ → ℕ) → Stage → ℕ → Type 0
  KeepsWithin list far stage n = (i : ℕ) × (entry : Entry) × (slice_get list i ≡ Some entry) × (its entry.0 ≡ stage) × (far i ≤ n)

  module _ (recorded : Recorded) where
    -- a machine can stand there, and the way to this place leads there, with the first events of the history
    pub record IsReached (list : List Entry) (far : ℕ → ℕ) (place : ℕ) (entry : Entry) : Type 0 where
      pub stands : CanStandWith s.component s.matrix entry.0.numbers.items
      pub back : List Move
      pub way : IsWayBack list place back
      pub deep : length back ≡ far place
      pub history : List Event
      pub rest : List Event
      pub leads : Leads s (reverse back) (its entry.0).state history
      pub whole : recorded.history ≡ history ++ rest
      pub seen : entry.0.seen ≡ length history

    -- All stages are reached, after ever more moves, each from one before it; those before this place have all to which their moves lead that follow the history, after no more than one move more, and don't show it.
    pub record Explored (list : List Entry) (place : ℕ) : Type 0 where
      pub far : ℕ → ℕ
      pub start : KeepsWithin list far (stage_of s 0) 0
      pub reached : (i : ℕ) (entry : Entry) → slice_get list i ≡ Some entry → IsReached list far i entry
      pub parents : HasParentsBefore list
      pub rising : (i j : ℕ) → i ≤ j → j < length list → far i ≤ far j
      pub near : (i j : ℕ) → place ≤ i → i < length list → j < length list → far j ≤ far i + 1
      pub closed : (i : ℕ) (entry : Entry) → i < place → slice_get list i ≡ Some entry → (m : Move) (next : State) (event : Option Event) (after : ℕ)
          → Step (its entry.0).state m next event → Follows recorded.history entry.0.seen event after → KeepsWithin list far (stage_of next after) (far i + 1)
      pub never : (i : ℕ) (entry : Entry) → i < place → slice_get list i ≡ Some entry → IsEndOf recorded (its entry.0) → ⊥

    -- ---- the start

    module _ (list : List Entry) (adds : AddsStage s.component s.matrix (stage_of s 0) None [] list) where
      start_alone : (i : ℕ) (entry : Entry) → slice_get list i ≡ Some entry → IsKeptAs s.component s.matrix (stage_of s 0) None entry
      start_alone = all_at (IsKeptAs s.component s.matrix (stage_of s 0) None) list (subst (All (IsKeptAs s.component s.matrix (stage_of s 0) None)) (sym adds.grows.1) adds.grows.2)

      start_parents : HasParentsBefore list
      start_parents place a is =
          let there = arrival_there list place a is in
          let none = (start_alone place there.0 there.1).arrival_is in
          absurd (let e = sym none ∙ there.2 in cc)

      start_reached : (i : ℕ) (entry : Entry) → slice_get list i ≡ Some entry → IsReached list (λ _. 0) i entry
      start_reached i entry at =
          let is = start_alone i entry at in
          record {
            stands = is.stands;
            back = [];
            way = (slice_get_within list i entry at, arrival_is list i entry at ∙ is.arrival_is);
            deep = refl;
            history = [];
            rest = recorded.history;
            leads = (ap (λ (x : Stage). x.state) is.stage_is, refl);
            whole = refl;
            seen = ap (λ (x : Stage). x.seen) is.stage_is;
          }

      pub explored_none : Explored list 0
      explored_none = record {
        far = λ _. 0;
        start = (adds.there.0, adds.there.1, adds.there.2, adds.there.3, omega arith);
        reached = start_reached;
        parents = start_parents;
        rising = λ i j le lt. omega arith;
        near = λ i j le p q. omega arith;
        closed = λ i entry lt. absurd (omega arith);
        never = λ i entry lt. absurd (omega arith);
      }

    -- ---- one stage more

    module _ (old new : List Entry) (place : ℕ) (entry : Entry) (at : slice_get old place ≡ Some entry) (before : Explored old place) where
      pub known : IsReached old before.far place entry
      known = before.reached place entry at

      here_within : place < length old
      here_within = slice_get_within old place entry at

      module _ (adds : AddsNext (its entry.0).state recorded.history entry.0.seen place old new) where
        abbrev Such : Entry → Type 0
        Such = IsNext (its entry.0).state recorded.history entry.0.seen place

        -- a new one is reached by one move more
        abbrev far_now : ℕ → ℕ
        far_now i = cond (ltb i (length old)) (before.far i) (before.far place + 1)

        far_old : (i : ℕ) → i < length old → far_now i ≡ before.far i
        far_old i lt = sym (cond_below i (length old) (before.far i) (before.far place + 1) lt)

        far_new : (i : ℕ) → length old ≤ i → far_now i ≡ before.far place + 1
        far_new i le = sym (cond_above i (length old) (before.far i) (before.far place + 1) (before.far place + 1) le refl)

        -- one of the new list is one of the old, or new
        either : (j : ℕ) (one : Entry) → slice_get new j ≡ Some one → (slice_get old j ≡ Some one) ⊎ ((length old ≤ j) × (i : ℕ) × (slice_get adds.grows.0 i ≡ Some one))
        either j one is = in_either old adds.grows.0 j one (subst (λ (x : List Entry). slice_get x j ≡ Some one) adds.grows.1 is)

        such : (i : ℕ) (one : Entry) → slice_get adds.grows.0 i ≡ Some one → Such one
        such i one is = all_at Such adds.grows.0 adds.grows.2 i one is

        way_on : (back : List Move) (i : ℕ) → IsWayBack old i back → IsWayBack new i back
        way_on back i way = subst (λ (x : List Entry). IsWayBack x i back) (sym adds.grows.1) (way_back_more old adds.grows.0 back i way)

        within_more : (stage : Stage) (n : ℕ) → KeepsWithin old before.far stage n → KeepsWithin new far_now stage n
        within_more stage n k =
            let same = far_old k.0 (slice_get_within old k.0 k.1 k.2) in
            (k.0, k.1, subst (λ (x : List Entry). slice_get x k.0 ≡ Some k.1) (sym adds.grows.1) (at_left old adds.grows.0 k.0 k.1 k.2), k.3, omega (arith, same, k.4))

        reached_old : (j : ℕ) (one : Entry) → slice_get old j ≡ Some one → IsReached new far_now j one
        reached_old j one is =
            let r = before.reached j one is in
            let same = far_old j (slice_get_within old j one is) in
            record {
              stands = r.stands;
              back = r.back;
              way = way_on r.back j r.way;
              deep = r.deep ∙ sym same;
              history = r.history;
              rest = r.rest;
              leads = r.leads;
              whole = r.whole;
              seen = r.seen;
            }

        reached_new : (j : ℕ) (one : Entry) → slice_get new j ≡ Some one → length old ≤ j → Such one → IsReached new far_now j one
        reached_new j one there past (m, next, event, after, step, follows, is) =
            let u : List Move = reverse known.back in
            let way : Leads s (u ++ m ∷ []) next (known.history ++ with_event event []) = child_leads s u (its entry.0).state known.history known.leads m next event step in
            let ends = followed recorded.history known.history known.rest entry.0.seen after event known.whole known.seen follows in
            let far = far_new j past in
            record {
              stands = is.stands;
              back = m ∷ known.back;
              way = (place, arrival_is new j one there ∙ is.arrival_is, way_on known.back place known.way);
              deep = (let deep = known.deep in omega (arith, deep, far));
              history = known.history ++ with_event event [];
              rest = ends.0;
              leads = subst (λ v. Leads s v (its one.0).state (known.history ++ with_event event [])) (sym (reverse_onto known.back m []))
                  (subst (λ (x : State). Leads s (u ++ m ∷ []) x (known.history ++ with_event event [])) (sym (ap (λ (x : Stage). x.state) is.stage_is)) way);
              whole = ends.1;
              seen = ap (λ (x : Stage). x.seen) is.stage_is ∙ ends.2;
            }

        reached_now : (j : ℕ) (one : Entry) → slice_get new j ≡ Some one → IsReached new far_now j one
        reached_now j one is =
            elim (either j one is) as (λ _. IsReached new far_now j one) [
              | inl was ↦ reached_old j one was
              | inr more ↦ reached_new j one is more.0 (such more.1 one more.2)
            ]

        parents_now : HasParentsBefore new
        parents_now j a is =
            let there = arrival_there new j a is in
            elim (either j there.0 there.1) as (λ _. a.parent < j) [
              | inl was ↦ before.parents j a (arrival_is old j there.0 was ∙ there.2)
              | inr more ↦
                  (let one = such more.1 there.0 more.2 in
                  let parent : place ≡ a.parent = ap (λ (x : Arrival). x.parent) (same_Some (record { parent = place; by = one.0 }) a (sym one.6.arrival_is ∙ there.2)) in
                  let past = more.0 in
                  let within = here_within in
                  omega (arith, parent, past, within))
            ]

        each_near : (j : ℕ) → far_now j ≤ before.far place + 1
        each_near j =
            elim (cases_lt j (length old)) as (λ _. far_now j ≤ before.far place + 1) [
              | inl lt ↦ (let same = far_old j lt in let near = before.near place j (omega arith) here_within lt in omega (arith, same, near))
              | inr le ↦ (let same = far_new j le in omega (arith, same))
            ]

        -- one that stood before the end stands there still
        stood : (i : ℕ) (one : Entry) → i < place + 1 → slice_get new i ≡ Some one → slice_get old i ≡ Some one
        stood i one lt is =
            let within = here_within in
            at_first old adds.grows.0 i one (omega (arith, within, lt)) (subst (λ (x : List Entry). slice_get x i ≡ Some one) adds.grows.1 is)

        rising_now : (i j : ℕ) → i ≤ j → j < length new → far_now i ≤ far_now j
        rising_now i j le lt =
            elim (cases_lt j (length old)) as (λ _. far_now i ≤ far_now j) [
              | inl less ↦ (let a = far_old i (omega arith) in let b = far_old j less in let up = before.rising i j le less in omega (arith, a, b, up))
              | inr more ↦ (let a = each_near i in let b = far_new j more in omega (arith, a, b))
            ]

        near_now : (i j : ℕ) → place + 1 ≤ i → i < length new → j < length new → far_now j ≤ far_now i + 1
        near_now i j le p q =
            let most = each_near j in
            elim (cases_lt i (length old)) as (λ _. far_now j ≤ far_now i + 1) [
              | inl less ↦ (let a = far_old i less in let up = before.rising place i (omega arith) less in omega (arith, most, a, up))
              | inr more ↦ (let a = far_new i more in omega (arith, most, a))
            ]

        here : (i : ℕ) (one : Entry) → place ≤ i → i < place + 1 → slice_get new i ≡ Some one → entry ≡ one
        here i one ge lt is =
            let same : i ≡ place = omega arith in
            same_Some entry one (sym at ∙ (ap (slice_get old) (sym same) ∙ stood i one lt is))

        pub explored_more : (IsEndOf recorded (its entry.0) → ⊥) → Explored new (place + 1)
        explored_more not_here = record {
          far = far_now;
          start = within_more (stage_of s 0) 0 before.start;
          reached = reached_now;
          parents = parents_now;
          rising = rising_now;
          near = near_now;
          closed = λ i one lt is m next event after step f. elim (cases_lt i place) as (λ _. KeepsWithin new far_now (stage_of next after) (far_now i + 1)) [
            | inl less ↦
                (let within = here_within in
                let same : far_now i ≡ before.far i = far_old i (omega (arith, within, less)) in
                subst (λ n. KeepsWithin new far_now (stage_of next after) (n + 1)) (sym same) (within_more (stage_of next after) (before.far i + 1) (before.closed i one less (stood i one lt is) m next event after step f)))
            | inr least ↦
                (let same = here i one least lt is in
                let keeps = adds.there m next event after (subst (λ (x : Entry). Step (its x.0).state m next event) (sym same) step) (subst (λ (x : Entry). Follows recorded.history x.0.seen event after) (sym same) f) in
                let within = here_within in
                let old_far = far_old i (omega (arith, within, lt)) in
                let at_place : before.far i ≡ before.far place = ap before.far (omega arith) in
                let near = each_near keeps.0 in
                (keeps.0, keeps.1, keeps.2, keeps.3, omega (arith, old_far, at_place, near)))
          ];
          never = λ i one lt is ends. elim (cases_lt i place) as (λ _. ⊥) [
            | inl less ↦ before.never i one less (stood i one lt is) ends
            | inr least ↦ not_here (subst (λ (x : Entry). IsEndOf recorded (its x.0)) (sym (here i one least lt is)) ends)
          ];
        }

      -- ---- it shows what was recorded

      shows_here : IsEndOf recorded (its entry.0) → ShowsFrom s recorded (reverse known.back)
      shows_here ends =
          let all : length known.history ≡ length recorded.history = sym known.seen ∙ ends.0 in
          let none : known.rest ≡ [] = none_left known.history known.rest (ap length known.whole) all in
          let same : known.history ≡ recorded.history = sym (known.whole ∙ (ap (λ x. known.history ++ x) none ∙ append-nil known.history)) in
          ((its entry.0).state, subst (Leads s (reverse known.back) (its entry.0).state) same known.leads, ends.1)
        where
          none_left : (xs ys : List Event) → length recorded.history ≡ length (xs ++ ys) → length xs ≡ length recorded.history → ys ≡ []
          none_left xs [] p q = refl
          none_left xs (y ∷ ys) p q = absurd (let sum = length-append xs (y ∷ ys) in omega (arith, p, q, sum))

      -- no shorter schedule does
      none_shorter : (v : List Move) → ShowsFrom s recorded v → length v < before.far place → ⊥
      none_shorter v shows less =
          let Has : Stage → ℕ → Type 0 = KeepsWithin old before.far in
          let met = on_from recorded.history (before.far place) Has goes s [] 0 before.start v shows.0 recorded.history [] shows.1 (sym (append-nil recorded.history)) (omega arith) in
          let lower = before_here met.0 (omega (arith, met.4, less)) (slice_get_within old met.0 met.1 met.2) in
          let seen : (its met.1.0).seen ≡ length recorded.history = ap (λ (x : Stage). x.seen) met.3 in
          let stuck : IsStuckAs recorded (its met.1.0).state = subst (IsStuckAs recorded) (sym (ap (λ (x : Stage). x.state) met.3)) shows.2 in
          before.never met.0 met.1 lower met.2 (seen, stuck)
        where
          -- with fewer moves it stands before
          before_here : (i : ℕ) → before.far i < before.far place → i < length old → i < place
          before_here i lt within =
              elim (cases_lt i place) as (λ _. i < place) [
                | inl less ↦ less
                | inr least ↦ absurd (let more = before.rising place i least within in omega (arith, more, lt))
              ]

          goes : (stage : Stage) (n : ℕ) (m : Move) (next : State) (event : Option Event) (after : ℕ) → n < before.far place → KeepsWithin old before.far stage n → Step stage.state m next event → Follows recorded.history stage.seen event after → KeepsWithin old before.far (stage_of next after) (n + 1)
          goes stage n m next event after lt k step f =
              let there = before.closed k.0 k.1 (before_here k.0 (omega (arith, k.4, lt)) (slice_get_within old k.0 k.1 k.2)) k.2 m next event after
              (subst (λ (x : Stage). Step x.state m next event) (sym k.3) step) (subst (λ (x : Stage). Follows recorded.history x.seen event after) (sym k.3) f) in
              (there.0, there.1, there.2, there.3, omega (arith, there.4, k.4))

      pub shortest_here : (u : List Move) → IsWayTo old place u → IsEndOf recorded (its entry.0) → ShowsFrom s recorded u × ((v : List Move) → ShowsFrom s recorded v → length u ≤ length v)
      shortest_here u way ends = (
        subst (ShowsFrom s recorded) (sym is) (shows_here ends),
        (λ v shows.
            elim (cases_lt (length v) (before.far place)) as (λ _. length u ≤ length v) [
              | inl less ↦ absurd (none_shorter v shows less)
              | inr least ↦ omega (arith, long, least)
            ]),
      )
        where
          is : u ≡ reverse known.back
          is = sym (reverse-reverse u) ∙ ap reverse (way_back_same old place (reverse u) known.back way known.way)

          long : length u ≡ before.far place
          long = ap length is ∙ (length-reverse known.back ∙ known.deep)

    -- where all were gone through, no schedule shows it
    pub none_shows : (list : List Entry) (place : ℕ) → length list ≤ place → Explored list place → (v : List Move) → ShowsFrom s recorded v → ⊥
    none_shows list place all known v shows =
        let Has : Stage → ℕ → Type 0 = KeepsWithin list known.far in
        let met = on_from recorded.history (length v) Has goes s [] 0 known.start v shows.0 recorded.history [] shows.1 (sym (append-nil recorded.history)) (omega arith) in
        let seen : (its met.1.0).seen ≡ length recorded.history = ap (λ (x : Stage). x.seen) met.3 in
        let stuck : IsStuckAs recorded (its met.1.0).state = subst (IsStuckAs recorded) (sym (ap (λ (x : Stage). x.state) met.3)) shows.2 in
        known.never met.0 met.1 (past met.0 met.1 met.2) met.2 (seen, stuck)
      where
        past : (i : ℕ) (one : Entry) → slice_get list i ≡ Some one → i < place
        past i one is = (let within = slice_get_within list i one is in omega (arith, within, all))

        goes : (stage : Stage) (n : ℕ) (m : Move) (next : State) (event : Option Event) (after : ℕ) → n < length v → KeepsWithin list known.far stage n → Step stage.state m next event → Follows recorded.history stage.seen event after → KeepsWithin list known.far (stage_of next after) (n + 1)
        goes stage n m next event after lt k step f =
            let there = known.closed k.0 k.1 (past k.0 k.1 k.2) k.2 m next event after
            (subst (λ (x : Stage). Step x.state m next event) (sym k.3) step) (subst (λ (x : Stage). Follows recorded.history x.seen event after) (sym k.3) f) in
            (there.0, there.1, there.2, there.3, omega (arith, there.4, k.4))
