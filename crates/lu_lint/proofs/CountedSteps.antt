-- Serial steps, counted from one turn to the next.
use Rattle.std.proofs.Common.{arith, ◌≡◌, ◌≢◌, ℕ, zero, suc, ◌+◌, ◌-◌, ◌<◌, ◌≤◌, ◌⊎◌, List, [], ◌∷◌, ◌++◌, map, length, Option, refl, sym, ◌∙◌, subst, inl, inr, length-append}
use Rattle.std.proofs.lemmas.List.{length-map}
use Rattle.lu_test.specs.declared.schedule.Move.{Move}
use Rattle.lu_machine.specs.declared.event.Event.{Event}
use Rattle.lu_machine.specs.States.{State}
use Rattle.lu_machine.specs.Steps.{Step}
use Rattle.lu_serial_graph.specs.Playing.{IsAmong}
use Rattle.lu_lint.specs.declared.step_count.OpenCall.{OpenCall}
use Rattle.lu_lint.specs.Steps.{AreApart, GoOn, HasSteps, MayMove, open_after}

-- ---- members

among_append : {A : Type 0} (x : A) (xs ys : List A) → IsAmong x (xs ++ ys) → IsAmong x xs ⊎ IsAmong x ys
among_append x [] ys at = inr at
among_append x (z ∷ xs) ys at =
    elim at as (λ _. IsAmong x (z ∷ xs) ⊎ IsAmong x ys) [
      | inl is ↦ inl (inl is)
      | inr later ↦ elim (among_append x xs ys later) as (λ _. IsAmong x (z ∷ xs) ⊎ IsAmong x ys) [
        | inl a ↦ inl (inr a)
        | inr b ↦ inr b
      ]
    ]

among_under : (m : Move) (x : List Move) (xs : List (List Move)) → IsAmong x (map (λ (u : List Move). m ∷ u) xs) → (u : List Move) × IsAmong u xs × (x ≡ m ∷ u)
among_under m x [] at = absurd at
among_under m x (u ∷ xs) at =
    elim at as (λ _. (v : List Move) × IsAmong v (u ∷ xs) × (x ≡ m ∷ v)) [
      | inl is ↦ (u, inl refl, is)
      | inr later ↦ (let found = among_under m x xs later in (found.0, inr found.1, found.2))
    ]

apart_append : (xs ys : List (List Move)) → AreApart xs → AreApart ys → ((u : List Move) → IsAmong u xs → IsAmong u ys → ⊥) → AreApart (xs ++ ys)
apart_append [] ys a b none = b
apart_append (x ∷ xs) ys a b none = (
  (λ at. elim (among_append x xs ys at) as (λ _. ⊥) [ inl l ↦ a.0 l | inr r ↦ none x (inl refl) r ]),
  apart_append xs ys a.1 b (λ u l r. none u (inr l) r),
)

same_tail : (m : Move) (u v : List Move) → m ∷ u ≡ m ∷ v → u ≡ v
same_tail m u v is = cc

apart_under : (m : Move) (xs : List (List Move)) → AreApart xs → AreApart (map (λ (u : List Move). m ∷ u) xs)
apart_under m [] a = tt
apart_under m (x ∷ xs) a = (
  (λ at. (let found = among_under m (m ∷ x) xs at in a.0 (subst (λ (u : List Move). IsAmong u xs) (sym (same_tail m x found.0 found.2)) found.1))),
  apart_under m xs a.1,
)

-- ---- turns

-- the schedule begins with a move before pick p of thread t
abbrev pub BeginsBefore : ℕ → ℕ → List Move → Type 0
BeginsBefore t p [] = ⊥
BeginsBefore t p (m ∷ u) = (m.thread < t) ⊎ (m.thread ≡ t) × (m.pick < p)

-- n different schedules that go on serially from s, each of which begins so
pub record StepsBefore (bound : ℕ) (s : State) (current : Option OpenCall) (t p n : ℕ) : Type 0 where
  pub schedules : List (List Move)
  pub count : length schedules ≡ n
  pub apart : AreApart schedules
  pub go_on : (u : List Move) → IsAmong u schedules → (u ≢ []) × GoOn bound s current u
  pub before : (u : List Move) → IsAmong u schedules → BeginsBefore t p u

pick_later : (t p : ℕ) (u : List Move) → BeginsBefore t p u → BeginsBefore t (p + 1) u
pick_later t p [] b = absurd b
pick_later t p (m ∷ u) b =
    elim b as (λ _. BeginsBefore t (p + 1) (m ∷ u)) [
      | inl less ↦ inl less
      | inr same ↦ inr (same.0, (let less = same.1 in omega arith))
    ]

thread_later : (t p : ℕ) (u : List Move) → BeginsBefore t p u → BeginsBefore (t + 1) 0 u
thread_later t p [] b = absurd b
thread_later t p (m ∷ u) b =
    elim b as (λ _. BeginsBefore (t + 1) 0 (m ∷ u)) [
      | inl less ↦ inl (omega (arith, less))
      | inr same ↦ inl (let is = same.0 in omega (arith, is))
    ]

module _ (bound : ℕ) (s : State) (current : Option OpenCall) where
  pub no_steps : HasSteps bound s current 0
  no_steps = record { schedules = []; count = refl; apart = tt; go_on = λ u at. absurd at }

  pub none_before : (t : ℕ) → StepsBefore bound s current t 0 0
  none_before t = record { schedules = []; count = refl; apart = tt; go_on = λ u at. absurd at; before = λ u at. absurd at }

  pub turn_over : (t p n : ℕ) → StepsBefore bound s current t p n → StepsBefore bound s current (t + 1) 0 n
  turn_over t p n had = record {
    schedules = had.schedules;
    count = had.count;
    apart = had.apart;
    go_on = had.go_on;
    before = λ u at. thread_later t p u (had.before u at);
  }

  pub all_counted : (t p n : ℕ) → StepsBefore bound s current t p n → HasSteps bound s current n
  all_counted t p n had = record { schedules = had.schedules; count = had.count; apart = had.apart; go_on = had.go_on }

  none_more : (t p n : ℕ) → StepsBefore bound s current t p n → StepsBefore bound s current t (p + 1) n
  none_more t p n had = record {
    schedules = had.schedules;
    count = had.count;
    apart = had.apart;
    go_on = had.go_on;
    before = λ u at. pick_later t p u (had.before u at);
  }

  module _ (t p : ℕ) (next : State) (event : Option Event) (may : MayMove current t) (step : Step s (record { thread = t; pick = p }) next event) where
    abbrev first : Move
    first = record { thread = t; pick = p }

    -- the step itself, and those after it
    abbrev news : List (List Move) → List (List Move)
    news below = (first ∷ []) ∷ map (λ (u : List Move). first ∷ u) below

    module _ (k : ℕ) (below : HasSteps bound next (open_after bound current t event) k) where
      goes_on : (u : List Move) → IsAmong u (news below.schedules) → (v : List Move) × (u ≡ first ∷ v) × GoOn bound next (open_after bound current t event) v
      goes_on u at =
          elim at as (λ _. (v : List Move) × (u ≡ first ∷ v) × GoOn bound next (open_after bound current t event) v) [
            | inl is ↦ ([], is, tt)
            | inr later ↦ (let found = among_under first u below.schedules later in (found.0, found.2, (below.go_on found.0 found.1).1))
          ]

      news_apart : AreApart (news below.schedules)
      news_apart = (
        (λ at. (let found = among_under first (first ∷ []) below.schedules at in (below.go_on found.0 found.1).0 (sym (same_tail first [] found.0 found.2)))),
        apart_under first below.schedules below.apart,
      )

      old_or_new : (u v : List Move) → u ≡ first ∷ v → BeginsBefore t p u → ⊥
      old_or_new u v is before =
          elim (subst (BeginsBefore t p) is before) as (λ _. ⊥) [
            | inl less ↦ absurd (omega (arith, less))
            | inr same ↦ (let less = same.1 in absurd (omega (arith, less)))
          ]

      new_on : (u v : List Move) → u ≡ first ∷ v → GoOn bound next (open_after bound current t event) v → (u ≢ []) × GoOn bound s current u
      new_on u v is on = subst (λ (x : List Move). (x ≢ []) × GoOn bound s current x) (sym is) ((λ e. cc), (may, next, event, step, on))

      new_before : (u v : List Move) → u ≡ first ∷ v → BeginsBefore t (p + 1) u
      new_before u v is = subst (BeginsBefore t (p + 1)) (sym is) (inr (refl, omega arith))

      more : (n : ℕ) → StepsBefore bound s current t p n → StepsBefore bound s current t (p + 1) (n + (k + 1))
      more n had = record {
        schedules = had.schedules ++ news below.schedules;
        count = length-append had.schedules (news below.schedules) ∙ (let a = had.count in let b = below.count in let c = length-map below.schedules (λ (u : List Move). first ∷ u) in omega (arith, a, b, c));
        apart = apart_append had.schedules (news below.schedules) had.apart news_apart (λ u old new. (let on = goes_on u new in old_or_new u on.0 on.1 (had.before u old)));
        go_on = λ u at. elim (among_append u had.schedules (news below.schedules) at) as (λ _. (u ≢ []) × GoOn bound s current u) [
          | inl old ↦ had.go_on u old
          | inr new ↦ (let on = goes_on u new in new_on u on.0 on.1 on.2)
        ];
        before = λ u at. elim (among_append u had.schedules (news below.schedules) at) as (λ _. BeginsBefore t (p + 1) u) [
          | inl old ↦ pick_later t p u (had.before u old)
          | inr new ↦ (let on = goes_on u new in new_before u on.0 on.1)
        ];
      }

    -- of `left` steps the rest is left, and then this many
    pub turn_counted : (left rest new : ℕ) → rest ≤ left → new ≤ rest - 1 → HasSteps bound next (open_after bound current t event) (rest - 1 - new) → StepsBefore bound s current t p (left - rest) → StepsBefore bound s current t (p + 1) (left - new)
    turn_counted left zero new few fewer below had =
        subst (StepsBefore bound s current t (p + 1)) (omega (arith, fewer)) (none_more t p (left - zero) had)
    turn_counted left (suc r) new few fewer below had =
        let count : left - suc r + (suc r - 1 - new + 1) ≡ left - new = omega (arith, few, fewer) in
        subst (StepsBefore bound s current t (p + 1)) count (more (suc r - 1 - new) below (left - suc r) had)
