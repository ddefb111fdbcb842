-- Below a state from which no schedule ends within the moves that are left, each is cut, and their number is that of the orders within the caps.
use Rattle.std.proofs.Common.{◌≡◌, ℕ, zero, suc, ◌+◌, ◌<◌, ◌≤◌, ◌⊎◌, List, [], ◌∷◌, ◌++◌, get_or, slice_set, length, refl, sym, subst, inl, inr, arith, length-append}
use Rattle.lu_test.specs.declared.schedule.Move.{Move}
use Rattle.lu_machine.specs.declared.event.Event.{Event}
use Rattle.lu_machine.specs.States.{State}
use Rattle.lu_machine.specs.Steps.{IsFeasible, picks_of}
use Rattle.lu_machine.specs.Runs.{Leads, with_event}
use Rattle.lu_machine.specs.Ends.{HasMove}
use Rattle.lu_machine.specs.Sums.{capped, plus}
use Rattle.lu_machine.proofs.Paths.{child_leads}
use Rattle.lu_machine.proofs.StepLaws.{feasible_step}
use Rattle.lu_horizon.specs.Sure.{AreCaps}
use Rattle.lu_horizon.proofs.CapLaws.{cap_picks, caps_step}
use Rattle.lu_orders.specs.Orders.{first_below, orders_with_first, orders_within}
use Rattle.lu_tree.specs.Tails.{IsCutBelow}
use Rattle.lu_tree.specs.Trees.{Below}
use Rattle.lu_tree.specs.Walks.{cuts, one_cut}
use Rattle.lu_tree.proofs.Walking.{AllEndSo, GoesOnBelow, cut_counted, kids_all, kids_more, kids_none, kids_turn}

-- a table that serves a run's state serves the next one
module _ (start : State) (Good : State → List Event → Type 0) (bound : ℕ) where
  module _ (left : ℕ) (u : List Move) (s : State) (h : List Event) (at : Leads start u s h) (caps : List ℕ) (are : AreCaps s (suc left) caps) (kid : (m : Move) (n : ℕ) → IsFeasible s m → get_or caps m.thread 0 ≡ suc n → AllEndSo Good start bound (Below (u ++ m ∷ [])) (cuts (capped (orders_within left (slice_set caps m.thread n))))) where
    Counted : ℕ → ℕ → ℕ → Type 0
    Counted t p many = AllEndSo Good start bound (GoesOnBelow u (record { thread = t; pick = p })) (cuts (capped many))

    turn : (t n : ℕ) → get_or caps t 0 ≡ n → ((n ≡ 0) × (picks_of s t ≡ 0)) ⊎ ((0 < n) × (picks_of s t ≡ 1)) → Counted t 0 (first_below (orders_within left) caps t) → Counted (t + 1) 0 (first_below (orders_within left) caps t + orders_with_first (orders_within left) caps t n)
    unfolding Counted
    turn t zero had picks before =
        elim picks [
          | inl none ↦
              (let below = first_below (orders_within left) caps t in
              let same : below ≡ below + 0 = omega arith in
              rw (← same) (kids_turn start u s h at Good bound t 0 (omega (arith, none.1)) (cuts (capped below)) before))
          | inr some ↦ absurd (omega (arith, some.0))
        ]
    turn t (suc n) had picks before =
        elim picks [
          | inl none ↦ absurd (omega (arith, none.0))
          | inr some ↦
              (let m : Move = record { thread = t; pick = 0 } in
              let below = first_below (orders_within left) caps t in
              let led = orders_within left (slice_set caps t n) in
              let more = kids_more start u s h at Good bound t 0 (cuts (capped below)) (cuts (capped led)) before (kid m n (omega (arith, some.1)) had) in
              let sum : capped (capped below + capped led) ≡ capped (below + led) = omega arith in
              rw (← sum) (kids_turn start u s h at Good bound t 1 (omega (arith, some.1)) (plus (cuts (capped below)) (cuts (capped led))) more))
        ]

    by_threads : (t : ℕ) → t ≤ length s.threads → Counted t 0 (first_below (orders_within left) caps t)
    unfolding Counted
    by_threads zero within = kids_none start u s h at Good bound
    by_threads (suc t) within =
        let before : Counted t 0 (first_below (orders_within left) caps t) = by_threads t (omega arith) in
        let cap = are.each t (omega arith) in
        let next = turn t (get_or caps t 0) refl (cap_picks s left t (get_or caps t 0) cap) before in
        let e : t + 1 ≡ suc t = omega arith in
        rw (← e) next

    by_all : length u < bound → AllEndSo Good start bound (Below u) (cuts (capped (orders_within (suc left) caps)))
    unfolding Counted
    by_all room =
        let some : HasMove s = are.goes_on [] s [] (refl, refl) (omega arith) in
        let all = by_threads (length s.threads) (omega arith) in
        let whole = kids_all start u s h at Good bound (length s.threads) (omega arith) some room (cuts (capped (first_below (orders_within left) caps (length s.threads)))) all in
        rw are.many whole

  by_caps : (left : ℕ) (u : List Move) (s : State) (h : List Event) → Leads start u s h → length u + left ≡ bound → (caps : List ℕ) → AreCaps s left caps → AllEndSo Good start bound (Below u) (cuts (capped (orders_within left caps)))
  by_caps zero u s h at long caps are =
      let some : HasMove s = are.goes_on [] s [] (refl, refl) (omega arith) in
      let one : AllEndSo Good start bound (Below u) one_cut = cut_counted start u s h at Good bound (inr (omega arith)) (omega arith) some in
      let number : 1 ≡ capped (orders_within zero caps) = omega arith in
      subst (λ (x : ℕ). AllEndSo Good start bound (Below u) (cuts x)) number one
  by_caps (suc left) u s h at long caps are =
      by_all left u s h at caps are
      (λ m n f had.
      (let step = feasible_step s m f in
      let more = length-append u (m ∷ []) in
      by_caps left (u ++ m ∷ []) step.0 (h ++ with_event step.1 []) (child_leads start u s h at m step.0 step.1 step.2) (omega arith) (slice_set caps m.thread n) (caps_step s left m step.0 step.1 step.2 caps n are had)))
      (omega arith)

  -- where a walk may turn back
  pub cut_all : (left n : ℕ) (u : List Move) (s : State) (h : List Event) → Leads start u s h → length u + left ≡ bound → IsCutBelow s left n → AllEndSo Good start bound (Below u) (cuts n)
  cut_all left n u s h at long cut =
      subst (λ (x : ℕ). AllEndSo Good start bound (Below u) (cuts x)) (sym cut.number) (by_caps left u s h at long cut.caps cut.are)
