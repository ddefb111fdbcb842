-- Below a state in which each thread makes its last moves by itself, all schedules are complete, and their number is that of the orders.
use Rattle.std.proofs.Common.{◌≡◌, ℕ, zero, suc, ◌+◌, ◌<◌, ◌≤◌, ◌⊎◌, List, [], ◌∷◌, ◌++◌, Option, get_or, slice_set, length, refl, sym, ◌∙◌, ap, subst, inl, inr, arith, length-append, append_assoc}
use Rattle.std.proofs.lemmas.List.{append-nil}
use Rattle.lu_test.specs.declared.schedule.Move.{Move}
use Rattle.lu_machine.specs.declared.event.Event.{Event}
use Rattle.lu_machine.specs.States.{State}
use Rattle.lu_machine.specs.Steps.{Step, IsFeasible, picks_of}
use Rattle.lu_machine.specs.Runs.{Leads, with_event}
use Rattle.lu_machine.specs.Ends.{HasMove, IsComplete}
use Rattle.lu_machine.specs.Sums.{capped, plus}
use Rattle.lu_machine.proofs.Ended.{complete_no_move}
use Rattle.lu_machine.proofs.Paths.{child_leads, with_event-append}
use Rattle.lu_machine.proofs.StepLaws.{feasible_step}
use Rattle.lu_orders.specs.Orders.{all_moves, interleavings, led_below, led_by}
use Rattle.lu_orders.specs.Solo.{IsTail, LastEvents, Sharing}
use Rattle.lu_orders.proofs.OrderLaws.{fewer_moves, led_all, led_by_none, led_some}
use Rattle.lu_orders.proofs.TailLaws.{none_interleavings, none_left, solo_picks, some_left, tail_complete, tail_step}
use Rattle.lu_tree.specs.Trees.{Below}
use Rattle.lu_tree.specs.Walks.{completes, one_complete}
use Rattle.lu_tree.proofs.Walking.{AllEndSo, GoesOnBelow, kids_all, kids_more, kids_none, kids_turn, complete_counted}

module _ (start : State) (Good : State → List Event → Type 0) (bound : ℕ) (sharing : Sharing) (events_of : ℕ → LastEvents) where
  -- each complete schedule from s is good, after h
  abbrev pub AreEndsGood : State → List Event → Type 0
  AreEndsGood s h = (v : List Move) (end : State) (k : List Event) → Leads s v end k → IsComplete end → Good end (h ++ k)

  good_next : (s : State) (h : List Event) (m : Move) (next : State) (event : Option Event) → Step s m next event → AreEndsGood s h → AreEndsGood next (h ++ with_event event [])
  good_next s h m next event step good v end k leads complete =
      let g = good (m ∷ v) end (with_event event k) (next, event, k, step, leads, refl) complete in
      let e : (h ++ with_event event []) ++ k ≡ h ++ with_event event k = append_assoc h (with_event event []) k ∙ ap (λ x. h ++ x) (with_event-append event [] k) in
      subst (Good end) (sym e) g

  module _ (u : List Move) (s : State) (h : List Event) (at : Leads start u s h) (ns : List ℕ) (tail : IsTail s ns sharing events_of) (kid : (m : Move) (n : ℕ) → IsFeasible s m → get_or ns m.thread 0 ≡ suc n → AllEndSo Good start bound (Below (u ++ m ∷ [])) (completes (capped (interleavings (slice_set ns m.thread n))))) where
    Counted : ℕ → ℕ → ℕ → Type 0
    Counted t p many = AllEndSo Good start bound (GoesOnBelow u (record { thread = t; pick = p })) (completes (capped many))

    turn : (t n : ℕ) → t < length s.threads → get_or ns t 0 ≡ n → ((n ≡ 0) × (picks_of s t ≡ 0)) ⊎ ((0 < n) × (picks_of s t ≡ 1)) → Counted t 0 (led_below ns t) → Counted (t + 1) 0 (led_below ns (suc t))
    unfolding Counted
    turn t zero within had picks before =
        elim picks [
          | inl none ↦
              (let zero_led : led_by ns t ≡ 0 = led_by_none ns t had in
              let same : led_below ns t ≡ led_below ns t + led_by ns t = omega arith in
              rw (← same) (kids_turn start u s h at Good bound t 0 (omega (arith, none.1)) (completes (capped (led_below ns t))) before))
          | inr some ↦ absurd (omega (arith, some.0))
        ]
    turn t (suc n) within had picks before =
        elim picks [
          | inl none ↦ absurd (omega (arith, none.0))
          | inr some ↦
              (let m : Move = record { thread = t; pick = 0 } in
              let led : led_by ns t ≡ interleavings (slice_set ns t n) = led_some ns t n had in
              let below = kid m n (omega (arith, some.1)) had in
              let more = kids_more start u s h at Good bound t 0 (completes (capped (led_below ns t))) (completes (capped (interleavings (slice_set ns t n)))) before below in
              let sum : capped (capped (led_below ns t) + capped (interleavings (slice_set ns t n))) ≡ capped (led_below ns t + led_by ns t) = omega arith in
              rw (← sum) (kids_turn start u s h at Good bound t 1 (omega (arith, some.1)) (plus (completes (capped (led_below ns t))) (completes (capped (interleavings (slice_set ns t n))))) more))
        ]

    by_threads : (t : ℕ) → t ≤ length s.threads → Counted t 0 (led_below ns t)
    unfolding Counted
    by_threads zero within = kids_none start u s h at Good bound
    by_threads (suc t) within =
        let lt : t < length s.threads = omega arith in
        let solo = tail.each t lt in
        let before : Counted t 0 (led_below ns t) = by_threads t (omega arith) in
        let next = turn t (get_or ns t 0) lt refl (solo_picks (sharing.sees t) (sharing.keeps t) t (events_of t) (get_or ns t 0) s solo) before in
        let e : t + 1 ≡ suc t = omega arith in
        rw (← e) next

    by_all : length u < bound → HasMove s → 0 < all_moves ns → AllEndSo Good start bound (Below u) (completes (capped (interleavings ns)))
    unfolding Counted
    by_all room some left =
        let whole : led_below ns (length s.threads) ≡ interleavings ns = rw (← tail.many) (led_all ns left) in
        rw (← whole) (kids_all start u s h at Good bound (length s.threads) (omega arith) some room (completes (capped (led_below ns (length s.threads)))) (by_threads (length s.threads) (omega arith)))

  -- where each complete schedule is good
  pub orders_all : (left : ℕ) (u : List Move) (s : State) (h : List Event) → Leads start u s h → (ns : List ℕ) → IsTail s ns sharing events_of → all_moves ns ≡ left → length u + left ≤ bound → AreEndsGood s h → AllEndSo Good start bound (Below u) (completes (capped (interleavings ns)))
  orders_all zero u s h at ns tail none short good =
      let complete : IsComplete s = tail_complete s ns sharing events_of tail (none_left ns none) in
      let here : Good s h = subst (Good s) (append-nil h) (good [] s [] (refl, refl) complete) in
      let one : AllEndSo Good start bound (Below u) one_complete = complete_counted start u s h at Good bound (inl (complete_no_move s complete)) (omega arith) complete here in
      let orders = none_interleavings ns none in
      let number : 1 ≡ capped (interleavings ns) = omega arith in
      subst (λ (x : ℕ). AllEndSo Good start bound (Below u) (completes x)) number one
  orders_all (suc left) u s h at ns tail some short good =
      let first = some_left ns (omega arith) in
      let many = tail.many in
      let within : first.0 < length s.threads = omega (arith, first.1) in
      let move : HasMove s = elim (solo_picks (sharing.sees first.0) (sharing.keeps first.0) first.0 (events_of first.0) (get_or ns first.0 0) s (tail.each first.0 within)) [
        | inl none ↦ absurd (omega (arith, first.2, none.0))
        | inr one ↦ (first.0, omega (arith, one.1))
      ] in
      by_all u s h at ns tail
      (λ m n f had.
      (let step = feasible_step s m f in
      let took = tail_step s ns sharing events_of tail m step.0 step.1 step.2 in
      let has = took.had in
      let same : took.n ≡ n = omega arith in
      let fewer = fewer_moves ns m.thread n had in
      let more = length-append u (m ∷ []) in
      orders_all left (u ++ m ∷ []) step.0 (h ++ with_event step.1 []) (child_leads start u s h at m step.0 step.1 step.2) (slice_set ns m.thread n) (rw same at took.tail) (omega arith) (omega arith) (good_next s h m step.0 step.1 step.2 good)))
      (omega arith) move (omega arith)
