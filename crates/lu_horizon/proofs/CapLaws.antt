-- Caps: where the threads have more moves together than are left, no schedule ends; and a move takes one from its thread.
use Rattle.std.proofs.Common.{◌≡◌, ℕ, zero, suc, ◌+◌, ◌<◌, ◌≤◌, ◌⊎◌, true, List, [], ◌∷◌, ◌++◌, Option, get_or, slice_set, length, length-append, refl, sym, ◌∙◌, inl, inr, arith}
use Rattle.std.proofs.lemmas.Bool.{cases_eq, cases_lt}
use Rattle.std.proofs.lemmas.List.{get_or-set_same, get_or-set_other, length-set}
use Rattle.lu_test.specs.declared.schedule.Move.{Move}
use Rattle.lu_machine.specs.declared.event.Event.{Event}
use Rattle.lu_machine.specs.States.{State}
use Rattle.lu_machine.specs.Steps.{Step, picks_of}
use Rattle.lu_machine.specs.Runs.{with_event}
use Rattle.lu_machine.proofs.Keeping.{step_keeps_threads}
use Rattle.lu_machine.proofs.Moves.{feasible_within}
use Rattle.lu_machine.proofs.StepLaws.{step_feasible}
use Rattle.lu_horizon.specs.declared.outlook.Outlook.{Outlook}
use Rattle.lu_horizon.specs.Sure.{own_moves, AreCaps, HasOutlook, IsCap}
use Rattle.lu_horizon.proofs.SureLaws.{own_same, own_other}

-- the moves of the threads below n
abbrev pub own_below : ℕ → List Move → ℕ
own_below zero u = 0
own_below (suc n) u = own_below n u + own_moves n u

below_more : (n : ℕ) (m : Move) (u : List Move) → (own_below n (m ∷ u) ≤ own_below n u + 1) × (n ≤ m.thread → own_below n (m ∷ u) ≡ own_below n u)
below_more zero m u = (omega arith, λ past. omega arith)
below_more (suc n) m u =
    let rest = below_more n m u in
    let le : own_below n (m ∷ u) ≤ own_below n u + 1 = rest.0 in
    elim (cases_eq m.thread n) [
      | inl same ↦ (let own = own_same n m u same in let e = rest.1 (omega arith) in (omega arith, λ past. absurd (omega arith)))
      | inr other ↦ (let own = own_other n m u other in (omega arith, λ past. let e = rest.1 (omega arith) in omega arith))
    ]

none_below : (n : ℕ) → own_below n [] ≡ 0
none_below zero = omega arith
none_below (suc n) = let rest = none_below n in omega arith

below_all : (n : ℕ) (u : List Move) → own_below n u ≤ length u
below_all n [] = let none = none_below n in omega arith
below_all n (m ∷ u) = let rest = below_all n u in let more = (below_more n m u).0 in omega arith

get_push : (xs : List ℕ) (y b : ℕ) → b < length xs → get_or (xs ++ y ∷ []) b 0 ≡ get_or xs b 0
get_push [] y b within = absurd (omega arith)
get_push (x ∷ xs) y zero within = omega arith
get_push (x ∷ xs) y (suc b) within = get_push xs y b (omega arith)

get_last : (xs : List ℕ) (y : ℕ) → get_or (xs ++ y ∷ []) (length xs) 0 ≡ y
get_last [] y = omega arith
get_last (x ∷ xs) y = get_last xs y

-- the caps of the first threads, and how many moves those have together
pub record AreCapsOf (s : State) (left all : ℕ) (caps : List ℕ) : Type 0 where
  pub each : (t : ℕ) → t < length caps → IsCap s left t (get_or caps t 0)
  pub free : (u : List Move) → own_below (length caps) u < all → (t : ℕ) × (t < length caps) × (own_moves t u < get_or caps t 0)

pub caps_none : (s : State) (left : ℕ) → AreCapsOf s left 0 []
caps_none s left = record { each = λ t within. absurd (omega arith); free = λ u few. absurd (omega arith) }

-- one thread more
pub caps_push : (s : State) (left all : ℕ) (caps : List ℕ) (o : Outlook) → AreCapsOf s left all caps → HasOutlook s (length caps) o → (o.moves < left → o.over ≡ true) → AreCapsOf s left (all + o.moves) (caps ++ o.moves ∷ [])
caps_push s left all caps o are has over =
    let n = length caps in
    let more : length (caps ++ o.moves ∷ []) ≡ suc n = (let e = length-append caps (o.moves ∷ []) in omega arith) in
    let last = get_last caps o.moves in
    record {
      each = λ t within. elim (cases_lt t n) [
        | inl old ↦ rw (get_push caps o.moves t old) (are.each t old)
        | inr new ↦ (let e : t ≡ n = omega arith in
            let cap : IsCap s left n o.moves = record { sure = has.sure; over = λ few. has.over (over few) } in
            rw (e, last) cap)
      ];
      free = λ u few.
          (let few' : own_below (suc n) u < all + o.moves = rw more at few in
          elim (cases_lt (own_moves n u) o.moves) [
            | inl here ↦ (n, omega arith, omega arith)
            | inr not ↦ (let before = are.free u (omega arith) in
                let lt : before.0 < n = before.1 in
                let own : own_moves before.0 u < get_or caps before.0 0 = before.2 in
                let e = get_push caps o.moves before.0 lt in
                (before.0, omega arith, omega arith))
          ]);
    }

-- all threads
pub caps_all : (s : State) (left all : ℕ) (caps : List ℕ) → AreCapsOf s left all caps → length caps ≡ length s.threads → left < all → AreCaps s left caps
caps_all s left all caps are many more = record {
  many = many;
  each = λ t within. are.each t (omega arith);
  goes_on = λ u end h leads short.
      (let few = below_all (length caps) u in
      let free = are.free u (omega arith) in
      let cap = are.each free.0 free.1 in
      let one = cap.sure u end h leads free.2 in
      (free.0, omega arith));
}

-- a thread has a pick where its cap is not used up
pub cap_picks : (s : State) (left t n : ℕ) → IsCap s (suc left) t n → ((n ≡ 0) × (picks_of s t ≡ 0)) ⊎ ((0 < n) × (picks_of s t ≡ 1))
cap_picks s left t zero cap = inl (refl, cap.over (omega arith) [] s [] (refl, refl) (omega arith))
cap_picks s left t (suc n) cap = inr (omega arith, cap.sure [] s [] (refl, refl) (omega arith))

module _ (s : State) (left : ℕ) (m : Move) (next : State) (event : Option Event) (step : Step s m next event) where
  cap_own : (n : ℕ) → IsCap s (suc left) m.thread (suc n) → IsCap next left m.thread n
  cap_own n cap = record {
    sure = λ u end h leads few. (let own = own_same m.thread m u refl in cap.sure (m ∷ u) end (with_event event h) (next, event, h, step, leads, refl) (omega arith));
    over = λ short u end h leads all. (let own = own_same m.thread m u refl in cap.over (omega arith) (m ∷ u) end (with_event event h) (next, event, h, step, leads, refl) (omega arith));
  }

  cap_other : (t n : ℕ) → (m.thread ≡ t → ⊥) → IsCap s (suc left) t n → IsCap next left t n
  cap_other t n other cap = record {
    sure = λ u end h leads few. (let own = own_other t m u other in cap.sure (m ∷ u) end (with_event event h) (next, event, h, step, leads, refl) (omega arith));
    over = λ short u end h leads all. (let own = own_other t m u other in cap.over (omega arith) (m ∷ u) end (with_event event h) (next, event, h, step, leads, refl) (omega arith));
  }

  -- one move on, one less is left, and its thread may make one less
  pub caps_step : (caps : List ℕ) (n : ℕ) → AreCaps s (suc left) caps → get_or caps m.thread 0 ≡ suc n → AreCaps next left (slice_set caps m.thread n)
  caps_step caps n are had =
      let threads = step_keeps_threads s m next event step in
      let within = feasible_within s m (step_feasible s m next event step) in
      let many = are.many in
      record {
        many = length-set caps m.thread n ∙ (are.many ∙ sym threads);
        each = λ t there. elim (cases_eq t m.thread) [
          | inl itself ↦
              (let e : get_or (slice_set caps m.thread n) t 0 ≡ n = rw itself (get_or-set_same caps m.thread n 0 (omega arith)) in
              let cap : IsCap s (suc left) m.thread (suc n) = rw had at (are.each m.thread within) in
              rw (e, itself) (cap_own n cap))
          | inr other ↦
              (let e : get_or (slice_set caps m.thread n) t 0 ≡ get_or caps t 0 = get_or-set_other caps m.thread t n 0 other in
              rw e (cap_other t (get_or caps t 0) (λ x. other (sym x)) (are.each t (omega arith))))
        ];
        goes_on = λ u end h leads short. are.goes_on (m ∷ u) end (with_event event h) (next, event, h, step, leads, refl) (omega arith);
      }
