-- What is left, move by move.
use Rattle.std.proofs.Common.{◌≡◌, ℕ, zero, suc, ◌<◌, ◌≤◌, ◌⊎◌, Bool, true, List, [], ◌∷◌, Option, Some, slice_get, slice_set, get_or, length, refl, sym, ◌∙◌, subst, inl, inr, arith}
use Rattle.std.proofs.lemmas.Bool.{cases_eq, le-ltb}
use Rattle.std.proofs.lemmas.List.{get_or-set_same, get_or-set_other, length-set}
use Rattle.lu_test.specs.declared.schedule.Move.{Move}
use Rattle.lu_machine.specs.declared.event.Event.{Event}
use Rattle.lu_machine.specs.Changes.{idle}
use Rattle.lu_machine.specs.Ends.{IsComplete, IsFinished}
use Rattle.lu_machine.specs.States.{State, call_count}
use Rattle.lu_machine.specs.Steps.{Step, picks_of}
use Rattle.lu_machine.proofs.Ended.{complete_no_move}
use Rattle.lu_machine.proofs.Keeping.{step_keeps_threads, step_moved}
use Rattle.lu_machine.proofs.Moves.{feasible_within}
use Rattle.lu_machine.proofs.Orders.{same_move}
use Rattle.lu_machine.proofs.StepLaws.{step_feasible, step_same}
use Rattle.lu_horizon.proofs.OwnLaws.{other_stands}
use Rattle.lu_orders.specs.Orders.{all_moves, interleavings}
use Rattle.lu_orders.specs.Solo.{IsShared, IsTail, LastEvents, Sharing, Solo, only_move}
use Rattle.lu_orders.proofs.Frames.{same_itself, solo_same}

pub over_picks : (s : State) (t done : ℕ) → slice_get s.threads t ≡ Some (idle done) → call_count s t ≤ done → picks_of s t ≡ 0
over_picks s t done stands all = rw (stands, le-ltb done (call_count s t) all) refl

-- a thread with none left has no pick, and else one
pub solo_picks : (sees keeps : Bool) (t : ℕ) (event_of : LastEvents) (n : ℕ) (s : State) → Solo sees keeps t event_of n s → ((n ≡ 0) × (picks_of s t ≡ 0)) ⊎ ((0 < n) × (picks_of s t ≡ 1))
solo_picks sees keeps t event_of zero s solo = inl (refl, over_picks s t solo.0 solo.1 solo.2)
solo_picks sees keeps t event_of (suc n) s solo = inr (omega arith, (solo s (same_itself sees t s)).2)

-- a move: its thread has one less
pub record Took (ns : List ℕ) (sharing : Sharing) (events_of : ℕ → LastEvents) (m : Move) (next : State) (event : Option Event) : Type 0 where
  pub n : ℕ
  pub had : get_or ns m.thread 0 ≡ suc n
  pub first : m.pick ≡ 0
  pub event_is : event ≡ events_of m.thread n
  pub tail : IsTail next (slice_set ns m.thread n) sharing events_of

module _ (s : State) (ns : List ℕ) (sharing : Sharing) (events_of : ℕ → LastEvents) (tail : IsTail s ns sharing events_of) where
  module _ (m : Move) (next : State) (event : Option Event) (step : Step s m next event) where
    took : (n : ℕ) → get_or ns m.thread 0 ≡ n → Solo (sharing.sees m.thread) (sharing.keeps m.thread) m.thread (events_of m.thread) n s → Took ns sharing events_of m next event
    took zero had solo =
        let none = over_picks s m.thread solo.0 solo.1 solo.2 in
        let f = step_feasible s m next event step in
        absurd (omega arith)
    took (suc n) had solo =
        let t = m.thread in
        let h = solo s (same_itself (sharing.sees t) t s) in
        let one = h.2 in
        let f = step_feasible s m next event step in
        let first : m.pick ≡ 0 = omega arith in
        let is : m ≡ only_move t = same_move m (only_move t) refl first in
        let step' : Step s (only_move t) next event = subst (λ (x : Move). Step s x next event) is step in
        let same = step_same s (only_move t) next h.0 event (events_of t n) step' h.1 in
        let moved = step_moved s m next event step in
        let within = feasible_within s m f in
        let threads = step_keeps_threads s m next event step in
        let many = tail.many in
        let there : t < length ns = omega arith in
        let mine : Solo (sharing.sees t) (sharing.keeps t) t (events_of t) n next = subst (Solo (sharing.sees t) (sharing.keeps t) t (events_of t) n) (sym same.0) h.4 in
        let quiet : sharing.keeps t ≡ true → IsShared s next = λ e. subst (IsShared s) (sym same.0) (h.3 e) in
        record {
          n = n;
          had = had;
          first = first;
          event_is = same.1;
          tail = record {
            many = length-set ns t n ∙ (tail.many ∙ sym threads);
            apart = tail.apart;
            each = λ j lt. elim (cases_eq j t) [
              | inl itself ↦ (let e : get_or (slice_set ns t n) j 0 ≡ n = rw itself (get_or-set_same ns t n 0 there) in rw (e, itself) mine)
              | inr other ↦
                  (let old = tail.each j (omega arith) in
                  let e : get_or (slice_set ns t n) j 0 ≡ get_or ns j 0 = get_or-set_other ns t j n 0 other in
                  rw e (solo_same (sharing.sees j) (sharing.keeps j) j (events_of j) (get_or ns j 0) s next (record {
                    component = moved.component;
                    matrix_is = moved.matrix;
                    stands = other_stands s m next event j (λ x. other (sym x)) step;
                    shared = λ sees. quiet (tail.apart j t other sees);
                  }) old))
            ];
          };
        }

    pub tail_step : Took ns sharing events_of m next event
    tail_step =
        let within = feasible_within s m (step_feasible s m next event step) in
        took (get_or ns m.thread 0) refl (tail.each m.thread within)

  -- where the state is complete, no thread has any left
  pub tail_over : IsComplete s → (t : ℕ) → t < length s.threads → get_or ns t 0 ≡ 0
  tail_over complete t within =
      elim (solo_picks (sharing.sees t) (sharing.keeps t) t (events_of t) (get_or ns t 0) s (tail.each t within)) [
        | inl none ↦ none.0
        | inr some ↦ (let z = complete_no_move s complete t in let one = some.1 in absurd (omega arith))
      ]

  finished : (sees keeps : Bool) (t : ℕ) (event_of : LastEvents) (n : ℕ) → n ≡ 0 → Solo sees keeps t event_of n s → IsFinished s t
  finished sees keeps t event_of zero e solo = rw solo.1 (refl, solo.2)
  finished sees keeps t event_of (suc n) e solo = absurd (omega arith)

  -- where none has any left, the state is complete
  pub tail_complete : ((t : ℕ) → get_or ns t 0 ≡ 0) → IsComplete s
  tail_complete none t within = finished (sharing.sees t) (sharing.keeps t) t (events_of t) (get_or ns t 0) (none t) (tail.each t within)

pub none_left : (ns : List ℕ) → all_moves ns ≡ 0 → (t : ℕ) → get_or ns t 0 ≡ 0
none_left [] none t = refl
none_left (n ∷ ns) none zero = omega arith
none_left (n ∷ ns) none (suc t) = none_left ns (omega arith) t

pub none_interleavings : (ns : List ℕ) → all_moves ns ≡ 0 → interleavings ns ≡ 1
none_interleavings [] none = refl
none_interleavings (zero ∷ ns) none = let rest = none_interleavings ns (omega arith) in rw rest refl
none_interleavings (suc n ∷ ns) none = absurd (omega arith)

-- some thread has some left
pub some_left : (ns : List ℕ) → 0 < all_moves ns → (t : ℕ) × (t < length ns) × (0 < get_or ns t 0)
some_left [] some = absurd (omega arith)
some_left (zero ∷ ns) some = let rest = some_left ns (omega arith) in (suc rest.0, omega (arith, rest.1), rest.2)
some_left (suc n ∷ ns) some = (zero, omega arith, omega arith)
