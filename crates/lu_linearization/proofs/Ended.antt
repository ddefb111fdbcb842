-- Linearizations of histories that have ended are their witnesses.
use Rattle.std.proofs.Common.{arith, ◌≡◌, ◌≢◌, ℕ, zero, suc, ◌+◌, ◌≤◌, List, [], ◌∷◌, ◌++◌, length, take, drop, Some, slice_get, if◌then◌else◌, inl, inr, refl, sym, ap, ◌∙◌, subst}
use Rattle.std.specs.Prelude.{◌↔◌, map}
use Rattle.std.specs.Option.{option_map}
use Rattle.std.proofs.lemmas.Bool.{cases_lt, ne_eqb}
use Rattle.std.proofs.lemmas.Bool.Decides.{eqb_tells}
use Rattle.std.proofs.lemmas.List.{append-nil, length-map, length_push, take_at}
use Rattle.std.proofs.lemmas.Option.{same_Some, slice_get-map, slice_get_past, slice_get_within}
use Rattle.lu_machine.specs.declared.event.Event.{Event}
use Rattle.lu_machine.specs.declared.event.Event.TheVariants.{Return}
use Rattle.lu_machine.specs.declared.event.Outcome.{Outcome}
use Rattle.lu_history.specs.declared.operation.OpId.{OpId}
use Rattle.lu_history.specs.declared.serial.SerialOp.{SerialOp}
use Rattle.lu_history.specs.declared.serial.SerialOutcome.TheVariants.{Stuck}
use Rattle.lu_history.specs.Histories.{IsPending, calls, outcomes}
use Rattle.lu_history.specs.Parts.{as_serial, keep_pending, part}
use Rattle.lu_history.specs.Serial.{IsSerial}
use Rattle.lu_history.proofs.Events.{last_at, outcomes-append, outcomes_return, same_number, split_at}
use Rattle.lu_history.proofs.PartEntries.{part_pending, part_returned}
use Rattle.lu_serial.specs.Serial.{stuck_of}
use Rattle.lu_witness.specs.Witnesses.{entries}
use Rattle.lu_witness.proofs.Entries.{entries-append}
use Rattle.lu_linearization.specs.Precedence.{HasOutcomes, KeepsPrecedence}
use Rattle.lu_linearization.specs.Linearizations.{CompleteIsWitness, HasOnlyReturned, HasSequentialThreads, StuckEnds, StuckIsWitness}
use Rattle.lu_linearization.proofs.Sequential.{in_turn, pending_count, return_of}
use Rattle.lu_linearization.proofs.Standing.{precedence_longer, precedence_orders, precedence_shorter, is_called}
use Rattle.lu_linearization.proofs.Keeping.{precedence_kept, kept_outcomes, kept_sequential, others_calls, own_calls}

same_list : {A : Type 0} (xs ys : List A) → ((k : ℕ) → slice_get xs k ≡ slice_get ys k) → xs ≡ ys
same_list [] [] all = refl
same_list [] (y ∷ ys) all = absurd (let none = all 0 in cc)
same_list (x ∷ xs) [] all = absurd (let none = all 0 in cc)
same_list (x ∷ xs) (y ∷ ys) all = ap (λ z. z ∷ xs) (same_Some x y (all 0)) ∙ ap (λ zs. y ∷ zs) (same_list xs ys (λ k. all (suc k)))

same_front : {A : Type 0} (xs ys : List A) (x y : A) → xs ++ x ∷ [] ≡ ys ++ y ∷ [] → xs ≡ ys
same_front xs ys x y same =
    let long : length xs ≡ length ys = (let both = ap length same in let one = length_push xs x in let two = length_push ys y in omega (arith, both, one, two)) in
    sym (take_at xs (x ∷ []) (length xs) refl) ∙ (ap (take (length xs)) same ∙ take_at ys (y ∷ []) (length xs) (sym long))

-- ---- the outcomes

-- an operation's outcome is at its number
outcome_at : (h : List Event) → HasSequentialThreads h → (i : ℕ) (a : OpId) (o : Outcome) → slice_get h i ≡ Some (Return a.t a.k o) → slice_get (outcomes a.t h) a.k ≡ Some o
outcome_at h is i a o at =
    let behind = drop (suc i) h in
    let whole : outcomes a.t h ≡ outcomes a.t (take i h) ++ o ∷ outcomes a.t behind =
    ap (outcomes a.t) (split_at h (Return a.t a.k o) i at) ∙ (outcomes-append a.t (take i h) (Return a.t a.k o ∷ behind) ∙ ap (λ x. outcomes a.t (take i h) ++ x) (outcomes_return a.t a.k o behind)) in
    let number : length (outcomes a.t (take i h)) ≡ a.k = (is i (Return a.t a.k o) at).1 in
    ap (λ x. slice_get x a.k) whole ∙ (ap (slice_get (outcomes a.t (take i h) ++ o ∷ outcomes a.t behind)) (sym number) ∙ last_at (outcomes a.t (take i h)) (outcomes a.t behind) o)

-- q has each thread's operations as they returned in h, and no others
abbrev pub HasReturnedOnes : List SerialOp → List Event → Type 0
HasReturnedOnes q h = (t : ℕ) → entries t q ≡ map as_serial (outcomes t h)

module _ (q : List SerialOp) (h : List Event) (is : HasSequentialThreads h) where
  serial_at : (t k : ℕ) (o : Outcome) → slice_get (outcomes t h) k ≡ Some o → slice_get (map as_serial (outcomes t h)) k ≡ Some (as_serial o)
  serial_at t k o at = slice_get-map as_serial (outcomes t h) k ∙ ap (option_map as_serial) at

  -- it has an entry for each operation that returned
  pub has_returned : HasOutcomes q h → (t : ℕ) → length (outcomes t h) ≤ length (entries t q)
  has_returned had t =
      elim (cases_lt (length (entries t q)) (length (outcomes t h))) as (λ _. length (outcomes t h) ≤ length (entries t q)) [
        | inl fewer ↦
            (let a : OpId = record { t = t; k = length (entries t q) } in
            let back = return_of h is a fewer in
            let there = slice_get_within (entries t q) a.k (as_serial back.1.0) (had back.0 a back.1.0 back.1.1) in
            absurd (omega (arith, there)))
        | inr enough ↦ enough
      ]

  pub returned_ones : HasOutcomes q h → HasOnlyReturned q h → HasReturnedOnes q h
  returned_ones had only t = same_list (entries t q) (map as_serial (outcomes t h)) each
    where
      each : (k : ℕ) → slice_get (entries t q) k ≡ slice_get (map as_serial (outcomes t h)) k
      each k = elim (cases_lt k (length (outcomes t h))) as (λ _. slice_get (entries t q) k ≡ slice_get (map as_serial (outcomes t h)) k) [
        | inl lt ↦
            (let a : OpId = record { t = t; k = k } in
            let back = return_of h is a lt in
            had back.0 a back.1.0 back.1.1 ∙ sym (serial_at t k back.1.0 (outcome_at h is back.0 a back.1.0 back.1.1)))
        | inr ge ↦
            (let few = only t in
            let many = length-map (outcomes t h) as_serial in
            slice_get_past (entries t q) k (omega (arith, few, ge)) ∙ sym (slice_get_past (map as_serial (outcomes t h)) k (omega (arith, many, ge))))
      ]

  pub ones_returned : HasReturnedOnes q h → HasOutcomes q h
  ones_returned ones i a o at = ap (λ x. slice_get x a.k) (ones a.t) ∙ serial_at a.t a.k o (outcome_at h is i a o at)

  pub as_many : HasReturnedOnes q h → (t : ℕ) → length (entries t q) ≡ length (outcomes t h)
  as_many ones t = ap length (ones t) ∙ length-map (outcomes t h) as_serial

-- ---- complete histories

module _ (Z : List SerialOp → Type 0) where
  pub complete_is_witness : CompleteIsWitness Z
  complete_is_witness q h is all = (
    (λ line.
        let ones = returned_ones q h is line.outcomes (λ t. subst (λ n. length (entries t q) ≤ n) (all t) (line.called t)) in (
          line.member,
          record {
            parts = λ t. ones t ∙ sym (whole t);
            order = (precedence_orders q h is (λ t. as_many q h is ones t ∙ sym (all t))).0 line.precedence;
          },
        )),
    (λ both.
        let ones : HasReturnedOnes q h = λ t. both.1.parts t ∙ whole t in
        let many : (t : ℕ) → length (entries t q) ≡ calls t h = λ t. as_many q h is ones t ∙ sym (all t) in
        record {
          member = both.0;
          called = λ t. (let same = many t in omega (arith, same));
          outcomes = ones_returned q h is ones;
          precedence = (precedence_orders q h is many).1 both.1.order;
        }),
  )
    where
      whole : (t : ℕ) → part t h ≡ map as_serial (outcomes t h)
      whole t = part_returned t h (let same = all t in omega (arith, same))

-- ---- stuck histories

module _ (h : List Event) (a : OpId) (is : HasSequentialThreads h) (pending_calls : IsPending h a) where
  g : List Event
  g = keep_pending a.t h

  count : (calls a.t h ≡ a.k + 1) × (length (outcomes a.t h) ≡ a.k)
  count = pending_count h a is pending_calls

  own_part : part a.t (keep_pending a.t h) ≡ map as_serial (outcomes a.t h) ++ Stuck ∷ []
  own_part =
      let own = own_calls a.t h is in
      let same = ap length (kept_outcomes a.t h is a.t) in
      part_pending a.t (keep_pending a.t h) (omega (arith, own, same, count.0, count.1))
      ∙ ap (λ x. map as_serial x ++ Stuck ∷ []) (kept_outcomes a.t h is a.t)

  other_part : (t : ℕ) → t ≢ a.t → part t (keep_pending a.t h) ≡ map as_serial (outcomes t h)
  other_part t other =
      let few = others_calls a.t h is t other in
      let same = ap length (kept_outcomes a.t h is t) in
      part_returned t (keep_pending a.t h) (omega (arith, few, same)) ∙ ap (λ x. map as_serial x) (kept_outcomes a.t h is t)

  module _ (q : List SerialOp) where
    own_entries : entries a.t (q ++ stuck_of a.t ∷ []) ≡ entries a.t q ++ Stuck ∷ []
    own_entries = entries-append a.t q (stuck_of a.t ∷ []) ∙ ap (λ b. entries a.t q ++ (if b then Stuck ∷ [] else [])) (same_number a.t)

    other_entries : (t : ℕ) → t ≢ a.t → entries t (q ++ stuck_of a.t ∷ []) ≡ entries t q
    other_entries t other =
        entries-append t q (stuck_of a.t ∷ [])
        ∙ (ap (λ b. entries t q ++ (if b then Stuck ∷ [] else [])) (ne_eqb a.t t (λ same. other (sym same))) ∙ append-nil (entries t q))

    -- with a, stuck, it has the parts exactly where it has what returned
    pub parts_tell : HasReturnedOnes q h ↔ ((t : ℕ) → entries t (q ++ stuck_of a.t ∷ []) ≡ part t (keep_pending a.t h))
    parts_tell = (
      (λ ones t. elim (eqb_tells t a.t) as (λ _. entries t (q ++ stuck_of a.t ∷ []) ≡ part t (keep_pending a.t h)) [
        | inl own ↦ subst (λ u. entries u (q ++ stuck_of a.t ∷ []) ≡ part u (keep_pending a.t h)) (sym own.1) (own_entries ∙ (ap (λ x. x ++ Stuck ∷ []) (ones a.t) ∙ sym own_part))
        | inr other ↦ other_entries t other.1 ∙ (ones t ∙ sym (other_part t other.1))
      ]),
      (λ parts t. elim (eqb_tells t a.t) as (λ _. entries t q ≡ map as_serial (outcomes t h)) [
        | inl own ↦ subst (λ u. entries u q ≡ map as_serial (outcomes u h)) (sym own.1) (same_front (entries a.t q) (map as_serial (outcomes a.t h)) Stuck Stuck (sym own_entries ∙ (parts a.t ∙ own_part)))
        | inr other ↦ sym (other_entries t other.1) ∙ (parts t ∙ other_part t other.1)
      ]),
    )

    module _ (ones : HasReturnedOnes q h) where
      many : (t : ℕ) → length (entries t (q ++ stuck_of a.t ∷ [])) ≡ calls t (keep_pending a.t h)
      many t = elim (eqb_tells t a.t) as (λ _. length (entries t (q ++ stuck_of a.t ∷ [])) ≡ calls t (keep_pending a.t h)) [
        | inl own ↦ subst (λ u. length (entries u (q ++ stuck_of a.t ∷ [])) ≡ calls u (keep_pending a.t h)) (sym own.1) own_many
        | inr other ↦ ap length (other_entries t other.1) ∙ (as_many q h is ones t ∙ sym (others_calls a.t h is t other.1))
      ]
        where
          own_many : length (entries a.t (q ++ stuck_of a.t ∷ [])) ≡ calls a.t (keep_pending a.t h)
          own_many =
              let long = ap length own_entries ∙ length_push (entries a.t q) Stuck in
              let here = as_many q h is ones a.t in
              let own = own_calls a.t h is in
              omega (arith, long, here, own, count.0, count.1)

      -- a changes nothing where it comes last
      precedence_tells : KeepsPrecedence q h ↔ KeepsPrecedence (q ++ stuck_of a.t ∷ []) (keep_pending a.t h)
      precedence_tells =
          let kept = precedence_kept a.t h is (q ++ stuck_of a.t ∷ []) (λ b l at. is_called (q ++ stuck_of a.t ∷ []) (keep_pending a.t h) (λ t. (let same = many t in omega (arith, same))) b l at) in (
            (λ precedence. kept.0 (precedence_longer q (stuck_of a.t ∷ []) h (ones_returned q h is ones) precedence)),
            (λ precedence. precedence_shorter q (stuck_of a.t ∷ []) h (kept.1 precedence)),
          )

module _ (Z : List SerialOp → Type 0) where
  pub stuck_is_witness : StuckIsWitness Z
  stuck_is_witness q h a is pending_calls = (
    (λ both.
        let ones = returned_ones q h is both.0.outcomes both.1 in (
          both.0.member,
          record {
            parts = (parts_tell h a is pending_calls q).0 ones;
            order = (precedence_orders (q ++ stuck_of a.t ∷ []) (keep_pending a.t h) (kept_sequential a.t h is) (many h a is pending_calls q ones)).0 ((precedence_tells h a is pending_calls q ones).0 both.0.precedence);
          },
        )),
    (λ both.
        let ones = (parts_tell h a is pending_calls q).1 both.1.parts in
        let same = as_many q h is ones in (
          record {
            member = both.0;
            called = λ t. (let here = same t in let turn = (in_turn h is t).returned in omega (arith, here, turn));
            outcomes = ones_returned q h is ones;
            precedence = (precedence_tells h a is pending_calls q ones).1 ((precedence_orders (q ++ stuck_of a.t ∷ []) (keep_pending a.t h) (kept_sequential a.t h is) (many h a is pending_calls q ones)).1 both.1.order);
          },
          λ t. (let here = same t in omega (arith, here)),
        )),
  )

-- a serial history with a stuck operation ends with it
abbrev EndsStuck : ℕ → List SerialOp → Type 0
EndsStuck t q = (p : List SerialOp) × (q ≡ p ++ stuck_of t ∷ [])

ends_stuck : (q : List SerialOp) (t k : ℕ) → IsSerial q → slice_get (entries t q) k ≡ Some Stuck → EndsStuck t q
ends_stuck [] t k is at = absurd (cc)
ends_stuck (op ∷ q) t k is at = elim (eqb_tells op.thread t) as (λ _. EndsStuck t (op ∷ q)) [
  | inl own ↦ here k (sym (ap (λ b. slice_get (if b then op.outcome ∷ entries t q else entries t q) k) own.0) ∙ at) own.1 (λ n there. ends_stuck q t n is.1 there)
  | inr other ↦ later (ends_stuck q t k is.1 (sym (ap (λ b. slice_get (if b then op.outcome ∷ entries t q else entries t q) k) other.0) ∙ at))
]
  where
    later : EndsStuck t q → EndsStuck t (op ∷ q)
    later rest = (op ∷ rest.0, ap (λ x. op ∷ x) rest.1)

    here : (k : ℕ) → slice_get (op.outcome ∷ entries t q) k ≡ Some Stuck → op.thread ≡ t → ((n : ℕ) → slice_get (entries t q) n ≡ Some Stuck → EndsStuck t q) → EndsStuck t (op ∷ q)
    here zero at own rest =
        let stuck : op.outcome ≡ Stuck = same_Some op.outcome Stuck at in
        let same : op ≡ stuck_of t = ap {B = SerialOp} (λ u. record { thread = u; outcome = op.outcome }) own ∙ ap {B = SerialOp} (λ o. record { thread = t; outcome = o }) stuck in
        ([], ap (λ x. op ∷ x) (is.0 stuck) ∙ ap (λ x. x ∷ []) same)
    here (suc n) at own rest = later (rest n at)

pub stuck_ends : StuckEnds
stuck_ends q h a is pending_calls serial witness =
    let last : slice_get (entries a.t q) (length (map as_serial (outcomes a.t h))) ≡ Some Stuck =
    ap (λ x. slice_get x (length (map as_serial (outcomes a.t h)))) (witness.parts a.t ∙ own_part h a is pending_calls) ∙ last_at (map as_serial (outcomes a.t h)) [] Stuck in
    ends_stuck q a.t (length (map as_serial (outcomes a.t h))) serial last
