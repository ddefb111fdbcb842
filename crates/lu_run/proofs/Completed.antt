-- A history has a linearization exactly where some completion of it has a witness.
use Rattle.std.proofs.Common.{arith, ◌≡◌, ℕ, zero, suc, ◌<◌, ◌≤◌, List, [], ◌∷◌, ◌++◌, length, map, get_or, take, Some, slice_get, refl, sym, ◌∙◌, ap, subst, inl, inr, append_assoc}
use Rattle.std.specs.Prelude.{◌↔◌}
use Rattle.std.proofs.lemmas.Bool.{cases_lt}
use Rattle.std.proofs.lemmas.Bool.Decides.{eqb_tells}
use Rattle.std.proofs.lemmas.List.{append-nil, length-append}
use Rattle.std.proofs.lemmas.Option.{slice_get-get_or}
use Rattle.lu_machine.specs.declared.event.Event.{Event}
use Rattle.lu_machine.specs.declared.event.Event.TheVariants.{Call, Return}
use Rattle.lu_machine.specs.declared.event.Outcome.{Outcome}
use Rattle.lu_machine.specs.declared.event.Outcome.TheVariants.{Ret, Trap}
use Rattle.lu_history.specs.declared.serial.SerialOp.{SerialOp}
use Rattle.lu_history.specs.declared.serial.SerialOutcome.{SerialOutcome}
use Rattle.lu_history.specs.declared.serial.SerialOutcome.TheVariants.{Ret as Returned, Trap as Trapped, Stuck}
use Rattle.lu_history.specs.Histories.{calls, outcomes}
use Rattle.lu_history.specs.Parts.{as_serial, keep_pending}
use Rattle.lu_history.proofs.Events.{at_push, calls-append, outcomes-append, outcomes_return, take_within}
use Rattle.lu_witness.specs.Witnesses.{IsWitness, entries}
use Rattle.lu_linearization.specs.Linearizations.{AllReturned, ComesNext, HasOnlyCalled, HasOnlyReturned, HasSequentialThreads, IsLinearization}
use Rattle.lu_linearization.proofs.Ended.{HasReturnedOnes, as_many, complete_is_witness, ones_returned, returned_ones}
use Rattle.lu_linearization.proofs.Goes.{return_goes_on}
use Rattle.lu_linearization.proofs.Keeping.{kept_outcomes, kept_sequential, others_calls, own_calls, precedence_kept}
use Rattle.lu_linearization.proofs.Sequential.{in_turn}
use Rattle.lu_linearization.proofs.Standing.{is_called}
use Rattle.lu_run.specs.Completions.{AreReturns, Extends, HasCompletion}

-- ---- returns at the end

returns_push : (r : List Event) (t k : ℕ) (o : Outcome) → AreReturns r → AreReturns (r ++ Return t k o ∷ [])
returns_push [] t k o are = tt
returns_push (Call u l ∷ r) t k o none = absurd none
returns_push (Return u l p ∷ r) t k o are = returns_push r t k o are

no_calls : (t : ℕ) (r : List Event) → AreReturns r → calls t r ≡ 0
no_calls t [] are = refl
no_calls t (Call u l ∷ r) none = absurd none
no_calls t (Return u l p ∷ r) are = no_calls t r are

take_front : (h : List Event) (e : Event) → take (length h) (h ++ e ∷ []) ≡ h
take_front [] e = refl
take_front (x ∷ h) e = ap (λ z. x ∷ z) (take_front h e)

pub sequential_push : (g : List Event) (e : Event) → HasSequentialThreads g → ComesNext g e → HasSequentialThreads (g ++ e ∷ [])
sequential_push g e is next i x at = elim (at_push g e x i at) as (λ _. ComesNext (take i (g ++ e ∷ [])) x) [
  | inl old ↦ subst (λ y. ComesNext y x) (sym (take_within g (e ∷ []) x i old.1)) (is i x old.1)
  | inr new ↦ subst (λ y. ComesNext y x) (sym (ap (λ n. take n (g ++ e ∷ [])) new.0 ∙ take_front g e)) (subst (ComesNext g) (sym new.1) next)
]

unserial : (x : SerialOutcome) → (x ≡ Stuck → ⊥) → (o : Outcome) × (as_serial o ≡ x)
unserial (Returned n) free = (Ret n, refl)
unserial Trapped free = (Trap, refl)
unserial Stuck free = absurd (free refl)

-- ---- without the pending calls

module _ (Z : List SerialOp → Type 0) (v : ℕ) (g : List Event) (is : HasSequentialThreads g) (nobody : calls v g ≡ 0) where
  kept_calls : (t : ℕ) → calls t (keep_pending v g) ≡ length (outcomes t g)
  kept_calls t = elim (eqb_tells t v) as (λ _. calls t (keep_pending v g) ≡ length (outcomes t g)) [
    | inl own ↦ subst (λ u. calls u (keep_pending v g) ≡ length (outcomes u g)) (sym own.1) (let few = (in_turn g is v).returned in let same = own_calls v g is in omega (arith, few, same, nobody))
    | inr other ↦ others_calls v g is t other.1
  ]

  kept_returned : AllReturned (keep_pending v g)
  kept_returned t = kept_calls t ∙ sym (ap length (kept_outcomes v g is t))

  ones_kept : (q : List SerialOp) → HasReturnedOnes q g → HasReturnedOnes q (keep_pending v g)
  ones_kept q ones t = ones t ∙ ap (map as_serial) (sym (kept_outcomes v g is t))

  ones_back : (q : List SerialOp) → HasReturnedOnes q (keep_pending v g) → HasReturnedOnes q g
  ones_back q ones t = ones t ∙ ap (map as_serial) (kept_outcomes v g is t)

  called_kept : (q : List SerialOp) → HasReturnedOnes q g → HasOnlyCalled q (keep_pending v g)
  called_kept q ones t = (let many = as_many q g is ones t in let same = kept_calls t in omega (arith, many, same))

  witness_kept : (q : List SerialOp) → IsLinearization Z q g → HasOnlyReturned q g → IsWitness q (keep_pending v g)
  witness_kept q line only =
      let ones = returned_ones q g is line.outcomes only in
      let called = called_kept q ones in
      let whole : IsLinearization Z q (keep_pending v g) = record {
        member = line.member;
        called = called;
        outcomes = ones_returned q (keep_pending v g) (kept_sequential v g is) (ones_kept q ones);
        precedence = (precedence_kept v g is q (λ b l at. is_called q (keep_pending v g) called b l at)).0 line.precedence;
      } in
      ((complete_is_witness Z q (keep_pending v g) (kept_sequential v g is) kept_returned).0 whole).1

  line_back : (q : List SerialOp) → Z q → IsWitness q (keep_pending v g) → IsLinearization Z q g
  line_back q member witness =
      let whole : IsLinearization Z q (keep_pending v g) = (complete_is_witness Z q (keep_pending v g) (kept_sequential v g is) kept_returned).1 (member, witness) in
      let ones = ones_back q (returned_ones q (keep_pending v g) (kept_sequential v g is) whole.outcomes (λ t. subst (λ n. length (entries t q) ≤ n) (kept_returned t) (whole.called t))) in
      record {
        member = member;
        called = λ t. (let many = as_many q g is ones t in let turn = (in_turn g is t).returned in omega (arith, many, turn));
        outcomes = ones_returned q g is ones;
        precedence = (precedence_kept v g is q (λ b l at. is_called q (keep_pending v g) whole.called b l at)).1 whole.precedence;
      }

-- ---- completions

module _ (Z : List SerialOp → Type 0) where
  back_to : (r h : List Event) (q : List SerialOp) → AreReturns r → IsLinearization Z q (h ++ r) → IsLinearization Z q h
  back_to [] h q are line = subst (IsLinearization Z q) (append-nil h) line
  back_to (Call t k ∷ r) h q none line = absurd none
  back_to (Return t k o ∷ r) h q are line =
      ((return_goes_on Z q h (record { t = t; k = k }) o).0 (back_to r (h ++ Return t k o ∷ []) q are (subst (IsLinearization Z q) (sym (append_assoc h (Return t k o ∷ []) r)) line))).0

  module _ (never : (q : List SerialOp) (t k : ℕ) → Z q → slice_get (entries t q) k ≡ Some Stuck → ⊥) where
    -- the operations of the first n threads have returned, if they are in q
    record UpTo (q : List SerialOp) (h : List Event) (n : ℕ) : Type 0 where
      g : List Event
      extends : Extends h g
      line : IsLinearization Z q g
      few : (u : ℕ) → u < n → length (entries u q) ≤ length (outcomes u g)

    one_more : (q : List SerialOp) (h : List Event) (n : ℕ) → UpTo q h n → UpTo q h (suc n)
    one_more q h n was = elim (cases_lt (length (outcomes n was.g)) (length (entries n q))) as (λ _. UpTo q h (suc n)) [
      | inl lt ↦ returned lt
      | inr ge ↦ record {
        g = was.g;
        extends = was.extends;
        line = was.line;
        few = λ u below. elim (cases_lt u n) as (λ _. length (entries u q) ≤ length (outcomes u was.g)) [
          | inl less ↦ was.few u less
          | inr here ↦ (let same : n ≡ u = omega (arith, below, here) in subst (λ x. length (entries x q) ≤ length (outcomes x was.g)) same ge)
        ];
      }
    ]
      where
        k : ℕ
        k = length (outcomes n was.g)

        sequential : HasSequentialThreads was.g
        sequential = was.extends.3

        returned : length (outcomes n was.g) < length (entries n q) → UpTo q h (suc n)
        returned lt =
            let at : slice_get (entries n q) k ≡ Some (get_or (entries n q) k Stuck) = slice_get-get_or (entries n q) k Stuck lt in
            let o = unserial (get_or (entries n q) k Stuck) (λ stuck. never q n k was.line.member (at ∙ ap Some stuck)) in
            let called = was.line.called n in
            let turn = (in_turn was.g sequential n).open_one in
            let next : ComesNext was.g (Return n k o.0) = (omega (arith, called, turn, lt), refl) in
            let more = λ (u : ℕ). ap length (outcomes-append u was.g (Return n k o.0 ∷ [])) ∙ length-append (outcomes u was.g) (outcomes u (Return n k o.0 ∷ [])) in
            record {
              g = was.g ++ Return n k o.0 ∷ [];
              extends = (was.extends.0 ++ Return n k o.0 ∷ [], ap (λ x. x ++ Return n k o.0 ∷ []) was.extends.1 ∙ append_assoc h was.extends.0 (Return n k o.0 ∷ []), returns_push was.extends.0 n k o.0 was.extends.2, sequential_push was.g (Return n k o.0) sequential next);
              line = (return_goes_on Z q was.g (record { t = n; k = k }) o.0).1 (was.line, at ∙ ap Some (sym o.1));
              few = λ u below. elim (cases_lt u n) as (λ _. length (entries u q) ≤ length (outcomes u (was.g ++ Return n k o.0 ∷ []))) [
                | inl less ↦ (let old = was.few u less in let longer = more u in omega (arith, old, longer))
                | inr here ↦
                    (let same : n ≡ u = omega (arith, below, here) in
                    let longer = more n in
                    let one : length (outcomes n (Return n k o.0 ∷ [])) ≡ 1 = ap length (outcomes_return n k o.0 []) in
                    subst (λ x. length (entries x q) ≤ length (outcomes x (was.g ++ Return n k o.0 ∷ []))) same (omega (arith, longer, one, called, turn)))
              ];
            }

    up_to : (q : List SerialOp) (h : List Event) → HasSequentialThreads h → IsLinearization Z q h → (n : ℕ) → UpTo q h n
    up_to q h is line zero = record { g = h; extends = ([], sym (append-nil h), tt, is); line = line; few = λ u lt. absurd (omega arith) }
    up_to q h is line (suc n) = one_more q h n (up_to q h is line n)

    pub completes : (h : List Event) → HasSequentialThreads h → ((t : ℕ) → 8 ≤ t → calls t h ≡ 0) → ((q : List SerialOp) × IsLinearization Z q h) ↔ HasCompletion Z h
    completes h is nobody = (
      (λ (q, line).
          let all = up_to q h is line 8 in
          let none : calls 8 all.g ≡ 0 = nobody_there all.g all.extends in
          let only : HasOnlyReturned q all.g =
          (λ t. elim (cases_lt t 8) as (λ _. length (entries t q) ≤ length (outcomes t all.g)) [
            | inl lt ↦ all.few t lt
            | inr past ↦ (let few = line.called t in let zero_calls = nobody t past in omega (arith, few, zero_calls))
          ]) in
          (all.g, all.extends, (q, all.line.member, witness_kept Z 8 all.g all.extends.3 none q all.line only))),
      (λ (g, extends, (q, member, witness)).
          let none = nobody_there g extends in
          (q, back_to extends.0 h q extends.2 (subst (IsLinearization Z q) extends.1 (line_back Z 8 g extends.3 none q member witness)))),
    )
      where
        nobody_there : (g : List Event) → Extends h g → calls 8 g ≡ 0
        nobody_there g extends =
            let whole = ap (calls 8) extends.1 ∙ calls-append 8 h extends.0 in
            let none = nobody 8 (omega arith) in
            let more = no_calls 8 extends.0 extends.2 in
            omega (arith, whole, none, more)
