-- Nodes that are alike go on alike, and end alike.
use Rattle.std.proofs.Common.{arith, ◌≡◌, ◌≢◌, ℕ, ◌⊎◌, true, false, List, length, Option, Some, None, slice_get, refl, sym, ◌∙◌, ap, subst, inl, inr}
use Rattle.std.specs.Prelude.{◌==◌}
use Rattle.std.proofs.lemmas.Bool.{lt-ltb, ltb-true}
use Rattle.std.proofs.lemmas.Bool.Decides.{eqb_tells}
use Rattle.std.proofs.lemmas.List.{append-nil}
use Rattle.lu_machine.specs.declared.event.Event.{Event}
use Rattle.lu_machine.specs.States.{State, progress}
use Rattle.lu_history.specs.declared.serial.SerialOp.{SerialOp}
use Rattle.lu_history.specs.declared.serial.SerialOutcome.TheVariants.{Stuck}
use Rattle.lu_history.specs.Histories.{IsWellFormed, calls, outcomes}
use Rattle.lu_history.specs.Parts.{keep_pending}
use Rattle.lu_history.specs.Standing.{Agree}
use Rattle.lu_history.proofs.Filtered.{outcomes_kept}
use Rattle.lu_history.proofs.PartEntries.{pending_tells}
use Rattle.lu_witness.specs.Goodness.{IsGoodAt}
use Rattle.lu_witness.specs.Witnesses.{HasWitness, IsMember, entries}
use Rattle.lu_graph.specs.Alive.{IsPossible}
use Rattle.lu_graph.specs.Laws.{AlikeEndAlike, AlikeGoOn}
use Rattle.lu_graph.proofs.StatesAlike.{progress_alike, states_good, states_step}
use Rattle.lu_graph.specs.Nodes.{longer}
use Rattle.lu_graph.proofs.Possible.{EndsAs, precedence_kept, kept_formed, others_calls, own_calls, possible_goes_on, possible_witness, witness_possible}

-- two histories of one state
module _ (s : State) (h k : List Event) (agree : Agree (progress s) h) (too : Agree (progress s) k) where
  same_calls : (u : ℕ) → calls u h ≡ calls u k
  same_calls u = agree.called u ∙ sym (too.called u)

  same_returns : (u : ℕ) → length (outcomes u h) ≡ length (outcomes u k)
  same_returns u = agree.done u ∙ sym (too.done u)

  stays_possible : (q : List SerialOp) (event : Option Event) → (IsPossible q h → IsPossible q k) → IsPossible q (longer h event) → IsPossible q (longer k event)
  stays_possible q None both is = subst (IsPossible q) (sym (append-nil k)) (both (subst (IsPossible q) (append-nil h) is))
  stays_possible q (Some e) both is =
      let parts = (possible_goes_on q h e).0 is in
      (possible_goes_on q k e).1 (
        both parts.0,
        λ a outcome same.
            (let admits = parts.1 a outcome same in
            record {
              ended = admits.ended;
              before = λ j l b at lt bt. (let called = admits.before j l b at lt bt in let calls_are = same_calls b.t in omega (arith, called, calls_are));
            }),
      )

  module _ (well : IsWellFormed h) (formed : IsWellFormed k) (Set : List SerialOp → Type 0) (both : (q : List SerialOp) → Set q → IsPossible q h → IsPossible q k) where
    ends_same : (q : List SerialOp) → EndsAs q h → EndsAs q k
    ends_same q ends = record {
      long = λ u. ends.long u ∙ same_calls u;
      stuck = λ u waits.
          (let calls_are = same_calls u in
          let returns = same_returns u in
          subst (λ n. slice_get (entries u q) n ≡ Some Stuck) returns (ends.stuck u (omega (arith, waits, calls_are, returns))));
    }

    witness_same : HasWitness Set h → HasWitness Set k
    witness_same (q, of, w) =
        let parts = witness_possible q h h well well (λ u. refl) (λ called. ((λ x. x), (λ x. x))) w in
        (q, of, possible_witness q k k formed formed (λ u. refl) (λ called. ((λ x. x), (λ x. x))) (both q of parts.0) (ends_same q parts.1))

    -- without the pending calls of other threads
    module _ (t : ℕ) where
      kept_calls_by : (u : ℕ) → ((t == u) ≡ true) × (t ≡ u) ⊎ ((t == u) ≡ false) × (t ≢ u) → calls u (keep_pending t h) ≡ calls u (keep_pending t k)
      kept_calls_by u (inl own) = subst (λ x. calls x (keep_pending t h) ≡ calls x (keep_pending t k)) own.1 (own_calls t h well ∙ (same_calls t ∙ sym (own_calls t k formed)))
      kept_calls_by u (inr other) = others_calls t h well u (λ e. other.1 (sym e)) ∙ (same_returns u ∙ sym (others_calls t k formed u (λ e. other.1 (sym e))))

      kept_calls : (u : ℕ) → calls u (keep_pending t h) ≡ calls u (keep_pending t k)
      kept_calls u = kept_calls_by u (eqb_tells t u)

      kept_returns : (u : ℕ) → length (outcomes u (keep_pending t h)) ≡ length (outcomes u (keep_pending t k))
      kept_returns u = ap length (outcomes_kept t h u h) ∙ (same_returns u ∙ sym (ap length (outcomes_kept t k u k)))

      kept_ends : (q : List SerialOp) → EndsAs q (keep_pending t h) → EndsAs q (keep_pending t k)
      kept_ends q ends = record {
        long = λ u. ends.long u ∙ kept_calls u;
        stuck = λ u waits.
            (let calls_are = kept_calls u in
            let returns = kept_returns u in
            subst (λ n. slice_get (entries u q) n ≡ Some Stuck) returns (ends.stuck u (omega (arith, waits, calls_are, returns))));
      }

      kept_witness : HasWitness Set (keep_pending t h) → HasWitness Set (keep_pending t k)
      kept_witness (q, of, w) =
          let parts = witness_possible q h (keep_pending t h) well (kept_formed t h well) (λ u. outcomes_kept t h u h) (precedence_kept t h well q) w in
          (q, of, possible_witness q k (keep_pending t k) formed (kept_formed t k formed) (λ u. outcomes_kept t k u k) (precedence_kept t k formed q) (both q of parts.0) (kept_ends q parts.1))

    good_same : IsGoodAt Set s h → IsGoodAt Set s k
    good_same (inl good) = inl (good.0, witness_same good.1)
    good_same (inr good) = inr (
      good.0,
      λ a pends.
          (let waits = ltb-true (length (outcomes a.t k)) (calls a.t k) ((pending_tells k formed a.t).1 (a.k, pends)) in
          let calls_are = same_calls a.t in
          let returns = same_returns a.t in
          let found = (pending_tells h well a.t).0 (lt-ltb (length (outcomes a.t h)) (calls a.t h) (omega (arith, waits, calls_are, returns))) in
          kept_witness a.t (good.1 (record { t = a.t; k = found.0 }) found.1)),
    )

pub alike_go_on : AlikeGoOn
alike_go_on members dead a b m next event known fits too alike step =
    let there = states_step a.state.component dead known a.state b.state refl alike.0 m next event step in
    let agree = subst (λ p. Agree p a.history) (sym (progress_alike a.state b.state alike.0)) fits.agree in
    record {
      other = there.0;
      step = there.1;
      alike = (
        there.2,
        λ q of. (
          stays_possible b.state a.history b.history agree too.agree q event (alike.1 q of).0,
          stays_possible b.state b.history a.history too.agree agree q event (alike.1 q of).1,
        ),
      );
    }

pub alike_end_alike : AlikeEndAlike
alike_end_alike members dead a b known fits too alike good =
    let agree = subst (λ p. Agree p a.history) (sym (progress_alike a.state b.state alike.0)) fits.agree in
    good_same b.state a.history b.history agree too.agree fits.well_formed too.well_formed (IsMember members) (λ q of. (alike.1 q of).0)
    (states_good a.state.component dead known (IsMember members) a.state b.state a.history refl alike.0 good)
