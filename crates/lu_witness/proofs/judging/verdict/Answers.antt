use Rattle.std.proofs.Common.{◌≡◌, ℕ, ◌<◌, true, List, inl, inr, sym, ◌∙◌, subst, arith}
use Rattle.std.proofs.lemmas.Bool.{ltb-true, cases_lt}
use Rattle.lu_machine.specs.declared.event.Event.{Event}
use Rattle.lu_history.specs.declared.operation.OpId.{OpId}
use Rattle.lu_history.specs.Histories.{pending, IsWellFormed, IsPending}
use Rattle.lu_history.proofs.Events.{in_turn}
use Rattle.lu_history.proofs.PartEntries.{pending_tells}
use Rattle.lu_witness.specs.Witnesses.{IsMember, HasWitness, IsGood}
use Rattle.lu_witness.proofs.judging.verdict.Goals.{then-is_stuck, else-is_stuck}
use Rattle.lu_witness.proofs.judging.verdict.Goals as goal

module _ (h : List Event) (well : IsWellFormed h) where
  few_pending : (t : ℕ) → pending t h ≡ true → t < 8
  few_pending t waits = elim (cases_lt t 8) as (λ _. t < 8) [
    | inl lt ↦ lt
    | inr past ↦ let turn = in_turn h well t in absurd (omega (arith, turn.none past, ltb-true _ _ waits))
  ]

  -- the thread of a pending operation waits
  waiting : (a : OpId) → IsPending h a → pending a.t h ≡ true
  waiting a is = (pending_tells h well a.t).1 (a.k, is)

pub returns-then-not-is_witnessed : goal.returns-then-not-is_witnessed
returns-then-not-is_witnessed g c =
    let h = c.args.history.now in
    let well = c.pending.ensures.well_formed in
    record {
      pending = c.pending.ensures.call.0 c.if-pending.true;
      without = λ found. (let e = c.is_witnessed.ensures.1 (subst (HasWitness (IsMember (g.T.SerialTree.members c.args.tree.now))) (sym c.alone.ensures.events) found) in absurd (cc (e, c.if-not-is_witnessed.true)));
      least = λ a lt is. c.loop-t.invariant.each a.t lt (waiting h well a is);
    }

pub returns-then-has_witness : goal.returns-then-has_witness
returns-then-has_witness g c =
    let h = c.args.history.now in
    let well = c.loop-t.invariant.well (omega arith) in
    elim c.if-is_stuck.branch as (λ _. IsGood (IsMember (g.T.SerialTree.members c.args.tree.now)) c.args.history.now) [
      | then-is_stuck w ↦
          let thread = c.loop-t.invariant.stuck w.if-is_stuck.true in
          let operation = (pending_tells h well thread.0).0 thread.1 in
          record {
            complete = λ none. absurd (none (record { t = thread.0; k = operation.0 }) operation.1);
            stuck = λ a is. (let waits = waiting h well a is in let few = few_pending h well a.t waits in c.loop-t.invariant.each a.t (omega arith) waits);
          }
      | else-is_stuck w ↦
          let witness = w.has_witness.ensures.0 (sym w.value-is ∙ c.if-has_witness.true) in
          record {
            complete = λ none. witness;
            stuck = λ a is. (let waits = waiting h well a is in let few = few_pending h well a.t waits in absurd (c.loop-t.invariant.whole w.if-is_stuck.false a.t (omega arith) waits));
          }
    ]

pub returns-else-has_witness : goal.returns-else-has_witness
returns-else-has_witness g c =
    let h = c.args.history.now in
    let well = c.loop-t.invariant.well (omega arith) in
    elim c.if-is_stuck.branch as (λ _. ((a : OpId) → IsPending c.args.history.now a → ⊥) × (HasWitness (IsMember (g.T.SerialTree.members c.args.tree.now)) c.args.history.now → ⊥)) [
      | then-is_stuck w ↦ absurd (cc (w.value-is, c.if-has_witness.false))
      | else-is_stuck w ↦ (
        (λ a is. (let waits = waiting h well a is in let few = few_pending h well a.t waits in c.loop-t.invariant.whole w.if-is_stuck.false a.t (omega arith) waits)),
        λ found. let e = w.has_witness.ensures.1 found in absurd (cc (e, w.value-is, c.if-has_witness.false)),
      )
    ]
