-- The beginnings of witnesses, and witnesses as beginnings that have each thread's whole part.
use Rattle.std.proofs.Common.{◌≡◌, ℕ, suc, ◌+◌, ◌<◌, ◌≤◌, List, [], ◌∷◌, ◌++◌, length, take, drop, Some, slice_get, if◌then◌else◌, inl, inr, refl, sym, ap, ◌∙◌, subst, arith}
use Rattle.std.proofs.lemmas.Bool.{cases_lt}
use Rattle.std.proofs.lemmas.Bool.Decides.{eqb_tells}
use Rattle.std.proofs.lemmas.List.{take_all, take_at, append-nil}
use Rattle.lu_history.specs.declared.serial.SerialOp.{SerialOp}
use Rattle.lu_machine.specs.declared.event.Event.{Event}
use Rattle.lu_machine.specs.declared.event.Event.TheVariants.{Call}
use Rattle.lu_history.specs.declared.operation.OpId.{OpId}
use Rattle.lu_history.specs.Histories.{outcomes, IsWellFormed, IsCallAt}
use Rattle.lu_history.specs.Parts.{part}
use Rattle.lu_history.proofs.Events.{at_push, last_at, take_next, take_within, split_at, each_beginning, called_at, counted_return, precedes_at}
use Rattle.lu_history.proofs.PartEntries.{part_length}
use Rattle.lu_witness.specs.Witnesses.{entries, IsEntryAt, IsWitness}
use Rattle.lu_witness.specs.Search.{next_of, CanComeNext, IsBeginning}
use Rattle.lu_witness.proofs.Entries.{entries-append, entries_own, entries_more, counted_entry, entry_before, entry_of}

module _ (h : List Event) where
  pub begun_push : (p : List SerialOp) (op : SerialOp) → IsBeginning h p → CanComeNext h p op → IsBeginning h (p ++ op ∷ [])
  begun_push p op is next i x at = elim (at_push p op x i at) as (λ _. CanComeNext h (take i (p ++ op ∷ [])) x) [
    | inl b ↦ subst (λ g. CanComeNext h g x) (sym (take_within p (op ∷ []) x i b.1)) (is i x b.1)
    | inr b ↦ subst (λ y. CanComeNext h (take i (p ++ op ∷ [])) y) (sym b.1) (subst (λ g. CanComeNext h g op) (sym (take_at p (op ∷ []) i (sym b.0))) next)
  ]

  pub begun_next : (p q : List SerialOp) (op : SerialOp) → IsBeginning h (p ++ op ∷ q) → CanComeNext h p op
  begun_next p q op is = subst (λ g. CanComeNext h g op) (take_at p (op ∷ q) (length p) refl) (is (length p) op (last_at p q op))

  -- the entries of a beginning are those with which the parts begin
  begun_parts : (p : List SerialOp) → IsBeginning h p → (t i : ℕ) → take (length (entries t (take i p))) (part t h) ≡ entries t (take i p)
  begun_parts p is t = each_beginning (λ g. take (length (entries t g)) (part t h) ≡ entries t g) p refl (λ i op at same.
      elim (eqb_tells op.thread t) as (λ _. take (length (entries t (take i p ++ op ∷ []))) (part t h) ≡ entries t (take i p ++ op ∷ [])) [
        | inl own ↦
            let now : entries t (take i p ++ op ∷ []) ≡ entries t (take i p) ++ op.outcome ∷ [] = entries-append t (take i p) (op ∷ []) ∙ ap (λ b. entries t (take i p) ++ (if b then op.outcome ∷ [] else [])) own.0 in
            let long : length (entries t (take i p ++ op ∷ [])) ≡ suc (length (entries t (take i p))) = let e = entries_more t (take i p) op ∙ ap (λ b. length (entries t (take i p)) + (if b then 1 else 0)) own.0 in omega arith in
            let here : slice_get (part t h) (length (entries t (take i p))) ≡ Some op.outcome = subst (λ u. slice_get (part u h) (length (entries u (take i p))) ≡ Some op.outcome) own.1 (is i op at).outcome in
            ap (λ n. take n (part t h)) long ∙ take_next (part t h) op.outcome (length (entries t (take i p))) here ∙ ap (λ x. x ++ op.outcome ∷ []) same ∙ sym now
        | inr other ↦
            let now : entries t (take i p ++ op ∷ []) ≡ entries t (take i p) = entries-append t (take i p) (op ∷ []) ∙ ap (λ b. entries t (take i p) ++ (if b then op.outcome ∷ [] else [])) other.0 ∙ append-nil (entries t (take i p)) in
            subst (λ os. take (length os) (part t h) ≡ os) (sym now) same
      ])

  pub whole_parts : (p : List SerialOp) → IsBeginning h p → ((t : ℕ) → length (entries t p) ≡ length (part t h)) → (t : ℕ) → entries t p ≡ part t h
  whole_parts p is all t =
      let begun : take (length (entries t p)) (part t h) ≡ entries t p = subst (λ g. take (length (entries t g)) (part t h) ≡ entries t g) (take_all (length p) p (omega arith)) (begun_parts p is t (length p)) in
      sym begun ∙ take_all (length (entries t p)) (part t h) (omega (arith, all t))

  module _ (well : IsWellFormed h) where
    -- a beginning with the whole part of each thread is a witness
    pub begun_witness : (p : List SerialOp) → IsBeginning h p → ((t : ℕ) → length (entries t p) ≡ length (part t h)) → IsWitness p h
    begun_witness p is all = record {
      parts = whole_parts p is all;
      order = λ a b prec.
          let made = called_at h prec.1 b well prec.4 in
          let entry = entry_of p b (omega (arith, all b.t, part_length h well b.t)) in
          let op : SerialOp = entry.1.0 in
          let next = is entry.0 op entry.1.1 in
          let number : length (entries op.thread (take entry.0 p)) ≡ b.k = ap (λ u. length (entries u (take entry.0 p))) entry.1.2 ∙ entry.1.3 in
          let call : IsCallAt h prec.1 (next_of (take entry.0 p) op) = prec.4 ∙ ap (λ u. Some (Call u b.k)) (sym entry.1.2) ∙ ap (λ k. Some (Call op.thread k)) (sym number) in
          let first = entry_before p a entry.0 (omega (arith, next.before prec.1 a.t call, counted_return h well prec.0 prec.1 a prec.2 prec.3)) in
          (first.0, entry.0, first.1, first.2, entry.1);
    }

    -- each entry of a witness is next after those before it
    pub witness_begun : (q : List SerialOp) → IsWitness q h → IsBeginning h q
    witness_begun q is i op at = record {
      outcome =
          let whole : entries op.thread q ≡ entries op.thread (take i q) ++ op.outcome ∷ entries op.thread (drop (suc i) q) = ap (entries op.thread) (split_at q op i at) ∙ entries-append op.thread (take i q) (op ∷ drop (suc i) q) ∙ ap (λ x. entries op.thread (take i q) ++ x) (entries_own op (drop (suc i) q)) in
          ap (λ x. slice_get x (length (entries op.thread (take i q)))) (sym (is.parts op.thread) ∙ whole) ∙ last_at (entries op.thread (take i q)) (entries op.thread (drop (suc i) q)) op.outcome;
      before = λ j u call. elim (cases_lt (length (entries u (take i q))) (length (outcomes u (take j h)))) as (λ _. length (outcomes u (take j h)) ≤ length (entries u (take i q))) [
        | inl fewer ↦
            let a : OpId = record { t = u; k = length (entries u (take i q)) } in
            let b : OpId = next_of (take i q) op in
            let stands = is.order a b (precedes_at h well a b j call fewer) in
            let here : IsEntryAt q i b = (op, at, refl, refl) in
            let late : i < stands.1 → ⊥ = λ lt. absurd (omega (arith, counted_entry q b i stands.1 lt here, stands.4.3)) in
            elim (cases_lt i stands.1) as (λ _. length (outcomes u (take j h)) ≤ length (entries u (take i q))) [
              | inl lt ↦ absurd (late lt)
              | inr le ↦ absurd (omega (arith, counted_entry q a stands.0 i (omega (arith, stands.2)) stands.3))
            ]
        | inr enough ↦ enough
      ];
    }
