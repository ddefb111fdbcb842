-- A history without a pending call has its operations, in the order in which they return, as a witness.
use Rattle.std.proofs.Common.{◌≡◌, ℕ, suc, ◌≤◌, List, [], ◌∷◌, ◌++◌, map, length, take, drop, Some, slice_get, inl, inr, refl, sym, ap, ◌∙◌, subst, arith}
use Rattle.std.proofs.lemmas.Bool.{cases_lt}
use Rattle.std.proofs.lemmas.Bool.Decides.{eqb_tells}
use Rattle.std.proofs.lemmas.Option.{slice_get-map}
use Rattle.std.specs.Option.{option_map}
use Rattle.std.proofs.lemmas.List.{take_all, append-nil, length-map}
use Rattle.lu_machine.specs.declared.event.Event.{Event}
use Rattle.lu_machine.specs.declared.event.Event.TheVariants.{Call, Return}
use Rattle.lu_machine.specs.declared.event.Outcome.{Outcome}
use Rattle.lu_history.specs.declared.operation.OpId.{OpId}
use Rattle.lu_history.specs.declared.serial.SerialOp.{SerialOp}
use Rattle.lu_history.specs.Histories.{calls, outcomes, IsWellFormed}
use Rattle.lu_history.specs.Parts.{as_serial}
use Rattle.lu_history.proofs.Events.{counted_return, each_beginning, kept_at, last_at, outcomes-append, outcomes_grow, outcomes_return, split_at}
use Rattle.lu_history.proofs.PartEntries.{part_returned}
use Rattle.lu_witness.specs.Witnesses.{entries, IsWitness}
use Rattle.lu_witness.specs.Search.{IsBeginning, CanComeNext}
use Rattle.lu_witness.proofs.Beginnings.{begun_push, begun_witness}
use Rattle.lu_judge.specs.Returned.{returned}
use Rattle.lu_judge.proofs.Returning.{returned-append}

-- each thread's are those of its part
pub returned_entries : (t : ℕ) (h : List Event) → entries t (returned h) ≡ map as_serial (outcomes t h)
returned_entries t [] = refl
returned_entries t (Call u k ∷ h) = returned_entries t h
returned_entries t (Return u k o ∷ h) =
    elim (eqb_tells u t) as (λ _. entries t (returned (Return u k o ∷ h)) ≡ map as_serial (outcomes t (Return u k o ∷ h))) [
      | inl own ↦ rw (own.0, returned_entries t h) refl
      | inr other ↦ rw (other.0, returned_entries t h) refl
    ]

pub returned_count : (t : ℕ) (h : List Event) → length (entries t (returned h)) ≡ length (outcomes t h)
returned_count t h = ap length (returned_entries t h) ∙ length-map (outcomes t h) as_serial

module _ (g : List Event) (well : IsWellFormed g) where
  -- what returns at j is next after operations of which each thread has as many as have returned before
  return_next : (j t k : ℕ) (o : Outcome) (q : List SerialOp) → slice_get g j ≡ Some (Return t k o) → ((u : ℕ) → length (entries u q) ≡ length (outcomes u (take j g))) → CanComeNext g q (record { thread = t; outcome = as_serial o })
  return_next j t k o q at many =
      let fits = well j (Return t k o) at in
      let whole : outcomes t g ≡ outcomes t (take j g) ++ o ∷ outcomes t (drop (suc j) g) = ap (outcomes t) (split_at g (Return t k o) j at) ∙ (outcomes-append t (take j g) (Return t k o ∷ drop (suc j) g) ∙ ap (λ x. outcomes t (take j g) ++ x) (outcomes_return t k o (drop (suc j) g))) in
      let here : slice_get (outcomes t g) (length (entries t q)) ≡ Some o = rw (many t, whole) (last_at (outcomes t (take j g)) (outcomes t (drop (suc j) g)) o) in
      let mapped : slice_get (map as_serial (outcomes t g)) (length (entries t q)) ≡ Some (as_serial o) = slice_get-map as_serial (outcomes t g) (length (entries t q)) ∙ ap (option_map as_serial) here in
      record {
        outcome = kept_at (map as_serial (outcomes t g)) _ (as_serial o) (length (entries t q)) mapped;
        before = λ i u call. elim (cases_lt j i) [
          | inl late ↦
              (let called = well i (Call t (length (entries t q))) call in
              let a : OpId = record { t = t; k = k } in
              let counted = counted_return g well j i a late (o, at) in
              absurd (omega (arith, called.3, counted, fits.3, many t)))
          | inr early ↦ omega (arith, outcomes_grow u g i j early, many u)
        ];
      }

  -- they go on as a beginning of a witness while the history goes on
  returned_begun : IsBeginning g (returned g)
  returned_begun =
      subst (λ h. IsBeginning g (returned h)) (take_all (length g) g (omega arith))
      (each_beginning (λ h. IsBeginning g (returned h)) g (λ i op at. cc) more (length g))
    where
      more : (i : ℕ) (e : Event) → slice_get g i ≡ Some e → IsBeginning g (returned (take i g)) → IsBeginning g (returned (take i g ++ e ∷ []))
      more i (Call t k) at begun = subst (IsBeginning g) (sym (returned-append (take i g) (Call t k ∷ []) ∙ append-nil (returned (take i g)))) begun
      more i (Return t k o) at begun =
          let op : SerialOp = record { thread = t; outcome = as_serial o } in
          let next = return_next i t k o (returned (take i g)) at (λ u. returned_count u (take i g)) in
          subst (IsBeginning g) (sym (returned-append (take i g) (Return t k o ∷ []))) (begun_push g (returned (take i g)) op begun next)

  -- where no call is pending
  pub returned_witness : ((t : ℕ) → calls t g ≤ length (outcomes t g)) → IsWitness (returned g) g
  returned_witness whole = begun_witness g well (returned g) returned_begun (λ t. returned_count t g ∙ (sym (length-map (outcomes t g) as_serial) ∙ ap length (sym (part_returned t g (whole t)))))
