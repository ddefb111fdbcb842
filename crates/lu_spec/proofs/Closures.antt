-- The closure of a set without conflict is a specification.
use Rattle.std.proofs.Common.{◌≡◌, ℕ, suc, zero, ◌≤◌, ◌⊎◌, List, [], ◌∷◌, ◌++◌, length, take, Some, slice_get, refl, sym, ap, subst, ◌∙◌, inl, inr, arith}
use Rattle.std.specs.Prelude.{All}
use Rattle.std.proofs.lemmas.List.{take-append-le, length-append}
use Rattle.std.proofs.lemmas.List.Elements.{All-nil, All-take}
use Rattle.std.proofs.Math.Seq.{take-append_seam}
use Rattle.std.proofs.lemmas.Option.{slice_get_within}
use Rattle.lu_history.specs.declared.serial.SerialOp.{SerialOp}
use Rattle.lu_history.specs.declared.serial.SerialOutcome.{SerialOutcome}
use Rattle.lu_test.specs.Matrix.{Matrix}
use Rattle.lu_trie.specs.Members.{AllSerial}
use Rattle.lu_trie.specs.Conflicts.{ConflictAt, IsDeterministic}
use Rattle.lu_witness.specs.Witnesses.{entries}
use Rattle.lu_witness.proofs.Entries.{entries-append}
use Rattle.lu_spec.specs.Beginnings.{Has, Begins, IsClosed, IsClosureOf, IsBelow, AddsBelow}
use Rattle.lu_spec.specs.Specs.{IsSpec, FitsMatrix, AreOf, AllHaveOutcomes, HasOutcome}
use Rattle.lu_spec.proofs.Sets.{begins_trans, serial_begin}

got_front : (h rest : List SerialOp) (i : ℕ) (op : SerialOp) → slice_get h i ≡ Some op → slice_get (h ++ rest) i ≡ Some op
got_front [] rest i op at = absurd cc
got_front (x ∷ h) rest zero op at = at
got_front (x ∷ h) rest (suc i) op at = got_front h rest i op at

got_begin : (q h : List SerialOp) (i : ℕ) (op : SerialOp) → Begins q h → slice_get q i ≡ Some op → slice_get h i ≡ Some op
got_begin q h i op begins at = subst (λ (x : List SerialOp). slice_get x i ≡ Some op) (sym begins.1) (got_front q begins.0 i op at)

front_same : (q h : List SerialOp) (i : ℕ) → Begins q h → i ≤ length q → take i h ≡ take i q
front_same q h i begins le = ap (take i) begins.1 ∙ take-append-le i q begins.0 le

-- where beginnings conflict, so do the histories
pub conflict_on : (p q g h : List SerialOp) (i : ℕ) (o : SerialOutcome) → Begins p g → Begins q h → ConflictAt p q i o → ConflictAt g h i o
conflict_on p q g h i o first second conflict =
    let within = slice_get_within p i conflict.next conflict.next_is in
    let also = slice_get_within q i (record { thread = conflict.next.thread; outcome = o }) conflict.other_is in
    record {
      same = front_same p g i first (omega arith) ∙ (conflict.same ∙ sym (front_same q h i second (omega arith)));
      next = conflict.next;
      next_is = got_begin p g i conflict.next first conflict.next_is;
      other_is = got_begin q h i (record { thread = conflict.next.thread; outcome = o }) second conflict.other_is;
      differ = conflict.differ;
    }

none_left : (q : List SerialOp) (i : ℕ) (o : SerialOutcome) → ConflictAt [] q i o → ⊥
none_left q i o conflict = let at = conflict.next_is in absurd cc

pub none_right : (p : List SerialOp) (i : ℕ) (o : SerialOutcome) → ConflictAt p [] i o → ⊥
none_right p i o conflict = let at = conflict.other_is in absurd cc

module _ (set closed : List (List SerialOp)) (closure : IsClosureOf set closed) where
  FromSet : List SerialOp → Type 0
  FromSet q = (q ≡ []) ⊎ ((h : List SerialOp) × Begins q h × Has set h)

  deterministic : IsDeterministic set → IsDeterministic closed
  deterministic apart p q i o has also conflict = by_parts ((closure p).0 has) ((closure q).0 also)
    where
      by_parts : (p ≡ []) ⊎ ((h : List SerialOp) × Begins p h × Has set h) → (q ≡ []) ⊎ ((h : List SerialOp) × Begins q h × Has set h) → ⊥
      by_parts (inl empty) y = none_left q i o (subst (λ (x : List SerialOp). ConflictAt x q i o) empty conflict)
      by_parts (inr (g, first, member)) (inl empty) = none_right p i o (subst (λ (x : List SerialOp). ConflictAt p x i o) empty conflict)
      by_parts (inr (g, first, member)) (inr (h, second, other)) = apart g h i o member other (conflict_on p q g h i o first second conflict)

  pub is_closed : IsClosed closed
  is_closed q h begins has = by_part ((closure h).0 has)
    where
      none_before : (x rest : List SerialOp) → [] ≡ x ++ rest → x ≡ []
      none_before [] rest e = refl
      none_before (op ∷ x) rest e = absurd cc

      by_part : (h ≡ []) ⊎ ((g : List SerialOp) × Begins h g × Has set g) → Has closed q
      by_part (inl empty) = (closure q).1 (inl (none_before q begins.0 (sym empty ∙ begins.1)))
      by_part (inr (g, on, member)) = (closure q).1 (inr (g, begins_trans q h g begins on, member))

  pub all_serial : AllSerial set → AllSerial closed
  all_serial serial q has = elim ((closure q).0 has) [
    | inl empty ↦ rw empty tt
    | inr (h, begins, member) ↦ serial_begin q h begins (serial h member)
  ]

  pub all_outcomes : AllHaveOutcomes set → AllHaveOutcomes closed
  all_outcomes outcomes q has = elim ((closure q).0 has) [
    | inl empty ↦ subst (λ (x : List SerialOp). All HasOutcome x) (sym empty) (All-nil HasOutcome)
    | inr (h, begins, member) ↦
        let whole : take (length q) h ≡ q = ap (take (length q)) begins.1 ∙ take-append_seam q begins.0 in
        subst (λ (x : List SerialOp). All HasOutcome x) whole (All-take HasOutcome (length q) h (outcomes h member))
  ]

  pub is_spec : IsDeterministic set → AllSerial set → AllHaveOutcomes set → IsSpec closed
  is_spec apart serial outcomes = record {
    deterministic = deterministic apart;
    closed = is_closed;
    empty = (closure []).1 (inl refl);
    serial = all_serial serial;
    outcomes = all_outcomes outcomes;
  }

  pub closure_of : (matrix : Matrix) → AreOf matrix set → AreOf matrix closed
  closure_of matrix of q has t = elim ((closure q).0 has) [
    | inl empty ↦ subst (λ (x : List SerialOp). FitsMatrix matrix x) (sym empty) (λ u. omega arith) t
    | inr (h, begins, member) ↦
        let parts = ap length (ap (entries t) begins.1 ∙ entries-append t q begins.0) in
        omega (arith, of h member t, parts, length-append (entries t q) (entries t begins.0))
  ]

-- what the walk added is the closure
pub walked_closure : (set closed : List (List SerialOp)) → AddsBelow [] closed [] set → IsClosureOf set closed
walked_closure set closed added q = (λ has. forth ((added q).0 has), λ h. (added q).1 (back h))
  where
    forth : Has [] q ⊎ IsBelow [] set q → (q ≡ []) ⊎ ((h : List SerialOp) × Begins q h × Has set h)
    forth (inl none) = absurd cc
    forth (inr (inl here)) = inl here
    forth (inr (inr (begin, h, e, b, has))) = inr (h, subst (λ (x : List SerialOp). Begins x h) (sym e) b, has)

    back : (q ≡ []) ⊎ ((h : List SerialOp) × Begins q h × Has set h) → Has [] q ⊎ IsBelow [] set q
    back (inl here) = inr (inl here)
    back (inr (h, begins, has)) = inr (inr (q, h, refl, begins, has))
