-- A deterministic set stays so where a history without conflict comes in.
use Rattle.std.proofs.Common.{◌≡◌, ℕ, true, None, Some, Option, List, [], sym, ap, ◌∙◌, subst}
use Rattle.lu_history.specs.declared.serial.SerialOp.{SerialOp}
use Rattle.lu_history.specs.declared.serial.SerialOutcome.{SerialOutcome}
use Rattle.lu_trie.specs.Members.{same_history, contains, Adds}
use Rattle.lu_trie.specs.Conflicts.{ConflictAt, IsDeterministic, HasConflict}
use Rattle.lu_trie.proofs.Ops.{same_histories_are}
use Rattle.lu_trie.proofs.Membership.{split_or}
use Rattle.lu_trie.proofs.Conflicts.{Tells}

-- a conflict is one from the other side, too
pub conflict_back : (a b : List SerialOp) (i : ℕ) (o : SerialOutcome) → ConflictAt a b i o → (p : SerialOutcome) × ConflictAt b a i p
conflict_back a b i o c = (
  c.next.outcome,
  record {
    same = sym c.same;
    next = record { thread = c.next.thread; outcome = o };
    next_is = c.other_is;
    other_is = c.next_is;
    differ = λ e. c.differ (sym e);
  },
)

some_value : (a b : SerialOp) → Some a ≡ Some b → a ≡ b
some_value a b e = cc

pub no_self_conflict : (a : List SerialOp) (i : ℕ) (o : SerialOutcome) → ConflictAt a a i o → ⊥
no_self_conflict a i o c =
    let other : SerialOp = record { thread = c.next.thread; outcome = o } in
    c.differ (ap (λ (x : SerialOp). x.outcome) (some_value other c.next (sym c.other_is ∙ c.next_is)))

pub none_deterministic : IsDeterministic []
none_deterministic h q i o mh mq c = cc

module _ (old new : List (List SerialOp)) (h : List SerialOp) (adds : Adds old new h) where
  member_of_new : (q : List SerialOp) (P : Type 0) → contains new q ≡ true → (q ≡ h → P) → (contains old q ≡ true → P) → P
  member_of_new q P is f g = split_or (same_history q h) (contains old q) P (λ e. f (same_histories_are q h e)) g (sym (adds q) ∙ is)

  pub deterministic_adds : IsDeterministic old → ((i : ℕ) (o : SerialOutcome) → HasConflict old h i o → ⊥) → IsDeterministic new
  deterministic_adds det free a b i o ma mb c =
      member_of_new a ⊥ ma
      (λ ea. member_of_new b ⊥ mb
      (λ eb. no_self_conflict h i o (subst (λ x. ConflictAt x h i o) ea (subst (λ y. ConflictAt a y i o) eb c)))
      (λ ob. free i o (b, ob, subst (λ x. ConflictAt x b i o) ea c)))
      (λ oa. member_of_new b ⊥ mb
      (λ eb. (let back = conflict_back a h i o (subst (λ y. ConflictAt a y i o) eb c) in free i back.0 (a, oa, back.1)))
      (λ ob. det a b i o oa ob c))

  -- what `conflict` answers
  pub deterministic_from_none : IsDeterministic old → (r : Option (ℕ × SerialOutcome)) → r ≡ None → Tells r old h → IsDeterministic new
  deterministic_from_none det r none tells = deterministic_adds det (λ i o has. (let u : ◌≡◌ {A = Option (ℕ × SerialOutcome)} None (Some (i, o)) = sym none ∙ (tells i o).1 has in cc))
