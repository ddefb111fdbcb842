-- A witness below a place of a tree, by the kids of the place.
use Rattle.std.proofs.Common.{◌≡◌, ℕ, zero, suc, ◌+◌, ◌<◌, Bool, true, false, ◌&&◌, ◌||◌, List, [], ◌∷◌, ◌++◌, length, get_or, set, Some, slice_get, if◌then◌else◌, refl, sym, ap, ◌∙◌, subst, arith, append_assoc}
use Rattle.std.specs.Prelude.{◌==◌}
use Rattle.std.proofs.lemmas.List.{append-nil}
use Rattle.lu_history.specs.declared.serial.SerialOp.{SerialOp}
use Rattle.lu_trie.specs.Members.{same_op, contains}
use Rattle.lu_trie.specs.Branches.{Branch, branches_of, IsBranching}
use Rattle.lu_trie.proofs.Ops.{same_ops_are, ops_equiv}
use Rattle.lu_trie.proofs.Membership.{kids_contain}
use Rattle.lu_trie.proofs.Trees.{branching-cons}
use Rattle.lu_machine.specs.declared.event.Event.{Event}
use Rattle.lu_history.specs.Histories.{IsWellFormed}
use Rattle.lu_history.proofs.Keeping.{bumped}
use Rattle.lu_witness.specs.Witnesses.{entries, IsWitness}
use Rattle.lu_witness.specs.Search.{AreTaken, CanComeNext}
use Rattle.lu_witness.proofs.Entries.{entries_more}
use Rattle.lu_witness.proofs.Beginnings.{begun_next, witness_begun}

-- one more entry, counted
pub taken_more : (taken : List ℕ) (p : List SerialOp) (op : SerialOp) (s : ℕ) → AreTaken p taken → s < length taken → op.thread ≡ s → AreTaken (p ++ op ∷ []) (set taken s (get_or taken s 0 + 1))
taken_more taken p op s are lt same t =
    bumped taken s t lt
    ∙ ap (λ x. x + (if s == t then 1 else 0)) (are t)
    ∙ ap (λ x. length (entries t p) + (if x == t then 1 else 0)) (sym same)
    ∙ sym (entries_more t p op)

both : (a b : Bool) → (a && b) ≡ true → (a ≡ true) × (b ≡ true)
both true b h = (refl, h)
both false b h = cc

-- a kid with the label and the history
record IsKid (bs : List Branch) (p : SerialOp) (q : List SerialOp) : Type 0 where
  place : ℕ
  branch : Branch
  within : place < length bs
  at : slice_get bs place ≡ Some branch
  label : branch.0 ≡ p
  member : contains branch.1 q ≡ true

kid_of : (bs : List Branch) (p : SerialOp) (q : List SerialOp) → kids_contain bs p q ≡ true → IsKid bs p q
kid_of [] p q h = cc
kid_of (b ∷ bs) p q h =
    let go : (t : Bool) → (same_op p b.0 && contains b.1 q) ≡ t → IsKid (b ∷ bs) p q = elim [
      | true ↦ λ e. let parts = both (same_op p b.0) (contains b.1 q) e in record { place = 0; branch = b; within = omega arith; at = refl; label = sym (same_ops_are p b.0 parts.0); member = parts.1 }
      | false ↦ λ e.
          let rest = kid_of bs p q (sym (ap (λ x. x || kids_contain bs p q) e) ∙ h) in
          record { place = suc rest.place; branch = rest.branch; within = omega (arith, rest.within); at = rest.at; label = rest.label; member = rest.member }
    ] in
    go (same_op p b.0 && contains b.1 q) refl

or_true : (a : Bool) → (a || true) ≡ true
or_true true = refl
or_true false = refl

at_kid : (bs : List Branch) (i : ℕ) (b : Branch) (q : List SerialOp) → slice_get bs i ≡ Some b → contains b.1 q ≡ true → kids_contain bs b.0 q ≡ true
at_kid [] i b q at is = cc
at_kid (k ∷ ks) zero b q at is =
    let e : k ≡ b = cc in
    ap (λ x. (same_op b.0 x.0 && contains x.1 q) || kids_contain ks b.0 q) e
    ∙ ap (λ x. (x && contains b.1 q) || kids_contain ks b.0 q) (ops_equiv.refl b.0)
    ∙ ap (λ x. x || kids_contain ks b.0 q) is
at_kid (k ∷ ks) (suc i) b q at is = ap (λ x. (same_op b.0 k.0 && contains k.1 q) || x) (at_kid ks i b q at is) ∙ or_true (same_op b.0 k.0 && contains k.1 q)

-- p goes on to a witness by one of the histories
abbrev pub GoesOn : List (List SerialOp) → List Event → List SerialOp → Type 0
GoesOn hs h p = (q : List SerialOp) × (contains hs q ≡ true) × IsWitness (p ++ q) h

module _ (hs : List (List SerialOp)) (is : IsBranching hs) (h : List Event) (p : List SerialOp) where
  -- it goes on by a kid
  pub goes_on_kid : (i : ℕ) (b : Branch) → slice_get (branches_of hs) i ≡ Some b → GoesOn b.1 h (p ++ b.0 ∷ []) → GoesOn hs h p
  goes_on_kid i b at on = (b.0 ∷ on.0, branching-cons hs is b.0 on.0 ∙ at_kid (branches_of hs) i b on.0 at on.1, subst (λ x. IsWitness x h) (append_assoc p (b.0 ∷ []) on.0) on.2)

  pub goes_on_here : contains hs [] ≡ true → IsWitness p h → GoesOn hs h p
  goes_on_here member witness = ([], member, subst (λ x. IsWitness x h) (sym (append-nil p)) witness)

  -- it goes on at no kid, and does not end here
  pub goes_nowhere : (contains hs [] ≡ true → IsWitness p h → ⊥) → ((j : ℕ) (b : Branch) → j < length (branches_of hs) → slice_get (branches_of hs) j ≡ Some b → (q : List SerialOp) → contains b.1 q ≡ true → IsWitness (p ++ b.0 ∷ q) h → ⊥) → (q : List SerialOp) → contains hs q ≡ true → IsWitness (p ++ q) h → ⊥
  goes_nowhere here kids [] member witness = here member (subst (λ x. IsWitness x h) (append-nil p) witness)
  goes_nowhere here kids (op ∷ q) member witness =
      let kid = kid_of (branches_of hs) op q (sym (branching-cons hs is op q) ∙ member) in
      kids kid.place kid.branch kid.within kid.at q kid.member (subst (λ x. IsWitness (p ++ x ∷ q) h) (sym kid.label) witness)

-- the entry after p in a witness is next
pub witness_next : (h : List Event) → IsWellFormed h → (p q : List SerialOp) (op : SerialOp) → IsWitness (p ++ op ∷ q) h → CanComeNext h p op
witness_next h well p q op is = begun_next h p q op (witness_begun h well (p ++ op ∷ q) is)
