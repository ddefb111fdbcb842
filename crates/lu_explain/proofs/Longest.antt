-- The longest way on below a place, by the kids of the place.
use Rattle.std.proofs.Common.{◌≡◌, ℕ, suc, ◌+◌, ◌<◌, ◌≤◌, ◌⊎◌, List, [], ◌∷◌, ◌++◌, length, Some, slice_get, inl, inr, refl, sym, ap, ◌∙◌, subst, arith, append_assoc}
use Rattle.std.specs.Ordering.{ordering_then}
use Rattle.std.specs.declared.cmp.Ordering.TheVariants.{Greater}
use Rattle.std.proofs.lemmas.Bool.{cases_lt}
use Rattle.std.proofs.lemmas.Cmp.{tied_itself}
use Rattle.std.proofs.lemmas.List.{append-nil}
use Rattle.lu_machine.specs.declared.event.Event.{Event}
use Rattle.lu_history.specs.declared.serial.SerialOp.{SerialOp}
use Rattle.lu_trie.specs.Members.{contains, history_cmp}
use Rattle.lu_trie.specs.Branches.{Branch, branches_of, IsBranching}
use Rattle.lu_trie.proofs.Ops.{ops_total}
use Rattle.lu_witness.specs.Witnesses.{IsMember}
use Rattle.lu_witness.specs.Search.{AreTaken, IsBeginning, CanComeNext}
use Rattle.lu_witness.proofs.Beginnings.{begun_next}
use Rattle.lu_explain.specs.Explanations.{IsBeginningInSet, IsFirstLongest}
use Rattle.lu_explain.specs.Search.{GoesOnBy, IsLongestFrom}
use Rattle.lu_explain.proofs.Kids.{rise_at, member_branch, branch_has, branch_some}

-- kinds of the same histories have the same first longest
pub same_kind : (K L : List SerialOp → Type 0) (p : List SerialOp) → ((q : List SerialOp) → K q → L q) → ((q : List SerialOp) → L q → K q) → IsFirstLongest K p → IsFirstLongest L p
same_kind K L p to back is = record { is = to p is.is; longest = λ q k. is.longest q (back q k); first = λ q k long greater. is.first q (back q k) long greater }

-- a member of a kid below n begins with it
pub record IsBelowKid (n : ℕ) (members : List (List SerialOp)) (q : List SerialOp) : Type 0 where
  pub place : ℕ
  pub branch : Branch
  pub rest : List SerialOp
  pub below : place < n
  pub at : slice_get (branches_of members) place ≡ Some branch
  pub shape : q ≡ branch.0 ∷ rest
  pub begun : IsBeginningInSet (IsMember branch.1) rest

-- a way on that is empty, or by a kid below n
abbrev pub GoesOnTo : ℕ → List (List SerialOp) → List Event → List SerialOp → List SerialOp → Type 0
GoesOnTo n members h p q = ((q ≡ []) ⊎ IsBelowKid n members q) × IsBeginning h (p ++ q)

-- the longest of these
pub record IsLongestTo (n : ℕ) (members : List (List SerialOp)) (h : List Event) (p order : List SerialOp) (taken : List ℕ) (rest : List (List SerialOp)) : Type 0 where
  pub first : IsFirstLongest (GoesOnTo n members h p) order
  pub taken_are : AreTaken (p ++ order) taken
  pub rest_is : (q : List SerialOp) → contains rest q ≡ contains members (order ++ q)

pub empty_least : (q : List SerialOp) → history_cmp [] q ≡ Greater → ⊥
empty_least [] e = cc
empty_least (x ∷ q) e = cc

none_long : (q : List SerialOp) → q ≡ [] → length q ≡ 0
none_long q e = ap length e

pub tied : (op : SerialOp) (x y : List SerialOp) → history_cmp (op ∷ x) (op ∷ y) ≡ history_cmp x y
tied op x y = ap (λ o. ordering_then o (history_cmp x y)) (tied_itself ops_total op)

module _ (members : List (List SerialOp)) (is : IsBranching members) (h : List Event) (p : List SerialOp) where
  -- before the first kid
  pub longest_none : (taken : List ℕ) → AreTaken p taken → IsBeginning h p → IsLongestTo 0 members h p [] taken members
  longest_none taken are begun = record {
    first = record {
      is = (inl refl, subst (IsBeginning h) (sym (append-nil p)) begun);
      longest = λ q k. elim k.0 as (λ _. length q ≤ 0) [ inl e ↦ omega (arith, none_long q e) | inr kid ↦ absurd (omega (arith, kid.below)) ];
      first = λ q k long greater. empty_least q greater;
    };
    taken_are = subst (λ g. AreTaken g taken) (sym (append-nil p)) are;
    rest_is = λ q. refl;
  }

  module _ (n : ℕ) (b : Branch) (at : slice_get (branches_of members) n ≡ Some b) where
    -- a way on by the kid n
    abbrev ByKid : List SerialOp → Type 0
    ByKid q = (rest : List SerialOp) × (q ≡ b.0 ∷ rest) × IsBeginningInSet (IsMember b.1) rest × IsBeginning h (p ++ b.0 ∷ rest)

    by_kid : (q : List SerialOp) → GoesOnTo (n + 1) members h p q → GoesOnTo n members h p q ⊎ ByKid q
    by_kid q (inl e, on) = inl (inl e, on)
    by_kid q (inr kid, on) = elim (cases_lt kid.place n) as (λ _. GoesOnTo n members h p q ⊎ ByKid q) [
      | inl below ↦ inl (inr (record { place = kid.place; branch = kid.branch; rest = kid.rest; below = below; at = kid.at; shape = kid.shape; begun = kid.begun }), on)
      | inr above ↦
          let place : kid.place ≡ n = omega (arith, kid.below) in
          let here : slice_get (branches_of members) n ≡ Some kid.branch = subst (λ i. slice_get (branches_of members) i ≡ Some kid.branch) place kid.at in
          let same : kid.branch ≡ b = cc in
          let shape : q ≡ b.0 ∷ kid.rest = subst (λ (x : Branch). q ≡ x.0 ∷ kid.rest) same kid.shape in
          inr (kid.rest, shape, subst (λ (x : Branch). IsBeginningInSet (IsMember x.1) kid.rest) same kid.begun, subst (λ g. IsBeginning h (p ++ g)) shape on)
    ]

    wider : (q : List SerialOp) → GoesOnTo n members h p q → GoesOnTo (n + 1) members h p q
    wider q (inl e, on) = (inl e, on)
    wider q (inr kid, on) = (inr (record { place = kid.place; branch = kid.branch; rest = kid.rest; below = omega (arith, kid.below); at = kid.at; shape = kid.shape; begun = kid.begun }), on)

    -- what goes by an earlier kid, and is as long, is less
    earlier : (order rest : List SerialOp) → GoesOnTo n members h p order → length (b.0 ∷ rest) ≡ length order → history_cmp order (b.0 ∷ rest) ≡ Greater → ⊥
    earlier order rest (inl e, on) long greater = absurd (omega (arith, none_long order e))
    earlier order rest (inr kid, on) long greater =
        let less = rise_at (branches_of members) kid.place n kid.branch b is.branches.rise kid.below kid.at at in
        let smaller = ap (λ x. history_cmp x (b.0 ∷ rest)) kid.shape ∙ ap (λ o. ordering_then o (history_cmp kid.rest rest)) less in
        cc

    -- no way on by the kid is longer
    pub longest_kept : (order : List SerialOp) (taken : List ℕ) (after : List (List SerialOp)) → IsLongestTo n members h p order taken after
        → ((rest : List SerialOp) → IsBeginningInSet (IsMember b.1) rest → IsBeginning h (p ++ b.0 ∷ rest) → suc (length rest) ≤ length order) → IsLongestTo (n + 1) members h p order taken after
    longest_kept order taken after old few = record {
      first = record {
        is = wider order old.first.is;
        longest = λ q k. elim (by_kid q k) as (λ _. length q ≤ length order) [
          | inl was ↦ old.first.longest q was
          | inr now ↦ let e = ap length now.1 in omega (arith, few now.0 now.2 now.3)
        ];
        first = λ q k long greater. elim (by_kid q k) as (λ _. ⊥) [
          | inl was ↦ old.first.first q was long greater
          | inr now ↦ earlier order now.0 old.first.is (sym (ap length now.1) ∙ long) (sym (ap (history_cmp order) now.1) ∙ greater)
        ];
      };
      taken_are = old.taken_are;
      rest_is = old.rest_is;
    }

    -- the kid's operation can't come next
    pub longest_past : (order : List SerialOp) (taken : List ℕ) (after : List (List SerialOp)) → IsLongestTo n members h p order taken after
        → (CanComeNext h p b.0 → ⊥) → IsLongestTo (n + 1) members h p order taken after
    longest_past order taken after old never = longest_kept order taken after old (λ rest begun on. absurd (never (begun_next h p rest b.0 on)))

    module _ (way : List SerialOp) (more : List ℕ) (behind : List (List SerialOp)) (found : IsLongestFrom b.1 h (p ++ b.0 ∷ []) way more behind) where
      from_kid : (rest : List SerialOp) → IsBeginningInSet (IsMember b.1) rest → IsBeginning h (p ++ b.0 ∷ rest) → GoesOnBy b.1 h (p ++ b.0 ∷ []) rest
      from_kid rest begun on = (begun, subst (IsBeginning h) (sym (append_assoc p (b.0 ∷ []) rest)) on)

      -- the longest way on by the kid is shorter
      pub longest_shorter : (order : List SerialOp) (taken : List ℕ) (after : List (List SerialOp)) → IsLongestTo n members h p order taken after
          → length way < length order → IsLongestTo (n + 1) members h p order taken after
      longest_shorter order taken after old lt = longest_kept order taken after old (λ rest begun on. omega (arith, found.first.longest rest (from_kid rest begun on)))

      -- it is longer
      pub longest_better : (order : List SerialOp) (taken : List ℕ) (after : List (List SerialOp)) → IsLongestTo n members h p order taken after
          → length order ≤ length way → IsLongestTo (n + 1) members h p (b.0 ∷ way) more behind
      longest_better order taken after old le = record {
        first = record {
          is = (
            inr (record { place = n; branch = b; rest = way; below = omega arith; at = at; shape = refl; begun = found.first.is.0 }),
            subst (IsBeginning h) (append_assoc p (b.0 ∷ []) way) found.first.is.1,
          );
          longest = λ q k. elim (by_kid q k) as (λ _. length q ≤ length (b.0 ∷ way)) [
            | inl was ↦ omega (arith, old.first.longest q was)
            | inr now ↦ let e = ap length now.1 in omega (arith, found.first.longest now.0 (from_kid now.0 now.2 now.3))
          ];
          first = λ q k long greater. elim (by_kid q k) as (λ _. ⊥) [
            | inl was ↦ absurd (omega (arith, old.first.longest q was))
            | inr now ↦
                let e = ap length now.1 in
                found.first.first now.0 (from_kid now.0 now.2 now.3) (omega arith) (sym (tied b.0 way now.0) ∙ sym (ap (history_cmp (b.0 ∷ way)) now.1) ∙ greater)
          ];
        };
        taken_are = subst (λ g. AreTaken g more) (append_assoc p (b.0 ∷ []) way) found.taken_are;
        rest_is = λ q. found.rest_is q ∙ sym (branch_has members is n b at (way ++ q));
      }

  to_members : (n : ℕ) (q : List SerialOp) → GoesOnTo n members h p q → GoesOnBy members h p q
  to_members n q (inl e, on) = (inl e, on)
  to_members n q (inr kid, on) = (
    elim kid.begun as (λ _. IsBeginningInSet (IsMember members) q) [
      | inl e ↦
          let some = branch_some members is kid.place kid.branch kid.at in
          let shape : q ≡ kid.branch.0 ∷ [] = kid.shape ∙ ap (λ x. kid.branch.0 ∷ x) e in
          inr (some.0, ap (λ x. contains members (x ++ some.0)) shape ∙ branch_has members is kid.place kid.branch kid.at some.0 ∙ some.1)
      | inr goes ↦ inr (goes.0, ap (λ x. contains members (x ++ goes.0)) kid.shape ∙ branch_has members is kid.place kid.branch kid.at (kid.rest ++ goes.0) ∙ goes.1)
    ],
    on,
  )

  from_members : (q : List SerialOp) → GoesOnBy members h p q → GoesOnTo (length (branches_of members)) members h p q
  from_members [] on = (inl refl, on.1)
  from_members (op ∷ q) (inl e, on) = cc
  from_members (op ∷ q) (inr goes, on) =
      let kid = member_branch members is op (q ++ goes.0) goes.1 in
      (inr (record { place = kid.place; branch = kid.branch; rest = q; below = kid.within; at = kid.at; shape = ap (λ x. x ∷ q) (sym kid.label); begun = inr (goes.0, kid.member) }), on)

  -- after the last kid
  pub longest_all : (n : ℕ) (order : List SerialOp) (taken : List ℕ) (after : List (List SerialOp)) → n ≡ length (branches_of members) → IsLongestTo n members h p order taken after → IsLongestFrom members h p order taken after
  longest_all n order taken after all is_to = record {
    first = same_kind (GoesOnTo n members h p) (GoesOnBy members h p) order (to_members n) (λ q on. subst (λ i. GoesOnTo i members h p q) (sym all) (from_members q on)) is_to.first;
    taken_are = is_to.taken_are;
    rest_is = is_to.rest_is;
  }
