-- What a walk down two graphs shows.
use Rattle.std.proofs.Common.{◌≡◌, ◌≢◌, ◌⊎◌, ◌&&◌, ◌||◌, ℕ, zero, suc, ◌<◌, ◌≤◌, ◌+◌, Bool, true, false, List, [], ◌∷◌, ◌++◌, length, get_or, Some, slice_get, if◌then◌else◌, nat_eq, refl, sym, ap, subst, ◌∙◌, inl, inr, arith}
use Rattle.std.specs.Prelude.{slice_index_or}
use Rattle.std.specs.List.{list_any}
use Rattle.std.proofs.lemmas.Bool.{cases_lt, eq-eqb, eqb-true}
use Rattle.std.proofs.lemmas.Option.{get_or_from_slice_get}
use Rattle.indexmap.specs.IndexSet.{insert_key}
use Rattle.lu_history.specs.declared.serial.SerialOp.{SerialOp}
use Rattle.lu_trie.specs.Members.{contains, same_op}
use Rattle.lu_trie.specs.Branches.{Branch, IsBranchAt, IsBranching, NoneBare, branches_of}
use Rattle.lu_trie.proofs.Kids.{all-from_places}
use Rattle.lu_trie.proofs.Membership.{kids-apart, kids-at, kids_contain}
use Rattle.lu_trie.proofs.Ops.{ops_equiv, same_histories_are, histories_equiv, same_ops_are}
use Rattle.lu_trie.proofs.Trees.{ApartBelow, branching-cons}
use Rattle.lu_serial_graph.specs.Playing.{IsAmong}
use Rattle.lu_serial_graph.specs.Subsets.{AddsPair, AreWithin, HasNoneAfter, IsSubset, IsWithin, Pair}

-- what follows a branch's label
pub after_branch : (hs : List (List SerialOp)) (is : IsBranching hs) (i : ℕ) (b : Branch) (op : SerialOp) → i < length (branches_of hs) → slice_get (branches_of hs) i ≡ Some b → b.0 ≡ op → (q : List SerialOp) → contains hs (op ∷ q) ≡ contains b.1 q
after_branch hs is i b op lt at label q =
    let read = λ (e : Branch). get_or_from_slice_get (branches_of hs) i b e at in
    let is_at : IsBranchAt (branches_of hs) op i = record { in_range = lt; has_label = λ e. ap (λ (x : Branch). x.0) (read e) ∙ label } in
    branching-cons hs is op q
    ∙ kids-at (branches_of hs) op i b is.branches.rise is_at q
    ∙ ap (λ (x : Branch). contains x.1 q) (read b)

-- where no branch has the label, nothing follows it
pub after_none : (hs : List (List SerialOp)) (is : IsBranching hs) (n : ℕ) (op : SerialOp) → length (branches_of hs) ≤ n → ApartBelow (branches_of hs) op n → HasNoneAfter op hs
after_none hs is n op all apart q =
    branching-cons hs is op q
    ∙ kids-apart (branches_of hs) op q (all-from_places (λ l. same_op op l ≡ false) (branches_of hs) (λ j d lt. apart j d (omega arith)))

-- ---- the branches of the one set, one after another

-- the members of the first n branches are members of the other set
abbrev pub FirstWithin : List Branch → List (List SerialOp) → ℕ → Type 0
FirstWithin bs other n =
    (j : ℕ) (b : Branch) → j < n → slice_get bs j ≡ Some b → (q : List SerialOp) → contains b.1 q ≡ true → contains other (b.0 ∷ q) ≡ true

pub none_within : (bs : List Branch) (other : List (List SerialOp)) → FirstWithin bs other 0
none_within bs other j b lt at q has = absurd (omega arith)

pub more_within : (bs : List Branch) (other below : List (List SerialOp)) (i : ℕ) (b : Branch) → slice_get bs i ≡ Some b → ((q : List SerialOp) → contains other (b.0 ∷ q) ≡ contains below q) → IsSubset b.1 below → FirstWithin bs other i → FirstWithin bs other (i + 1)
more_within bs other below i b at follows within before j x lt here q has = elim (cases_lt j i) [
  | inl earlier ↦ before j x earlier here q has
  | inr late ↦
      let same_place : j ≡ i = omega arith in
      let both : Some x ≡ Some b = sym here ∙ (ap (slice_get bs) same_place ∙ at) in
      let same : x ≡ b = cc in
      subst (λ (y : Branch). contains other (y.0 ∷ q) ≡ true) (sym same) (follows q ∙ within q (subst (λ (y : Branch). contains y.1 q ≡ true) same has))
]

and_true : (a b : Bool) → (a && b) ≡ true → (a ≡ true) × (b ≡ true)
and_true true b e = (refl, e)
and_true false b e = absurd cc

-- a member of some branch
abbrev OfBranch : List Branch → SerialOp → List SerialOp → Type 0
OfBranch bs op q = (j : ℕ) × (b : Branch) × (j < length bs) × (slice_get bs j ≡ Some b) × (b.0 ≡ op) × (contains b.1 q ≡ true)

in_branch : (bs : List Branch) (op : SerialOp) (q : List SerialOp) → kids_contain bs op q ≡ true → OfBranch bs op q
in_branch [] op q e = absurd cc
in_branch (b ∷ bs) op q e = either (same_op op b.0 && contains b.1 q) refl e (in_branch bs op q)
  where
    either : (t : Bool) → (same_op op b.0 && contains b.1 q) ≡ t → (t || kids_contain bs op q) ≡ true → (kids_contain bs op q ≡ true → OfBranch bs op q) → OfBranch (b ∷ bs) op q
    either true is so later =
        let both = and_true (same_op op b.0) (contains b.1 q) is in
        (0, b, omega arith, refl, sym (same_ops_are op b.0 both.0), both.1)
    either false is so later =
        let found = later so in
        (suc found.0, found.1, omega (arith, found.2), found.3, found.4, found.5)

-- with all branches, and the empty history where it is a member, the whole set is
pub all_within : (hs : List (List SerialOp)) (is : IsBranching hs) (other : List (List SerialOp)) (n : ℕ) → length (branches_of hs) ≤ n → (contains hs [] ≡ true → contains other [] ≡ true) → FirstWithin (branches_of hs) other n → IsSubset hs other
all_within hs is other n all empty first [] has = empty has
all_within hs is other n all empty first (op ∷ q) has =
    let found = in_branch (branches_of hs) op q (sym (branching-cons hs is op q) ∙ has) in
    let lt : found.0 < n = omega (arith, found.2) in
    subst (λ (o : SerialOp). contains other (o ∷ q) ≡ true) found.4 (first found.0 found.1 lt found.3 q found.5)

-- ---- where it is not

some_member : (hs : List (List SerialOp)) → hs ≢ [] → (q : List SerialOp) × (contains hs q ≡ true)
some_member [] some = absurd (some refl)
some_member (h ∷ hs) some = (h, ap (λ t. t || contains hs h) (histories_equiv.refl h))

full_at : (bs : List Branch) (i : ℕ) (b : Branch) → NoneBare bs → slice_get bs i ≡ Some b → b.1 ≢ []
full_at [] i b full at = absurd cc
full_at (k ∷ ks) zero b full at = let e : k ≡ b = cc in subst (λ (x : Branch). x.1 ≢ []) e full.0
full_at (k ∷ ks) (suc i) b full at = full_at ks i b full.1 at

differ : (b : Bool) → b ≡ true → b ≡ false → ⊥
differ b e f = (let g = sym e ∙ f in cc)

-- the other set has nothing after the label
pub not_after : (hs : List (List SerialOp)) (is : IsBranching hs) (other : List (List SerialOp)) (i : ℕ) (b : Branch) → i < length (branches_of hs) → slice_get (branches_of hs) i ≡ Some b → HasNoneAfter b.0 other → IsSubset hs other → ⊥
not_after hs is other i b lt at none within =
    let some = some_member b.1 (full_at (branches_of hs) i b is.branches.full at) in
    let member : contains hs (b.0 ∷ some.0) ≡ true = after_branch hs is i b b.0 lt at refl some.0 ∙ some.1 in
    differ (contains other (b.0 ∷ some.0)) (within (b.0 ∷ some.0) member) (none some.0)

-- it has not all that is below the branch
pub not_below : (hs : List (List SerialOp)) (is : IsBranching hs) (other below : List (List SerialOp)) (i : ℕ) (b : Branch) → i < length (branches_of hs) → slice_get (branches_of hs) i ≡ Some b → ((q : List SerialOp) → contains other (b.0 ∷ q) ≡ contains below q) → (IsSubset b.1 below → ⊥) → IsSubset hs other → ⊥
not_below hs is other below i b lt at follows fails within =
    fails (λ q has. sym (follows q) ∙ within (b.0 ∷ q) (after_branch hs is i b b.0 lt at refl q ∙ has))

-- ---- the pairs that were looked at

or_either : (a b : Bool) (C : Type 0) → (a ≡ true → C) → (b ≡ true → C) → (a || b) ≡ true → C
or_either true b C left right e = left refl
or_either false b C left right e = right e

-- whether two pairs are equal
abbrev pub pair_eq : Pair → Pair → Bool
pair_eq pair other = nat_eq pair.0 other.0 && nat_eq pair.1 other.1

equal_pairs : (pair other : Pair) → pair_eq pair other ≡ true → pair ≡ other
equal_pairs pair other e =
    let both = and_true (nat_eq pair.0 other.0) (nat_eq pair.1 other.1) e in
    ap (λ (n : ℕ). (n, pair.1)) (eqb-true pair.0 other.0 both.0) ∙ ap (λ (n : ℕ). (other.0, n)) (eqb-true pair.1 other.1 both.1)

pub found_among : (pair : Pair) (pairs : List Pair) → list_any (pair_eq pair) pairs ≡ true → IsAmong pair pairs
found_among pair [] e = absurd cc
found_among pair (x ∷ pairs) e = or_either (pair_eq pair x) (list_any (pair_eq pair) pairs) (IsAmong pair (x ∷ pairs)) (λ is. inl (equal_pairs pair x is)) (λ later. inr (found_among pair pairs later)) e

same_pair : (pair : Pair) → pair_eq pair pair ≡ true
same_pair pair = ap (λ t. t && nat_eq pair.1 pair.1) (eq-eqb pair.0 pair.0 refl) ∙ eq-eqb pair.1 pair.1 refl

or_left : (a b : Bool) → a ≡ true → (a || b) ≡ true
or_left true b e = refl
or_left false b e = absurd cc

or_right : (a b : Bool) → b ≡ true → (a || b) ≡ true
or_right true b e = refl
or_right false b e = e

pub among_found : (pair : Pair) (pairs : List Pair) → IsAmong pair pairs → list_any (pair_eq pair) pairs ≡ true
among_found pair [] none = absurd none
among_found pair (x ∷ pairs) (inl is) = or_left (pair_eq pair x) (list_any (pair_eq pair) pairs) (ap (pair_eq pair) (sym is) ∙ same_pair pair)
among_found pair (x ∷ pairs) (inr later) = or_right (pair_eq pair x) (list_any (pair_eq pair) pairs) (among_found pair pairs later)

among_push : (pair other : Pair) (pairs : List Pair) → IsAmong other (pairs ++ pair ∷ []) → IsAmong other pairs ⊎ (other ≡ pair)
among_push pair other [] (inl is) = inr is
among_push pair other [] (inr none) = absurd none
among_push pair other (x ∷ pairs) (inl is) = inl (inl is)
among_push pair other (x ∷ pairs) (inr later) = elim (among_push pair other pairs later) [ inl among ↦ inl (inr among) | inr is ↦ inr is ]

push_among : (pair other : Pair) (pairs : List Pair) → IsAmong other pairs ⊎ (other ≡ pair) → IsAmong other (pairs ++ pair ∷ [])
push_among pair other [] (inl none) = absurd none
push_among pair other [] (inr is) = inl is
push_among pair other (x ∷ pairs) (inl (inl is)) = inl is
push_among pair other (x ∷ pairs) (inl (inr later)) = inr (push_among pair other pairs (inl later))
push_among pair other (x ∷ pairs) (inr is) = inr (push_among pair other pairs (inr is))

pub adds_pair : (pair : Pair) (pairs : List Pair) → AddsPair pair pairs (insert_key pair_eq pairs pair)
adds_pair pair pairs other = ((λ has. forth (list_any (pair_eq pair) pairs) has), (λ has. back (list_any (pair_eq pair) pairs) refl has))
  where
    forth : (t : Bool) → IsAmong other (if t then pairs else pairs ++ pair ∷ []) → IsAmong other pairs ⊎ (other ≡ pair)
    forth true among = inl among
    forth false among = among_push pair other pairs among

    back : (t : Bool) → list_any (pair_eq pair) pairs ≡ t → IsAmong other pairs ⊎ (other ≡ pair) → IsAmong other (if t then pairs else pairs ++ pair ∷ [])
    back true found (inl among) = among
    back true found (inr is) = subst (λ (x : Pair). IsAmong x pairs) (sym is) (found_among pair pairs found)
    back false found has = push_among pair other pairs has

-- one more pair is so
pub one_more_within : (one other : List (List (List SerialOp))) (pair : Pair) (old new : List Pair) → IsWithin one other pair → AddsPair pair old new → AreWithin one other old → AreWithin one other new
one_more_within one other pair old new within adds are x among = elim ((adds x).0 among) [
  | inl before ↦ are x before
  | inr is ↦ subst (IsWithin one other) (sym is) within
]
