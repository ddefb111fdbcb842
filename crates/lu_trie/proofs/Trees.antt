-- What follows from the laws of a tree, for those who walk down one.
use Rattle.std.proofs.Common.{◌≡◌, ℕ, zero, suc, ◌+◌, ◌<◌, ◌≤◌, false, List, [], ◌∷◌, ◌++◌, length, get_or, take, Some, slice_get, ◌≢◌, sym, ap, ◌∙◌, subst, inl, inr, arith}
use Rattle.std.proofs.lemmas.Option.{get_or_from_slice_get}
use Rattle.std.proofs.lemmas.List.{take_more}
use Rattle.std.proofs.lemmas.Bool.{cases_lt}
use Rattle.lu_trie.proofs.Ops.{ops_not_same}
use Rattle.lu_history.specs.declared.serial.SerialOp.{SerialOp}
use Rattle.lu_trie.specs.Members.{same_op, contains, weight, after, empty_if}
use Rattle.lu_trie.specs.Branches.{Branch, joined, members_from, branches_of, NoneBare, IsBranching, IsBranchAt}
use Rattle.lu_trie.specs.Weights.{weight-append, after-full}
use Rattle.lu_trie.proofs.Kids.{all-from_places}
use Rattle.lu_trie.proofs.Sorted.{length-joined-push, length-node}
use Rattle.lu_trie.proofs.Histories.{first_and_rest}
use Rattle.lu_trie.proofs.Membership.{kids_contain, node-cons, kids-at, kids-apart, rest_of}

pub lighter-at : (bs : List Branch) (i : ℕ) (b : Branch) → NoneBare bs → slice_get bs i ≡ Some b → weight b.1 < weight (joined bs)
lighter-at [] i b full is = cc
lighter-at (k ∷ ks) zero b full is = let e : k ≡ b = cc in subst (λ x. weight x.1 < weight (joined (k ∷ ks))) e (omega (arith, weight-append (after k.0 k.1) (joined ks), after-full k.0 k.1 full.0))
lighter-at (k ∷ ks) (suc i) b full is = omega (arith, weight-append (after k.0 k.1) (joined ks), lighter-at ks i b full.1 is)

module _ (hs : List (List SerialOp)) (is : IsBranching hs) where
  -- the members with a first entry are those of the branches
  pub branching-cons : (p : SerialOp) (q : List SerialOp) → contains hs (p ∷ q) ≡ kids_contain (branches_of hs) p q
  branching-cons p q = ap (λ x. contains x (p ∷ q)) is.members ∙ node-cons (contains hs []) (branches_of hs) p q

  -- a branch weighs less than the whole
  pub branch_lighter : (i : ℕ) (b : Branch) → slice_get (branches_of hs) i ≡ Some b → weight b.1 < weight hs
  branch_lighter i b at =
      let whole : weight hs ≡ weight (members_from (contains hs []) (branches_of hs)) = ap weight is.members in
      omega (arith, whole, weight-append (empty_if (contains hs [])) (joined (branches_of hs)), lighter-at (branches_of hs) i b is.branches.full at)

  module _ (h : List SerialOp) (d : SerialOp) (some : 1 ≤ length h) where
    -- what the branch with the first entry has
    pub branching-at : (i : ℕ) (b : Branch) → i < length (branches_of hs) → slice_get (branches_of hs) i ≡ Some b → b.0 ≡ get_or h 0 d → contains hs h ≡ contains b.1 (rest_of h)
    branching-at i b lt at label =
        let read = λ (e : Branch). get_or_from_slice_get (branches_of hs) i b e at in
        let is_at : IsBranchAt (branches_of hs) (get_or h 0 d) i = record { in_range = lt; has_label = λ e. ap (λ (x : Branch). x.0) (read e) ∙ label } in
        ap (contains hs) (first_and_rest h d some)
        ∙ branching-cons (get_or h 0 d) (rest_of h)
        ∙ kids-at (branches_of hs) (get_or h 0 d) i b is.branches.rise is_at (rest_of h)
        ∙ ap (λ (x : Branch). contains x.1 (rest_of h)) (read b)

    -- no branch has the first entry
    pub branching-apart : ((j : ℕ) (e : Branch) → j < length (branches_of hs) → same_op (get_or h 0 d) (get_or (branches_of hs) j e).0 ≡ false) → contains hs h ≡ false
    branching-apart apart =
        ap (contains hs) (first_and_rest h d some)
        ∙ branching-cons (get_or h 0 d) (rest_of h)
        ∙ kids-apart (branches_of hs) (get_or h 0 d) (rest_of h) (all-from_places (λ l. same_op (get_or h 0 d) l ≡ false) (branches_of hs) apart)

pub length-taken : (bs : List Branch) (i : ℕ) (b : Branch) → i < length bs → slice_get bs i ≡ Some b → length (joined (take (i + 1) bs)) ≡ length (joined (take i bs)) + length b.1
length-taken bs i b lt at =
    ap (λ x. length (joined x)) (take_more bs i b lt ∙ ap (λ x. take i bs ++ x ∷ []) (get_or_from_slice_get bs i b b at))
    ∙ length-joined-push (take i bs) b

pub branching-length : (hs : List (List SerialOp)) → IsBranching hs → length hs ≡ length (empty_if (contains hs [])) + length (joined (branches_of hs))
branching-length hs is = ap length is.members ∙ length-node (contains hs []) (branches_of hs)

-- the entry is not the label of any branch below i
abbrev pub ApartBelow : List Branch → SerialOp → ℕ → Type 0
ApartBelow bs op i = (j : ℕ) (e : Branch) → j < i → same_op op (get_or bs j e).0 ≡ false

pub apart_more : (bs : List Branch) (op : SerialOp) (i : ℕ) (b : Branch) → slice_get bs i ≡ Some b → b.0 ≢ op → ApartBelow bs op i → ApartBelow bs op (i + 1)
apart_more bs op i b at differs apart j e lt = elim (cases_lt j i) [
  | inl below ↦ apart j e below
  | inr above ↦
      let here : slice_get bs j ≡ Some b = subst (λ k. slice_get bs k ≡ Some b) (omega arith) at in
      ap (λ (x : Branch). same_op op x.0) (get_or_from_slice_get bs j b e here) ∙ ops_not_same op b.0 (λ same. differs (sym same))
]
