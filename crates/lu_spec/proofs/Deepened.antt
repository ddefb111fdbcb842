-- The beginnings of the histories of a node have a branch for each of its branches.
use Rattle.std.proofs.Common.{◌≡◌, ℕ, ◌⊎◌, Bool, true, false, List, [], ◌∷◌, ◌++◌, map, length, slice_get, if◌then◌else◌, refl, sym, ap, subst, ◌∙◌, inl, inr, append_assoc}
use Rattle.std.specs.List.Sorted.{IsStrictlySortedBy}
use Rattle.std.specs.Option.{option_map}
use Rattle.std.specs.Ordering.{is_eq}
use Rattle.std.proofs.lemmas.List.{length-map, map-append}
use Rattle.std.proofs.lemmas.Option.{slice_get-map}
use Rattle.lu_history.specs.declared.serial.SerialOp.{SerialOp}
use Rattle.lu_history.specs.Order.{op_cmp}
use Rattle.lu_trie.specs.Members.{after, contains, empty_if, same_op}
use Rattle.lu_trie.specs.Branches.{AreBranches, Branch, IsBranchOf, IsBranching, NoneBare, branches_of, joined, labels, members_from}
use Rattle.lu_trie.proofs.Ops.{ops_equiv, same_ops_are}
use Rattle.lu_trie.proofs.Grouping.{node-branches, node-branching}
use Rattle.lu_spec.specs.Beginnings.{Begins, Has, IsClosureOf}
use Rattle.lu_spec.specs.BeginningsInOrder.{all_further, beginnings_of, further}
use Rattle.lu_spec.proofs.Sets.{after_has, has_after, has_cons, has_either, has_first, has_left, has_next, has_right}

-- ---- which they are

-- a beginning of q with its first entry is one of q
begins_next : (op : SerialOp) (x q : List SerialOp) → Begins x q → Begins (op ∷ x) (op ∷ q)
begins_next op x q begins = (begins.0, ap (λ (z : List SerialOp). op ∷ z) begins.1)

-- where q begins with x, so does p or x is listed
abbrev IsCovered : List SerialOp → List SerialOp → List (List SerialOp) → Type 0
IsCovered x p listed = Begins x p ⊎ Has listed x

-- all beginnings after the first entry
whole : (b : SerialOp) (x q p : List SerialOp) → IsCovered x [] (further [] q) → IsCovered (b ∷ x) p (after b ([] ∷ further [] q))
whole b x q p (inl begins) =
    let empty : x ≡ [] = none_before x begins.0 (sym begins.1) in
    inr (after_has b ([] ∷ further [] q) x (subst (Has ([] ∷ further [] q)) (sym empty) (has_first [] (further [] q))))
  where
    none_before : (y rest : List SerialOp) → y ++ rest ≡ [] → y ≡ []
    none_before [] rest e = refl
    none_before (op ∷ y) rest e = absurd cc
whole b x q p (inr has) = inr (after_has b ([] ∷ further [] q) x (has_next [] (further [] q) x has))

-- those that p and q share
shared : (a b : SerialOp) (x p q : List SerialOp) → a ≡ b → IsCovered x p (further p q) → IsCovered (b ∷ x) (a ∷ p) (after b (further p q))
shared a b x p q same (inl begins) = inl (begins.0, ap (λ (z : List SerialOp). a ∷ z) begins.1 ∙ ap (λ (o : SerialOp). o ∷ (x ++ begins.0)) same)
shared a b x p q same (inr has) = inr (after_has b (further p q) x has)

pub covers : (p q x : List SerialOp) → Begins x q → IsCovered x p (further p q)
covers p q [] begins = inl (p, refl)
covers p [] (op ∷ x) (rest, e) = absurd cc
covers [] (b ∷ q) (op ∷ x) (rest, e) =
    let first : op ≡ b = cc in
    let later : q ≡ x ++ rest = cc in
    subst (λ (o : SerialOp). IsCovered (o ∷ x) [] (further [] (b ∷ q))) (sym first) (whole b x q [] (covers [] q x (rest, later)))
covers (a ∷ p) (b ∷ q) (op ∷ x) (rest, e) =
    let first : op ≡ b = cc in
    let later : q ≡ x ++ rest = cc in
    subst (λ (o : SerialOp). IsCovered (o ∷ x) (a ∷ p) (further (a ∷ p) (b ∷ q))) (sym first)
    (either (same_op a b) refl (covers p q x (rest, later)) (covers [] q x (rest, later)))
  where
    either : (t : Bool) → same_op a b ≡ t → IsCovered x p (further p q) → IsCovered x [] (further [] q) → IsCovered (b ∷ x) (a ∷ p) (if t then after b (further p q) else after b ([] ∷ further [] q))
    either true same here fresh = shared a b x p q (same_ops_are a b same) here
    either false same here fresh = whole b x q (a ∷ p) fresh

-- what is listed of q is a beginning of q
whole_begins : (b : SerialOp) (q x : List SerialOp) → ((y : List SerialOp) → Has (further [] q) y → Begins y q) → Has (after b ([] ∷ further [] q)) x → Begins x (b ∷ q)
whole_begins b q x each has =
    let found = has_after b ([] ∷ further [] q) x has in
    subst (λ (z : List SerialOp). Begins z (b ∷ q)) (sym found.1)
    (elim (has_cons [] (further [] q) found.0 found.2) [
      | inl empty ↦ subst (λ (z : List SerialOp). Begins (b ∷ z) (b ∷ q)) (sym empty) (q, refl)
      | inr later ↦ begins_next b found.0 q (each found.0 later)
    ])

shared_begins : (b : SerialOp) (p q x : List SerialOp) → ((y : List SerialOp) → Has (further p q) y → Begins y q) → Has (after b (further p q)) x → Begins x (b ∷ q)
shared_begins b p q x each has =
    let found = has_after b (further p q) x has in
    subst (λ (z : List SerialOp). Begins z (b ∷ q)) (sym found.1) (begins_next b found.0 q (each found.0 found.2))

further_begins : (p q x : List SerialOp) → Has (further p q) x → Begins x q
further_begins p [] x has = absurd cc
further_begins [] (b ∷ q) x has = whole_begins b q x (further_begins [] q) has
further_begins (a ∷ p) (b ∷ q) x has = either (same_op a b) has (further_begins p q) (further_begins [] q)
  where
    either : (t : Bool) → Has (if t then after b (further p q) else after b ([] ∷ further [] q)) x → ((y : List SerialOp) → Has (further p q) y → Begins y q) → ((y : List SerialOp) → Has (further [] q) y → Begins y q) → Begins x (b ∷ q)
    either true listed here fresh = shared_begins b p q x here listed
    either false listed here fresh = whole_begins b q x fresh listed

-- a beginning of a member
abbrev BeginsMember : List SerialOp → List (List SerialOp) → Type 0
BeginsMember x histories = (h : List SerialOp) × Begins x h × Has histories h

all_begin : (p : List SerialOp) (histories : List (List SerialOp)) (x : List SerialOp) → Has (all_further p histories) x → BeginsMember x histories
all_begin p [] x has = absurd cc
all_begin p (q ∷ histories) x has = elim (has_either (further p q) (all_further q histories) x has) [
  | inl here ↦ (q, further_begins p q x here, has_first q histories)
  | inr later ↦ let found = all_begin q histories x later in (found.0, found.1, has_next q histories found.0 found.2)
]

all_covered : (p : List SerialOp) (histories : List (List SerialOp)) (x h : List SerialOp) → Begins x h → Has histories h → IsCovered x p (all_further p histories)
all_covered p [] x h begins has = absurd cc
all_covered p (q ∷ histories) x h begins has =
    let here = λ (on : Begins x q). widen (covers p q x on) in
    elim (has_cons q histories h has) [
      | inl is ↦ here (subst (Begins x) is begins)
      | inr later ↦ elim (all_covered q histories x h begins later) [
        | inl on ↦ here on
        | inr listed ↦ inr (has_right (further p q) (all_further q histories) x listed)
      ]
    ]
  where
    widen : IsCovered x p (further p q) → IsCovered x p (further p q ++ all_further q histories)
    widen (inl on) = inl on
    widen (inr listed) = inr (has_left (further p q) (all_further q histories) x listed)

-- these are the beginnings of the members
pub beginnings_close : (members : List (List SerialOp)) → IsClosureOf members (beginnings_of members)
beginnings_close members q = (
  λ has. elim (has_cons [] (all_further [] members) q has) [ inl empty ↦ inl empty | inr later ↦ inr (all_begin [] members q later) ],
  λ is. back is,
)
  where
    here : q ≡ [] → Has (beginnings_of members) q
    here empty = subst (Has (beginnings_of members)) (sym empty) (has_first [] (all_further [] members))

    none_before : (y rest : List SerialOp) → y ++ rest ≡ [] → y ≡ []
    none_before [] rest e = refl
    none_before (op ∷ y) rest e = absurd cc

    back : (q ≡ []) ⊎ BeginsMember q members → Has (beginnings_of members) q
    back (inl empty) = here empty
    back (inr (h, begins, has)) = elim (all_covered [] members q h begins has) [
      | inl on ↦ here (none_before q on.0 (sym on.1))
      | inr listed ↦ has_next [] (all_further [] members) q listed
    ]

-- ---- by branches

-- the beginnings of what is after the label
abbrev pub deepened : Branch → Branch
deepened branch = (branch.0, beginnings_of branch.1)

-- the last history, or p where there is none
abbrev last_of : List SerialOp → List (List SerialOp) → List SerialOp
last_of p [] = p
last_of p (q ∷ histories) = last_of q histories

after-append : (op : SerialOp) (xs ys : List (List SerialOp)) → after op (xs ++ ys) ≡ after op xs ++ after op ys
after-append op xs ys = map-append (λ (h : List SerialOp). op ∷ h) xs ys

-- after one history of a branch, the others of the branch add what they add below its label
within : (op : SerialOp) (p : List SerialOp) (xs rest : List (List SerialOp)) → all_further (op ∷ p) (after op xs ++ rest) ≡ after op (all_further p xs) ++ all_further (op ∷ last_of p xs) rest
within op p [] rest = refl
within op p (x ∷ xs) rest =
    ap (λ t. (if t then after op (further p x) else after op ([] ∷ further [] x)) ++ all_further (op ∷ x) (after op xs ++ rest)) (ops_equiv.refl op)
    ∙ ap (λ (z : List (List SerialOp)). after op (further p x) ++ z) (within op x xs rest)
    ∙ sym (append_assoc (after op (further p x)) (after op (all_further x xs)) (all_further (op ∷ last_of x xs) rest))
    ∙ ap (λ (z : List (List SerialOp)). z ++ all_further (op ∷ last_of x xs) rest) (sym (after-append op (further p x) (all_further x xs)))

-- p does not begin with the first label
abbrev IsApart : List SerialOp → List Branch → Type 0
IsApart p [] = Unit {0}
IsApart [] (b ∷ bs) = Unit {0}
IsApart (a ∷ p) (b ∷ bs) = same_op a b.0 ≡ false

fresh : (p x : List SerialOp) (b : Branch) (bs : List Branch) → IsApart p (b ∷ bs) → further p (b.0 ∷ x) ≡ after b.0 ([] ∷ further [] x)
fresh [] x b bs apart = refl
fresh (a ∷ p) x b bs apart = ap (λ t. if t then after b.0 (further p x) else after b.0 ([] ∷ further [] x)) apart

apart_next : (op : SerialOp) (p : List SerialOp) (bs : List Branch) → IsStrictlySortedBy op_cmp (op ∷ labels bs) → IsApart (op ∷ p) bs
unfolding IsStrictlySortedBy
apart_next op p [] rise = tt
apart_next op p (k ∷ ks) rise = ap is_eq rise.0.0

one_branch : (p : List SerialOp) (b : Branch) (bs : List Branch) (x : List SerialOp) (xs rest : List (List SerialOp)) → IsApart p (b ∷ bs)
    → all_further p (after b.0 (x ∷ xs) ++ rest) ≡ after b.0 (beginnings_of (x ∷ xs)) ++ all_further (b.0 ∷ last_of x xs) rest
one_branch p b bs x xs rest apart =
    ap (λ (z : List (List SerialOp)). z ++ all_further (b.0 ∷ x) (after b.0 xs ++ rest)) (fresh p x b bs apart)
    ∙ ap (λ (z : List (List SerialOp)). after b.0 ([] ∷ further [] x) ++ z) (within b.0 x xs rest)
    ∙ sym (append_assoc (after b.0 ([] ∷ further [] x)) (after b.0 (all_further x xs)) (all_further (b.0 ∷ last_of x xs) rest))
    ∙ ap (λ (z : List (List SerialOp)). z ++ all_further (b.0 ∷ last_of x xs) rest) (sym (after-append b.0 ([] ∷ further [] x) (all_further x xs)))

joined_further : (p : List SerialOp) (bs : List Branch) → IsStrictlySortedBy op_cmp (labels bs) → NoneBare bs → IsApart p bs → all_further p (joined bs) ≡ joined (map deepened bs)
unfolding IsStrictlySortedBy
joined_further p [] rise full apart = refl
joined_further p (b ∷ bs) rise full apart = some b.1 refl (λ later fits. joined_further later bs rise.1 full.1 fits)
  where
    some : (hs : List (List SerialOp)) → b.1 ≡ hs → ((later : List SerialOp) → IsApart later bs → all_further later (joined bs) ≡ joined (map deepened bs))
        → all_further p (after b.0 b.1 ++ joined bs) ≡ after b.0 (beginnings_of b.1) ++ joined (map deepened bs)
    some [] none rest = absurd (full.0 none)
    some (x ∷ xs) is rest =
        ap (λ (z : List (List SerialOp)). all_further p (after b.0 z ++ joined bs)) is
        ∙ one_branch p b bs x xs (joined bs) apart
        ∙ ap (λ (z : List (List SerialOp)). after b.0 (beginnings_of (x ∷ xs)) ++ z) (rest (b.0 ∷ last_of x xs) (apart_next b.0 (last_of x xs) bs rise))
        ∙ ap (λ (z : List (List SerialOp)). after b.0 (beginnings_of z) ++ joined (map deepened bs)) (sym is)

labels-deepened : (bs : List Branch) → labels (map deepened bs) ≡ labels bs
labels-deepened [] = refl
labels-deepened (b ∷ bs) = ap (λ (z : List SerialOp). b.0 ∷ z) (labels-deepened bs)

full-deepened : (bs : List Branch) → NoneBare (map deepened bs)
full-deepened [] = tt
full-deepened (b ∷ bs) = ((λ e. cc), full-deepened bs)

module _ (hs : List (List SerialOp)) (is : IsBranching hs) where
  are_deepened : AreBranches (map deepened (branches_of hs))
  are_deepened = record {
    rise = subst (IsStrictlySortedBy op_cmp) (sym (labels-deepened (branches_of hs))) is.branches.rise;
    full = full-deepened (branches_of hs);
  }

  no_end : (t : Bool) (bs : List Branch) → all_further [] (empty_if t ++ joined bs) ≡ all_further [] (joined bs)
  no_end true bs = refl
  no_end false bs = refl

  apart_at_first : (bs : List Branch) → IsApart [] bs
  apart_at_first [] = tt
  apart_at_first (b ∷ bs) = tt

  beginnings-members : beginnings_of hs ≡ members_from true (map deepened (branches_of hs))
  beginnings-members =
      ap (λ (z : List (List SerialOp)). [] ∷ z)
      (ap (all_further []) is.members
      ∙ no_end (contains hs []) (branches_of hs)
      ∙ joined_further [] (branches_of hs) is.branches.rise is.branches.full (apart_at_first (branches_of hs)))

  pub beginnings_branch : IsBranching (beginnings_of hs)
  beginnings_branch = subst IsBranching (sym beginnings-members) (node-branching true (map deepened (branches_of hs)) are_deepened)

  pub branches-beginnings : branches_of (beginnings_of hs) ≡ map deepened (branches_of hs)
  branches-beginnings = ap branches_of beginnings-members ∙ node-branches true (map deepened (branches_of hs)) are_deepened

  pub as_many_branches : length (branches_of (beginnings_of hs)) ≡ length (branches_of hs)
  as_many_branches = ap length branches-beginnings ∙ length-map (branches_of hs) deepened

  pub branch_deepened : (i : ℕ) (branch : Branch) → IsBranchOf hs i branch → IsBranchOf (beginnings_of hs) i (deepened branch)
  branch_deepened i branch at =
      ap (λ (bs : List Branch). slice_get bs i) branches-beginnings
      ∙ slice_get-map deepened (branches_of hs) i
      ∙ ap (option_map deepened) at

-- the empty history begins each
pub empty_begins : (hs : List (List SerialOp)) → contains (beginnings_of hs) [] ≡ true
empty_begins hs = has_first [] (all_further [] hs)
