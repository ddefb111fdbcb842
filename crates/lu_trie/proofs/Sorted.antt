-- The members of a node stand in order, so no member stands twice.
use Rattle.std.proofs.Common.{◌≡◌, ◌+◌, Bool, true, false, List, [], ◌∷◌, ◌++◌, length, refl, ap, ◌∙◌, arith}
use Rattle.std.specs.List.{AllByRecursion}
use Rattle.std.specs.List.Sorted.{IsStrictlySortedBy}
use Rattle.std.specs.Ordering.{ordering_then}
use Rattle.std.specs.declared.cmp.Ordering.TheVariants.{Less}
use Rattle.std.proofs.lemmas.Cmp.{tied_itself}
use Rattle.lu_history.specs.declared.serial.SerialOp.{SerialOp}
use Rattle.lu_history.specs.Order.{op_cmp}
use Rattle.lu_trie.specs.Members.{history_cmp, after, empty_if}
use Rattle.lu_trie.specs.Branches.{Branch, labels, joined, members_from, AreBranches}
use Rattle.lu_trie.proofs.Ops.{ops_total}

-- the histories of each branch are in order
abbrev pub EachSorted : List Branch → Type 0
EachSorted [] = Unit {0}
EachSorted (branch ∷ branches) = IsStrictlySortedBy history_cmp branch.1 × EachSorted branches

pub each_sorted-push : (bs : List Branch) (b : Branch) → EachSorted bs → IsStrictlySortedBy history_cmp b.1 → EachSorted (bs ++ b ∷ [])
each_sorted-push [] b each s = (s, tt)
each_sorted-push (k ∷ ks) b each s = (each.0, each_sorted-push ks b each.1 s)

all-append : {X : Type 0} (P : X → Type 0) (xs ys : List X) → AllByRecursion P xs → AllByRecursion P ys → AllByRecursion P (xs ++ ys)
all-append P [] ys a b = b
all-append P (x ∷ xs) ys a b = (a.0, all-append P xs ys a.1 b)

sorted-append : (xs ys : List (List SerialOp)) → IsStrictlySortedBy history_cmp xs → IsStrictlySortedBy history_cmp ys → AllByRecursion (λ x. AllByRecursion (λ y. history_cmp x y ≡ Less) ys) xs → IsStrictlySortedBy history_cmp (xs ++ ys)
unfolding IsStrictlySortedBy
sorted-append [] ys a b c = b
sorted-append (x ∷ xs) ys a b c = (all-append (λ y. history_cmp x y ≡ Less) xs ys a.0 c.0, sorted-append xs ys a.1 b c.1)

tied : (op : SerialOp) (x y : List SerialOp) → history_cmp (op ∷ x) (op ∷ y) ≡ history_cmp x y
tied op x y = ap (λ o. ordering_then o (history_cmp x y)) (tied_itself ops_total op)

less-after : (op : SerialOp) (x : List SerialOp) (hs : List (List SerialOp)) → AllByRecursion (λ y. history_cmp x y ≡ Less) hs → AllByRecursion (λ y. history_cmp (op ∷ x) y ≡ Less) (after op hs)
less-after op x [] all = tt
less-after op x (h ∷ hs) all = (tied op x h ∙ all.0, less-after op x hs all.1)

sorted-after : (op : SerialOp) (hs : List (List SerialOp)) → IsStrictlySortedBy history_cmp hs → IsStrictlySortedBy history_cmp (after op hs)
unfolding IsStrictlySortedBy
sorted-after op [] s = tt
sorted-after op (h ∷ hs) s = (less-after op h hs s.0, sorted-after op hs s.1)

before-after : (op : SerialOp) (x : List SerialOp) (p : SerialOp) (hs : List (List SerialOp)) → op_cmp op p ≡ Less → AllByRecursion (λ y. history_cmp (op ∷ x) y ≡ Less) (after p hs)
before-after op x p [] lt = tt
before-after op x p (h ∷ hs) lt = (ap (λ o. ordering_then o (history_cmp x h)) lt, before-after op x p hs lt)

before-joined : (op : SerialOp) (x : List SerialOp) (bs : List Branch) → AllByRecursion (λ p. op_cmp op p ≡ Less) (labels bs) → AllByRecursion (λ y. history_cmp (op ∷ x) y ≡ Less) (joined bs)
before-joined op x [] all = tt
before-joined op x (k ∷ ks) all = all-append (λ y. history_cmp (op ∷ x) y ≡ Less) (after k.0 k.1) (joined ks) (before-after op x k.0 k.1 all.0) (before-joined op x ks all.1)

after-before : (op : SerialOp) (hs : List (List SerialOp)) (bs : List Branch) → AllByRecursion (λ p. op_cmp op p ≡ Less) (labels bs) → AllByRecursion (λ x. AllByRecursion (λ y. history_cmp x y ≡ Less) (joined bs)) (after op hs)
after-before op [] bs all = tt
after-before op (h ∷ hs) bs all = (before-joined op h bs all, after-before op hs bs all)

sorted-joined : (bs : List Branch) → IsStrictlySortedBy op_cmp (labels bs) → EachSorted bs → IsStrictlySortedBy history_cmp (joined bs)
unfolding IsStrictlySortedBy
sorted-joined [] rise each = tt
sorted-joined (k ∷ ks) rise each = sorted-append (after k.0 k.1) (joined ks) (sorted-after k.0 k.1 each.0) (sorted-joined ks rise.1 each.1) (after-before k.0 k.1 ks rise.0)

empty-after : (op : SerialOp) (hs : List (List SerialOp)) → AllByRecursion (λ y. history_cmp [] y ≡ Less) (after op hs)
empty-after op [] = tt
empty-after op (h ∷ hs) = (refl, empty-after op hs)

empty-before : (bs : List Branch) → AllByRecursion (λ y. history_cmp [] y ≡ Less) (joined bs)
empty-before [] = tt
empty-before (k ∷ ks) = all-append (λ y. history_cmp [] y ≡ Less) (after k.0 k.1) (joined ks) (empty-after k.0 k.1) (empty-before ks)

pub node-sorted : (ends : Bool) (bs : List Branch) → AreBranches bs → EachSorted bs → IsStrictlySortedBy history_cmp (members_from ends bs)
unfolding IsStrictlySortedBy
node-sorted true bs are each = (empty-before bs, sorted-joined bs are.rise each)
node-sorted false bs are each = sorted-joined bs are.rise each

length-after : (op : SerialOp) (hs : List (List SerialOp)) → length (after op hs) ≡ length hs
length-after op [] = refl
length-after op (h ∷ hs) = omega (arith, length-after op hs)

length-append : (xs ys : List (List SerialOp)) → length (xs ++ ys) ≡ length xs + length ys
length-append [] ys = omega arith
length-append (x ∷ xs) ys = omega (arith, length-append xs ys)

pub length-joined-push : (bs : List Branch) (b : Branch) → length (joined (bs ++ b ∷ [])) ≡ length (joined bs) + length b.1
length-joined-push [] b = omega (arith, length-append (after b.0 b.1) [], length-after b.0 b.1)
length-joined-push (k ∷ ks) b = omega (arith, length-append (after k.0 k.1) (joined (ks ++ b ∷ [])), length-append (after k.0 k.1) (joined ks), length-joined-push ks b)

pub length-node : (ends : Bool) (bs : List Branch) → length (members_from ends bs) ≡ length (empty_if ends) + length (joined bs)
length-node ends bs = length-append (empty_if ends) (joined bs)
