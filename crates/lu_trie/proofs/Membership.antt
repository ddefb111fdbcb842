-- Which histories a node has, by its kids.
use Rattle.std.proofs.Common.{◌≡◌, ℕ, zero, suc, ◌<◌, ◌≤◌, Bool, true, false, ◌&&◌, ◌||◌, List, [], ◌∷◌, ◌++◌, length, get_or, set, take, drop, ◌-◌, refl, sym, ap, ◌∙◌, subst, inl, inr, arith}
use Rattle.std.specs.List.{AllByRecursion, insert}
use Rattle.std.specs.List.Sorted.{IsStrictlySortedBy}
use Rattle.std.specs.Ordering.{is_eq, ordering_reverse}
use Rattle.std.proofs.lemmas.Bool.{cases_lt}
use Rattle.std.specs.declared.cmp.Ordering.{Ordering}
use Rattle.std.specs.declared.cmp.Ordering.TheVariants.{Less, Greater}
use Rattle.lu_history.specs.declared.serial.SerialOp.{SerialOp}
use Rattle.lu_history.specs.Order.{op_cmp}
use Rattle.lu_trie.specs.Members.{same_op, same_history, history_cmp, contains, Adds, after}
use Rattle.lu_trie.specs.Branches.{Branch, labels, joined, members_from, AreBranches, IsBranchAt, IsGapFor}
use Rattle.lu_trie.proofs.Ops.{then_is_eq, ops_equiv, ops_total}
use Rattle.lu_trie.proofs.Kids.{all-from_places}
use Rattle.lu_trie.proofs.Histories.{first_and_rest, no_entries}

or_assoc : (a b c : Bool) → ((a || b) || c) ≡ (a || (b || c))
or_assoc true b c = refl
or_assoc false b c = refl

or_swap : (a b c : Bool) → (a || (b || c)) ≡ (b || (a || c))
or_swap true true c = refl
or_swap true false c = refl
or_swap false b c = refl

pub split_or : (a b : Bool) (P : Type 0) → (a ≡ true → P) → (b ≡ true → P) → (a || b) ≡ true → P
split_or true b P f g h = f refl
split_or false b P f g h = g h

and_over_or : (a b c : Bool) → ((a && b) || (a && c)) ≡ (a && (b || c))
and_over_or true b c = refl
and_over_or false b c = refl

or_false : (a : Bool) → (a || false) ≡ a
or_false true = refl
or_false false = refl

pub contains-append : (xs ys : List (List SerialOp)) (q : List SerialOp) → contains (xs ++ ys) q ≡ (contains xs q || contains ys q)
contains-append [] ys q = refl
contains-append (x ∷ xs) ys q = ap (λ b. same_history q x || b) (contains-append xs ys q) ∙ sym (or_assoc (same_history q x) (contains xs q) (contains ys q))

after-nil : (op : SerialOp) (xs : List (List SerialOp)) → contains (after op xs) [] ≡ false
after-nil op [] = refl
after-nil op (x ∷ xs) = after-nil op xs

and_false : (a : Bool) → (a && false) ≡ false
and_false true = refl
and_false false = refl

after-cons : (op : SerialOp) (xs : List (List SerialOp)) (p : SerialOp) (q : List SerialOp) → contains (after op xs) (p ∷ q) ≡ (same_op p op && contains xs q)
after-cons op [] p q = sym (and_false (same_op p op))
after-cons op (x ∷ xs) p q =
    ap (λ b. b || contains (after op xs) (p ∷ q)) (then_is_eq (op_cmp p op) (history_cmp q x))
    ∙ ap (λ b. (same_op p op && same_history q x) || b) (after-cons op xs p q)
    ∙ and_over_or (same_op p op) (same_history q x) (contains xs q)

-- where a kid has one more history
set_step : (e s o r : Bool) → ((e && (s || o)) || r) ≡ ((e && s) || ((e && o) || r))
set_step true s o r = or_assoc s o r
set_step false s o r = refl

-- a kid has the history after its label
abbrev pub kids_contain : List (Branch) → SerialOp → List SerialOp → Bool
kids_contain [] p q = false
kids_contain (kid ∷ kids) p q = (same_op p kid.0 && contains kid.1 q) || kids_contain kids p q

kids-nil : (kids : List (Branch)) → contains (joined kids) [] ≡ false
kids-nil [] = refl
kids-nil (k ∷ ks) =
    contains-append (after k.0 k.1) (joined ks) []
    ∙ ap (λ b. b || contains (joined ks) []) (after-nil k.0 k.1)
    ∙ kids-nil ks

kids-cons : (kids : List (Branch)) (p : SerialOp) (q : List SerialOp) → contains (joined kids) (p ∷ q) ≡ kids_contain kids p q
kids-cons [] p q = refl
kids-cons (k ∷ ks) p q =
    contains-append (after k.0 k.1) (joined ks) (p ∷ q)
    ∙ ap (λ b. b || contains (joined ks) (p ∷ q)) (after-cons k.0 k.1 p q)
    ∙ ap (λ b. (same_op p k.0 && contains k.1 q) || b) (kids-cons ks p q)

pub node-nil : (ends : Bool) (kids : List (Branch)) → contains (members_from ends kids) [] ≡ ends
node-nil true kids = refl
node-nil false kids = kids-nil kids

pub node-cons : (ends : Bool) (kids : List (Branch)) (p : SerialOp) (q : List SerialOp) → contains (members_from ends kids) (p ∷ q) ≡ kids_contain kids p q
node-cons true kids p q = kids-cons kids p q
node-cons false kids p q = kids-cons kids p q

pub kids-set : (kids : List (Branch)) (i : ℕ) (kid : Branch) (rest : List SerialOp) → i < length kids → kid.0 ≡ (get_or kids i kid).0 → Adds (get_or kids i kid).1 kid.1 rest → (p : SerialOp) (q : List SerialOp) → kids_contain (set kids i kid) p q ≡ ((same_op p kid.0 && same_history q rest) || kids_contain kids p q)
kids-set [] i kid rest lt same adds p q = absurd (omega arith)
kids-set (k ∷ ks) zero kid rest lt same adds p q =
    ap (λ b. (same_op p kid.0 && b) || kids_contain ks p q) (adds q)
    ∙ set_step (same_op p kid.0) (same_history q rest) (contains k.1 q) (kids_contain ks p q)
    ∙ ap (λ l. (same_op p kid.0 && same_history q rest) || ((same_op p l && contains k.1 q) || kids_contain ks p q)) same
kids-set (k ∷ ks) (suc i) kid rest lt same adds p q =
    ap (λ b. (same_op p k.0 && contains k.1 q) || b) (kids-set ks i kid rest (omega arith) same adds p q)
    ∙ or_swap (same_op p k.0 && contains k.1 q) (same_op p kid.0 && same_history q rest) (kids_contain ks p q)

pub kids-insert : (kids : List (Branch)) (i : ℕ) (kid : Branch) (p : SerialOp) (q : List SerialOp) → kids_contain (insert kids i kid) p q ≡ ((same_op p kid.0 && contains kid.1 q) || kids_contain kids p q)
kids-insert kids zero kid p q = refl
kids-insert [] (suc i) kid p q = refl
kids-insert (k ∷ ks) (suc i) kid p q =
    ap (λ b. (same_op p k.0 && contains k.1 q) || b) (kids-insert ks i kid p q)
    ∙ or_swap (same_op p k.0 && contains k.1 q) (same_op p kid.0 && contains kid.1 q) (kids_contain ks p q)

-- no kid has the label
pub kids-apart : (kids : List (Branch)) (p : SerialOp) (q : List SerialOp) → AllByRecursion (λ l. same_op p l ≡ false) (labels kids) → kids_contain kids p q ≡ false
kids-apart [] p q apart = refl
kids-apart (k ∷ ks) p q apart = ap (λ b. (b && contains k.1 q) || kids_contain ks p q) apart.0 ∙ kids-apart ks p q apart.1

or_none : (a b : Bool) → b ≡ false → (a || b) ≡ a
or_none a b h = ap (λ x. a || x) h ∙ or_false a

apart : (p l : SerialOp) (o : Ordering) → op_cmp l p ≡ o → is_eq (ordering_reverse o) ≡ false → same_op p l ≡ false
apart p l o h differs = ap is_eq (ops_total.antisymm p l ∙ ap ordering_reverse h) ∙ differs

-- where the label has a gap, no kid has it
pub kids-gap : (kids : List (Branch)) (p : SerialOp) (i : ℕ) → IsGapFor kids p i → (q : List SerialOp) → kids_contain kids p q ≡ false
kids-gap kids p i gap q = kids-apart kids p q (all-from_places (λ l. same_op p l ≡ false) kids (λ j d lt. elim (cases_lt j i) [
  | inl below ↦ apart p (get_or kids j d).0 Less (gap.smaller_before j d below) refl
  | inr above ↦ apart p (get_or kids j d).0 Greater (gap.greater_after j d above lt) refl
]))

kid-at-tail : (k : Branch) (ks : List (Branch)) (p : SerialOp) (i : ℕ) → IsBranchAt (k ∷ ks) p (suc i) → IsBranchAt ks p i
kid-at-tail k ks p i at = record { in_range = omega (arith, at.in_range); has_label = λ d. at.has_label d }

all-at : (P : SerialOp → Type 0) (kids : List (Branch)) (j : ℕ) (d : Branch) → j < length kids → AllByRecursion P (labels kids) → P (get_or kids j d).0
all-at P [] j d lt all = absurd (omega arith)
all-at P (k ∷ ks) zero d lt all = all.0
all-at P (k ∷ ks) (suc j) d lt all = all-at P ks j d (omega arith) all.1

all-flip : (p : SerialOp) (kids : List (Branch)) → AllByRecursion (λ y. op_cmp p y ≡ Less) (labels kids) → AllByRecursion (λ l. same_op p l ≡ false) (labels kids)
all-flip p [] all = tt
all-flip p (k ∷ ks) all = (ap is_eq all.0, all-flip p ks all.1)

-- where a kid has the label, it alone decides
pub kids-at : (kids : List (Branch)) (p : SerialOp) (i : ℕ) (d : Branch) → IsStrictlySortedBy op_cmp (labels kids) → IsBranchAt kids p i → (q : List SerialOp) → kids_contain kids p q ≡ contains (get_or kids i d).1 q
unfolding IsStrictlySortedBy
kids-at [] p i d rise at q = absurd (omega (arith, at.in_range))
kids-at (k ∷ ks) p zero d rise at q =
    let same : k.0 ≡ p = at.has_label d in
    let alone = kids-apart ks p q (subst (λ l. AllByRecursion (λ y. same_op l y ≡ false) (labels ks)) same (all-flip k.0 ks rise.0)) in
    ap (λ b. (b && contains k.1 q) || kids_contain ks p q) (ap (λ l. same_op p l) same ∙ ops_equiv.refl p)
    ∙ or_none (contains k.1 q) (kids_contain ks p q) alone
kids-at (k ∷ ks) p (suc i) d rise at q =
    let tail = kid-at-tail k ks p i at in
    let below : op_cmp k.0 p ≡ Less = subst (λ l. op_cmp k.0 l ≡ Less) (at.has_label d) (all-at (λ y. op_cmp k.0 y ≡ Less) ks i d tail.in_range rise.0) in
    ap (λ b. (b && contains k.1 q) || kids_contain ks p q) (apart p k.0 Less below refl)
    ∙ kids-at ks p i d rise.1 tail q

-- the history without its first entry, as a slice's pattern reads it
abbrev pub rest_of : List SerialOp → List SerialOp
rest_of h = take (length h - 1) (drop 1 h)

module _ (ends : Bool) (kids : List (Branch)) (h : List SerialOp) (d : SerialOp) (some : 1 ≤ length h) where
  -- a node has what the kid with the first label has
  pub node-at : AreBranches kids → (i : ℕ) → IsBranchAt kids (get_or h 0 d) i → (kid : Branch) → kid ≡ get_or kids i kid → contains (members_from ends kids) h ≡ contains kid.1 (rest_of h)
  node-at is i at kid read =
      ap (contains (members_from ends kids)) (first_and_rest h d some)
      ∙ node-cons ends kids (get_or h 0 d) (rest_of h)
      ∙ kids-at kids (get_or h 0 d) i kid is.rise at (rest_of h)
      ∙ ap (λ (k : Branch). contains k.1 (rest_of h)) (sym read)

  pub node-gap : (i : ℕ) → IsGapFor kids (get_or h 0 d) i → contains (members_from ends kids) h ≡ false
  node-gap i gap =
      ap (contains (members_from ends kids)) (first_and_rest h d some)
      ∙ node-cons ends kids (get_or h 0 d) (rest_of h)
      ∙ kids-gap kids (get_or h 0 d) i gap (rest_of h)

pub node-empty : (ends : Bool) (kids : List (Branch)) (h : List SerialOp) → length h < 1 → contains (members_from ends kids) h ≡ ends
node-empty ends kids h none = ap (contains (members_from ends kids)) (no_entries h none) ∙ node-nil ends kids
