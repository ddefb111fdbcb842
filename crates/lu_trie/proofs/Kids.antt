-- What holds of the branches of a node, and keeps holding.
use Rattle.std.proofs.Common.{◌≡◌, ℕ, zero, suc, ◌<◌, ◌≢◌, List, [], ◌∷◌, length, get_or, set, sym, ap, subst, ◌∙◌, arith}
use Rattle.std.specs.List.{AllByRecursion, insert}
use Rattle.std.specs.List.Sorted.{IsStrictlySortedBy}
use Rattle.std.specs.declared.cmp.Ordering.TheVariants.{Less, Greater}
use Rattle.std.specs.Ordering.{ordering_reverse}
use Rattle.lu_history.specs.declared.serial.SerialOp.{SerialOp}
use Rattle.lu_history.specs.Order.{op_cmp}
use Rattle.lu_trie.specs.Branches.{Branch, labels, NoneBare, AreBranches, IsGapFor}
use Rattle.lu_trie.proofs.Ops.{ops_total}

pub no_branches : AreBranches []
unfolding IsStrictlySortedBy
no_branches = record { rise = tt; full = tt }

pub one_not_empty : {X : Type 0} (xs : List X) (x : X) → xs ≡ x ∷ [] → xs ≢ []
one_not_empty xs x one empty = cc

pub one_branch : (b : Branch) → b.1 ≢ [] → AreBranches (b ∷ [])
unfolding IsStrictlySortedBy
one_branch b full = record { rise = (tt, tt); full = (full, tt) }

labels-set : (bs : List Branch) (i : ℕ) (b : Branch) → i < length bs → b.0 ≡ (get_or bs i b).0 → labels (set bs i b) ≡ labels bs
labels-set [] i b lt same = absurd (omega arith)
labels-set (k ∷ ks) zero b lt same = ap (λ l. l ∷ labels ks) same
labels-set (k ∷ ks) (suc i) b lt same = ap (λ ls. k.0 ∷ ls) (labels-set ks i b (omega arith) same)

full-set : (bs : List Branch) (i : ℕ) (b : Branch) → b.1 ≢ [] → NoneBare bs → NoneBare (set bs i b)
full-set [] i b ne full = full
full-set (k ∷ ks) zero b ne full = (ne, full.1)
full-set (k ∷ ks) (suc i) b ne full = (full.0, full-set ks i b ne full.1)

-- a branch with the same label takes the place of another
pub branches-set : (bs : List Branch) (i : ℕ) (b : Branch) → i < length bs → b.0 ≡ (get_or bs i b).0 → b.1 ≢ [] → AreBranches bs → AreBranches (set bs i b)
branches-set bs i b lt same ne are = record {
  rise = subst (IsStrictlySortedBy op_cmp) (sym (labels-set bs i b lt same)) are.rise;
  full = full-set bs i b ne are.full;
}

full-insert : (bs : List Branch) (i : ℕ) (b : Branch) → b.1 ≢ [] → NoneBare bs → NoneBare (insert bs i b)
full-insert bs zero b ne full = (ne, full)
full-insert [] (suc i) b ne full = (ne, tt)
full-insert (k ∷ ks) (suc i) b ne full = (full.0, full-insert ks i b ne full.1)

all-insert : (P : SerialOp → Type 0) (bs : List Branch) (i : ℕ) (b : Branch) → P b.0 → AllByRecursion P (labels bs) → AllByRecursion P (labels (insert bs i b))
all-insert P bs zero b p all = (p, all)
all-insert P [] (suc i) b p all = (p, tt)
all-insert P (k ∷ ks) (suc i) b p all = (all.0, all-insert P ks i b p all.1)

pub all-from_places : (P : SerialOp → Type 0) (bs : List Branch) → ((j : ℕ) (d : Branch) → j < length bs → P (get_or bs j d).0) → AllByRecursion P (labels bs)
all-from_places P [] each = tt
all-from_places P (k ∷ ks) each = (each 0 k (omega arith), all-from_places P ks (λ j d lt. each (suc j) d (omega arith)))

above : (x y : SerialOp) → op_cmp y x ≡ Greater → op_cmp x y ≡ Less
above x y h = ops_total.antisymm x y ∙ ap ordering_reverse h

gap-tail : (k : Branch) (ks : List Branch) (label : SerialOp) (i : ℕ) → IsGapFor (k ∷ ks) label (suc i) → IsGapFor ks label i
gap-tail k ks label i gap = record {
  in_range = omega (arith, gap.in_range);
  smaller_before = λ j d lt. gap.smaller_before (suc j) d (omega arith);
  greater_after = λ j d le lt. gap.greater_after (suc j) d (omega arith) (omega arith);
}

rise-insert : (bs : List Branch) (i : ℕ) (b : Branch) → IsGapFor bs b.0 i → IsStrictlySortedBy op_cmp (labels bs) → IsStrictlySortedBy op_cmp (labels (insert bs i b))
unfolding IsStrictlySortedBy
rise-insert bs zero b gap rise = (all-from_places (λ y. op_cmp b.0 y ≡ Less) bs (λ j d lt. above b.0 (get_or bs j d).0 (gap.greater_after j d (omega arith) lt)), rise)
rise-insert [] (suc i) b gap rise = absurd (omega (arith, gap.in_range))
rise-insert (k ∷ ks) (suc i) b gap rise = (all-insert (λ y. op_cmp k.0 y ≡ Less) ks i b (gap.smaller_before 0 k (omega arith)) rise.0, rise-insert ks i b (gap-tail k ks b.0 i gap) rise.1)

-- a branch comes into the gap for its label
pub branches-insert : (bs : List Branch) (i : ℕ) (b : Branch) → IsGapFor bs b.0 i → b.1 ≢ [] → AreBranches bs → AreBranches (insert bs i b)
branches-insert bs i b gap ne are = record { rise = rise-insert bs i b gap are.rise; full = full-insert bs i b ne are.full }

pub full-at : (bs : List Branch) (i : ℕ) (d : Branch) → i < length bs → NoneBare bs → (get_or bs i d).1 ≢ []
full-at [] i d lt full = absurd (omega arith)
full-at (k ∷ ks) zero d lt full = full.0
full-at (k ∷ ks) (suc i) d lt full = full-at ks i d (omega arith) full.1
