-- Members of sets of serial histories, and beginnings.
use Rattle.std.proofs.Common.{◌≡◌, ◌≢◌, ℕ, suc, zero, ◌+◌, Bool, true, false, ◌||◌, ◌⊎◌, List, [], ◌∷◌, ◌++◌, take, Some, slice_get, refl, sym, ap, subst, ◌∙◌, inl, inr, arith, append_assoc}
use Rattle.std.proofs.lemmas.List.{append-nil}
use Rattle.lu_history.specs.declared.serial.SerialOp.{SerialOp}
use Rattle.lu_history.specs.Serial.{IsSerial}
use Rattle.lu_history.proofs.Events.{take_next}
use Rattle.lu_trie.specs.Members.{contains, same_history, Adds, after, empty_if}
use Rattle.lu_trie.specs.Branches.{Branch, joined, branches_of, NoneBare, IsBranching}
use Rattle.lu_trie.proofs.Membership.{split_or, contains-append}
use Rattle.lu_trie.proofs.Ops.{histories_equiv, same_histories_are}
use Rattle.lu_spec.specs.Beginnings.{Has, Begins}

pub same_self : (h : List SerialOp) → same_history h h ≡ true
same_self h = histories_equiv.refl h

-- in one list or the other
pub has_either : (xs ys : List (List SerialOp)) (q : List SerialOp) → Has (xs ++ ys) q → Has xs q ⊎ Has ys q
has_either xs ys q has = split_or (contains xs q) (contains ys q) (Has xs q ⊎ Has ys q) (λ e. inl e) (λ e. inr e) (sym (contains-append xs ys q) ∙ has)

or_left : (a b : Bool) → a ≡ true → (a || b) ≡ true
or_left true b e = refl
or_left false b e = absurd cc

or_right : (a b : Bool) → b ≡ true → (a || b) ≡ true
or_right true b e = refl
or_right false b e = e

pub has_left : (xs ys : List (List SerialOp)) (q : List SerialOp) → Has xs q → Has (xs ++ ys) q
has_left xs ys q has = contains-append xs ys q ∙ or_left (contains xs q) (contains ys q) has

pub has_right : (xs ys : List (List SerialOp)) (q : List SerialOp) → Has ys q → Has (xs ++ ys) q
has_right xs ys q has = contains-append xs ys q ∙ or_right (contains xs q) (contains ys q) has

pub has_first : (h : List SerialOp) (hs : List (List SerialOp)) → Has (h ∷ hs) h
has_first h hs = or_left (same_history h h) (contains hs h) (same_self h)

pub has_next : (h : List SerialOp) (hs : List (List SerialOp)) (q : List SerialOp) → Has hs q → Has (h ∷ hs) q
has_next h hs q has = or_right (same_history q h) (contains hs q) has

-- the first, or one of the others
pub has_cons : (h : List SerialOp) (hs : List (List SerialOp)) (q : List SerialOp) → Has (h ∷ hs) q → (q ≡ h) ⊎ Has hs q
has_cons h hs q has = split_or (same_history q h) (contains hs q) ((q ≡ h) ⊎ Has hs q) (λ e. inl (same_histories_are q h e)) (λ e. inr e) has

pub has_some : (hs : List (List SerialOp)) → hs ≢ [] → (h : List SerialOp) × Has hs h
has_some [] some = absurd (some refl)
has_some (h ∷ hs) some = (h, has_first h hs)

-- after an entry
pub has_after : (op : SerialOp) (hs : List (List SerialOp)) (q : List SerialOp) → Has (after op hs) q → (h : List SerialOp) × (q ≡ op ∷ h) × Has hs h
has_after op [] q has = absurd cc
has_after op (h ∷ hs) q has = elim (has_cons (op ∷ h) (after op hs) q has) [
  | inl is ↦ (h, is, has_first h hs)
  | inr later ↦ let found = has_after op hs q later in (found.0, found.1, has_next h hs found.0 found.2)
]

pub after_has : (op : SerialOp) (hs : List (List SerialOp)) (h : List SerialOp) → Has hs h → Has (after op hs) (op ∷ h)
after_has op [] h has = absurd cc
after_has op (first ∷ hs) h has = elim (has_cons first hs h has) [
  | inl is ↦ let same : op ∷ h ≡ op ∷ first = ap (λ (x : List SerialOp). op ∷ x) is in subst (Has (after op (first ∷ hs))) (sym same) (has_first (op ∷ first) (after op hs))
  | inr later ↦ has_next (op ∷ first) (after op hs) (op ∷ h) (after_has op hs h later)
]

-- the old members, and one more
pub adds_one : (old new : List (List SerialOp)) (h q : List SerialOp) → Adds old new h → Has new q → (q ≡ h) ⊎ Has old q
adds_one old new h q adds has = split_or (same_history q h) (contains old q) ((q ≡ h) ⊎ Has old q) (λ e. inl (same_histories_are q h e)) (λ e. inr e) (sym (adds q) ∙ has)

pub one_added : (old new : List (List SerialOp)) (h : List SerialOp) → Adds old new h → Has new h
one_added old new h adds = adds h ∙ or_left (same_history h h) (contains old h) (same_self h)

pub old_kept : (old new : List (List SerialOp)) (h q : List SerialOp) → Adds old new h → Has old q → Has new q
old_kept old new h q adds has = adds q ∙ or_right (same_history q h) (contains old q) has

-- the branches up to one, and that one
joined-append : (xs ys : List Branch) → joined (xs ++ ys) ≡ joined xs ++ joined ys
joined-append [] ys = refl
joined-append (k ∷ ks) ys = ap (λ (z : List (List SerialOp)). after k.0 k.1 ++ z) (joined-append ks ys) ∙ sym (append_assoc (after k.0 k.1) (joined ks) (joined ys))

pub joined_next : (bs : List Branch) (i : ℕ) (op : SerialOp) (below : List (List SerialOp)) → slice_get bs i ≡ Some (op, below) → joined (take (i + 1) bs) ≡ joined (take i bs) ++ after op below
joined_next bs i op below at =
    let e : i + 1 ≡ suc i = omega arith in
    ap (λ (n : ℕ). joined (take n bs)) e
    ∙ (ap joined (take_next bs (op, below) i at)
    ∙ (joined-append (take i bs) ((op, below) ∷ [])
    ∙ ap (λ (z : List (List SerialOp)). joined (take i bs) ++ z) (append-nil (after op below))))

-- below each branch there is a history
pub below_some : (bs : List Branch) (i : ℕ) (b : Branch) → NoneBare bs → slice_get bs i ≡ Some b → (h : List SerialOp) × Has b.1 h
below_some [] i b full at = absurd cc
below_some (k ∷ ks) zero b full at = let e : k ≡ b = cc in subst (λ (x : Branch). (h : List SerialOp) × Has x.1 h) e (has_some k.1 full.0)
below_some (k ∷ ks) (suc i) b full at = below_some ks i b full.1 at

-- a history of a branch
pub in_joined : (bs : List Branch) (i : ℕ) (b : Branch) (h : List SerialOp) → slice_get bs i ≡ Some b → Has b.1 h → Has (joined bs) (b.0 ∷ h)
in_joined [] i b h at has = absurd cc
in_joined (k ∷ ks) zero b h at has = let e : b ≡ k = cc in has_left (after k.0 k.1) (joined ks) (b.0 ∷ h) (subst (λ (x : Branch). Has (after x.0 x.1) (b.0 ∷ h)) e (after_has b.0 b.1 h has))
in_joined (k ∷ ks) (suc i) b h at has = has_right (after k.0 k.1) (joined ks) (b.0 ∷ h) (in_joined ks i b h at has)

-- the members: the empty one, or one of a branch
pub parted : (hs : List (List SerialOp)) (q : List SerialOp) → IsBranching hs → Has hs q → (q ≡ []) ⊎ Has (joined (branches_of hs)) q
parted hs q is has =
    elim (has_either (empty_if (contains hs [])) (joined (branches_of hs)) q (sym (ap (λ (x : List (List SerialOp)). contains x q) is.members) ∙ has)) [
      | inl empty ↦ inl (only_empty (contains hs []) q empty)
      | inr branch ↦ inr branch
    ]
  where
    only_empty : (b : Bool) (p : List SerialOp) → Has (empty_if b) p → p ≡ []
    only_empty true p e = elim (has_cons [] [] p e) [ inl is ↦ is | inr later ↦ absurd cc ]
    only_empty false p e = absurd cc

pub of_branch : (hs : List (List SerialOp)) (q : List SerialOp) → IsBranching hs → Has (joined (branches_of hs)) q → Has hs q
of_branch hs q is has = ap (λ (x : List (List SerialOp)). contains x q) is.members ∙ has_right (empty_if (contains hs [])) (joined (branches_of hs)) q has

-- ---- beginnings

pub begins_self : (h : List SerialOp) → Begins h h
begins_self h = ([], sym (append-nil h))

pub begins_trans : (p q h : List SerialOp) → Begins p q → Begins q h → Begins p h
begins_trans p q h a b = (a.0 ++ b.0, b.1 ∙ (ap (λ (x : List SerialOp). x ++ b.0) a.1 ∙ append_assoc p a.0 b.0))

-- a serial history's beginnings are serial
pub serial_front : (q rest : List SerialOp) → IsSerial (q ++ rest) → IsSerial q
serial_front [] rest serial = tt
serial_front (op ∷ q) rest serial = (λ stuck. none_front q rest (serial.0 stuck), serial_front q rest serial.1)
  where
    none_front : (p more : List SerialOp) → p ++ more ≡ [] → p ≡ []
    none_front [] more e = refl
    none_front (x ∷ p) more e = absurd cc

pub serial_begin : (q h : List SerialOp) → Begins q h → IsSerial h → IsSerial q
serial_begin q h begins serial = serial_front q begins.0 (subst IsSerial begins.1 serial)
