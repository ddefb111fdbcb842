-- What a walk adds, kid after kid.
use Rattle.std.proofs.Common.{◌≡◌, ℕ, ◌+◌, ◌≤◌, ◌⊎◌, List, [], ◌∷◌, ◌++◌, length, take, Some, slice_get, refl, sym, ap, subst, ◌∙◌, inl, inr, append_assoc}
use Rattle.std.specs.Prelude.{All}
use Rattle.std.proofs.lemmas.List.{append-nil, take_all}
use Rattle.std.proofs.lemmas.List.Elements.{All-cons, All-nil}
use Rattle.lu_history.specs.declared.serial.SerialOp.{SerialOp}
use Rattle.lu_history.specs.Serial.{IsSerial}
use Rattle.lu_trie.specs.Members.{Adds, after}
use Rattle.lu_trie.specs.Branches.{Branch, joined, branches_of, IsBranching}
use Rattle.lu_spec.specs.Beginnings.{Has, IsBelow, AddsBelow}
use Rattle.lu_spec.specs.Specs.{AllHaveOutcomes, HasOutcome}
use Rattle.lu_spec.proofs.Sets.{has_either, has_left, has_right, has_after, after_has, adds_one, one_added, old_kept, joined_next, below_some, parted, of_branch, in_joined, serial_front}

-- the path is added
pub here_added : (old new : List (List SerialOp)) (path : List SerialOp) → Adds old new path → AddsBelow old new path []
here_added old new path adds q = (
  λ has. elim (adds_one old new path q adds has) [ inl is ↦ inr (inl is) | inr before ↦ inl before ],
  λ h. back h,
)
  where
    back : Has old q ⊎ IsBelow path [] q → Has new q
    back (inl before) = old_kept old new path q adds before
    back (inr (inl is)) = rw is (one_added old new path adds)
    back (inr (inr (begin, h, e, b, has))) = absurd cc

-- with the same histories in front
below_more : (path : List SerialOp) (xs ys : List (List SerialOp)) (q : List SerialOp) → IsBelow path xs q → IsBelow path (xs ++ ys) q
below_more path xs ys q (inl is) = inl is
below_more path xs ys q (inr (begin, h, e, b, has)) = inr (begin, h, e, b, has_left xs ys h has)

-- with one kid more
kid_below : (path : List SerialOp) (xs below : List (List SerialOp)) (op : SerialOp) (some : (h : List SerialOp) × Has below h) (q : List SerialOp) → IsBelow (path ++ op ∷ []) below q → IsBelow path (xs ++ after op below) q
kid_below path xs below op some q (inl is) = inr (op ∷ [], op ∷ some.0, is, (some.0, refl), has_right xs (after op below) (op ∷ some.0) (after_has op below some.0 some.1))
kid_below path xs below op some q (inr (begin, h, e, b, has)) =
    inr (op ∷ begin, op ∷ h, e ∙ append_assoc path (op ∷ []) begin, (b.0, ap (λ (x : List SerialOp). op ∷ x) b.1), has_right xs (after op below) (op ∷ h) (after_has op below h has))

below_kid : (path : List SerialOp) (xs below : List (List SerialOp)) (op : SerialOp) (q : List SerialOp) → IsBelow path (xs ++ after op below) q → IsBelow path xs q ⊎ IsBelow (path ++ op ∷ []) below q
below_kid path xs below op q (inl is) = inl (inl is)
below_kid path xs below op q (inr (begin, h, e, b, has)) = elim (has_either xs (after op below) h has) [
  | inl before ↦ inl (inr (begin, h, e, b, before))
  | inr kid ↦ let found = has_after op below h kid in by_begin begin b.0 found.0 e (sym b.1 ∙ found.1) found.2
]
  where
    by_begin : (x rest later : List SerialOp) → q ≡ path ++ x → x ++ rest ≡ op ∷ later → Has below later → IsBelow path xs q ⊎ IsBelow (path ++ op ∷ []) below q
    by_begin [] rest later is begins kept = inl (inl (is ∙ append-nil path))
    by_begin (first ∷ x) rest later is begins kept =
        let same : first ≡ op = cc in
        let after_it : later ≡ x ++ rest = cc in
        let here : q ≡ (path ++ op ∷ []) ++ x = is ∙ (ap (λ (o : SerialOp). path ++ o ∷ x) same ∙ sym (append_assoc path (op ∷ []) x)) in
        inr (inr (x, later, here, (rest, after_it), kept))

-- after the first i kids
abbrev pub AddedTo : List (List SerialOp) → List SerialOp → List Branch → ℕ → List (List SerialOp) → Type 0
AddedTo old path bs i new = AddsBelow old new path (joined (take i bs))

pub kid_added : (old mid new : List (List SerialOp)) (path : List SerialOp) (hs : List (List SerialOp)) (i : ℕ) (op : SerialOp) (below : List (List SerialOp)) → IsBranching hs → slice_get (branches_of hs) i ≡ Some (op, below)
    → AddedTo old path (branches_of hs) i mid → AddsBelow mid new (path ++ op ∷ []) below → AddedTo old path (branches_of hs) (i + 1) new
kid_added old mid new path hs i op below is at before kid q =
    let bs = branches_of hs in
    let xs = joined (take i bs) in
    let some = below_some bs i (op, below) is.branches.full at in
    let next : joined (take (i + 1) bs) ≡ xs ++ after op below = joined_next bs i op below at in
    (λ has. subst (λ (x : List (List SerialOp)). Has old q ⊎ IsBelow path x q) (sym next) (forth ((kid q).0 has)), λ h. (kid q).1 (back (subst (λ (x : List (List SerialOp)). Has old q ⊎ IsBelow path x q) next h) some))
  where
    forth : Has mid q ⊎ IsBelow (path ++ op ∷ []) below q → Has old q ⊎ IsBelow path (joined (take i (branches_of hs)) ++ after op below) q
    forth (inl has) = elim ((before q).0 has) [ inl was ↦ inl was | inr on ↦ inr (below_more path (joined (take i (branches_of hs))) (after op below) q on) ]
    forth (inr on) = inr (kid_below path (joined (take i (branches_of hs))) below op (below_some (branches_of hs) i (op, below) is.branches.full at) q on)

    back : Has old q ⊎ IsBelow path (joined (take i (branches_of hs)) ++ after op below) q → ((h : List SerialOp) × Has below h) → Has mid q ⊎ IsBelow (path ++ op ∷ []) below q
    back (inl was) some = inl ((before q).1 (inl was))
    back (inr on) some = elim (below_kid path (joined (take i (branches_of hs))) below op q on) [ inl left ↦ inl ((before q).1 (inr left)) | inr right ↦ inr right ]

-- after all kids
pub all_added : (old new : List (List SerialOp)) (path : List SerialOp) (hs : List (List SerialOp)) (n : ℕ) → IsBranching hs → length (branches_of hs) ≤ n → AddedTo old path (branches_of hs) n new → AddsBelow old new path hs
all_added old new path hs n is all added q =
    let whole : joined (take n (branches_of hs)) ≡ joined (branches_of hs) = ap joined (take_all n (branches_of hs) all) in
    let branches = λ (x : Has old q ⊎ IsBelow path (joined (take n (branches_of hs))) q). subst (λ (y : List (List SerialOp)). Has old q ⊎ IsBelow path y q) whole x in
    (λ has. wide (branches ((added q).0 has)), λ h. (added q).1 (subst (λ (y : List (List SerialOp)). Has old q ⊎ IsBelow path y q) (sym whole) (narrow h)))
  where
    wide : Has old q ⊎ IsBelow path (joined (branches_of hs)) q → Has old q ⊎ IsBelow path hs q
    wide (inl was) = inl was
    wide (inr (inl here)) = inr (inl here)
    wide (inr (inr (begin, h, e, b, has))) = inr (inr (begin, h, e, b, of_branch hs h is has))

    narrow : Has old q ⊎ IsBelow path hs q → Has old q ⊎ IsBelow path (joined (branches_of hs)) q
    narrow (inl was) = inl was
    narrow (inr (inl here)) = inr (inl here)
    narrow (inr (inr (begin, h, e, b, has))) = elim (parted hs h is has) [
      | inl empty ↦ inr (inl (e ∙ (ap (λ (x : List SerialOp). path ++ x) (no_begin begin b.0 (sym b.1 ∙ empty)) ∙ append-nil path)))
      | inr branch ↦ inr (inr (begin, h, e, b, branch))
    ]
      where
        no_begin : (x rest : List SerialOp) → x ++ rest ≡ [] → x ≡ []
        no_begin [] rest none = refl
        no_begin (first ∷ x) rest none = absurd cc

-- below a kid the path goes on serially
pub kid_serial : (hs : List (List SerialOp)) (path : List SerialOp) (i : ℕ) (op : SerialOp) (below : List (List SerialOp)) → IsBranching hs → slice_get (branches_of hs) i ≡ Some (op, below) → ((q : List SerialOp) → Has hs q → IsSerial (path ++ q)) → (q : List SerialOp) → Has below q → IsSerial ((path ++ op ∷ []) ++ q)
kid_serial hs path i op below is at serial q has =
    let member = of_branch hs (op ∷ q) is (in_joined (branches_of hs) i (op, below) q at has) in
    subst IsSerial (sym (append_assoc path (op ∷ []) q)) (serial (op ∷ q) member)

pub kid_path : (hs : List (List SerialOp)) (path : List SerialOp) (i : ℕ) (op : SerialOp) (below : List (List SerialOp)) → IsBranching hs → slice_get (branches_of hs) i ≡ Some (op, below) → ((q : List SerialOp) → Has hs q → IsSerial (path ++ q)) → IsSerial (path ++ op ∷ [])
kid_path hs path i op below is at serial =
    let some = below_some (branches_of hs) i (op, below) is.branches.full at in
    serial_front (path ++ op ∷ []) some.0 (kid_serial hs path i op below is at serial some.0 some.1)

-- ---- outcomes, kid after kid

pub kid_outcomes : (hs : List (List SerialOp)) (i : ℕ) (op : SerialOp) (below : List (List SerialOp)) → slice_get (branches_of hs) i ≡ Some (op, below) → HasOutcome op → AllHaveOutcomes below → AllHaveOutcomes (joined (take i (branches_of hs))) → AllHaveOutcomes (joined (take (i + 1) (branches_of hs)))
kid_outcomes hs i op below at first kid before q has =
    elim (has_either (joined (take i (branches_of hs))) (after op below) q (subst (λ (x : List (List SerialOp)). Has x q) (joined_next (branches_of hs) i op below at) has)) [
      | inl was ↦ before q was
      | inr here ↦
          let found = has_after op below q here in
          subst (λ (x : List SerialOp). All HasOutcome x) (sym found.1) (All-cons HasOutcome op found.0 first (kid found.0 found.2))
    ]

pub all_outcomes : (hs : List (List SerialOp)) (n : ℕ) → IsBranching hs → length (branches_of hs) ≤ n → AllHaveOutcomes (joined (take n (branches_of hs))) → AllHaveOutcomes hs
all_outcomes hs n is all outcomes q has = elim (parted hs q is has) [
  | inl empty ↦ subst (λ (x : List SerialOp). All HasOutcome x) (sym empty) (All-nil HasOutcome)
  | inr branch ↦ outcomes q (subst (λ (x : List Branch). Has (joined x) q) (sym (take_all n (branches_of hs) all)) branch)
]
