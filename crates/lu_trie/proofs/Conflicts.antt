-- With which members of a node a history conflicts.
use Rattle.std.proofs.Common.{◌≡◌, ◌≢◌, ℕ, zero, suc, ◌+◌, ◌<◌, ◌≤◌, Bool, true, false, ◌&&◌, ◌||◌, List, [], ◌∷◌, length, get_or, take, Option, Some, None, ◌↔◌, refl, sym, ap, ◌∙◌, subst, arith, add-one}
use Rattle.std.proofs.lemmas.List.{get_or_default, length-take, length-drop}
use Rattle.std.specs.List.{All}
use Rattle.lu_history.specs.declared.serial.SerialOp.{SerialOp}
use Rattle.lu_history.specs.declared.serial.SerialOutcome.{SerialOutcome}
use Rattle.lu_trie.specs.Members.{same_op, contains}
use Rattle.lu_trie.specs.Branches.{Branch, members_from, AreBranches, IsBranchAt}
use Rattle.lu_trie.specs.Conflicts.{ConflictAt, IsDeterministic, HasConflict}
use Rattle.lu_trie.proofs.Ops.{ops_equiv, histories_equiv, same_ops_are, entry}
use Rattle.lu_trie.proofs.Kids.{full-at}
use Rattle.lu_trie.proofs.Histories.{first_and_rest}
use Rattle.lu_trie.proofs.Membership.{split_or, kids_contain, node-cons, kids-at, rest_of}

some_value : (a b : SerialOp) → Some a ≡ Some b → a ≡ b
some_value a b e = cc

-- a conflict, operation by operation
abbrev pub Diverges : List SerialOp → List SerialOp → ℕ → SerialOutcome → Type 0
Diverges [] other i o = ⊥
Diverges (op ∷ history) [] i o = ⊥
Diverges (op ∷ history) (op' ∷ other) zero o = (op'.thread ≡ op.thread) × (op'.outcome ≢ op.outcome) × (o ≡ op'.outcome)
Diverges (op ∷ history) (op' ∷ other) (suc i) o = (op' ≡ op) × Diverges history other i o

pub diverges_from : (h q : List SerialOp) (i : ℕ) (o : SerialOutcome) → ConflictAt h q i o → Diverges h q i o
diverges_from [] q i o c = let e = c.next_is in cc
diverges_from (a ∷ h) [] i o c = let e = c.other_is in cc
diverges_from (a ∷ h) (b ∷ q) zero o c =
    let mine : a ≡ c.next = some_value a c.next c.next_is in
    let other : b ≡ entry c.next.thread o = some_value b (entry c.next.thread o) c.other_is in
    let outcome : b.outcome ≡ o = ap (λ (x : SerialOp). x.outcome) other in (
      ap (λ (x : SerialOp). x.thread) other ∙ ap (λ (x : SerialOp). x.thread) (sym mine),
      (λ e. c.differ (sym outcome ∙ e ∙ ap (λ (x : SerialOp). x.outcome) mine)),
      sym outcome,
    )
diverges_from (a ∷ h) (b ∷ q) (suc i) o c =
    let whole : a ∷ take i h ≡ b ∷ take i q = c.same in
    let first : b ≡ a = cc in
    let rest : take i h ≡ take i q = cc in
    (first, diverges_from h q i o (record { same = rest; next = c.next; next_is = c.next_is; other_is = c.other_is; differ = c.differ }))

pub conflict_from : (h q : List SerialOp) (i : ℕ) (o : SerialOutcome) → Diverges h q i o → ConflictAt h q i o
conflict_from [] q i o d = absurd d
conflict_from (a ∷ h) [] i o d = absurd d
conflict_from (a ∷ h) (b ∷ q) zero o d = record {
  same = refl;
  next = a;
  next_is = refl;
  other_is = ap Some (ap (λ t. entry t b.outcome) d.0 ∙ ap (entry a.thread) (sym d.2));
  differ = λ e. d.1 (sym d.2 ∙ e);
}
conflict_from (a ∷ h) (b ∷ q) (suc i) o d =
    let below = conflict_from h q i o d.1 in
    record {
      same = ap (λ x. x ∷ take i h) (sym d.0) ∙ ap (λ x. b ∷ x) below.same;
      next = below.next;
      next_is = below.next_is;
      other_is = below.other_is;
      differ = below.differ;
    }

abbrev pub NeverDiverges : List (List SerialOp) → Type 0
NeverDiverges histories = (h q : List SerialOp) (i : ℕ) (o : SerialOutcome) → contains histories h ≡ true → contains histories q ≡ true → Diverges h q i o → ⊥

abbrev pub HasDivergence : List (List SerialOp) → List SerialOp → ℕ → SerialOutcome → Type 0
HasDivergence histories history i o = (q : List SerialOp) × (contains histories q ≡ true) × Diverges history q i o

pub never_diverges : (histories : List (List SerialOp)) → IsDeterministic histories → NeverDiverges histories
never_diverges histories det h q i o mh mq d = det h q i o mh mq (conflict_from h q i o d)

pub deterministic : (histories : List (List SerialOp)) → NeverDiverges histories → IsDeterministic histories
deterministic histories never h q i o mh mq c = never h q i o mh mq (diverges_from h q i o c)

pub diverges_in_range : (h q : List SerialOp) (i : ℕ) (o : SerialOutcome) → Diverges h q i o → i < length h
diverges_in_range [] q i o c = absurd c
diverges_in_range (a ∷ h) [] i o c = absurd c
diverges_in_range (a ∷ h) (b ∷ q) zero o c = omega arith
diverges_in_range (a ∷ h) (b ∷ q) (suc i) o c = omega (arith, diverges_in_range h q i o c.1)

some_member : (xs : List (List SerialOp)) → xs ≢ [] → (q : List SerialOp) × (contains xs q ≡ true)
some_member [] full = absurd (full refl)
some_member (x ∷ xs) full = (x, ap (λ b. b || contains xs x) (histories_equiv.refl x))

-- the branch after whose label a member stands
record Under (bs : List Branch) (p : SerialOp) (q : List SerialOp) (d : Branch) : Type 0 where
  pub place : ℕ
  pub in_range : place < length bs
  pub label : (get_or bs place d).0 ≡ p

first_of_and : (a b : Bool) → (a && b) ≡ true → a ≡ true
first_of_and true b h = refl
first_of_and false b h = h

under : (bs : List Branch) (p : SerialOp) (q : List SerialOp) (d : Branch) → kids_contain bs p q ≡ true → Under bs p q d
under [] p q d h = cc
under (k ∷ ks) p q d h = split_or (same_op p k.0 && contains k.1 q) (kids_contain ks p q) (Under (k ∷ ks) p q d)
    (λ here. record { place = 0; in_range = omega arith; label = sym (same_ops_are p k.0 (first_of_and (same_op p k.0) (contains k.1 q) here)) })
    (λ there. let u = under ks p q d there in record { place = suc u.place; in_range = omega (arith, u.in_range); label = u.label })
    h

ops_apart : (a b : SerialOp) → a.thread ≡ b.thread → (a ≡ b → ⊥) → a.outcome ≢ b.outcome
ops_apart a b t apart o = apart (ap (λ t. entry t a.outcome) t ∙ ap (entry b.thread) o)

decide_ops : (a b : SerialOp) (P : Type 0) → (a ≡ b → P) → ((a ≡ b → ⊥) → P) → P
decide_ops a b P f g =
    let go : (t : Bool) → same_op a b ≡ t → P = elim [
      | true ↦ λ h. f (same_ops_are a b h)
      | false ↦ λ h. g (λ e. (let u : same_op a b ≡ true = ap (λ x. same_op a x) (sym e) ∙ ops_equiv.refl a in cc))
    ] in
    go (same_op a b) refl

module _ (ends : Bool) (bs : List Branch) (are : AreBranches bs) where
  member_after : (i : ℕ) (d : Branch) → i < length bs → (at : IsBranchAt bs (get_or bs i d).0 i) → (q : List SerialOp) → contains (get_or bs i d).1 q ≡ true → contains (members_from ends bs) ((get_or bs i d).0 ∷ q) ≡ true
  member_after i d lt at q h = node-cons ends bs (get_or bs i d).0 q ∙ kids-at bs (get_or bs i d).0 i d are.rise at q ∙ h

  apart_under : (op : SerialOp) (rest : List SerialOp) → All (λ (k : Branch). k.0.thread ≢ op.thread) bs → (b : SerialOp) (q : List SerialOp) → contains (members_from ends bs) (b ∷ q) ≡ true → b.thread ≢ op.thread
  apart_under op rest none b q mem same =
      let u = under bs b q (b, []) (sym (node-cons ends bs b q) ∙ mem) in
      none u.place (b, []) u.in_range (ap (λ (x : SerialOp). x.thread) u.label ∙ same)

  -- no branch has the thread
  pub no_conflict : (op : SerialOp) (rest : List SerialOp) → All (λ (k : Branch). k.0.thread ≢ op.thread) bs → (i : ℕ) (o : SerialOutcome) → HasDivergence (members_from ends bs) (op ∷ rest) i o → ⊥
  no_conflict op rest none i o ([], mem, c) = c
  no_conflict op rest none zero o (b ∷ q, mem, c) = apart_under op rest none b q mem c.0
  no_conflict op rest none (suc i) o (b ∷ q, mem, c) = apart_under op rest none b q mem (ap (λ (x : SerialOp). x.thread) c.0)

  module _ (det : NeverDiverges (members_from ends bs)) (i : ℕ) (kid : Branch) (lt : i < length bs) (read : kid ≡ get_or bs i kid) (op : SerialOp) (rest : List SerialOp) (thread : kid.0.thread ≡ op.thread) where
    at : IsBranchAt bs kid.0 i
    at = record { in_range = lt; has_label = λ d. ap (λ (k : Branch). k.0) (get_or_default bs i d kid lt ∙ sym read) }

    under_kid : (q : List SerialOp) → contains kid.1 q ≡ true → contains (members_from ends bs) (kid.0 ∷ q) ≡ true
    under_kid q h = node-cons ends bs kid.0 q ∙ kids-at bs kid.0 i kid are.rise at q ∙ ap (λ (k : Branch). contains k.1 q) (sym read) ∙ h

    example : (q : List SerialOp) × (contains kid.1 q ≡ true)
    example = some_member kid.1 (λ empty. full-at bs i kid lt are.full (ap (λ (k : Branch). k.1) (sym read) ∙ empty))

    pub det_below : NeverDiverges kid.1
    det_below h q j o mh mq c = det (kid.0 ∷ h) (kid.0 ∷ q) (suc j) o (under_kid h mh) (under_kid q mq) (refl, c)

    -- another outcome
    pub other_outcome : kid.0.outcome ≢ op.outcome → HasDivergence (members_from ends bs) (op ∷ rest) 0 kid.0.outcome
    other_outcome differs = (kid.0 ∷ example.0, under_kid example.0 example.1, (thread, differs, refl))

    pub only_outcome : kid.0.outcome ≢ op.outcome → (j : ℕ) (o : SerialOutcome) → HasDivergence (members_from ends bs) (op ∷ rest) j o → (j ≡ 0) × (o ≡ kid.0.outcome)
    only_outcome differs j o ([], mem, c) = absurd c
    only_outcome differs zero o (b ∷ q, mem, c) = (
      refl,
      c.2 ∙ decide_ops b kid.0 (b.outcome ≡ kid.0.outcome)
          (λ e. ap (λ (x : SerialOp). x.outcome) e)
          (λ apart. absurd (det (kid.0 ∷ example.0) (b ∷ q) 0 b.outcome (under_kid example.0 example.1) mem (c.0 ∙ sym thread, ops_apart b kid.0 (c.0 ∙ sym thread) apart, refl))),
    )
    only_outcome differs (suc j) o (b ∷ q, mem, c) =
        absurd (det (b ∷ q) (kid.0 ∷ example.0) 0 kid.0.outcome mem (under_kid example.0 example.1) (thread ∙ ap (λ (x : SerialOp). x.thread) (sym c.0), (λ e. differs (e ∙ ap (λ (x : SerialOp). x.outcome) c.0)), refl))

    -- the same outcome
    pub conflict_after : kid.0 ≡ op → (j : ℕ) (o : SerialOutcome) → HasDivergence kid.1 rest j o → HasDivergence (members_from ends bs) (op ∷ rest) (suc j) o
    conflict_after same j o (q, mem, c) = (kid.0 ∷ q, under_kid q mem, (same, c))

    pub conflict_only_after : kid.0 ≡ op → (j : ℕ) (o : SerialOutcome) → HasDivergence (members_from ends bs) (op ∷ rest) j o → (k : ℕ) × (j ≡ suc k) × HasDivergence kid.1 rest k o
    conflict_only_after same j o ([], mem, c) = absurd c
    conflict_only_after same zero o (b ∷ q, mem, c) =
        absurd (det (kid.0 ∷ example.0) (b ∷ q) 0 b.outcome (under_kid example.0 example.1) mem (c.0 ∙ sym thread, (λ e. c.1 (e ∙ ap (λ (x : SerialOp). x.outcome) same)), refl))
    conflict_only_after same (suc j) o (b ∷ q, mem, c) =
        (j, refl, (q, ap (λ (k : Branch). contains k.1 q) read ∙ sym (kids-at bs kid.0 i kid are.rise at q) ∙ sym (node-cons ends bs kid.0 q) ∙ ap (λ p. contains (members_from ends bs) (p ∷ q)) (same ∙ sym c.0) ∙ mem, c.1))

-- r is where the history diverges from members
abbrev pub TellsDivergence : Option (ℕ × SerialOutcome) → List (List SerialOp) → List SerialOp → Type 0
TellsDivergence r histories h = (i : ℕ) (o : SerialOutcome) → (r ≡ Some (i, o)) ↔ HasDivergence histories h i o

some_is : (i j : ℕ) (o p : SerialOutcome) → i ≡ j → o ≡ p → ◌≡◌ {A = Option (ℕ × SerialOutcome)} (Some (i, o)) (Some (j, p))
some_is i j o p e f = ap (λ n. Some (n, o)) e ∙ ap (λ x. Some (j, x)) f

value_is : (x y : ℕ × SerialOutcome) → Some x ≡ Some y → x ≡ y
value_is x y e = cc

place_is : (i j : ℕ) (o p : SerialOutcome) → ◌≡◌ {A = Option (ℕ × SerialOutcome)} (Some (i, o)) (Some (j, p)) → i ≡ j
place_is i j o p e = ap (λ x. x.0) (value_is (i, o) (j, p) e)

outcome_is : (i j : ℕ) (o p : SerialOutcome) → ◌≡◌ {A = Option (ℕ × SerialOutcome)} (Some (i, o)) (Some (j, p)) → o ≡ p
outcome_is i j o p e = ap (λ x. x.1) (value_is (i, o) (j, p) e)

pub tells_empty : (histories : List (List SerialOp)) (h : List SerialOp) → length h < 1 → TellsDivergence None histories h
tells_empty histories [] lt i o = ((λ e. cc), λ has. absurd has.2)
tells_empty histories (x ∷ h) lt i o = absurd (omega arith)

module _ (ends : Bool) (bs : List Branch) (are : AreBranches bs) (h : List SerialOp) (d : SerialOp) (some : 1 ≤ length h) where
  parts : h ≡ get_or h 0 d ∷ rest_of h
  parts = first_and_rest h d some

  pub tells_none : (r : Option (ℕ × SerialOutcome)) → r ≡ None → All (λ (k : Branch). k.0.thread ≢ (get_or h 0 d).thread) bs → TellsDivergence r (members_from ends bs) h
  tells_none r is none i o = (
    (λ e. (let u : ◌≡◌ {A = Option (ℕ × SerialOutcome)} None (Some (i, o)) = sym is ∙ e in cc)),
    λ has. absurd (no_conflict ends bs are (get_or h 0 d) (rest_of h) none i o (subst (λ x. HasDivergence (members_from ends bs) x i o) parts has)),
  )

  module _ (det : NeverDiverges (members_from ends bs)) (i : ℕ) (kid : Branch) (lt : i < length bs) (read : kid ≡ get_or bs i kid) (thread : kid.0.thread ≡ (get_or h 0 d).thread) where
    pub tells_other : kid.0.outcome ≢ (get_or h 0 d).outcome → TellsDivergence (Some (0, kid.0.outcome)) (members_from ends bs) h
    tells_other differs j o = (
      (λ e. subst (λ x. HasDivergence (members_from ends bs) x j o) (sym parts)
          (subst (λ n. HasDivergence (members_from ends bs) (get_or h 0 d ∷ rest_of h) n o) (place_is _ _ _ _ e)
          (subst (λ p. HasDivergence (members_from ends bs) (get_or h 0 d ∷ rest_of h) 0 p) (outcome_is _ _ _ _ e)
          (other_outcome ends bs are det i kid lt read (get_or h 0 d) (rest_of h) thread differs)))),
      λ has. (let only = only_outcome ends bs are det i kid lt read (get_or h 0 d) (rest_of h) thread differs j o (subst (λ x. HasDivergence (members_from ends bs) x j o) parts has) in
          some_is 0 j kid.0.outcome o (sym only.0) (sym only.1)),
    )

    module _ (outcome : kid.0.outcome ≡ (get_or h 0 d).outcome) where
      same : kid.0 ≡ get_or h 0 d
      same = ap (λ t. entry t kid.0.outcome) thread ∙ ap (entry (get_or h 0 d).thread) outcome

      after_only : (j : ℕ) (o : SerialOutcome) → HasDivergence (members_from ends bs) h j o → (k : ℕ) × (j ≡ suc k) × HasDivergence kid.1 (rest_of h) k o
      after_only j o has = conflict_only_after ends bs are det i kid lt read (get_or h 0 d) (rest_of h) thread same j o (subst (λ x. HasDivergence (members_from ends bs) x j o) parts has)

      pub tells_same_none : (r s : Option (ℕ × SerialOutcome)) → r ≡ None → s ≡ None → TellsDivergence s kid.1 (rest_of h) → TellsDivergence r (members_from ends bs) h
      tells_same_none r s r_is s_is below j o = (
        (λ e. (let u : ◌≡◌ {A = Option (ℕ × SerialOutcome)} None (Some (j, o)) = sym r_is ∙ e in cc)),
        λ has. (let b = after_only j o has in let u : ◌≡◌ {A = Option (ℕ × SerialOutcome)} None (Some (b.0, o)) = sym s_is ∙ (below b.0 o).1 b.2 in cc),
      )

      pub tells_same_some : (s : Option (ℕ × SerialOutcome)) (k : ℕ) (p : SerialOutcome) → s ≡ Some (k, p) → TellsDivergence s kid.1 (rest_of h) → TellsDivergence (Some (k + 1, p)) (members_from ends bs) h
      tells_same_some s k p s_is below j o = (
        (λ e. subst (λ x. HasDivergence (members_from ends bs) x j o) (sym parts)
            (subst (λ n. HasDivergence (members_from ends bs) (get_or h 0 d ∷ rest_of h) n o) (sym (add-one k) ∙ place_is _ _ _ _ e)
            (conflict_after ends bs are det i kid lt read (get_or h 0 d) (rest_of h) thread same k o ((below k o).0 (s_is ∙ some_is k k p o refl (outcome_is _ _ _ _ e)))))),
        λ has. (let b = after_only j o has in let e = sym s_is ∙ (below b.0 o).1 b.2 in
            some_is (k + 1) j p o (add-one k ∙ ap suc (place_is _ _ _ _ e) ∙ sym b.1) (outcome_is _ _ _ _ e)),
      )

pub rest_shorter : (h q : List SerialOp) (i : ℕ) (o : SerialOutcome) → 1 ≤ length h → Diverges (rest_of h) q i o → i + 1 < length h
rest_shorter h q i o some c = let lt = diverges_in_range (rest_of h) q i o c in let n = simp (length-take, length-drop) at lt in omega arith

-- r is what the conflicts with the members are
abbrev pub Tells : Option (ℕ × SerialOutcome) → List (List SerialOp) → List SerialOp → Type 0
Tells r histories h = (i : ℕ) (o : SerialOutcome) → (r ≡ Some (i, o)) ↔ HasConflict histories h i o

pub tells : (r : Option (ℕ × SerialOutcome)) (histories : List (List SerialOp)) (h : List SerialOp) → TellsDivergence r histories h → Tells r histories h
tells r histories h told i o = (
  (λ e. (let has = (told i o).0 e in (has.0, has.1, conflict_from h has.0 i o has.2))),
  λ has. (told i o).1 (has.0, has.1, diverges_from h has.0 i o has.2),
)

pub told : (r : Option (ℕ × SerialOutcome)) (histories : List (List SerialOp)) (h : List SerialOp) → Tells r histories h → TellsDivergence r histories h
told r histories h is i o = (
  (λ e. (let has = (is i o).0 e in (has.0, has.1, diverges_from h has.0 i o has.2))),
  λ has. (is i o).1 (has.0, has.1, conflict_from h has.0 i o has.2),
)
