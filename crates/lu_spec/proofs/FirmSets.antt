-- What is kept of entries without marks, and firm conflicts with the histories of which it is kept.
use Rattle.std.proofs.Common.{◌≡◌, ℕ, zero, suc, ◌+◌, ◌<◌, ◌≤◌, Bool, true, false, ◌⊎◌, ◌↔◌, List, [], ◌∷◌, ◌++◌, length, take, get_or, Some, slice_get, refl, sym, ap, subst, ◌∙◌, inl, inr, arith}
use Rattle.std.specs.Prelude.{Contains, IsTrue}
use Rattle.std.proofs.lemmas.Bool.{cases_lt}
use Rattle.std.proofs.lemmas.List.{length-append, length-map, length-take-le}
use Rattle.std.proofs.lemmas.List.Elements.{Contains-push, Contains-push_cases, Contains-append_left}
use Rattle.std.proofs.lemmas.Option.{slice_get-get_or, slice_get_within}
use Rattle.lu_history.specs.declared.serial.SerialOp.{SerialOp}
use Rattle.lu_history.specs.declared.serial.SerialOutcome.{SerialOutcome}
use Rattle.lu_history.specs.declared.serial.SerialOutcome.TheVariants.{Stuck}
use Rattle.lu_trie.specs.Members.{Adds}
use Rattle.lu_spec.specs.declared.marked_line.MarkedOp.{MarkedOp}
use Rattle.lu_spec.specs.declared.firm.FirmEnds.{FirmEnds}
use Rattle.lu_spec.specs.Beginnings.{Has}
use Rattle.lu_spec.specs.FirmEnds.{AddsEnds, EndsFirmly, KeepsMore, Refuses, RefusesSome, with_outcome, without_outcome}
use Rattle.lu_spec.specs.FreeSpecs.{AreFirmlyApart, HasFirmConflictIn}
use Rattle.lu_spec.specs.MarkedEntries.{erased, firm}
use Rattle.lu_spec.proofs.Sets.{adds_one, old_kept, one_added}

-- ---- entries

some_is : {A : Type 0} (a b : A) → Some a ≡ Some b → a ≡ b
some_is a b e = cc

firm_of : (e : MarkedOp) → e.marked ≡ false → e ≡ firm e.op
firm_of e no_mark = ap (λ (b : Bool). let x : MarkedOp = record { op = e.op; marked = b } in x) no_mark

pub got_firm : (q : List MarkedOp) (i : ℕ) (d : MarkedOp) → i < length q → (get_or q i d).marked ≡ false → slice_get q i ≡ Some (firm (get_or q i d).op)
got_firm q i d within no_mark = slice_get-get_or q i d within ∙ ap Some (firm_of (get_or q i d) no_mark)

firm_got : (q : List MarkedOp) (i : ℕ) (d : MarkedOp) (op : SerialOp) → i < length q → slice_get q i ≡ Some (firm op) → get_or q i d ≡ firm op
firm_got q i d op within at = some_is (get_or q i d) (firm op) (sym (slice_get-get_or q i d within) ∙ at)

erased_at : (q : List MarkedOp) (i : ℕ) (e : MarkedOp) → slice_get q i ≡ Some e → slice_get (erased q) i ≡ Some e.op
erased_at [] i e at = absurd cc
erased_at (x ∷ q) zero e at = ap (λ (z : MarkedOp). Some z.op) (some_is x e at)
erased_at (x ∷ q) (suc i) e at = erased_at q i e at

-- ---- entry after entry

-- such a beginning, of at most n entries
abbrev pub EndsBelow : (SerialOp → SerialOp) → ℕ → List MarkedOp → List SerialOp → Type 0
EndsBelow f n q x = (i : ℕ) × (i < n) × (op : SerialOp) × (slice_get q i ≡ Some (firm op)) × (x ≡ take i (erased q) ++ f op ∷ [])

-- those of the first n entries are added
abbrev pub AddedTo : (SerialOp → SerialOp) → List (List SerialOp) → List (List SerialOp) → List MarkedOp → ℕ → Type 0
AddedTo f old new q n = (x : List SerialOp) → Has new x ↔ (Has old x ⊎ EndsBelow f n q x)

module _ (f : SerialOp → SerialOp) (q : List MarkedOp) where
  pub none_added : (old : List (List SerialOp)) → AddedTo f old old q 0
  none_added old x = (λ has. inl has, λ either. back either)
    where
      back : Has old x ⊎ EndsBelow f 0 q x → Has old x
      back (inl has) = has
      back (inr (i, less, op, at, is)) = absurd (omega arith)

  longer : (n : ℕ) (x : List SerialOp) → EndsBelow f n q x → EndsBelow f (n + 1) q x
  longer n x (i, less, op, at, is) = (i, omega arith, op, at, is)

  module _ (n : ℕ) (d : MarkedOp) (within : n < length q) where
    pub one_marked : (old mid : List (List SerialOp)) → (get_or q n d).marked ≡ true → AddedTo f old mid q n → AddedTo f old mid q (n + 1)
    one_marked old mid marked before x = (λ has. forth ((before x).0 has), λ either. (before x).1 (back either))
      where
        forth : Has old x ⊎ EndsBelow f n q x → Has old x ⊎ EndsBelow f (n + 1) q x
        forth (inl was) = inl was
        forth (inr ends) = inr (longer n x ends)

        back : Has old x ⊎ EndsBelow f (n + 1) q x → Has old x ⊎ EndsBelow f n q x
        back (inl was) = inl was
        back (inr (i, less, op, at, is)) = elim (cases_lt i n) [
          | inl shorter ↦ inr (i, shorter, op, at, is)
          | inr long ↦
              let here : i ≡ n = omega arith in
              let got : slice_get q n ≡ Some (firm op) = subst (λ (k : ℕ). slice_get q k ≡ Some (firm op)) here at in
              let no_mark : (get_or q n d).marked ≡ false = ap (λ (e : MarkedOp). e.marked) (firm_got q n d op within got) in
              absurd cc
        ]

    pub one_added_firm : (old mid new : List (List SerialOp)) (end : List SerialOp) → (get_or q n d).marked ≡ false → end ≡ take n (erased q) ++ f (get_or q n d).op ∷ [] → AddedTo f old mid q n → Adds mid new end → AddedTo f old new q (n + 1)
    one_added_firm old mid new end no_mark is before adds x = (λ has. forth (adds_one mid new end x adds has), λ either. back either)
      where
        forth : (x ≡ end) ⊎ Has mid x → Has old x ⊎ EndsBelow f (n + 1) q x
        forth (inl same) = inr (n, omega arith, (get_or q n d).op, got_firm q n d within no_mark, same ∙ is)
        forth (inr was) = elim ((before x).0 was) [
          | inl has ↦ inl has
          | inr ends ↦ inr (longer n x ends)
        ]

        back : Has old x ⊎ EndsBelow f (n + 1) q x → Has new x
        back (inl has) = old_kept mid new end x adds ((before x).1 (inl has))
        back (inr (i, less, op, at, says)) = elim (cases_lt i n) [
          | inl shorter ↦ old_kept mid new end x adds ((before x).1 (inr (i, shorter, op, at, says)))
          | inr long ↦
              let here : i ≡ n = omega arith in
              let got : slice_get q n ≡ Some (firm op) = subst (λ (k : ℕ). slice_get q k ≡ Some (firm op)) here at in
              let same_op : (get_or q n d).op ≡ op = ap (λ (e : MarkedOp). e.op) (firm_got q n d op within got) in
              let same : x ≡ end = says ∙ (ap (λ (k : ℕ). take k (erased q) ++ f op ∷ []) here ∙ (ap (λ (o : SerialOp). take n (erased q) ++ f o ∷ []) (sym same_op) ∙ sym is)) in
              subst (Has new) (sym same) (one_added mid new end adds)
        ]

  pub all_added : (old new : List (List SerialOp)) (n : ℕ) → length q ≤ n → AddedTo f old new q n → AddsEnds f old new q
  all_added old new n past added x = (λ has. forth ((added x).0 has), λ either. (added x).1 (back either))
    where
      forth : Has old x ⊎ EndsBelow f n q x → Has old x ⊎ EndsFirmly f q x
      forth (inl was) = inl was
      forth (inr (i, less, op, at, is)) = inr (i, op, at, is)

      back : Has old x ⊎ EndsFirmly f q x → Has old x ⊎ EndsBelow f n q x
      back (inl was) = inl was
      back (inr (i, op, at, is)) =
          let inside = slice_get_within q i (firm op) at in
          inr (i, omega arith, op, at, is)

-- ---- whether one is refused

-- none of the first n entries is
abbrev pub NoneRefused : FirmEnds → List MarkedOp → ℕ → Type 0
NoneRefused kept q n = (i : ℕ) (op : SerialOp) → i < n → slice_get q i ≡ Some (firm op) → Refuses kept (take i (erased q)) op → ⊥

pub no_entry_refused : (kept : FirmEnds) (q : List MarkedOp) → NoneRefused kept q 0
no_entry_refused kept q i op less at refused = omega arith

pub next_not_refused : (kept : FirmEnds) (q : List MarkedOp) (n : ℕ) (d : MarkedOp) → n < length q → ((get_or q n d).marked ≡ false → Refuses kept (take n (erased q)) (get_or q n d).op → ⊥) → NoneRefused kept q n → NoneRefused kept q (n + 1)
next_not_refused kept q n d within fails before i op less at refused = elim (cases_lt i n) [
  | inl shorter ↦ before i op shorter at refused
  | inr long ↦
      let here : i ≡ n = omega arith in
      let got : slice_get q n ≡ Some (firm op) = subst (λ (k : ℕ). slice_get q k ≡ Some (firm op)) here at in
      let is : get_or q n d ≡ firm op = firm_got q n d op within got in
      let moved : Refuses kept (take n (erased q)) op = subst (λ (k : ℕ). Refuses kept (take k (erased q)) op) here refused in
      fails (ap (λ (e : MarkedOp). e.marked) is) (subst (λ (e : MarkedOp). Refuses kept (take n (erased q)) e.op) (sym is) moved)
]

pub said_no : (b : Bool) (P : Type 0) → (IsTrue b ↔ P) → b ≡ false → P → ⊥
said_no true P answer is p = cc
said_no false P answer is p = let yes_it_is = answer.1 p in cc

pub not_both : (b : Bool) → b ≡ false → b ≡ true → ⊥
not_both true is also = cc
not_both false is also = cc

pub none_refused : (kept : FirmEnds) (q : List MarkedOp) (n : ℕ) → length q ≤ n → NoneRefused kept q n → RefusesSome kept q → ⊥
none_refused kept q n past none (i, op, at, refused) =
    let inside = slice_get_within q i (firm op) at in
    none i op (omega arith) at refused

-- ---- firm conflicts

-- these are the beginnings of the listed histories
abbrev pub AreEndsOf : (SerialOp → SerialOp) → List (List MarkedOp) → List (List SerialOp) → Type 0
AreEndsOf f listed set = (x : List SerialOp) → Has set x ↔ ((q : List MarkedOp) × Contains listed q × EndsFirmly f q x)

pub record AreKeptOf (listed : List (List MarkedOp)) (kept : FirmEnds) : Type 0 where
  pub ends : AreEndsOf with_outcome listed kept.ends
  pub asked : AreEndsOf without_outcome listed kept.asked

no_ends : (f : SerialOp → SerialOp) (set : List (List SerialOp)) → set ≡ [] → AreEndsOf f [] set
no_ends f set none x = (λ has. absurd (let e = none in let h : Has [] x = subst (λ (s : List (List SerialOp)). Has s x) none has in cc), λ some. absurd (omega (arith, some.1.1)))

pub none_kept : (kept : FirmEnds) → kept.ends ≡ [] → kept.asked ≡ [] → AreKeptOf [] kept
none_kept kept ends asked = record { ends = no_ends with_outcome kept.ends ends; asked = no_ends without_outcome kept.asked asked }

ends_more : (f : SerialOp → SerialOp) (listed : List (List MarkedOp)) (q : List MarkedOp) (old new : List (List SerialOp)) → AreEndsOf f listed old → AddsEnds f old new q → AreEndsOf f (listed ++ q ∷ []) new
ends_more f listed q old new are adds x = (λ has. forth ((adds x).0 has), λ some. (adds x).1 (back some))
  where
    forth : Has old x ⊎ EndsFirmly f q x → (p : List MarkedOp) × Contains (listed ++ q ∷ []) p × EndsFirmly f p x
    forth (inl was) = let some = (are x).0 was in (some.0, Contains-append_left listed (q ∷ []) some.0 some.1, some.2)
    forth (inr ends) = (q, Contains-push listed q, ends)

    back : (p : List MarkedOp) × Contains (listed ++ q ∷ []) p × EndsFirmly f p x → Has old x ⊎ EndsFirmly f q x
    back (p, among, ends) = elim (Contains-push_cases listed q p among) [
      | inl was ↦ inl ((are x).1 (p, was, ends))
      | inr is ↦ inr (subst (λ (z : List MarkedOp). EndsFirmly f z x) (sym is) ends)
    ]

pub kept_more : (listed : List (List MarkedOp)) (q : List MarkedOp) (old new : FirmEnds) → AreKeptOf listed old → KeepsMore old new q → AreKeptOf (listed ++ q ∷ []) new
kept_more listed q old new are more = record {
  ends = ends_more with_outcome listed q old.ends new.ends are.ends more.0;
  asked = ends_more without_outcome listed q old.asked new.asked are.asked more.1;
}

-- two beginnings with one more entry each
module _ (p q : List SerialOp) (i j : ℕ) (a b : SerialOp) (first : i < length p) (second : j < length q) where
  same_length : take i p ++ a ∷ [] ≡ take j q ++ b ∷ [] → i ≡ j
  same_length e =
      omega (
        arith,
        ap length e,
        length-append (take i p) (a ∷ []),
        length-append (take j q) (b ∷ []),
        length-take-le i p (omega arith),
        length-take-le j q (omega arith),
      )

front_same : (xs ys : List SerialOp) (a b : SerialOp) → xs ++ a ∷ [] ≡ ys ++ b ∷ [] → (xs ≡ ys) × (a ≡ b)
front_same [] [] a b e = (refl, cc)
front_same [] (y ∷ ys) a b e = absurd (none ys (let f : [] ≡ ys ++ b ∷ [] = cc in f))
  where
    none : (zs : List SerialOp) → [] ≡ zs ++ b ∷ [] → ⊥
    none [] f = cc
    none (z ∷ zs) f = cc
front_same (x ∷ xs) [] a b e = absurd (none xs (let f : [] ≡ xs ++ a ∷ [] = cc in f))
  where
    none : (zs : List SerialOp) → [] ≡ zs ++ a ∷ [] → ⊥
    none [] f = cc
    none (z ∷ zs) f = cc
front_same (x ∷ xs) (y ∷ ys) a b e =
    let rest = front_same xs ys a b (let f : xs ++ a ∷ [] ≡ ys ++ b ∷ [] = cc in f) in
    let head : x ≡ y = cc in
    let tail : xs ≡ ys = rest.0 in
    (cc, rest.1)

erased_length : (q : List MarkedOp) → length (erased q) ≡ length q
erased_length q = length-map q (λ (e : MarkedOp). e.op)

thread_same : (a b : SerialOp) → without_outcome a ≡ without_outcome b → a.thread ≡ b.thread
thread_same a b e = ap (λ (o : SerialOp). o.thread) e

op_same : (a b : SerialOp) → a.thread ≡ b.thread → a.outcome ≡ b.outcome → a ≡ b
op_same a b t o = ap (λ (n : ℕ). let x : SerialOp = record { thread = n; outcome = a.outcome } in x) t ∙ ap (λ (u : SerialOutcome). let x : SerialOp = record { thread = b.thread; outcome = u } in x) o

module _ (listed : List (List MarkedOp)) (kept : FirmEnds) (are : AreKeptOf listed kept) (q : List MarkedOp) where
  -- a refused entry is one of a firm conflict
  pub conflict_from : RefusesSome kept q → HasFirmConflictIn listed q
  conflict_from (i, op, at, refused) = go ((are.asked (take i (erased q) ++ without_outcome op ∷ [])).0 refused.0)
    where
      go : (p : List MarkedOp) × Contains listed p × EndsFirmly without_outcome p (take i (erased q) ++ without_outcome op ∷ []) → HasFirmConflictIn listed q
      go (p, among, ends) =
          let j = ends.0 in
          let other = ends.1 in
          let there = ends.2 in
          let is = ends.3 in
          let inside = slice_get_within q i (firm op) at in
          let also_inside = slice_get_within p j (firm other) there in
          let here : i ≡ j = same_length (erased q) (erased p) i j (without_outcome op) (without_outcome other) (omega (arith, erased_length q)) (omega (arith, erased_length p)) is in
          let parts = front_same (take i (erased q)) (take j (erased p)) (without_outcome op) (without_outcome other) is in
          let thread : op.thread ≡ other.thread = thread_same op other parts.1 in
          let got : slice_get p i ≡ Some (firm other) = subst (λ (k : ℕ). slice_get p k ≡ Some (firm other)) (sym here) there in
          let same : take i (erased q) ≡ take i (erased p) = parts.0 ∙ ap (λ (k : ℕ). take k (erased p)) (sym here) in
          let other_is : slice_get (erased p) i ≡ Some (record { thread = op.thread; outcome = other.outcome }) = erased_at p i (firm other) got ∙ ap (λ (t : ℕ). let x : SerialOp = record { thread = t; outcome = other.outcome } in Some x) (sym thread) in (
            p,
            among,
            i,
            other.outcome,
            record {
              conflict = record {
                same = same;
                next = op;
                next_is = erased_at q i (firm op) at;
                other_is = other_is;
                differ = λ e. refused.1 ((are.ends (take i (erased q) ++ op ∷ [])).1 (p, among, (i, other, got, ap (λ (x : List SerialOp). x ++ op ∷ []) same ∙ ap (λ (o : SerialOp). take i (erased p) ++ o ∷ []) (op_same op other thread (sym e)))));
              };
              first = (op, at);
              second = (other, got);
            },
          )

  -- and an entry of a firm conflict is refused, where those of which it is kept do not conflict
  pub refused_from : AreFirmlyApart listed → HasFirmConflictIn listed q → RefusesSome kept q
  refused_from apart (p, among, i, o, conflict) =
      let op = conflict.first.0 in
      let at = conflict.first.1 in
      let other = conflict.second.0 in
      let there = conflict.second.1 in
      let next_is : conflict.conflict.next ≡ op = some_is conflict.conflict.next op (sym conflict.conflict.next_is ∙ erased_at q i (firm op) at) in
      let other_was = erased_at p i (firm other) there in
      let other_is : other ≡ record { thread = op.thread; outcome = o } = some_is other (record { thread = op.thread; outcome = o }) (sym other_was ∙ (conflict.conflict.other_is ∙ ap (λ (x : SerialOp). let y : SerialOp = record { thread = x.thread; outcome = o } in Some y) next_is)) in
      let thread : op.thread ≡ other.thread = sym (ap (λ (x : SerialOp). x.thread) other_is) in
      let asked : Has kept.asked (take i (erased q) ++ without_outcome op ∷ []) =
      (are.asked (take i (erased q) ++ without_outcome op ∷ [])).1 (
        p,
        among,
        (
          i,
          other,
          there,
          ap (λ (x : List SerialOp). x ++ without_outcome op ∷ []) conflict.conflict.same ∙ ap (λ (t : ℕ). let x : SerialOp = record { thread = t; outcome = Stuck } in take i (erased p) ++ x ∷ []) thread,
        ),
      ) in
      (i, op, at, (asked, λ has. go op other at there next_is thread (ap (λ (x : SerialOp). x.outcome) other_is) ((are.ends (take i (erased q) ++ op ∷ [])).0 has)))
    where
      go : (op other : SerialOp) → slice_get q i ≡ Some (firm op) → slice_get p i ≡ Some (firm other) → conflict.conflict.next ≡ op → op.thread ≡ other.thread → other.outcome ≡ o
          → (r : List MarkedOp) × Contains listed r × EndsFirmly with_outcome r (take i (erased q) ++ op ∷ []) → ⊥
      go op other at there next_is thread ends_so (r, also, ends) =
          let j = ends.0 in
          let third = ends.1 in
          let where_it_is = ends.2 in
          let is = ends.3 in
          let inside = slice_get_within q i (firm op) at in
          let also_inside = slice_get_within r j (firm third) where_it_is in
          let here : i ≡ j = same_length (erased q) (erased r) i j op third (omega (arith, erased_length q)) (omega (arith, erased_length r)) is in
          let parts = front_same (take i (erased q)) (take j (erased r)) op third is in
          let got : slice_get r i ≡ Some (firm op) = subst (λ (k : ℕ). slice_get r k ≡ Some (firm third)) (sym here) where_it_is ∙ ap (λ (x : SerialOp). Some (firm x)) (sym parts.1) in
          let same : take i (erased r) ≡ take i (erased p) = ap (λ (k : ℕ). take k (erased r)) here ∙ (sym parts.0 ∙ conflict.conflict.same) in
          let other_at : slice_get (erased p) i ≡ Some (record { thread = op.thread; outcome = other.outcome }) = erased_at p i (firm other) there ∙ ap (λ (t : ℕ). let x : SerialOp = record { thread = t; outcome = other.outcome } in Some x) (sym thread) in
          apart r also (
            p,
            among,
            i,
            other.outcome,
            record {
              conflict = record {
                same = same;
                next = op;
                next_is = erased_at r i (firm op) got;
                other_is = other_at;
                differ = λ e. conflict.conflict.differ (sym ends_so ∙ (e ∙ ap (λ (x : SerialOp). x.outcome) (sym next_is)));
              };
              first = (op, got);
              second = (other, there);
            },
          )
