-- What is written of a specification of a matrix is read as that specification.
use Rattle.std.proofs.Common.{◌≡◌, ◌≢◌, ℕ, suc, zero, ◌+◌, ◌-◌, ◌<◌, ◌≤◌, Bool, true, ◌⊎◌, List, [], ◌∷◌, ◌++◌, length, get_or, refl, sym, ap, subst, ◌∙◌, inl, inr, arith, append_assoc}
use Rattle.std.specs.Prelude.{All, nat_lt, cond, sum_by}
use Rattle.std.proofs.lemmas.Bool.{cases_Bool, cases_lt, lt-ltb, le-ltb}
use Rattle.std.proofs.lemmas.Bool.Decides.{eqb_tells}
use Rattle.std.proofs.lemmas.List.{length-append}
use Rattle.std.proofs.lemmas.List.Sums.{sum_by-cons}
use Rattle.lu_test.specs.declared.matrix.Call.{Call}
use Rattle.lu_test.specs.Matrix.{Matrix, IsMatrix, calls_of, row_of}
use Rattle.lu_history.specs.declared.serial.SerialOp.{SerialOp}
use Rattle.lu_trie.specs.Members.{same_op}
use Rattle.lu_trie.proofs.Ops.{same_ops_are, ops_equiv}
use Rattle.lu_witness.specs.Witnesses.{entries}
use Rattle.lu_witness.proofs.Entries.{entries_own}
use Rattle.lu_spec.specs.Beginnings.{Has, Begins, IsClosureOf}
use Rattle.lu_spec.specs.Specs.{IsSpec, FitsMatrix, AreOf, HasOutcome}
use Rattle.lu_spec.specs.SpecText.{AreListed, MayFollow, IsEntry, IsListable, IsReadAs, spec_text}
use Rattle.lu_spec.specs.Listed.{IsListing, Rises}
use Rattle.lu_spec.proofs.Sets.{begins_self, begins_trans, has_cons, has_first, has_next}
use Rattle.lu_spec.proofs.Rooms.{calls_past, entries_other}

-- ---- the operations of the threads from k on

abbrev from_k : ℕ → ℕ → ℕ
from_k k thread = cond (nat_lt thread k) 0 1

abbrev count_from : ℕ → List SerialOp → ℕ
count_from k [] = 0
count_from k (op ∷ q) = from_k k op.thread + count_from k q

from_here : (k thread : ℕ) → k ≤ thread → from_k k thread ≡ 1
from_here k thread le = ap (λ (b : Bool). cond b 0 1) (le-ltb thread k le)

not_from : (k thread : ℕ) → thread < k → from_k k thread ≡ 0
not_from k thread lt = ap (λ (b : Bool). cond b 0 1) (lt-ltb thread k lt)

-- an operation more is one of thread k, or none
entries_one : (k : ℕ) (op : SerialOp) (q : List SerialOp) → ((op.thread ≡ k) × (length (entries k (op ∷ q)) ≡ length (entries k q) + 1)) ⊎ ((op.thread ≢ k) × (length (entries k (op ∷ q)) ≡ length (entries k q)))
entries_one k op q = elim (eqb_tells op.thread k) [
  | inl (same, is) ↦ inl (is, (subst (λ (t : ℕ). length (entries t (op ∷ q)) ≡ length (entries t q) + 1) is (let own = ap length (entries_own op q) in omega (arith, own))))
  | inr (other, differ) ↦ inr (differ, ap length (entries_other k op q other))
]

entries_grow : (k : ℕ) (op : SerialOp) (q : List SerialOp) → length (entries k q) ≤ length (entries k (op ∷ q))
entries_grow k op q = elim (entries_one k op q) [ inl (is, one) ↦ omega (arith, one) | inr (differ, none) ↦ omega (arith, none) ]

all_from : (q : List SerialOp) → count_from 0 q ≡ length q
all_from [] = refl
all_from (op ∷ q) = let here = from_here 0 op.thread (omega arith) in let later = all_from q in omega (arith, here, later)

-- those of thread k, and those of later threads
one_thread : (k : ℕ) (q : List SerialOp) → count_from k q ≡ length (entries k q) + count_from (k + 1) q
one_thread k [] = omega arith
one_thread k (op ∷ q) = elim (cases_lt op.thread k) [
  | inl before ↦
      let a = not_from k op.thread before in
      let b = not_from (k + 1) op.thread (omega arith) in
      by_one (entries_one k op q) (λ is. absurd (omega (arith, is))) (λ differ none. omega (arith, a, b, none, one_thread k q))
  | inr from ↦ elim (cases_lt k op.thread) [
    | inl later ↦
        let a = from_here k op.thread from in
        let b = from_here (k + 1) op.thread (omega arith) in
        by_one (entries_one k op q) (λ is. absurd (omega (arith, is))) (λ differ none. omega (arith, a, b, none, one_thread k q))
    | inr here ↦
        let a = from_here k op.thread from in
        let b = not_from (k + 1) op.thread (omega arith) in
        by_one (entries_one k op q) (λ is one. omega (arith, a, b, one, one_thread k q)) (λ differ. absurd (differ (omega arith)))
  ]
]
  where
    by_one : {P : Type 0} → ((op.thread ≡ k) × (length (entries k (op ∷ q)) ≡ length (entries k q) + 1)) ⊎ ((op.thread ≢ k) × (length (entries k (op ∷ q)) ≡ length (entries k q)))
        → ((op.thread ≡ k) → (length (entries k (op ∷ q)) ≡ length (entries k q) + 1) → P) → ((op.thread ≢ k) → (length (entries k (op ∷ q)) ≡ length (entries k q)) → P) → P
    by_one (inl (is, one)) f g = f is one
    by_one (inr (differ, none)) f g = g differ none

none_from : (k : ℕ) (q : List SerialOp) → ((t : ℕ) → k ≤ t → length (entries t q) ≡ 0) → count_from k q ≡ 0
none_from k [] none = refl
none_from k (op ∷ q) none = elim (cases_lt op.thread k) [
  | inl before ↦
      let later = none_from k q (λ t le. omega (arith, none t le, entries_grow t op q)) in
      omega (arith, not_from k op.thread before, later)
  | inr from ↦ absurd (omega (arith, none op.thread from, ap length (entries_own op q)))
]

few_from : (rows : List (List Call)) (k : ℕ) (q : List SerialOp) → ((t : ℕ) → length (entries (k + t) q) ≤ length (row_of rows t)) → count_from k q ≤ sum_by length rows
few_from [] k q fits =
    let none = none_from k q (λ t le. let same : k + (t - k) ≡ t = omega arith in subst (λ (u : ℕ). length (entries u q) ≡ 0) same (omega (arith, fits (t - k)))) in
    omega (arith, none)
few_from (calls ∷ rows) k q fits =
    let here : length (entries k q) ≤ length calls = subst (λ (u : ℕ). length (entries u q) ≤ length calls) (let e : k + 0 ≡ k = omega arith in e) (fits 0) in
    let later = few_from rows (k + 1) q (λ t. subst (λ (u : ℕ). length (entries u q) ≤ length (row_of rows t)) (let e : k + suc t ≡ (k + 1) + t = omega arith in e) (fits (suc t))) in
    omega (arith, one_thread k q, here, later, sum_by-cons length calls rows)

-- ---- the limits of a history that fits a matrix

few_entries : (matrix : Matrix) (q : List SerialOp) → IsMatrix matrix → FitsMatrix matrix q → length q ≤ 16
few_entries matrix q is fits =
    let few = few_from matrix.threads 0 q (λ t. subst (λ (u : ℕ). length (entries u q) ≤ length (calls_of matrix t)) (let e : t ≡ 0 + t = omega arith in e) (fits t)) in
    omega (arith, few, all_from q, is.limits.calls)

own_some : (q : List SerialOp) (k : ℕ) (d : SerialOp) → k < length q → 1 ≤ length (entries (get_or q k d).thread q)
own_some [] k d within = absurd (omega arith)
own_some (op ∷ q) zero d within = omega (arith, ap length (entries_own op q))
own_some (op ∷ q) (suc k) d within = omega (arith, own_some q k d (omega arith), entries_grow (get_or q k d).thread op q)

few_threads : (matrix : Matrix) (t : ℕ) → IsMatrix matrix → 1 ≤ length (calls_of matrix t) → t ≤ 7
few_threads matrix t is some = elim (cases_lt t (length matrix.threads)) [
  | inl within ↦ omega (arith, is.limits.few)
  | inr past ↦ absurd (omega (arith, calls_past matrix t past))
]

each_entry : (matrix : Matrix) (q : List SerialOp) → IsMatrix matrix → FitsMatrix matrix q → All HasOutcome q → All IsEntry q
each_entry matrix q is fits outcomes k d within =
    let t = (get_or q k d).thread in
    (few_threads matrix t is (omega (arith, own_some q k d within, fits t)), outcomes k d within)

-- ---- the members that begin no other

-- h goes on from q, or is q where it begins with it
goes_on_or_is : (q h : List SerialOp) → ((op : SerialOp) × (rest : List SerialOp) × (h ≡ q ++ op ∷ rest)) ⊎ (Begins q h → h ≡ q)
goes_on_or_is [] [] = inr (λ begins. refl)
goes_on_or_is [] (op ∷ h) = inl (op, h, refl)
goes_on_or_is (a ∷ q) [] = inr (λ begins. absurd (let e = begins.1 in cc))
goes_on_or_is (a ∷ q) (b ∷ h) = elim (cases_Bool (same_op a b)) [
  | inl same ↦
      let is = same_ops_are a b same in
      elim (goes_on_or_is q h) [
        | inl (op, rest, e) ↦ inl (op, rest, rw (is, e) refl)
        | inr only ↦ inr (λ begins. let tail : h ≡ q ++ begins.0 = (let e = begins.1 in cc) in rw (is, only (begins.0, tail)) refl)
      ]
  | inr differ ↦ inr (λ begins.
      let head : a ≡ b = (let e = begins.1 in cc) in
      let same = subst (λ (x : SerialOp). same_op a x ≡ true) head (ops_equiv.refl a) in
      absurd (let never = sym differ ∙ same in cc))
]

-- some history of the list goes on from q, or none does
abbrev Longer : List (List SerialOp) → List SerialOp → Type 0
Longer hs q = (h : List SerialOp) × (op : SerialOp) × (rest : List SerialOp) × Has hs h × (h ≡ q ++ op ∷ rest)

some_longer : (hs : List (List SerialOp)) (q : List SerialOp) → Longer hs q ⊎ ((h : List SerialOp) → Begins q h → Has hs h → h ≡ q)
some_longer [] q = inr (λ h begins has. absurd cc)
some_longer (g ∷ hs) q = elim (goes_on_or_is q g) [
  | inl (op, rest, e) ↦ inl (g, op, rest, has_first g hs, e)
  | inr only ↦ elim (some_longer hs q) [
    | inl (h, op, rest, has, e) ↦ inl (h, op, rest, has_next g hs h has, e)
    | inr none ↦ inr (λ h begins has. elim (has_cons g hs h has) [
      | inl is ↦ is ∙ only (subst (Begins q) is begins)
      | inr later ↦ none h begins later
    ])
  ]
]

-- ---- the listed histories

goes_on_long : (q h : List SerialOp) (op : SerialOp) (rest : List SerialOp) → h ≡ q ++ op ∷ rest → length q + 1 ≤ length h
goes_on_long q h op rest e = omega (arith, ap length e, length-append q (op ∷ rest))

rises_after : (xs : List (List SerialOp)) (p : List SerialOp) (ys : List (List SerialOp)) → Rises (xs ++ p ∷ ys) → Rises (p ∷ ys)
rises_after [] p ys rises = rises
rises_after (x ∷ xs) p ys rises = rises_after xs p ys rises.1

module _ (matrix : Matrix) (members listed : List (List SerialOp)) (is_matrix : IsMatrix matrix) (spec : IsSpec members) (of : AreOf matrix members) (is : IsListing members listed) where
  member : (q : List SerialOp) → Has listed q → Has members q
  member q has = ((is.are q).0 has).member

  listable : (q : List SerialOp) → Has members q → q ≢ [] → IsListable q
  listable q has some = record {
    some = not_empty q some;
    few = few_entries matrix q is_matrix (of q has);
    serial = spec.serial q has;
    entries = each_entry matrix q is_matrix (of q has) (spec.outcomes q has);
  }
    where
      not_empty : (h : List SerialOp) → h ≢ [] → 1 ≤ length h
      not_empty [] none = absurd (none refl)
      not_empty (op ∷ h) none = omega arith

  in_order : (before : List (List SerialOp)) (q : List SerialOp) (after : List (List SerialOp)) → listed ≡ before ++ q ∷ after → MayFollow before q
  in_order before q after parts front p last =
      let whole : listed ≡ front ++ p ∷ (q ∷ after) = parts ∙ (ap (λ (x : List (List SerialOp)). x ++ q ∷ after) last ∙ append_assoc front (p ∷ []) (q ∷ after)) in
      (rises_after front p (q ∷ after) (subst Rises whole is.rises)).0.0

  are_listed : AreListed matrix listed
  are_listed = record {
    each = λ q has. (listable q (member q has) ((is.are q).0 has).some, of q (member q has));
    order = in_order;
    deterministic = λ p q i o has also. spec.deterministic p q i o (member p has) (member q also);
  }

  -- a member is listed, or a longer one goes on from it
  here_or_longer : (q : List SerialOp) → Has members q → q ≢ [] → ((h : List SerialOp) (op : SerialOp) (rest : List SerialOp) → Has members h → h ≡ q ++ op ∷ rest → (g : List SerialOp) × Begins q g × Has listed g) → (g : List SerialOp) × Begins q g × Has listed g
  here_or_longer q has some goes_on = elim (some_longer members q) [
    | inl (h, op, rest, also, e) ↦ goes_on h op rest also e
    | inr only ↦ (q, begins_self q, (is.are q).1 (record { member = has; some = some; maximal = only }))
  ]

  -- a member that is not empty begins a listed history
  listed_from : (n : ℕ) (q : List SerialOp) → Has members q → q ≢ [] → 16 ≤ length q + n → (h : List SerialOp) × Begins q h × Has listed h
  listed_from zero q has some room = here_or_longer q has some (λ h op rest also e. absurd (omega (arith, room, goes_on_long q h op rest e, few_entries matrix h is_matrix (of h also))))
  listed_from (suc n) q has some room = here_or_longer q has some (λ h op rest also e.
      let longer = goes_on_long q h op rest e in
      let found = listed_from n h also (λ none. absurd (omega (arith, longer, ap length none))) (omega (arith, room, longer)) in
      (found.0, begins_trans q h found.0 (op ∷ rest, e) found.1, found.2))

  closure : IsClosureOf listed members
  closure q = (λ has. forth q has, λ h. back q h)
    where
      forth : (q : List SerialOp) → Has members q → (q ≡ []) ⊎ ((h : List SerialOp) × Begins q h × Has listed h)
      forth [] has = inl refl
      forth (op ∷ q) has = inr (listed_from 16 (op ∷ q) has (λ none. absurd cc) (omega arith))

      back : (q : List SerialOp) → (q ≡ []) ⊎ ((h : List SerialOp) × Begins q h × Has listed h) → Has members q
      back q (inl empty) = subst (Has members) (sym empty) spec.empty
      back q (inr (h, begins, has)) = spec.closed q h begins (member h has)

pub reads_again : (matrix : Matrix) (members listed : List (List SerialOp)) → IsMatrix matrix → IsSpec members → AreOf matrix members → IsListing members listed → IsReadAs matrix (spec_text listed) members
reads_again matrix members listed is_matrix spec of is =
    (listed, are_listed matrix members listed is_matrix spec of is, refl, closure matrix members listed is_matrix spec of is)
