-- Operations in every order: the first of each thread may come first.
use Rattle.std.proofs.Common.{◌≡◌, ◌≢◌, ℕ, zero, suc, ◌+◌, ◌<◌, ◌==◌, if◌then◌else◌, Bool, true, false, List, [], ◌∷◌, ◌++◌, length, take, drop, Some, slice_get, get_or, refl, sym, ap, ◌∙◌, subst, inl, inr, arith, append_assoc}
use Rattle.std.proofs.lemmas.Bool.{cases_lt}
use Rattle.std.proofs.lemmas.Bool.Decides.{eqb_tells}
use Rattle.std.proofs.lemmas.Option.{get_or_from_slice_get, slice_get-get_or}
use Rattle.lu_history.specs.declared.serial.SerialOp.{SerialOp}
use Rattle.lu_history.specs.declared.serial.SerialOutcome.{SerialOutcome}
use Rattle.lu_trie.specs.Members.{contains}
use Rattle.lu_trie.specs.Branches.{Branch, IsBranchAt, IsBranching, branches_of}
use Rattle.lu_trie.proofs.Trees.{branching-cons}
use Rattle.lu_trie.proofs.Membership.{kids-at}
use Rattle.lu_witness.specs.Witnesses.{IsMember, entries}
use Rattle.lu_witness.proofs.Entries.{entries-append, entries_own}
use Rattle.lu_history.proofs.Events.{split_at, take_next}
use Rattle.lu_tree.specs.Tails.{AreMembersAfter, HasEveryOrder}

pub some_entry : (t : ℕ) (ops : List SerialOp) (i : ℕ) (d : SerialOp) → i < length ops → (get_or ops i d).thread ≡ t → entries t ops ≢ []
some_entry t [] i d lt is = absurd (omega arith)
some_entry t (op ∷ ops) zero d lt is = λ e. (let own : entries t (op ∷ ops) ≡ op.outcome ∷ entries t ops = ap (λ u. entries u (op ∷ ops)) (sym is) ∙ (entries_own op ops ∙ ap (λ u. op.outcome ∷ entries u ops) is) in cc)
some_entry t (op ∷ ops) (suc i) d lt is = λ e. some_entry t ops i d (omega arith) is (fewer (op.thread == t) (entries t ops) e)
  where
    fewer : (b : Bool) (rest : List SerialOutcome) → (if b then op.outcome ∷ rest else rest) ≡ [] → rest ≡ []
    fewer true rest e = cc
    fewer false rest e = e

-- the operations but number i
abbrev but : ℕ → List SerialOp → List SerialOp
but i ops = take i ops ++ drop (i + 1) ops

-- an operation that is the first of its thread, and what its thread has besides
record IsFirst (t : ℕ) (o : SerialOutcome) (rest : List SerialOutcome) (ops : List SerialOp) : Type 0 where
  place : ℕ
  within : place < length ops
  at : slice_get ops place ≡ Some (record { thread = t; outcome = o })
  before : entries t (take place ops) ≡ []
  after : entries t (drop (suc place) ops) ≡ rest

first_of : (t : ℕ) (o : SerialOutcome) (rest : List SerialOutcome) (ops : List SerialOp) → entries t ops ≡ o ∷ rest → IsFirst t o rest ops
first_of t o rest [] e = cc
first_of t o rest (op ∷ ops) e =
    elim (eqb_tells op.thread t) [
      | inl own ↦
          (let is : op.outcome ∷ entries t ops ≡ o ∷ rest = sym (ap (λ b. if b then op.outcome ∷ entries t ops else entries t ops) own.0) ∙ e in
          let outcome : op.outcome ≡ o = cc in
          let behind : entries t ops ≡ rest = cc in
          record {
            place = 0;
            within = omega arith;
            at = ap (λ u. let x : SerialOp = record { thread = u; outcome = op.outcome } in Some x) own.1 ∙ ap (λ y. let x : SerialOp = record { thread = t; outcome = y } in Some x) outcome;
            before = refl;
            after = behind;
          })
      | inr other ↦
          (let is : entries t ops ≡ o ∷ rest = sym (ap (λ b. if b then op.outcome ∷ entries t ops else entries t ops) other.0) ∙ e in
          let f = first_of t o rest ops is in
          record {
            place = suc f.place;
            within = omega (arith, f.within);
            at = f.at;
            before = ap (λ b. if b then op.outcome ∷ entries t (take f.place ops) else entries t (take f.place ops)) other.0 ∙ f.before;
            after = f.after;
          })
    ]

-- what each thread has where one is left out
entries_but : (u : ℕ) (ops : List SerialOp) (i : ℕ) → entries u (but i ops) ≡ entries u (take i ops) ++ entries u (drop (suc i) ops)
entries_but u ops i =
    let next : ◌≡◌ {A = ℕ} (i + 1) (suc i) = omega arith in
    entries-append u (take i ops) (drop (i + 1) ops) ∙ ap (λ n. entries u (take i ops) ++ entries u (drop n ops)) next

-- An order begins with the first operation of some thread, and goes on with the others.
pub record Begins (ops : List SerialOp) (op : SerialOp) (q : List SerialOp) : Type 0 where
  pub place : ℕ
  pub within : place < length ops
  pub at : slice_get ops place ≡ Some op
  pub first : entries op.thread (take place ops) ≡ []
  pub rest : (u : ℕ) → entries u q ≡ entries u (take place ops ++ drop (place + 1) ops)

pub begins : (ops : List SerialOp) (op : SerialOp) (q : List SerialOp) → ((t : ℕ) → entries t (op ∷ q) ≡ entries t ops) → Begins ops op q
begins ops op q same =
    let t = op.thread in
    let f = first_of t op.outcome (entries t q) ops (sym (same t) ∙ entries_own op q) in
    let at : slice_get ops f.place ≡ Some op = f.at in
    record {
      place = f.place;
      within = f.within;
      at = at;
      first = f.before;
      rest = λ u. elim (eqb_tells t u) [
        | inl own ↦
            (let left : entries t (but f.place ops) ≡ entries t q = entries_but t ops f.place ∙ (ap (λ x. x ++ entries t (drop (suc f.place) ops)) f.before ∙ f.after) in
            subst (λ x. entries x q ≡ entries x (but f.place ops)) own.1 (sym left))
        | inr other ↦
            (let mine : entries u (op ∷ q) ≡ entries u q = ap (λ b. if b then op.outcome ∷ entries u q else entries u q) other.0 in
            let whole : entries u ops ≡ entries u (take f.place ops) ++ entries u (op ∷ drop (suc f.place) ops) = ap (entries u) (split_at ops op f.place at) ∙ entries-append u (take f.place ops) (op ∷ drop (suc f.place) ops) in
            let less : entries u (op ∷ drop (suc f.place) ops) ≡ entries u (drop (suc f.place) ops) = ap (λ b. if b then op.outcome ∷ entries u (drop (suc f.place) ops) else entries u (drop (suc f.place) ops)) other.0 in
            sym mine ∙ (same u ∙ (whole ∙ (ap (λ x. entries u (take f.place ops) ++ x) less ∙ sym (entries_but u ops f.place)))))
      ];
    }

-- for each of the first i operations that is the first of its thread: after it the others stand in every order
abbrev pub ServeBelow : List (List SerialOp) → List SerialOp → ℕ → Type 0
ServeBelow hs ops i =
    (j : ℕ) (op : SerialOp) → j < i → slice_get ops j ≡ Some op → entries op.thread (take j ops) ≡ [] → HasEveryOrder (λ q. IsMember hs (op ∷ q)) [] (take j ops ++ drop (j + 1) ops)

-- so where it holds of all, the set has every order
pub orders_of_all : (hs : List (List SerialOp)) (ops : List SerialOp) → 0 < length ops → ServeBelow hs ops (length ops) → HasEveryOrder (IsMember hs) [] ops
orders_of_all hs [] some serve q same = absurd (omega arith)
orders_of_all hs (o ∷ ops) some serve [] same = (let e = same o.thread in let own = entries_own o ops in cc)
orders_of_all hs (o ∷ ops) some serve (op ∷ q) same =
    let b = begins (o ∷ ops) op q same in
    serve b.place op b.within b.at b.first q b.rest

-- where there is none, the only order is the empty one
pub orders_of_none : (hs : List (List SerialOp)) (ops : List SerialOp) → length ops ≡ 0 → IsMember hs [] → HasEveryOrder (IsMember hs) [] ops
orders_of_none hs (o ∷ ops) none ends q same = absurd (omega arith)
orders_of_none hs [] none ends [] same = ends
orders_of_none hs [] none ends (op ∷ q) same = (let own : op.outcome ∷ entries op.thread q ≡ [] = sym (entries_own op q) ∙ same op.thread in cc)

-- with the operation at i, if it is the first of its thread
pub serve_more : (hs : List (List SerialOp)) (ops : List SerialOp) (i : ℕ) (d : SerialOp) → i < length ops → ServeBelow hs ops i → (entries (get_or ops i d).thread (take i ops) ≡ [] → HasEveryOrder (λ q. IsMember hs (get_or ops i d ∷ q)) [] (take i ops ++ drop (i + 1) ops)) → ServeBelow hs ops (i + 1)
serve_more hs ops i d within before here j op lt at first = elim (cases_lt j i) [
  | inl below ↦ before j op below at first
  | inr past ↦
      (let is : j ≡ i = omega arith in
      let same : get_or ops i d ≡ op = get_or_from_slice_get ops i op d (subst (λ x. slice_get ops x ≡ Some op) is at) in
      let first' : entries (get_or ops i d).thread (take i ops) ≡ [] = ap (λ (x : SerialOp). entries x.thread (take i ops)) same ∙ subst (λ x. entries op.thread (take x ops) ≡ []) is first in
      let all : HasEveryOrder (λ q. IsMember hs (op ∷ q)) [] (take i ops ++ drop (i + 1) ops) = subst (λ x. HasEveryOrder (λ q. IsMember hs (x ∷ q)) [] (take i ops ++ drop (i + 1) ops)) same (here first') in
      subst (λ x. HasEveryOrder (λ q. IsMember hs (op ∷ q)) [] (take x ops ++ drop (x + 1) ops)) (sym is) all)
]

-- a kid's members stand after its label
pub kid_after : (hs : List (List SerialOp)) → IsBranching hs → (i : ℕ) (label : SerialOp) (below : List (List SerialOp)) → i < length (branches_of hs) → slice_get (branches_of hs) i ≡ Some (label, below) → AreMembersAfter (label ∷ []) below hs
kid_after hs is i label below lt at q member =
    let b : Branch = (label, below) in
    let read = λ (e : Branch). get_or_from_slice_get (branches_of hs) i b e at in
    let is_at : IsBranchAt (branches_of hs) label i = record { in_range = lt; has_label = λ e. ap (λ (x : Branch). x.0) (read e) } in
    branching-cons hs is label q ∙ (kids-at (branches_of hs) label i b is.branches.rise is_at q ∙ (ap (λ (x : Branch). contains x.1 q) (read b) ∙ member))

-- one operation further
pub next_after : (ops : List SerialOp) (i : ℕ) (d : SerialOp) (below outer members : List (List SerialOp)) → i < length ops → AreMembersAfter (take i ops) outer members → AreMembersAfter (get_or ops i d ∷ []) below outer → AreMembersAfter (take (i + 1) ops) below members
next_after ops i d below outer members lt before here q member =
    let op = get_or ops i d in
    let next : ◌≡◌ {A = ℕ} (i + 1) (suc i) = omega arith in
    let taken : take (i + 1) ops ≡ take i ops ++ op ∷ [] = ap (λ n. take n ops) next ∙ take_next ops op i (slice_get-get_or ops i d lt) in
    let joined : take (i + 1) ops ++ q ≡ take i ops ++ (op ∷ q) = ap (λ x. x ++ q) taken ∙ append_assoc (take i ops) (op ∷ []) q in
    subst (IsMember members) (sym joined) (before (op ∷ q) (here q member))
