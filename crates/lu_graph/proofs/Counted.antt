-- Entries of serial histories, as they are counted.
use Rattle.std.proofs.Common.{arith, ◌≡◌, ◌≢◌, ℕ, suc, ◌+◌, ◌<◌, ◌≤◌, Bool, true, false, List, [], ◌∷◌, ◌++◌, length, take, drop, get_or, set, ◌-◌, if◌then◌else◌, Option, Some, slice_get, refl, sym, ◌∙◌, ap, subst, inl, inr, add-one}
use Rattle.std.specs.Prelude.{◌↔◌, ◌==◌, IsTrue}
use Rattle.std.proofs.lemmas.Bool.{cases_lt}
use Rattle.std.proofs.lemmas.Bool.Decides.{eqb_tells}
use Rattle.std.specs.List.{slice_index}
use Rattle.std.proofs.lemmas.List.{get_or_past, get_or-set_other, get_or-set_same, length-set, take_all}
use Rattle.std.proofs.lemmas.Option.{get_or_from_slice_get, slice_get-get_or, slice_get_within}
use Rattle.lu_machine.specs.declared.event.Event.{Event}
use Rattle.lu_history.specs.declared.operation.OpId.{OpId}
use Rattle.lu_history.specs.declared.serial.SerialOp.{SerialOp}
use Rattle.lu_history.specs.Histories.{calls}
use Rattle.lu_history.specs.Parts.{as_serial}
use Rattle.lu_history.proofs.Events.{last_at, split_at, take_next, same_number}
use Rattle.lu_witness.specs.Witnesses.{IsEntryAt, entries}
use Rattle.lu_witness.proofs.Entries.{counted_entry, entries-append, entries_more, entries_own, entry_before, entry_of}
use Rattle.lu_graph.specs.declared.possibilities.ReturnAt.{ReturnAt}
use Rattle.lu_linearization.specs.Precedence.{IsCalledBefore}
use Rattle.lu_linearization.proofs.Standing.{one_place}
use Rattle.lu_graph.specs.Judging.{AreCalled, FindsEntry, TellsAdmits}

module _ (q : List SerialOp) (t i : ℕ) (d : SerialOp) (within : i < length q) where
  next_front : take (i + 1) q ≡ take i q ++ get_or q i d ∷ []
  next_front = rw (add-one i) (take_next q (get_or q i d) i (slice_get-get_or q i d within))

  -- one entry more
  pub counted_own : (get_or q i d).thread ≡ t → length (entries t (take (i + 1) q)) ≡ length (entries t (take i q)) + 1
  counted_own is =
      ap (λ g. length (entries t g)) next_front ∙ (entries_more t (take i q) (get_or q i d)
      ∙ ap (λ b. length (entries t (take i q)) + (if b then 1 else 0)) (ap (λ x. x == t) is ∙ same_number t))

  -- or none
  pub counted_other : (get_or q i d).thread ≢ t → length (entries t (take (i + 1) q)) ≡ length (entries t (take i q))
  counted_other other =
      let apart : ((get_or q i d).thread == t) ≡ false = elim (eqb_tells (get_or q i d).thread t) as (λ _. ((get_or q i d).thread == t) ≡ false) [ inl is ↦ absurd (other is.1) | inr is ↦ is.0 ] in
      let e = ap (λ g. length (entries t g)) next_front ∙ (entries_more t (take i q) (get_or q i d) ∙ ap (λ b. length (entries t (take i q)) + (if b then 1 else 0)) apart) in
      omega (arith, e)

  pub entry_here : (number : ℕ) → (get_or q i d).thread ≡ t → number ≡ length (entries t (take i q)) → IsEntryAt q i (record { t = t; k = number })
  entry_here number is many = (get_or q i d, slice_get-get_or q i d within, is, sym many)

-- all were counted
pub counted_all : (q : List SerialOp) (t i : ℕ) → length q ≤ i → length (entries t (take i q)) ≡ length (entries t q)
counted_all q t i past = ap (λ g. length (entries t g)) (take_all i q past)

-- the outcome of an entry
pub entry_outcome : (q : List SerialOp) (a : OpId) (i : ℕ) (at : IsEntryAt q i a) → slice_get (entries a.t q) a.k ≡ Some at.0.outcome
entry_outcome q a i at =
    let op = at.0 in
    let behind = drop (suc i) q in
    let front = entries a.t (take i q) in
    let own : entries a.t (op ∷ behind) ≡ op.outcome ∷ entries a.t behind = subst (λ t. entries t (op ∷ behind) ≡ op.outcome ∷ entries t behind) at.2 (entries_own op behind) in
    let whole : entries a.t q ≡ front ++ op.outcome ∷ entries a.t behind =
    ap (entries a.t) (split_at q op i at.1) ∙ (entries-append a.t (take i q) (op ∷ behind) ∙ ap (λ x. front ++ x) own) in
    ap (λ x. slice_get x a.k) whole ∙ (ap (slice_get (front ++ op.outcome ∷ entries a.t behind)) (sym at.3) ∙ last_at front (entries a.t behind) op.outcome)

-- all before an entry is called where of each thread no more stand before it than are called
pub called_before : (q : List SerialOp) (h : List Event) (a : OpId) (i : ℕ) → IsEntryAt q i a → IsCalledBefore q h a ↔ ((u : ℕ) → length (entries u (take i q)) ≤ calls u h)
called_before q h a i at = (
  (λ all u. elim (cases_lt (calls u h) (length (entries u (take i q)))) as (λ _. length (entries u (take i q)) ≤ calls u h) [
    | inl more ↦
        (let b : OpId = record { t = u; k = calls u h } in
        let there = entry_before q b i more in
        let made = all i there.0 b at there.1 there.2 in
        absurd (omega (arith, made)))
    | inr le ↦ le
  ]),
  (λ few j l b there lt bt.
      let same = one_place q a j i there at in
      let many = counted_entry q b l i (omega (arith, lt, same)) bt in
      let le = few b.t in
      omega (arith, many, le)),
)

pub entry_found : (q : List SerialOp) (t k number place : ℕ) (found : Option ℕ) → FindsEntry q t number found → found ≡ Some place → number ≡ k → IsEntryAt q place (record { t = t; k = k })
entry_found q t k number place found finds is same =
    subst (λ n. IsEntryAt q place (record { t = t; k = n })) same (subst (FindsEntry q t number) is finds)

pub admits_none : (q : List SerialOp) (at : ReturnAt) → length (entries at.operation.t q) ≤ at.operation.k → TellsAdmits q at false
admits_none q at few h made = ((λ x. absurd (cc)), (λ is. let lt = slice_get_within (entries at.operation.t q) at.operation.k (as_serial at.outcome) is.ended in absurd (omega (arith, lt, few))))

module _ (q : List SerialOp) (at : ReturnAt) (i : ℕ) (there : IsEntryAt q i at.operation) (d : SerialOp) (so : Bool) (says : IsTrue so ↔ ((get_or q i d).outcome ≡ as_serial at.outcome)) where
  read : (get_or q i d).outcome ≡ there.0.outcome
  read = ap (λ (o : SerialOp). o.outcome) (get_or_from_slice_get q i there.0 d there.1)

  pub admits_other : so ≡ false → TellsAdmits q at false
  admits_other other h made = (
    (λ x. absurd (cc)),
    (λ is.
        let same : there.0.outcome ≡ as_serial at.outcome = one_some there.0.outcome (as_serial at.outcome) (sym (entry_outcome q at.operation i there) ∙ is.ended) in
        absurd (apart so other (says.1 (read ∙ same)))),
  )
    where
      one_some : {A : Type 0} (x y : A) → ◌≡◌ {A = Option A} (Some x) (Some y) → x ≡ y
      one_some x y e = cc

      apart : (b : Bool) → b ≡ false → b ≡ true → ⊥
      apart b p q = cc

  pub admits_so : so ≡ true → (b : Bool) → IsTrue b ↔ AreCalled at.calls (take i q) → TellsAdmits q at b
  admits_so is b tells h made = (
    (λ x. record {
      ended = entry_outcome q at.operation i there ∙ ap Some (sym read ∙ says.0 is);
      before = (called_before q h at.operation i there).1 (λ u. let few = (tells.0 x) u in let same = made u in omega (arith, few, same));
    }),
    (λ x. tells.1 (λ u. let few = ((called_before q h at.operation i there).0 x.before) u in let same = made u in omega (arith, few, same))),
  )

-- a thread of which there is an entry is one of an operation
pub thread_there : (q : List SerialOp) (u k : ℕ) → k < length (entries u q) → (i : ℕ) × (op : SerialOp) × (slice_get q i ≡ Some op) × (op.thread ≡ u)
thread_there q u k lt = let there = entry_of q (record { t = u; k = k }) lt in (there.0, there.1.0, there.1.1, there.1.2)

-- where of each operation's thread no more are counted than there is room for, so it is of each thread
pub few_of_each : (q : List SerialOp) (room : ℕ → ℕ) → ((i : ℕ) (op : SerialOp) → slice_get q i ≡ Some op → length (entries op.thread q) ≤ room op.thread) → (u : ℕ) → length (entries u q) ≤ room u
few_of_each q room all u =
    elim (cases_lt (room u) (length (entries u q))) as (λ _. length (entries u q) ≤ room u) [
      | inl more ↦
          (let there = thread_there q u (room u) more in
          subst (λ t. length (entries t q) ≤ room t) there.3 (all there.0 there.1 there.2))
      | inr le ↦ le
    ]

-- ---- how many more may come

-- of each thread so many may come still, after the first of these
pub record IsLeftOf (called : List ℕ) (front : List SerialOp) (done : ℕ) (left : List ℕ) : Type 0 where
  pub many : length left ≡ length called
  pub rest : (u : ℕ) → slice_index left u + length (entries u (take done front)) ≡ slice_index called u

pub left_first : (called : List ℕ) (front : List SerialOp) → IsLeftOf called front 0 called
left_first called front = record { many = refl; rest = λ u. omega arith }

module _ (called : List ℕ) (front : List SerialOp) (i : ℕ) (left : List ℕ) (before : IsLeftOf called front i left) (d : SerialOp) (within : i < length front) (u : ℕ) (here : u ≡ (get_or front i d).thread) where
  -- it is one too many
  pub left_none : slice_index left u ≡ 0 → AreCalled called front → ⊥
  left_none none few =
      let b : OpId = record { t = u; k = length (entries u (take i front)) } in
      let there : IsEntryAt front i b = entry_here front u i d within b.k (sym here) refl in
      let counted = counted_entry front b i (length front) within there in
      let all = counted_all front u (length front) (omega arith) in
      let rest = before.rest u in
      let most = few u in
      absurd (omega (arith, none, counted, all, rest, most))

  pub left_past : length left ≤ u → AreCalled called front → ⊥
  left_past past = left_none (get_or_past left u 0 past)

  pub left_next : slice_index left u ≢ 0 → u < length left → IsLeftOf called front (i + 1) (set left u (slice_index left u - 1))
  left_next some there = record {
    many = length-set left u (slice_index left u - 1) ∙ before.many;
    rest = λ v.
        (let rest = before.rest v in
        elim (eqb_tells u v) as (λ _. slice_index (set left u (slice_index left u - 1)) v + length (entries v (take (i + 1) front)) ≡ slice_index called v) [
          | inl same ↦
              (let one = counted_own front v i d within (sym here ∙ same.1) in
              let mine : slice_index (set left u (slice_index left u - 1)) v ≡ slice_index left u - 1 = subst (λ k. slice_index (set left u (slice_index left u - 1)) k ≡ slice_index left u - 1) same.1 (get_or-set_same left u (slice_index left u - 1) 0 there) in
              let old : slice_index left v ≡ slice_index left u = ap (slice_index left) (sym same.1) in
              omega (arith, one, mine, old, rest, some))
          | inr other ↦
              (let none = counted_other front v i d within (λ e. other.1 (here ∙ e)) in
              let mine : slice_index (set left u (slice_index left u - 1)) v ≡ slice_index left v = get_or-set_other left u v (slice_index left u - 1) 0 (λ e. other.1 (sym e)) in
              omega (arith, none, mine, rest))
        ]);
  }

pub left_all : (called : List ℕ) (front : List SerialOp) (i : ℕ) (left : List ℕ) → length front ≤ i → IsLeftOf called front i left → AreCalled called front
left_all called front i left past before u =
    let all = counted_all front u i past in
    let rest = before.rest u in
    omega (arith, all, rest)
