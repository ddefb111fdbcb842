-- The operations of a serial history, and their places.
use Rattle.std.proofs.Common.{arith, ◌≡◌, ℕ, zero, suc, ◌+◌, ◌<◌, ◌≤◌, List, [], ◌∷◌, ◌++◌, length, take, Option, Some, slice_get, refl, sym, ◌∙◌, ap, subst, inl, inr}
use Rattle.std.specs.Prelude.{◌↔◌}
use Rattle.std.proofs.lemmas.Bool.{cases_lt}
use Rattle.std.proofs.lemmas.List.{length-append, take_all, take-append-le}
use Rattle.std.proofs.lemmas.Option.{same_Some, slice_get_within}
use Rattle.lu_machine.specs.declared.event.Event.{Event}
use Rattle.lu_machine.specs.declared.event.Event.TheVariants.{Call, Return}
use Rattle.lu_machine.specs.declared.event.Outcome.{Outcome}
use Rattle.lu_history.specs.declared.operation.OpId.{OpId}
use Rattle.lu_history.specs.declared.serial.SerialOp.{SerialOp}
use Rattle.lu_history.specs.declared.serial.SerialOutcome.{SerialOutcome}
use Rattle.lu_history.specs.Histories.{IsCallAt, IsReturnAt, Precedes, calls}
use Rattle.lu_history.specs.Parts.{as_serial}
use Rattle.lu_history.proofs.Events.{at_push, calls-append, calls_call, kept_at, last_at, take_next, take_within}
use Rattle.lu_witness.specs.Witnesses.{IsEntryAt, StandsBefore, entries}
use Rattle.lu_witness.proofs.Entries.{counted_entry, entries-append, entry_of}
use Rattle.lu_linearization.specs.Precedence.{PrecedenceGoesOn, HasOutcomes, KeepsPrecedence, IsCalledBefore}
use Rattle.lu_linearization.specs.Linearizations.{HasOnlyCalled, HasSequentialThreads, HasOutcome}
use Rattle.lu_linearization.proofs.Sequential.{call_of, called_at, calls_all, calls_grow}

-- ---- places

pub in_front : {A : Type 0} (p r : List A) (i : ℕ) → i < length p → slice_get (p ++ r) i ≡ slice_get p i
in_front [] r i lt = absurd (omega arith)
in_front (x ∷ p) r zero lt = refl
in_front (x ∷ p) r (suc i) lt = in_front p r i (omega arith)

-- an operation has one place
pub one_place : (q : List SerialOp) (a : OpId) (i j : ℕ) → IsEntryAt q i a → IsEntryAt q j a → i ≡ j
one_place q a i j x y =
    elim (cases_lt i j) as (λ _. i ≡ j) [
      | inl lt ↦ (let z = counted_entry q a i j lt x in let w = y.3 in absurd (omega arith))
      | inr ge ↦ elim (cases_lt j i) as (λ _. i ≡ j) [
        | inl lt ↦ (let z = counted_entry q a j i lt y in let w = x.3 in absurd (omega arith))
        | inr le ↦ omega arith
      ]
    ]

-- and a place has one operation
pub one_operation : (q : List SerialOp) (i : ℕ) (a b : OpId) → IsEntryAt q i a → IsEntryAt q i b → (a.t ≡ b.t) × (a.k ≡ b.k)
one_operation q i a b x y =
    let op_same : x.0 ≡ y.0 = same_Some x.0 y.0 (sym x.1 ∙ y.1) in
    let thread : a.t ≡ b.t = sym x.2 ∙ (ap (λ (o : SerialOp). o.thread) op_same ∙ y.2) in
    (thread, sym x.3 ∙ (ap (λ t. length (entries t (take i q))) thread ∙ y.3))

pub lift_entry : (p r : List SerialOp) (a : OpId) (i : ℕ) → IsEntryAt p i a → IsEntryAt (p ++ r) i a
lift_entry p r a i at = (at.0, kept_at p r at.0 i at.1, at.2, ap (λ x. length (entries a.t x)) (take_within p r at.0 i at.1) ∙ at.3)

pub front_entry : (p r : List SerialOp) (a : OpId) (i : ℕ) → i < length p → IsEntryAt (p ++ r) i a → IsEntryAt p i a
front_entry p r a i lt at = (
  at.0,
  sym (in_front p r i lt) ∙ at.1,
  at.2,
  ap (λ x. length (entries a.t x)) (sym (take-append-le i p r (omega arith))) ∙ at.3,
)

-- an entry counts
pub entry_counts : (q : List SerialOp) (a : OpId) (i : ℕ) → IsEntryAt q i a → a.k < length (entries a.t q)
entry_counts q a i at =
    let within = slice_get_within q i at.0 at.1 in
    subst (λ x. a.k < length (entries a.t x)) (take_all (length q) q (omega arith)) (counted_entry q a i (length q) within at)

pub standing_entry : (q : List SerialOp) (a : OpId) (o : SerialOutcome) → HasOutcome q a o → (i : ℕ) × IsEntryAt q i a
standing_entry q a o is = entry_of q a (slice_get_within (entries a.t q) a.k o is)

pub lift_standing : (p r : List SerialOp) (a : OpId) (o : SerialOutcome) → HasOutcome p a o → HasOutcome (p ++ r) a o
lift_standing p r a o is = ap (λ x. slice_get x a.k) (entries-append a.t p r) ∙ kept_at (entries a.t p) (entries a.t r) o a.k is

pub front_standing : (p r : List SerialOp) (a : OpId) (o : SerialOutcome) → a.k < length (entries a.t p) → HasOutcome (p ++ r) a o → HasOutcome p a o
front_standing p r a o lt is = sym (in_front (entries a.t p) (entries a.t r) a.k lt) ∙ (ap (λ x. slice_get x a.k) (sym (entries-append a.t p r)) ∙ is)

pub fewer_entries : (p r : List SerialOp) (t : ℕ) → length (entries t p) ≤ length (entries t (p ++ r))
fewer_entries p r t =
    let whole = ap length (entries-append t p r) ∙ length-append (entries t p) (entries t r) in
    omega (arith, whole)

-- ---- what is called

-- the operations of q are called
pub is_called : (q : List SerialOp) (h : List Event) → HasOnlyCalled q h → (b : OpId) (l : ℕ) → IsEntryAt q l b → b.k < calls b.t h
is_called q h called b l at =
    let counts = entry_counts q b l at in
    let few = called b.t in
    omega (arith, counts, few)

-- ---- outcomes

pub outcomes_push : (q : List SerialOp) (h : List Event) (e : Event) → HasOutcomes q h → ((a : OpId) (o : Outcome) → e ≡ Return a.t a.k o → HasOutcome q a (as_serial o)) → HasOutcomes q (h ++ e ∷ [])
outcomes_push q h e had new i a o at = elim (at_push h e (Return a.t a.k o) i at) as (λ _. slice_get (entries a.t q) a.k ≡ Some (as_serial o)) [
  | inl old ↦ had i a o old.1
  | inr now ↦ new a o (sym now.1)
]

pub outcomes_pop : (q : List SerialOp) (h g : List Event) → HasOutcomes q (h ++ g) → HasOutcomes q h
outcomes_pop q h g had i a o at = had i a o (kept_at h g (Return a.t a.k o) i at)

pub same_return : (q : List SerialOp) (a b : OpId) (o p : Outcome) → Return a.t a.k o ≡ Return b.t b.k p → HasOutcome q a (as_serial o) → HasOutcome q b (as_serial p)
same_return q a b o p same is =
    let thread : a.t ≡ b.t = cc in
    let number : a.k ≡ b.k = cc in
    let outcome : o ≡ p = cc in
    ap (λ t. slice_get (entries t q) b.k) (sym thread) ∙ (ap (λ k. slice_get (entries a.t q) k) (sym number) ∙ (is ∙ ap (λ x. Some (as_serial x)) outcome))

-- ---- precedence

take_front : (h g : List Event) → take (length h) (h ++ g) ≡ h
take_front [] g = refl
take_front (e ∷ h) g = ap (λ x. e ∷ x) (take_front h g)

pub precedence_goes_on : PrecedenceGoesOn
precedence_goes_on q h e = (
  (λ precedence. (
    (λ i a ret. subst (λ (g : List Event). IsCalledBefore q g a) (take_within h (e ∷ []) (Return a.t a.k ret.0) i ret.1) (precedence i a (ret.0, kept_at h (e ∷ []) (Return a.t a.k ret.0) i ret.1))),
    (λ a outcome is. subst (λ (g : List Event). IsCalledBefore q g a) (take_front h (e ∷ [])) (precedence (length h) a (outcome, last_at h [] e ∙ ap Some is))),
  )),
  (λ both i a ret. elim (at_push h e (Return a.t a.k ret.0) i ret.1) as (λ _. IsCalledBefore q (take i (h ++ e ∷ [])) a) [
    | inl old ↦ subst (λ (g : List Event). IsCalledBefore q g a) (sym (take_within h (e ∷ []) (Return a.t a.k ret.0) i old.1)) (both.0 i a (ret.0, old.1))
    | inr new ↦ subst (λ (g : List Event). IsCalledBefore q g a) (sym (ap (λ n. take n (h ++ e ∷ [])) new.0 ∙ take_front h (e ∷ []))) (both.1 a ret.0 (sym new.1))
  ]),
)

-- a prefix keeps the precedence where the whole does
pub precedence_shorter : (p r : List SerialOp) (h : List Event) → KeepsPrecedence (p ++ r) h → KeepsPrecedence p h
precedence_shorter p r h precedence i a ret j l b at lt bt = precedence i a ret j l b (lift_entry p r a j at) lt (lift_entry p r b l bt)

-- and the whole does where a prefix with all returned operations does
pub precedence_longer : (p r : List SerialOp) (h : List Event) → HasOutcomes p h → KeepsPrecedence p h → KeepsPrecedence (p ++ r) h
precedence_longer p r h had precedence i a ret j l b at lt bt =
    let stands = standing_entry p a (as_serial ret.0) (had i a ret.0 ret.1) in
    let same = one_place (p ++ r) a j stands.0 at (lift_entry p r a stands.0 stands.1) in
    let within = slice_get_within p stands.0 stands.1.0 stands.1.1 in
    precedence i a ret stands.0 l b stands.1 (omega (arith, same, lt)) (front_entry p r b l (omega (arith, same, lt, within)) bt)

-- ---- precedence, and the order of the operations

module _ (q : List SerialOp) (h : List Event) (is : HasSequentialThreads h) (many : (t : ℕ) → length (entries t q) ≡ calls t h) where
  in_q : (a : OpId) → a.k < calls a.t h → (i : ℕ) × IsEntryAt q i a
  in_q a lt = let same = many a.t in entry_of q a (omega (arith, same, lt))

  called : HasOnlyCalled q h
  called t = let same = many t in omega (arith, same)

  -- at its return an operation is called, and at its call no later one is
  at_return : (i : ℕ) (a : OpId) → IsReturnAt h i a → calls a.t (take i h) ≡ a.k + 1
  at_return i a at = (is i (Return a.t a.k at.0) at.1).0

  at_call : (j : ℕ) (b : OpId) → IsCallAt h j b → calls b.t (take j h) ≡ b.k
  at_call j b at = (is j (Call b.t b.k) at).0

  orders : KeepsPrecedence q h → (a b : OpId) → Precedes h a b → StandsBefore q a b
  orders precedence a b (i, j, lt, ret, call) =
      let all = calls_all a.t h i in
      let one = at_return i a ret in
      let x = in_q a (omega (arith, all, one)) in
      let y = in_q b (called_at h j b is call) in
      let none = at_call j b call in
      elim (cases_lt x.0 y.0) as (λ _. StandsBefore q a b) [
        | inl before ↦ (x.0, y.0, before, x.1, y.1)
        | inr other ↦ elim (cases_lt y.0 x.0) as (λ _. StandsBefore q a b) [
          | inl behind ↦
              (let early = precedence i a ret x.0 y.0 b x.1 behind y.1 in
              let grows = calls_grow b.t h i j (omega (arith, lt)) in
              absurd (omega (arith, early, grows, none)))
          | inr least ↦
              (let same : x.0 ≡ y.0 = omega (arith, other, least) in
              let both = one_operation q y.0 a b (subst (λ n. IsEntryAt q n a) same x.1) y.1 in
              let grows = calls_grow b.t h i j (omega (arith, lt)) in
              let here : calls b.t (take i h) ≡ a.k + 1 = ap (λ t. calls t (take i h)) (sym both.0) ∙ one in
              absurd (omega (arith, both.1, grows, here, none)))
        ]
      ]

  lives : ((a b : OpId) → Precedes h a b → StandsBefore q a b) → KeepsPrecedence q h
  lives order i a ret j l b at lt bt =
      elim (cases_lt b.k (calls b.t (take i h))) as (λ _. b.k < calls b.t (take i h)) [
        | inl early ↦ early
        | inr none ↦
            (let there = call_of h is b (is_called q h called b l bt) in
            elim (cases_lt i there.0) as (λ _. b.k < calls b.t (take i h)) [
              | inl later ↦
                  (let stands = order a b (i, there.0, later, ret, there.1) in
                  let first = one_place q a stands.0 j stands.3 at in
                  let second = one_place q b stands.1 l stands.4 bt in
                  let before = stands.2 in
                  absurd (omega (arith, first, second, before, lt)))
              | inr sooner ↦
                  (let in_time = at_call there.0 b there.1 in
                  elim (cases_lt there.0 i) as (λ _. b.k < calls b.t (take i h)) [
                    | inl before ↦ (let one = called_by there.0 before there.1 in absurd (omega (arith, one, none)))
                    | inr least ↦
                        (let here : there.0 ≡ i = omega (arith, sooner, least) in
                        absurd (never_both (slice_get h i) ret.0 ret.1 (subst (λ n. slice_get h n ≡ Some (Call b.t b.k)) here there.1)))
                  ])
            ])
      ]
    where
      called_by : (c : ℕ) → c < i → IsCallAt h c b → b.k < calls b.t (take i h)
      called_by c less call =
          let next : calls b.t (take (suc c) h) ≡ calls b.t (take c h) + calls b.t (Call b.t b.k ∷ []) = ap (calls b.t) (take_next h (Call b.t b.k) c call) ∙ calls-append b.t (take c h) (Call b.t b.k ∷ []) in
          let one : calls b.t (Call b.t b.k ∷ []) ≡ calls b.t [] + 1 = calls_call b.t b.k [] in
          let at_it = at_call c b call in
          let grow = calls_grow b.t h (suc c) i (omega arith) in
          omega (arith, next, one, at_it, grow)

      never_both : (o : Option Event) (outcome : Outcome) → o ≡ Some (Return a.t a.k outcome) → o ≡ Some (Call b.t b.k) → ⊥
      never_both o outcome x y = cc

  -- the precedence is kept exactly where what precedes comes before
  pub precedence_orders : KeepsPrecedence q h ↔ ((a b : OpId) → Precedes h a b → StandsBefore q a b)
  precedence_orders = (orders, lives)
