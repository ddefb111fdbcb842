-- Two serial histories with the same entries of each thread, of which one keeps the order of the other, are one.
use Rattle.std.proofs.Common.{arith, ◌≡◌, ◌<◌, ◌+◌, ℕ, zero, suc, List, [], ◌∷◌, length, take, if◌then◌else◌, refl, sym, ◌∙◌, ap, subst, inl, inr}
use Rattle.std.specs.Prelude.{◌==◌}
use Rattle.std.proofs.lemmas.Bool.{eq-eqb, ne_eqb}
use Rattle.lu_history.specs.declared.operation.OpId.{OpId}
use Rattle.lu_history.specs.declared.serial.SerialOp.{SerialOp}
use Rattle.lu_serial.proofs.Opening.{same_or_not}
use Rattle.lu_witness.specs.Witnesses.{entries, IsEntryAt, StandsBefore}
use Rattle.lu_witness.proofs.Entries.{entries_own}
use Rattle.lu_refute.proofs.Core.{entries_other, same_entry}

-- as many more as x has entries of thread t
abbrev pub more_of : SerialOp → ℕ → ℕ
more_of x t = if x.thread == t then 1 else 0

pub more_here : (x : SerialOp) (t : ℕ) → t ≡ x.thread → more_of x t ≡ 1
more_here x t e = ap (λ b. if b then 1 else 0) (eq-eqb x.thread t (sym e))

pub more_other : (x : SerialOp) (t : ℕ) → (t ≡ x.thread → ⊥) → more_of x t ≡ 0
more_other x t e = ap (λ b. if b then 1 else 0) (ne_eqb x.thread t (λ f. e (sym f)))

pub entries_more : (x : SerialOp) (q : List SerialOp) (t : ℕ) → length (entries t (x ∷ q)) ≡ more_of x t + length (entries t q)
entries_more x q t =
    elim (same_or_not t x.thread) [
      | inl same ↦
          (let P : ℕ → Type 0 = λ y. length (entries y (x ∷ q)) ≡ more_of x y + length (entries y q) in
          let one = more_here x x.thread refl in
          let long : length (entries x.thread (x ∷ q)) ≡ suc (length (entries x.thread q)) = rw (entries_own x q) refl in
          subst P (sym same) (omega (arith, one, long)))
      | inr apart ↦
          (let none = more_other x t apart in
          let long : length (entries t (x ∷ q)) ≡ length (entries t q) = rw (entries_other t x q apart) refl in
          omega (arith, none, long))
    ]

-- the operation, counted from before x
abbrev pub after_op : SerialOp → OpId → OpId
after_op x a = record { t = a.t; k = more_of x a.t + a.k }

pub entry_after : (x : SerialOp) (q : List SerialOp) (i : ℕ) (a : OpId) → IsEntryAt q i a → IsEntryAt (x ∷ q) (suc i) (after_op x a)
entry_after x q i a h =
    let more = entries_more x (take i q) a.t in
    let count = h.3 in
    (h.0, h.1, h.2, omega (arith, more, count))

pub entry_ahead : (x : SerialOp) (q : List SerialOp) (i : ℕ) (a : OpId) → IsEntryAt (x ∷ q) (suc i) (after_op x a) → IsEntryAt q i a
entry_ahead x q i a h =
    let more = entries_more x (take i q) a.t in
    let count = h.3 in
    (h.0, h.1, h.2, omega (arith, more, count))

-- the first entry is no operation counted from before it
pub not_first : (x : SerialOp) (q : List SerialOp) (a : OpId) → IsEntryAt (x ∷ q) 0 (after_op x a) → ⊥
not_first x q a h =
    let same : x ≡ h.0 = (let e = h.1 in cc) in
    let thread : a.t ≡ x.thread = sym h.2 ∙ ap (λ y. y.thread) (sym same) in
    let one = more_here x a.t thread in
    let count : 0 ≡ more_of x a.t + a.k = h.3 in
    omega (arith, one, count)

before_after : (x : SerialOp) (q : List SerialOp) (a b : OpId) → StandsBefore (x ∷ q) (after_op x a) (after_op x b) → StandsBefore q a b
before_after x q a b (zero, j, less, p, r) = absurd (not_first x q a p)
before_after x q a b (suc i, zero, less, p, r) = absurd (omega arith)
before_after x q a b (suc i, suc j, less, p, r) = (i, j, omega arith, entry_ahead x q i a p, entry_ahead x q j b r)

-- where t has entries, one of them is its first
first_entry : (t : ℕ) (q : List SerialOp) → 0 < length (entries t q) → (j : ℕ) × IsEntryAt q j (record { t = t; k = 0 })
first_entry t [] h = absurd (omega arith)
first_entry t (x ∷ q) h =
    elim (same_or_not t x.thread) [
      | inl same ↦ (0, (x, refl, sym same, refl))
      | inr apart ↦
          (let more = entries_more x q t in
          let none = more_other x t apart in
          let rest = first_entry t q (omega (arith, h, more, none)) in
          let at = entry_after x q rest.0 (record { t = t; k = 0 }) rest.1 in
          (suc rest.0, (at.0, at.1, at.2, omega (arith, none, at.3))))
    ]

abbrev pub KeepsOrder : List SerialOp → List SerialOp → Type 0
KeepsOrder q other = (i j : ℕ) (a b : OpId) → i < j → IsEntryAt other i a → IsEntryAt other j b → StandsBefore q a b

-- what stands after x's first entry is not x's first
not_later : (x : SerialOp) (q : List SerialOp) (i j : ℕ) (t : ℕ) → t ≡ x.thread → i < j → IsEntryAt (x ∷ q) j (record { t = t; k = 0 }) → ⊥
not_later x q i zero t same less h = omega arith
not_later x q i (suc j) t same less h =
    let more = entries_more x (take j q) t in
    let one = more_here x t same in
    let count : length (entries t (x ∷ take j q)) ≡ 0 = h.3 in
    omega (arith, more, one, count)

first_threads : (x y : SerialOp) (q other : List SerialOp) → ((t : ℕ) → entries t (x ∷ q) ≡ entries t (y ∷ other)) → KeepsOrder (x ∷ q) (y ∷ other) → x.thread ≡ y.thread
first_threads x y q other same order =
    elim (same_or_not x.thread y.thread) [
      | inl one ↦ one
      | inr apart ↦
          (let more = entries_more x q x.thread in
          let own = more_here x x.thread refl in
          let lengths : length (entries x.thread (x ∷ q)) ≡ length (entries x.thread (y ∷ other)) = ap (λ z. length z) (same x.thread) in
          let far = entries_more y other x.thread in
          let none = more_other y x.thread apart in
          let later = first_entry x.thread other (omega (arith, more, own, lengths, far, none)) in
          let at = entry_after y other later.0 (record { t = x.thread; k = 0 }) later.1 in
          let at' : IsEntryAt (y ∷ other) (suc later.0) (record { t = x.thread; k = 0 }) = (at.0, at.1, at.2, omega (arith, none, at.3)) in
          let stands = order 0 (suc later.0) (record { t = y.thread; k = 0 }) (record { t = x.thread; k = 0 }) (omega arith) (y, refl, refl, refl) at' in
          absurd (not_later x q stands.0 stands.1 x.thread refl stands.2 stands.4))
    ]

rest_same : (x y : SerialOp) (q other : List SerialOp) (t : ℕ) → x ≡ y → entries t (x ∷ q) ≡ entries t (y ∷ other) → entries t q ≡ entries t other
rest_same x y q other t one same =
    elim (same_or_not t y.thread) [
      | inl here ↦
          (let P : ℕ → Type 0 = λ z. entries z q ≡ entries z other in
          let a : y.outcome ∷ entries y.thread q ≡ entries y.thread (y ∷ q) = sym (entries_own y q) in
          let b : entries y.thread (y ∷ other) ≡ y.outcome ∷ entries y.thread other = entries_own y other in
          let Q : ℕ → Type 0 = λ z. entries z (y ∷ q) ≡ entries z (y ∷ other) in
          let R : SerialOp → Type 0 = λ z. entries t (z ∷ q) ≡ entries t (y ∷ other) in
          let same' : entries t (y ∷ q) ≡ entries t (y ∷ other) = subst R one same in
          let whole = a ∙ (subst Q here same' ∙ b) in
          let tails : entries y.thread q ≡ entries y.thread other = cc in
          subst P (sym here) tails)
      | inr apart ↦
          (let R : SerialOp → Type 0 = λ z. entries t (z ∷ q) ≡ entries t (y ∷ other) in
          let same' : entries t (y ∷ q) ≡ entries t (y ∷ other) = subst R one same in
          sym (entries_other t y q apart) ∙ (same' ∙ entries_other t y other apart))
    ]

first_same : (x y : SerialOp) (q other : List SerialOp) → x.thread ≡ y.thread → entries x.thread (x ∷ q) ≡ entries x.thread (y ∷ other) → x ≡ y
first_same x y q other thread same =
    let Q : ℕ → Type 0 = λ z. entries z (y ∷ other) ≡ y.outcome ∷ entries z other in
    let b : entries x.thread (y ∷ other) ≡ y.outcome ∷ entries x.thread other = subst Q (sym thread) (entries_own y other) in
    let whole : x.outcome ∷ entries x.thread q ≡ y.outcome ∷ entries x.thread other = sym (entries_own x q) ∙ (same ∙ b) in
    same_entry x y thread (cc)

pub same_order : (q other : List SerialOp) → ((t : ℕ) → entries t q ≡ entries t other) → KeepsOrder q other → q ≡ other
same_order [] [] same order = refl
same_order [] (y ∷ other) same order = (let e = same y.thread in let here = entries_own y other in let f : [] ≡ y.outcome ∷ entries y.thread other = e ∙ here in absurd (cc))
same_order (x ∷ q) [] same order = (let e = same x.thread in let here = entries_own x q in let f : x.outcome ∷ entries x.thread q ≡ [] = sym here ∙ e in absurd (cc))
same_order (x ∷ q) (y ∷ other) same order =
    let thread = first_threads x y q other same order in
    let one : x ≡ y = first_same x y q other thread (same x.thread) in
    let rest = same_order q other (λ t. rest_same x y q other t one (same t)) (λ i j a b less p r.
    (let p' = entry_after y other i a p in
    let r' = entry_after y other j b r in
    let stands = order (suc i) (suc j) (after_op y a) (after_op y b) (omega arith) p' r' in
    let P : SerialOp → Type 0 = λ z. StandsBefore (z ∷ q) (after_op y a) (after_op y b) in
    before_after y q a b (subst P one stands))) in
    cc
