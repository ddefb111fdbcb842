-- The entries of a serial history, by thread and at their positions.
use Rattle.std.proofs.Common.{◌≡◌, ℕ, suc, ◌+◌, ◌<◌, ◌≤◌, Bool, true, false, List, [], ◌∷◌, ◌++◌, length, take, drop, if◌then◌else◌, inl, inr, refl, sym, ap, ◌∙◌, subst, arith}
use Rattle.std.specs.Prelude.{◌==◌}
use Rattle.std.proofs.lemmas.Bool.{cases_lt}
use Rattle.std.proofs.lemmas.Bool.Decides.{eqb_tells}
use Rattle.std.proofs.lemmas.List.{take-take, take_all, take_at, take-append-drop, append-nil, length_push, length-append}
use Rattle.lu_history.specs.declared.serial.SerialOp.{SerialOp}
use Rattle.lu_history.specs.declared.operation.OpId.{OpId}
use Rattle.lu_history.proofs.Events.{same_number, kept_at, last_at, at_take, take_next, take_within, each_beginning}
use Rattle.lu_witness.specs.Witnesses.{entries, IsEntryAt}

pub entries-append : (t : ℕ) (p q : List SerialOp) → entries t (p ++ q) ≡ entries t p ++ entries t q
entries-append t [] q = refl
entries-append t (op ∷ p) q =
    let go : (b : Bool) → (if b then op.outcome ∷ entries t (p ++ q) else entries t (p ++ q)) ≡ (if b then op.outcome ∷ entries t p else entries t p) ++ entries t q = elim [ true ↦ ap (λ x. op.outcome ∷ x) (entries-append t p q) | false ↦ entries-append t p q ] in
    go (op.thread == t)

pub entries_own : (op : SerialOp) (q : List SerialOp) → entries op.thread (op ∷ q) ≡ op.outcome ∷ entries op.thread q
entries_own op q = ap (λ b. if b then op.outcome ∷ entries op.thread q else entries op.thread q) (same_number op.thread)

pub entries_more : (t : ℕ) (p : List SerialOp) (op : SerialOp) → length (entries t (p ++ op ∷ [])) ≡ length (entries t p) + (if op.thread == t then 1 else 0)
entries_more t p op =
    let go : (b : Bool) → length (entries t p ++ (if b then op.outcome ∷ [] else [])) ≡ length (entries t p) + (if b then 1 else 0) = elim [ true ↦ length_push (entries t p) op.outcome | false ↦ let e : length (entries t p) ≡ length (entries t p) + 0 = omega arith in ap length (append-nil (entries t p)) ∙ e ] in
    ap length (entries-append t p (op ∷ [])) ∙ go (op.thread == t)

entries_grow : (t : ℕ) (q : List SerialOp) (i j : ℕ) → i ≤ j → length (entries t (take i q)) ≤ length (entries t (take j q))
entries_grow t q i j le =
    let whole : length (entries t (take j q)) ≡ length (entries t (take i q)) + length (entries t (drop i (take j q))) =
    ap (λ x. length (entries t x)) (sym (take-append-drop i (take j q))) ∙ ap length (entries-append t (take i (take j q)) (drop i (take j q))) ∙ length-append (entries t (take i (take j q))) (entries t (drop i (take j q)))
    ∙ ap (λ x. length (entries t x) + length (entries t (drop i (take j q)))) (take-take i j q le) in
    omega arith

-- an entry before position j counts there
pub counted_entry : (q : List SerialOp) (a : OpId) (i j : ℕ) → i < j → IsEntryAt q i a → a.k < length (entries a.t (take j q))
counted_entry q a i j lt at =
    let one : ◌≡◌ {A = ℕ} (if at.0.thread == a.t then 1 else 0) 1 = ap (λ x. if x == a.t then 1 else 0) at.2 ∙ ap (λ b. if b then 1 else 0) (same_number a.t) in
    let here : length (entries a.t (take (suc i) q)) ≡ length (entries a.t (take i q)) + (if at.0.thread == a.t then 1 else 0) = ap (λ x. length (entries a.t x)) (take_next q at.0 i at.1) ∙ entries_more a.t (take i q) at.0 in
    omega (arith, at.3, here, one, entries_grow a.t q (suc i) j (omega arith))

abbrev HaveEntries : List SerialOp → Type 0
HaveEntries q = (a : OpId) → a.k < length (entries a.t q) → (i : ℕ) × IsEntryAt q i a

lift_entry : (q g : List SerialOp) (a : OpId) (i : ℕ) → IsEntryAt q i a → IsEntryAt (q ++ g) i a
lift_entry q g a i at = (at.0, kept_at q g at.0 i at.1, at.2, ap (λ x. length (entries a.t x)) (take_within q g at.0 i at.1) ∙ at.3)

entries_push : (q : List SerialOp) (op : SerialOp) → HaveEntries q → HaveEntries (q ++ op ∷ [])
entries_push q op have a lt = elim (cases_lt a.k (length (entries a.t q))) as (λ _. (i : ℕ) × IsEntryAt (q ++ op ∷ []) i a) [
  | inl before ↦ let old = have a before in (old.0, lift_entry q (op ∷ []) a old.0 old.1)
  | inr past ↦ elim (eqb_tells op.thread a.t) as (λ _. (i : ℕ) × IsEntryAt (q ++ op ∷ []) i a) [
    | inl is ↦
        let more : length (entries a.t (q ++ op ∷ [])) ≡ length (entries a.t q) + 1 = entries_more a.t q op ∙ ap (λ b. length (entries a.t q) + (if b then 1 else 0)) is.0 in
        let number : length (entries a.t q) ≡ a.k = omega arith in
        (length q, (op, last_at q [] op, is.1, ap (λ x. length (entries a.t x)) (take_at q (op ∷ []) (length q) refl) ∙ number))
    | inr is ↦
        let more : length (entries a.t (q ++ op ∷ [])) ≡ length (entries a.t q) + 0 = entries_more a.t q op ∙ ap (λ b. length (entries a.t q) + (if b then 1 else 0)) is.0 in
        absurd (omega arith)
  ]
]

have_entries : (q : List SerialOp) (j : ℕ) → HaveEntries (take j q)
have_entries q = each_beginning HaveEntries q (λ a lt. absurd (omega arith)) (λ i x at have. entries_push (take i q) x have)

-- what counts before position j is an entry there
pub entry_before : (q : List SerialOp) (a : OpId) (j : ℕ) → a.k < length (entries a.t (take j q)) → (i : ℕ) × (i < j) × IsEntryAt q i a
entry_before q a j lt =
    let found = have_entries q j a lt in
    let below = at_take q found.1.0 found.0 j found.1.1 in
    (found.0, below.0, (found.1.0, below.1, found.1.2, ap (λ x. length (entries a.t x)) (sym (take-take found.0 j q (omega (arith, below.0)))) ∙ found.1.3))

pub entry_of : (q : List SerialOp) (a : OpId) → a.k < length (entries a.t q) → (i : ℕ) × IsEntryAt q i a
entry_of q = subst HaveEntries (take_all (length q) q (omega arith)) (have_entries q (length q))
