-- A deterministic set that has every serial history has no other whole ones.
use Rattle.std.proofs.Common.{arith, ◌≡◌, ◌≢◌, ◌≤◌, ◌+◌, ◌⊎◌, ℕ, suc, List, [], ◌∷◌, ◌++◌, length, if◌then◌else◌, refl, sym, ◌∙◌, ap, subst, inl, inr}
use Rattle.std.proofs.lemmas.Bool.{ne_eqb}
use Rattle.lu_machine.specs.declared.event.Outcome.{Outcome}
use Rattle.lu_machine.specs.declared.event.Outcome.TheVariants.{Ret, Trap}
use Rattle.lu_machine.specs.States.{State, call_count}
use Rattle.lu_history.specs.declared.serial.SerialOutcome.{SerialOutcome}
use Rattle.lu_history.specs.declared.serial.SerialOutcome.TheVariants.{Ret as Returned_with, Trap as Trapped, Stuck}
use Rattle.lu_history.specs.declared.serial.SerialOp.{SerialOp}
use Rattle.lu_history.specs.Parts.{as_serial}
use Rattle.lu_history.specs.Serial.{IsSerial}
use Rattle.lu_trie.specs.Conflicts.{ConflictAt}
use Rattle.lu_trie.proofs.Conflicts.{conflict_from, diverges_from}
use Rattle.lu_serial.specs.Serial.{IsSerialHistory, stuck_of}
use Rattle.lu_serial.proofs.Opening.{same_or_not}
use Rattle.lu_witness.specs.Witnesses.{entries}
use Rattle.lu_witness.proofs.Entries.{entries_own}
use Rattle.lu_serial.specs.Whole.{IsQuiet}
use Rattle.lu_serial.proofs.Moves.{HasSeats, done_of, done_complete}
use Rattle.lu_serial.proofs.Serially.{ended_run}
use Rattle.lu_serial.proofs.Ops.{NoCut, Ran, entry_of_run, ran_count, ran_no_cut, ran_on, ran_seats, run_op, some_serial}

-- no two histories of the set conflict
abbrev pub AreApart : (List SerialOp → Type 0) → Type 0
AreApart Set = (p q : List SerialOp) (i : ℕ) (o : SerialOutcome) → Set p → Set q → ConflictAt p q i o → ⊥

abbrev pub HasEach : State → (List SerialOp → Type 0) → Type 0
HasEach s Set = (q : List SerialOp) → IsSerialHistory s q → Set q

-- no more entries of a thread than it has calls left
abbrev pub HasRoom : State → List SerialOp → Type 0
HasRoom s q = (t : ℕ) → done_of s t + length (entries t q) ≤ call_count s t

abbrev pub HasStuck : List SerialOp → Type 0
HasStuck [] = ⊥
HasStuck (op ∷ q) = (op.outcome ≡ Stuck) ⊎ HasStuck q

-- it has `Stuck`, or an entry for each call that is left
abbrev pub IsWholeFrom : State → List SerialOp → Type 0
IsWholeFrom s q = HasStuck q ⊎ ((t : ℕ) → call_count s t ≤ done_of s t + length (entries t q))

outcome_or_not : (a b : SerialOutcome) → (a ≡ b) ⊎ (a ≢ b)
outcome_or_not (Returned_with m) (Returned_with n) = elim (same_or_not m n) [ inl e ↦ inl (ap Returned_with e) | inr e ↦ inr (λ f. e (cc)) ]
outcome_or_not (Returned_with m) Trapped = inr (λ f. cc)
outcome_or_not (Returned_with m) Stuck = inr (λ f. cc)
outcome_or_not Trapped (Returned_with n) = inr (λ f. cc)
outcome_or_not Trapped Trapped = inl refl
outcome_or_not Trapped Stuck = inr (λ f. cc)
outcome_or_not Stuck (Returned_with n) = inr (λ f. cc)
outcome_or_not Stuck Trapped = inr (λ f. cc)
outcome_or_not Stuck Stuck = inl refl

as_serial_not_stuck : (o : Outcome) → as_serial o ≢ Stuck
as_serial_not_stuck (Ret n) = λ e. cc
as_serial_not_stuck Trap = λ e. cc

-- the two first entries of one thread have one outcome
same_first : (Set : List SerialOp → Type 0) → AreApart Set → (a b : SerialOp) (p q : List SerialOp) → Set (a ∷ p) → Set (b ∷ q) → a.thread ≡ b.thread → a.outcome ≡ b.outcome
same_first Set one a b p q x y thread =
    elim (outcome_or_not a.outcome b.outcome) [
      | inl same ↦ same
      | inr differ ↦ absurd (one (a ∷ p) (b ∷ q) 0 b.outcome x y (conflict_from (a ∷ p) (b ∷ q) 0 b.outcome (sym thread, (λ e. differ (sym e)), refl)))
    ]

behind : (Set : List SerialOp → Type 0) → AreApart Set → (a : SerialOp) → AreApart (λ q. Set (a ∷ q))
behind Set one a p q i o x y c =
    one (a ∷ p) (a ∷ q) (suc i) o x y (conflict_from (a ∷ p) (a ∷ q) (suc i) o (refl, diverges_from p q i o c))

pub same_entry : (a b : SerialOp) → a.thread ≡ b.thread → a.outcome ≡ b.outcome → a ≡ b
same_entry a b e f =
    ap (λ (t : ℕ). let x : SerialOp = record { thread = t; outcome = a.outcome } in x) e
    ∙ ap (λ (o : SerialOutcome). let x : SerialOp = record { thread = b.thread; outcome = o } in x) f

pub entries_other : (t : ℕ) (op : SerialOp) (q : List SerialOp) → (t ≡ op.thread → ⊥) → entries t (op ∷ q) ≡ entries t q
entries_other t op q apart = ap (λ b. if b then op.outcome ∷ entries t q else entries t q) (ne_eqb op.thread t (λ e. apart (sym e)))

-- how many entries are left after the first
counted_rest : (s : State) (op : SerialOp) (q : List SerialOp) (r : Ran s op.thread) (t : ℕ) → done_of r.end t + length (entries t q) ≡ done_of s t + length (entries t (op ∷ q))
counted_rest s op q r t =
    elim (same_or_not t op.thread) as (λ _. done_of r.end t + length (entries t q) ≡ done_of s t + length (entries t (op ∷ q))) [
      | inl same ↦
          (let more : length (entries op.thread (op ∷ q)) ≡ suc (length (entries op.thread q)) = ap length (entries_own op q) in
          let fewer = r.more in
          subst (λ x. done_of r.end x + length (entries x q) ≡ done_of s x + length (entries x (op ∷ q))) (sym same) (omega (arith, more, fewer)))
      | inr apart ↦
          (let same : length (entries t (op ∷ q)) ≡ length (entries t q) = ap length (entries_other t op q apart) in
          let others = r.others t apart in
          omega (arith, same, others))
    ]

room_rest : (s : State) (op : SerialOp) (q : List SerialOp) (r : Ran s op.thread) → HasRoom s (op ∷ q) → HasRoom r.end q
room_rest s op q r room t =
    let here = room t in
    let rest = counted_rest s op q r t in
    let count = ran_count s op.thread r t in
    omega (arith, here, rest, count)

whole_rest : (s : State) (op : SerialOp) (q : List SerialOp) (r : Ran s op.thread) → (op.outcome ≡ Stuck → ⊥) → IsWholeFrom s (op ∷ q) → IsWholeFrom r.end q
whole_rest s op q r not (inl (inl stuck)) = absurd (not stuck)
whole_rest s op q r not (inl (inr stuck)) = inl stuck
whole_rest s op q r not (inr all) =
    inr (λ t. (let here = all t in
    let rest = counted_rest s op q r t in
    let count = ran_count s op.thread r t in
    omega (arith, here, rest, count)))

-- a whole history of the set is run again, entry by entry
pub whole_is_serial : (q : List SerialOp) (s : State) (bound : ℕ) (Set : List SerialOp → Type 0) → IsQuiet s → HasSeats s → NoCut s bound → HasEach s Set → AreApart Set → Set q → IsSerial q → HasRoom s q → IsWholeFrom s q → IsSerialHistory s q
whole_is_serial [] s bound Set quiet seats none has one member serial room (inl stuck) = absurd stuck
whole_is_serial [] s bound Set quiet seats none has one member serial room (inr all) =
    ([], ended_run s [] s [] [] (refl, refl) (inl (done_complete s quiet (λ t. (let le = all t in omega (arith, le))), refl)))
whole_is_serial (op ∷ q) s bound Set quiet seats none has one member serial room whole =
    let here : done_of s op.thread + length (entries op.thread (op ∷ q)) ≤ call_count s op.thread = room op.thread in
    let more : length (entries op.thread (op ∷ q)) ≡ suc (length (entries op.thread q)) = ap length (entries_own op q) in
    elim (run_op s op.thread bound quiet seats none (omega (arith, here, more))) [
      | inl r ↦
          (let none' = ran_no_cut s op.thread bound r none in
          let seats' = ran_seats s op.thread r seats in
          let rest = some_serial bound r.end r.quiet seats' none' in
          let ran = entry_of_run s op.thread r in
          let other : Set (ran ∷ rest.0) = has (ran ∷ rest.0) (ran_on s op.thread r rest.0 rest.1) in
          let outcome : op.outcome ≡ as_serial r.outcome = same_first Set one op ran q rest.0 member other refl in
          let same : op ≡ ran = same_entry op ran refl outcome in
          let member' : Set (ran ∷ q) = subst (λ (x : SerialOp). Set (x ∷ q)) same member in
          let again = whole_is_serial q r.end bound (λ p. Set (ran ∷ p)) r.quiet seats' none' (λ p z. has (ran ∷ p) (ran_on s op.thread r p z)) (behind Set one ran) member' serial.1 (room_rest s op q r room) (whole_rest s op q r (λ e. as_serial_not_stuck r.outcome (sym outcome ∙ e)) whole) in
          subst (λ (x : SerialOp). IsSerialHistory s (x ∷ q)) (sym same) (ran_on s op.thread r q again))
      | inr stuck ↦
          (let stop = stuck_of op.thread in
          let outcome : op.outcome ≡ Stuck = same_first Set one op stop q [] member (has (stop ∷ []) stuck) refl in
          let same : op ≡ stop = same_entry op stop refl outcome in
          let last : q ≡ [] = serial.0 outcome in
          subst (λ (x : SerialOp). IsSerialHistory s (x ∷ q)) (sym same) (subst (λ x. IsSerialHistory s (stop ∷ x)) (sym last) stuck))
    ]

pub stuck_last : (before : List SerialOp) (t : ℕ) → HasStuck (before ++ stuck_of t ∷ [])
stuck_last [] t = inl refl
stuck_last (op ∷ before) t = inr (stuck_last before t)
