-- What a serial history looks like: calls and returns in turn, numbered thread by thread.
use Rattle.std.proofs.Common.{arith, ◌≡◌, ◌<◌, ◌≤◌, ◌+◌, Bool, true, false, ℕ, zero, suc, List, [], ◌∷◌, ◌++◌, map, length, take, if◌then◌else◌, Option, Some, None, refl, sym, ◌∙◌, ap, subst, inl, inr}
use Rattle.std.specs.Prelude.{◌==◌}
use Rattle.std.proofs.lemmas.Bool.{eq-eqb, ne_eqb, lt-ltb}
use Rattle.lu_test.specs.declared.schedule.Move.{Move}
use Rattle.lu_machine.specs.declared.event.Event.{Event}
use Rattle.lu_machine.specs.declared.event.Event.TheVariants.{Call, Return}
use Rattle.lu_machine.specs.declared.event.Outcome.{Outcome}
use Rattle.lu_machine.specs.declared.thread.Activity.TheVariants.{Idle}
use Rattle.lu_machine.specs.States.{State}
use Rattle.lu_machine.specs.Runs.{with_event}
use Rattle.lu_history.specs.declared.operation.OpId.{OpId}
use Rattle.lu_history.specs.declared.serial.SerialOutcome.{SerialOutcome}
use Rattle.lu_history.specs.declared.serial.SerialOutcome.TheVariants.{Stuck}
use Rattle.lu_history.specs.declared.serial.SerialOp.{SerialOp}
use Rattle.lu_history.specs.Histories.{IsCallAt, IsReturnAt, IsPending, Precedes, calls, outcomes, pending}
use Rattle.lu_history.specs.Parts.{as_serial, part}
use Rattle.lu_history.proofs.PartEntries.{ltb_false}
use Rattle.lu_serial.specs.Serial.{HasOpen, IsByOpen, entries_of, stuck_of}
use Rattle.lu_serial.proofs.Opening.{same_or_not}
use Rattle.lu_witness.specs.Witnesses.{entries, IsEntryAt}
use Rattle.lu_serial.specs.Whole.{IsQuiet}
use Rattle.lu_serial.proofs.Moves.{Stepped, step_stepped, open_busy, done_of, done_at, done_same, done_more, done_others}
use Rattle.lu_serial.proofs.Serially.{LeadsSerially}
use Rattle.lu_serial.proofs.Ops.{open_before}
use Rattle.lu_refute.proofs.SameOrder.{more_of, more_here, more_other, after_op, entries_more, entry_ahead}

-- the entries of a serial history, with `Stuck` for the open operation
abbrev pub serial_of : List Event → List SerialOp
serial_of [] = []
serial_of (Call t k ∷ []) = stuck_of t ∷ []
serial_of (Call t k ∷ e ∷ h) = serial_of (e ∷ h)
serial_of (Return t k outcome ∷ h) = record { thread = t; outcome = as_serial outcome } ∷ serial_of h

-- one more for thread t
abbrev pub bumped : ℕ → (ℕ → ℕ) → ℕ → ℕ
bumped t base x = if t == x then suc (base x) else base x

bumped_here : (t : ℕ) (base : ℕ → ℕ) (x : ℕ) → x ≡ t → bumped t base x ≡ suc (base x)
bumped_here t base x e = ap (λ b. if b then suc (base x) else base x) (eq-eqb t x (sym e))

bumped_other : (t : ℕ) (base : ℕ → ℕ) (x : ℕ) → (x ≡ t → ⊥) → bumped t base x ≡ base x
bumped_other t base x e = ap (λ b. if b then suc (base x) else base x) (ne_eqb t x (λ f. e (sym f)))

-- Calls and returns in turn; thread t's calls are numbered from base t on; open is the thread with an operation open at the start, last that at the end.
abbrev pub IsSpelled : (ℕ → ℕ) → Option ℕ → List Event → Option ℕ → Type 0
IsSpelled base open_at [] last = last ≡ open_at
IsSpelled base None (Call t k ∷ h) last = (k ≡ base t) × IsSpelled base (Some t) h last
IsSpelled base None (Return u j o ∷ h) last = ⊥
IsSpelled base (Some t) (Call u k ∷ h) last = ⊥
IsSpelled base (Some t) (Return u j o ∷ h) last = (u ≡ t) × (j ≡ base t) × IsSpelled (bumped t base) None h last

abbrev pub IsMode : State → Option ℕ → Type 0
IsMode s None = IsQuiet s
IsMode s (Some t) = HasOpen s t × ((x : ℕ) → HasOpen s x → x ≡ t)

abbrev pub Spells : (ℕ → ℕ) → Option ℕ → List Event → State → Type 0
Spells base open_at h end = (last : Option ℕ) × IsMode end last × IsSpelled base open_at h last

bumped_done : (s : State) (m : Move) (new : State) (e : Option Event) → (by : Stepped s m new e) → by.after.done ≡ by.before.done + 1 → (base : ℕ → ℕ) → ((x : ℕ) → base x ≡ done_of s x) → (x : ℕ) → bumped m.thread base x ≡ done_of new x
bumped_done s m new e by more base is x =
    elim (same_or_not x m.thread) as (λ _. bumped m.thread base x ≡ done_of new x) [
      | inl here ↦
          (let a = bumped_here m.thread base m.thread refl in
          let b = is m.thread in
          let c = done_more s m new e by more in
          subst (λ y. bumped m.thread base y ≡ done_of new y) (sym here) (omega (arith, a, b, c)))
      | inr apart ↦ bumped_other m.thread base x apart ∙ (is x ∙ sym (done_others s m new e by x apart))
    ]

only_next : (s : State) (m : Move) (new : State) (e : Option Event) → (by : Stepped s m new e) → IsByOpen s m → (x : ℕ) → HasOpen new x → x ≡ m.thread
only_next s m new e by own x h =
    elim (same_or_not x m.thread) [ inl same ↦ same | inr apart ↦ sym (own x (open_before s m new e by x apart h)) ]

calm_next : (s : State) (m : Move) (new : State) (e : Option Event) → (by : Stepped s m new e) → IsByOpen s m → by.after.activity ≡ Idle → IsQuiet new
calm_next s m new e by own idle x h =
    let here = only_next s m new e by own x h in
    open_busy new m.thread by.after by.is (subst (HasOpen new) here h) idle

spell_call : (base : ℕ → ℕ) (s : State) (m : Move) (number : ℕ) (e : Option Event) (rest : List Event) (end : State) (open_at : Option ℕ) → IsMode s open_at → IsByOpen s m → (HasOpen s m.thread → ⊥) → e ≡ Some (Call m.thread number) → number ≡ base m.thread → Spells base (Some m.thread) rest end → Spells base open_at (with_event e rest) end
spell_call base s m number e rest end None mode own idle is same r =
    let P : Option Event → Type 0 = λ x. Spells base None (with_event x rest) end in
    subst P (sym is) (r.0, r.1, (same, r.2))
spell_call base s m number e rest end (Some t) mode own idle is same r =
    absurd (idle (subst (HasOpen s) (sym (own t mode.0)) mode.0))

spell_return : (base : ℕ → ℕ) (s : State) (m : Move) (number : ℕ) (o : Outcome) (e : Option Event) (rest : List Event) (end : State) (open_at : Option ℕ) → IsMode s open_at → HasOpen s m.thread → e ≡ Some (Return m.thread number o) → number ≡ base m.thread → Spells (bumped m.thread base) None rest end → Spells base open_at (with_event e rest) end
spell_return base s m number o e rest end None mode busy is same r = absurd (mode m.thread busy)
spell_return base s m number o e rest end (Some t) mode busy is same r =
    let thread : m.thread ≡ t = mode.1 m.thread busy in
    let P : Option Event → Type 0 = λ x. Spells base (Some t) (with_event x rest) end in
    let Q : ℕ → Type 0 = λ y. IsSpelled (bumped y base) None rest r.0 in
    subst P (sym is) (r.0, r.1, (thread, same ∙ ap base thread, subst Q thread r.2))

spell_on : (base : ℕ → ℕ) (s : State) (m : Move) (e : Option Event) (rest : List Event) (end : State) (open_at : Option ℕ) → IsMode s open_at → HasOpen s m.thread → e ≡ None → Spells base (Some m.thread) rest end → Spells base open_at (with_event e rest) end
spell_on base s m e rest end None mode busy is r = absurd (mode m.thread busy)
spell_on base s m e rest end (Some t) mode busy is r =
    let thread : m.thread ≡ t = mode.1 m.thread busy in
    let P : Option Event → Type 0 = λ x. Spells base (Some t) (with_event x rest) end in
    let Q : ℕ → Type 0 = λ y. Spells base (Some y) rest end in
    subst P (sym is) (subst Q thread r)

-- a serial schedule's events
pub run_spelled : (u : List Move) (s : State) (end : State) (h : List Event) → LeadsSerially s u end h → (open_at : Option ℕ) → IsMode s open_at → (base : ℕ → ℕ) → ((x : ℕ) → base x ≡ done_of s x) → Spells base open_at h end
run_spelled [] s end h p open_at mode base is =
    let P : State → Type 0 = λ x. IsMode x open_at in
    let Q : List Event → Type 0 = λ x. IsSpelled base open_at x open_at in
    (open_at, subst P (sym p.0) mode, subst Q (sym p.1) refl)
run_spelled (m ∷ u) s end h p open_at mode base is =
    let by = step_stepped s m p.0 p.1 p.3 in
    let number : by.before.done ≡ base m.thread = sym (is m.thread ∙ done_at s m.thread by.before by.was) in
    let P : List Event → Type 0 = λ x. Spells base open_at x end in
    subst P (sym p.5) (elim by.kind [
      | inl called ↦
          (let rest = run_spelled u p.0 end p.2 p.4 (Some m.thread) ((by.after, by.is, called.1), only_next s m p.0 p.1 by p.6) base (λ x. is x ∙ sym (done_same s m p.0 p.1 by called.2 x)) in
          spell_call base s m by.before.done p.1 p.2 end open_at mode p.6 (λ o. open_busy s m.thread by.before by.was o called.0) called.3 number rest)
      | inr other ↦ elim other [
        | inl went ↦
            (let rest = run_spelled u p.0 end p.2 p.4 (Some m.thread) ((by.after, by.is, went.1), only_next s m p.0 p.1 by p.6) base (λ x. is x ∙ sym (done_same s m p.0 p.1 by went.2 x)) in
            spell_on base s m p.1 p.2 end open_at mode (by.before, by.was, went.0) went.3 rest)
        | inr closed ↦
            (let rest = run_spelled u p.0 end p.2 p.4 None (calm_next s m p.0 p.1 by p.6 closed.1) (bumped m.thread base) (bumped_done s m p.0 p.1 by closed.2 base is) in
            spell_return base s m by.before.done closed.3.0 p.1 p.2 end open_at mode (by.before, by.was, closed.0) closed.3.1 number rest)
      ]
    ])

-- a's operation, counted from the start
abbrev pub placed : (ℕ → ℕ) → OpId → OpId
placed base a = record { t = a.t; k = base a.t + a.k }

-- a call's number is at least its thread's first
call_number : (base : ℕ → ℕ) (open_at : Option ℕ) (h : List Event) (last : Option ℕ) → IsSpelled base open_at h last → (i : ℕ) (a : OpId) → IsCallAt h i a → base a.t ≤ a.k
call_number base open_at [] last p i a at = absurd (cc)
call_number base None (Call t k ∷ h) last p zero a at =
    (let thread : t ≡ a.t = cc in
    let number : k ≡ a.k = cc in
    let same : base t ≡ base a.t = ap base thread in
    let first : k ≡ base t = p.0 in
    omega (arith, number, same, first))
call_number base None (Call t k ∷ h) last p (suc i) a at = call_number base (Some t) h last p.1 i a at
call_number base None (Return u j o ∷ h) last p i a at = absurd p
call_number base (Some t) (Call u k ∷ h) last p i a at = absurd p
call_number base (Some t) (Return u j o ∷ h) last p zero a at = absurd (cc)
call_number base (Some t) (Return u j o ∷ h) last p (suc i) a at =
    (let rest = call_number (bumped t base) None h last p.2 i a at in
    elim (same_or_not a.t t) [
      | inl same ↦ (let one = bumped_here t base a.t same in omega (arith, rest, one))
      | inr apart ↦ (let one = bumped_other t base a.t apart in omega (arith, rest, one))
    ])

abbrev op_of : ℕ → Outcome → SerialOp
op_of t o = record { thread = t; outcome = as_serial o }

-- counted from after the first operation
placed_after : (t : ℕ) (base : ℕ → ℕ) (x : SerialOp) (b : OpId) → x.thread ≡ t → base b.t + (more_of x b.t + b.k) ≡ bumped t base b.t + b.k
placed_after t base x b thread =
    elim (same_or_not b.t t) [
      | inl same ↦ (let one = bumped_here t base b.t same in let more = more_here x b.t (same ∙ sym thread) in omega (arith, one, more))
      | inr apart ↦ (let one = bumped_other t base b.t apart in let none = more_other x b.t (λ e. apart (e ∙ thread)) in omega (arith, one, none))
    ]

-- an operation after the first: counted from after it
record Behind (x : SerialOp) (b : OpId) : Type 0 where
  pub op : OpId
  pub is : b ≡ after_op x op

same_id : (a b : OpId) → a.t ≡ b.t → a.k ≡ b.k → a ≡ b
same_id a b e f =
    ap (λ (t : ℕ). let x : OpId = record { t = t; k = a.k } in x) e
    ∙ ap (λ (k : ℕ). let x : OpId = record { t = b.t; k = k } in x) f

behind : (x : SerialOp) (q : List SerialOp) (j : ℕ) (b : OpId) → IsEntryAt (x ∷ q) (suc j) b → Behind x b
behind x q j b h =
    let more = entries_more x (take j q) b.t in
    let count : length (entries b.t (x ∷ take j q)) ≡ b.k = h.3 in
    record {
      op = record { t = b.t; k = length (entries b.t (take j q)) };
      is = same_id b (record { t = b.t; k = more_of x b.t + length (entries b.t (take j q)) }) refl (sym count ∙ more);
    }

placed_same : (t : ℕ) (base : ℕ → ℕ) (x : SerialOp) (b op : OpId) → x.thread ≡ t → b ≡ after_op x op → placed (bumped t base) op ≡ placed base b
placed_same t base x b op thread is =
    let P : OpId → Type 0 = λ z. placed (bumped t base) op ≡ placed base z in
    subst P (sym is) (same_id (placed (bumped t base) op) (placed base (after_op x op)) refl (sym (placed_after t base x op thread)))

same_call : (t u k n : ℕ) → t ≡ u → k ≡ n → Call t k ≡ Call u n
same_call t u k n e f = ap (λ (x : ℕ). let y : Event = Call x k in y) e ∙ ap (λ (x : ℕ). let y : Event = Call u x in y) f

same_return : (t u k n : ℕ) (o : Outcome) → t ≡ u → k ≡ n → Return t k o ≡ Return u n o
same_return t u k n o e f = ap (λ (x : ℕ). let y : Event = Return x k o in y) e ∙ ap (λ (x : ℕ). let y : Event = Return u x o in y) f

first_is : (x : SerialOp) (q : List SerialOp) (b : OpId) → IsEntryAt (x ∷ q) 0 b → (x.thread ≡ b.t) × (b.k ≡ 0)
first_is x q b at =
    let same : x ≡ at.0 = (let e = at.1 in cc) in
    (ap (λ y. y.thread) same ∙ at.2, sym at.3)

first_number : (base : ℕ → ℕ) (t : ℕ) (b : OpId) → t ≡ b.t → b.k ≡ 0 → base t ≡ base b.t + b.k
first_number base t b e f = let same : base t ≡ base b.t = ap base e in omega (arith, same, f)

-- each entry's call is in the history
entry_called : (base : ℕ → ℕ) (h : List Event) (last : Option ℕ) → IsSpelled base None h last → (j : ℕ) (b : OpId) → IsEntryAt (serial_of h) j b → (n : ℕ) × IsCallAt h n (placed base b)
entry_called base [] last p j b at = (let e = at.1 in absurd (cc))
entry_called base (Call t k ∷ []) last p zero b at =
    (let first = first_is (stuck_of t) [] b at in
    (0, ap (λ y. Some y) (same_call t b.t k (base b.t + b.k) first.0 (p.0 ∙ first_number base t b first.0 first.1))))
entry_called base (Call t k ∷ []) last p (suc j) b at = (let e = at.1 in absurd (cc))
entry_called base (Call t k ∷ Call u j' ∷ h) last p j b at = absurd p.1
entry_called base (Call t k ∷ Return u n o ∷ h) last p zero b at =
    (let first = first_is (op_of u o) (serial_of h) b at in
    let thread : t ≡ b.t = sym p.1.0 ∙ first.0 in
    (0, ap (λ y. Some y) (same_call t b.t k (base b.t + b.k) thread (p.0 ∙ first_number base t b thread first.1))))
entry_called base (Call t k ∷ Return u n o ∷ h) last p (suc j) b at =
    (let x : SerialOp = op_of u o in
    let by = behind x (serial_of h) j b at in
    let at' : IsEntryAt (x ∷ serial_of h) (suc j) (after_op x by.op) = subst (λ z. IsEntryAt (x ∷ serial_of h) (suc j) z) by.is at in
    let rest = entry_called (bumped t base) h last p.1.2 j by.op (entry_ahead x (serial_of h) j by.op at') in
    let same = placed_same t base x b by.op p.1.0 by.is in
    (suc (suc rest.0), subst (λ z. IsCallAt h rest.0 z) same rest.1))
entry_called base (Return u n o ∷ h) last p j b at = absurd p

-- what stands before is what precedes
pub entry_precedes : (base : ℕ → ℕ) (h : List Event) (last : Option ℕ) → IsSpelled base None h last → (i j : ℕ) (a b : OpId) → i < j → IsEntryAt (serial_of h) i a → IsEntryAt (serial_of h) j b → Precedes h (placed base a) (placed base b)
entry_precedes base [] last p i j a b less x y = (let e = y.1 in absurd (cc))
entry_precedes base (Call t k ∷ []) last p i zero a b less x y = absurd (omega arith)
entry_precedes base (Call t k ∷ []) last p i (suc j) a b less x y = (let e = y.1 in absurd (cc))
entry_precedes base (Call t k ∷ Call u j' ∷ h) last p i j a b less x y = absurd p.1
entry_precedes base (Call t k ∷ Return u n o ∷ h) last p i zero a b less x y = absurd (omega arith)
entry_precedes base (Call t k ∷ Return u n o ∷ h) last p zero (suc j) a b less x y =
    (let first = first_is (op_of u o) (serial_of h) a x in
    let number : n ≡ base a.t + a.k = p.1.1 ∙ first_number base t a (sym p.1.0 ∙ first.0) first.1 in
    let op : SerialOp = op_of u o in
    let by = behind op (serial_of h) j b y in
    let y' : IsEntryAt (op ∷ serial_of h) (suc j) (after_op op by.op) = subst (λ z. IsEntryAt (op ∷ serial_of h) (suc j) z) by.is y in
    let rest = entry_called (bumped t base) h last p.1.2 j by.op (entry_ahead op (serial_of h) j by.op y') in
    let same = placed_same t base op b by.op p.1.0 by.is in
    (1, suc (suc rest.0), omega arith, (o, ap (λ z. Some z) (same_return u a.t n (base a.t + a.k) o first.0 number)), subst (λ z. IsCallAt h rest.0 z) same rest.1))
entry_precedes base (Call t k ∷ Return u n o ∷ h) last p (suc i) (suc j) a b less x y =
    (let op : SerialOp = op_of u o in
    let ba = behind op (serial_of h) i a x in
    let bb = behind op (serial_of h) j b y in
    let x' : IsEntryAt (op ∷ serial_of h) (suc i) (after_op op ba.op) = subst (λ z. IsEntryAt (op ∷ serial_of h) (suc i) z) ba.is x in
    let y' : IsEntryAt (op ∷ serial_of h) (suc j) (after_op op bb.op) = subst (λ z. IsEntryAt (op ∷ serial_of h) (suc j) z) bb.is y in
    let rest = entry_precedes (bumped t base) h last p.1.2 i j ba.op bb.op (omega arith) (entry_ahead op (serial_of h) i ba.op x') (entry_ahead op (serial_of h) j bb.op y') in
    let same_a = placed_same t base op a ba.op p.1.0 ba.is in
    let same_b = placed_same t base op b bb.op p.1.0 bb.is in
    (suc (suc rest.0), suc (suc rest.1), omega (arith, rest.2), subst (λ z. IsReturnAt h rest.0 z) same_a rest.3, subst (λ z. IsCallAt h rest.1 z) same_b rest.4))
entry_precedes base (Return u n o ∷ h) last p i j a b less x y = absurd p

-- Stuck for the thread whose operation is open at the end
abbrev pub tail_of : Option ℕ → ℕ → List SerialOutcome
tail_of None t = []
tail_of (Some x) t = if x == t then Stuck ∷ [] else []

-- the entries are the outcomes, with `Stuck` for the open operation
entries_spelled : (base : ℕ → ℕ) (h : List Event) (last : Option ℕ) → IsSpelled base None h last → (t : ℕ) → entries t (serial_of h) ≡ map as_serial (outcomes t h) ++ tail_of last t
entries_spelled base [] last p t = rw p refl
entries_spelled base (Call u k ∷ []) last p t = rw p.1 refl
entries_spelled base (Call u k ∷ Call v j ∷ h) last p t = absurd p.1
entries_spelled base (Call u k ∷ Return v n o ∷ h) last p t =
    by_test (v == t) o (entries t (serial_of h)) (outcomes t h) (tail_of last t) (entries_spelled (bumped u base) h last p.1.2 t)
  where
    by_test : (b : Bool) (o : Outcome) (found : List SerialOutcome) (had : List Outcome) (more : List SerialOutcome) → found ≡ map as_serial had ++ more → (if b then as_serial o ∷ found else found) ≡ map as_serial (if b then o ∷ had else had) ++ more
    by_test true o found had more e = ap (λ z. as_serial o ∷ z) e
    by_test false o found had more e = e
entries_spelled base (Return u n o ∷ h) last p t = absurd p

-- one more call than returns of the thread whose operation is open at the end
abbrev pub one_open : Option ℕ → ℕ → ℕ
one_open None t = 0
one_open (Some x) t = if x == t then 1 else 0

calls_spelled : (base : ℕ → ℕ) (h : List Event) (last : Option ℕ) → IsSpelled base None h last → (t : ℕ) → calls t h ≡ length (outcomes t h) + one_open last t
calls_spelled base [] last p t = rw p (omega arith)
calls_spelled base (Call u k ∷ []) last p t = rw p.1 (by_test (u == t))
  where
    by_test : (b : Bool) → (if b then 0 + 1 else 0) ≡ 0 + (if b then 1 else 0)
    by_test true = omega arith
    by_test false = omega arith
calls_spelled base (Call u k ∷ Call v j ∷ h) last p t = absurd p.1
calls_spelled base (Call u k ∷ Return v n o ∷ h) last p t =
    let rest = calls_spelled (bumped u base) h last p.1.2 t in
    let same : (v == t) ≡ (u == t) = ap (λ z. z == t) p.1.0 in
    ap (λ b. if b then calls t h + 1 else calls t h) (sym same) ∙ by_test (v == t) o (calls t h) (outcomes t h) (one_open last t) rest
  where
    by_test : (b : Bool) (o : Outcome) (called : ℕ) (had : List Outcome) (more : ℕ) → called ≡ length had + more → (if b then called + 1 else called) ≡ length (if b then o ∷ had else had) + more
    by_test true o called had more e = omega (arith, e)
    by_test false o called had more e = e
calls_spelled base (Return u n o ∷ h) last p t = absurd p

-- so each thread has its part of the history
pub part_spelled : (base : ℕ → ℕ) (h : List Event) (last : Option ℕ) → IsSpelled base None h last → (t : ℕ) → entries t (serial_of h) ≡ part t h
part_spelled base h last p t = entries_spelled base h last p t ∙ ap (λ z. map as_serial (outcomes t h) ++ z) (tail last (calls_spelled base h last p t))
  where
    by_test : (b : Bool) → calls t h ≡ length (outcomes t h) + (if b then 1 else 0) → (if b then Stuck ∷ [] else []) ≡ (if pending t h then Stuck ∷ [] else [])
    by_test true e = ap (λ z. if z then Stuck ∷ [] else []) (sym (lt-ltb (length (outcomes t h)) (calls t h) (omega (arith, e))))
    by_test false e = ap (λ z. if z then Stuck ∷ [] else []) (sym (ltb_false (length (outcomes t h)) (calls t h) (omega (arith, e))))

    tail : (last : Option ℕ) → calls t h ≡ length (outcomes t h) + one_open last t → tail_of last t ≡ (if pending t h then Stuck ∷ [] else [])
    tail None e = by_test false e
    tail (Some x) e = by_test (x == t) e

-- the operation that is open at the end is pending
pub pending_spelled : (base : ℕ → ℕ) (h : List Event) (x : ℕ) → IsSpelled base None h (Some x) → (k : ℕ) × IsPending h (record { t = x; k = k })
pending_spelled base [] x p = absurd (cc)
pending_spelled base (Call t k ∷ []) x p =
    (let same : t ≡ x = (let e = p.1 in cc) in
    (k, ((0, ap (λ y. Some y) (same_call t x k k same refl)), no_return t k x)))
  where
    no_return : (t k x : ℕ) → (i : ℕ) → IsReturnAt (Call t k ∷ []) i (record { t = x; k = k }) → ⊥
    no_return t k x zero r = (let e = r.1 in cc)
    no_return t k x (suc i) r = (let e = r.1 in cc)
pending_spelled base (Call t k ∷ Call u j ∷ h) x p = absurd p.1
pending_spelled base (Call t k ∷ Return u n o ∷ h) x p =
    (let rest = pending_spelled (bumped t base) h x p.1.2 in
    let number = call_number (bumped t base) None h (Some x) p.1.2 rest.1.0.0 (record { t = x; k = rest.0 }) rest.1.0.1 in
    (rest.0, ((suc (suc rest.1.0.0), rest.1.0.1), no_return base t k u n o h x rest.0 p.1.0 p.1.1 number rest.1.1)))
  where
    no_return : (base : ℕ → ℕ) (t k u n : ℕ) (o : Outcome) (h : List Event) (x c : ℕ) → u ≡ t → n ≡ base t → bumped t base x ≤ c → ((i : ℕ) → IsReturnAt h i (record { t = x; k = c }) → ⊥) → (i : ℕ) → IsReturnAt (Call t k ∷ Return u n o ∷ h) i (record { t = x; k = c }) → ⊥
    no_return base t k u n o h x c thread number more none zero r = (let e = r.1 in cc)
    no_return base t k u n o h x c thread number more none (suc zero) r =
        (let e = r.1 in
        let here : u ≡ x = cc in
        let call : n ≡ c = cc in
        let one = bumped_here t base x (sym here ∙ thread) in
        let same : base x ≡ base t = ap base (sym here ∙ thread) in
        omega (arith, one, same, number, call, more))
    no_return base t k u n o h x c thread number more none (suc (suc i)) r = none i r
pending_spelled base (Return u n o ∷ h) x p = absurd p

abbrev pub open_entry : Option ℕ → List SerialOp
open_entry None = []
open_entry (Some t) = stuck_of t ∷ []

-- the entries of the returns, and `Stuck` for the open operation
pub serial_by_returns : (base : ℕ → ℕ) (h : List Event) (last : Option ℕ) → IsSpelled base None h last → serial_of h ≡ entries_of h ++ open_entry last
serial_by_returns base [] last p = rw p refl
serial_by_returns base (Call t k ∷ []) last p = rw p.1 refl
serial_by_returns base (Call t k ∷ Call u j ∷ h) last p = absurd p.1
serial_by_returns base (Call t k ∷ Return u j o ∷ h) last p = ap (λ x. record { thread = u; outcome = as_serial o } ∷ x) (serial_by_returns (bumped t base) h last p.1.2)
serial_by_returns base (Return u j o ∷ h) last p = absurd p
