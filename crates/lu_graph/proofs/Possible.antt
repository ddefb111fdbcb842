-- Which serial histories are possible still, and what an ended state tells of them.
use Rattle.std.proofs.Common.{arith, ◌≡◌, ◌≢◌, ℕ, zero, suc, ◌<◌, ◌≤◌, Bool, true, false, List, [], ◌∷◌, ◌++◌, length, take, drop, Some, slice_get, cond, refl, sym, ◌∙◌, ap, subst, inl, inr, take-append-drop}
use Rattle.std.specs.Prelude.{◌↔◌, ◌==◌, ◌||◌, filter, nat_lt}
use Rattle.std.proofs.lemmas.Bool.{cases_lt}
use Rattle.std.proofs.lemmas.Bool.Decides.{eqb_tells}
use Rattle.std.proofs.lemmas.List.{take_all}
use Rattle.std.proofs.lemmas.Option.{get_or_from_slice_get, same_Some, slice_get_within, slice_get_past}
use Rattle.lu_machine.specs.declared.event.Event.{Event}
use Rattle.lu_machine.specs.declared.event.Event.TheVariants.{Call, Return}
use Rattle.lu_machine.specs.declared.event.Outcome.{Outcome}
use Rattle.lu_history.specs.declared.operation.OpId.{OpId}
use Rattle.lu_history.specs.declared.serial.SerialOp.{SerialOp}
use Rattle.lu_history.specs.declared.serial.SerialOutcome.TheVariants.{Stuck}
use Rattle.lu_history.specs.Histories.{Fits, IsWellFormed, calls, outcomes}
use Rattle.lu_history.specs.Parts.{as_serial, has_return, is_kept, keep_pending, part}
use Rattle.lu_history.proofs.Events.{at_push, call_of, called_at, in_turn, kept_at, last_at, outcomes-append, outcomes_return, pop_history, return_before, same_number, split_at}
use Rattle.lu_history.proofs.Filtered.{calls_kept, filtered_fits, is_kept_count, outcomes_kept}
use Rattle.lu_history.proofs.PartEntries.{ltb_false, part_below, part_last, part_length, part_past}
use Rattle.lu_witness.specs.Witnesses.{IsEntryAt, IsWitness, entries}
use Rattle.lu_linearization.specs.Precedence.{HasOutcomes, KeepsPrecedence}
use Rattle.lu_linearization.proofs.Standing.{precedence_goes_on}
use Rattle.lu_graph.specs.Alive.{Admits, IsPossible}
use Rattle.lu_graph.proofs.StayAlive.{is_called, precedence_is_witness}

-- ---- one event more

pub possible_goes_on : (q : List SerialOp) (h : List Event) (e : Event) → IsPossible q (h ++ e ∷ []) ↔ (IsPossible q h × ((a : OpId) (outcome : Outcome) → e ≡ Return a.t a.k outcome → Admits q h a outcome))
possible_goes_on q h e = (
  (λ is.
      let both = (precedence_goes_on q h e).0 is.precedence in (
        record { outcomes = λ i a o at. is.outcomes i a o (kept_at h (e ∷ []) (Return a.t a.k o) i at); precedence = both.0 },
        λ a o same. record { ended = is.outcomes (length h) a o (last_at h [] e ∙ ap Some same); before = both.1 a o same },
      )),
  (λ both. record {
    outcomes = λ i a o at. elim (at_push h e (Return a.t a.k o) i at) as (λ _. slice_get (entries a.t q) a.k ≡ Some (as_serial o)) [
      | inl old ↦ both.0.outcomes i a o old.1
      | inr new ↦ (both.1 a o (sym new.1)).ended
    ];
    precedence = (precedence_goes_on q h e).1 (both.0.precedence, λ a o same. (both.1 a o same).before);
  }),
)

-- ---- the history without pending calls of other threads

module _ (p : Event → Bool) where
  -- where what is kept stands among what is kept
  kept_place : (h : List Event) (j : ℕ) (x : Event) → slice_get h j ≡ Some x → p x ≡ true → (i : ℕ) × (slice_get (filter p h) i ≡ Some x) × (take i (filter p h) ≡ filter p (take j h))
  kept_place [] j x at is = absurd (cc)
  kept_place (y ∷ h) zero x at is = (0, ap (λ (b : Bool). slice_get (cond b (y ∷ filter p h) (filter p h)) 0) here ∙ at, refl)
    where
      here : p y ≡ true
      here = ap p (same_Some y x at) ∙ is
  kept_place (y ∷ h) (suc j) x at is = by (p y) (kept_place h j x at is)
    where
      by : (b : Bool) → (i : ℕ) × (slice_get (filter p h) i ≡ Some x) × (take i (filter p h) ≡ filter p (take j h)) → (i : ℕ) × (slice_get (cond b (y ∷ filter p h) (filter p h)) i ≡ Some x) × (take i (cond b (y ∷ filter p h) (filter p h)) ≡ cond b (y ∷ filter p (take j h)) (filter p (take j h)))
      by true (i, there, front) = (suc i, there, ap (λ g. y ∷ g) front)
      by false r = r

  -- and where it stood
  place_of : (h : List Event) (i : ℕ) (x : Event) → slice_get (filter p h) i ≡ Some x → (j : ℕ) × (slice_get h j ≡ Some x) × (p x ≡ true) × (take i (filter p h) ≡ filter p (take j h))
  place_of [] i x at = absurd (cc)
  place_of (y ∷ h) i x at = by (λ n. place_of h n x) (p y) refl i at
    where
      by : ((n : ℕ) → slice_get (filter p h) n ≡ Some x → (j : ℕ) × (slice_get h j ≡ Some x) × (p x ≡ true) × (take n (filter p h) ≡ filter p (take j h))) → (b : Bool) → p y ≡ b → (n : ℕ) → slice_get (cond b (y ∷ filter p h) (filter p h)) n ≡ Some x → (j : ℕ) × (slice_get (y ∷ h) j ≡ Some x) × (p x ≡ true) × (take n (cond b (y ∷ filter p h) (filter p h)) ≡ filter p (take j (y ∷ h)))
      by rest true e zero here = (0, here, ap p (sym (same_Some y x here)) ∙ e, refl)
      by rest true e (suc n) here = let r = rest n here in (suc r.0, r.1, r.2, ap (λ g. y ∷ g) r.3 ∙ sym (ap (λ b. cond b (y ∷ filter p (take r.0 h)) (filter p (take r.0 h))) e))
      by rest false e n here = let r = rest n here in (suc r.0, r.1, r.2, r.3 ∙ sym (ap (λ b. cond b (y ∷ filter p (take r.0 h)) (filter p (take r.0 h))) e))

front_formed : (h : List Event) → IsWellFormed h → (i : ℕ) → IsWellFormed (take i h)
front_formed h well i = pop_history (take i h) (drop i h) (subst IsWellFormed (sym (take-append-drop i h)) well)

module _ (t : ℕ) (h : List Event) (well : IsWellFormed h) where
  pub kept_formed : IsWellFormed (keep_pending t h)
  kept_formed i e at =
      let there = place_of (is_kept t h) h i e at in
      subst (λ g. Fits g e) (sym there.3) (filtered_fits t h well there.0 e there.1)

  front_kept : (j i : ℕ) → take i (keep_pending t h) ≡ filter (is_kept t h) (take j h) → IsWellFormed (filter (is_kept t h) (take j h))
  front_kept j i same = subst IsWellFormed same (front_formed (keep_pending t h) kept_formed i)

  -- what is called among the kept events was called
  called_more : (b : OpId) (j : ℕ) → IsWellFormed (filter (is_kept t h) (take j h)) → b.k < calls b.t (filter (is_kept t h) (take j h)) → b.k < calls b.t (take j h)
  called_more b j formed lt =
      let call = call_of (filter (is_kept t h) (take j h)) formed b lt in
      let there = place_of (is_kept t h) (take j h) call.0 (Call b.t b.k) call.1 in
      called_at (take j h) there.0 b (front_formed h well j) there.1

  -- what was called, and is kept, is called among the kept events
  called_still : (b : OpId) (j : ℕ) → IsWellFormed (filter (is_kept t h) (take j h)) → is_kept t h (Call b.t b.k) ≡ true → b.k < calls b.t (take j h) → b.k < calls b.t (filter (is_kept t h) (take j h))
  called_still b j formed is lt =
      let call = call_of (take j h) (front_formed h well j) b lt in
      let there = kept_place (is_kept t h) (take j h) call.0 (Call b.t b.k) call.1 is in
      called_at (filter (is_kept t h) (take j h)) there.0 b formed there.1

  pub precedence_kept : (q : List SerialOp) → ((b : OpId) (l : ℕ) → IsEntryAt q l b → b.k < calls b.t (keep_pending t h)) → KeepsPrecedence q h ↔ KeepsPrecedence q (keep_pending t h)
  precedence_kept q called = (
    (λ precedence i a ret j l b at lt bt.
        let there = place_of (is_kept t h) h i (Return a.t a.k ret.0) ret.1 in
        let before = precedence there.0 a (ret.0, there.1) j l b at lt bt in
        let call = call_of (keep_pending t h) kept_formed b (called b l bt) in
        let kept = (place_of (is_kept t h) h call.0 (Call b.t b.k) call.1).2 in
        subst (λ g. b.k < calls b.t g) (sym there.3) (called_still b there.0 (front_kept there.0 i there.3) kept before)),
    (λ precedence j a ret k l b at lt bt.
        let there = kept_place (is_kept t h) h j (Return a.t a.k ret.0) ret.1 refl in
        let before = precedence there.0 a (ret.0, there.1) k l b at lt bt in
        called_more b j (front_kept j there.0 there.2) (subst (λ g. b.k < calls b.t g) there.2 before)),
  )

-- ---- the outcomes

-- an operation's outcome stands in its place
outcome_at : (h : List Event) → IsWellFormed h → (i : ℕ) (a : OpId) (o : Outcome) → slice_get h i ≡ Some (Return a.t a.k o) → slice_get (outcomes a.t h) a.k ≡ Some o
outcome_at h well i a o at =
    let behind = drop (suc i) h in
    let whole : outcomes a.t h ≡ outcomes a.t (take i h) ++ o ∷ outcomes a.t behind =
    ap (outcomes a.t) (split_at h (Return a.t a.k o) i at) ∙ (outcomes-append a.t (take i h) (Return a.t a.k o ∷ behind) ∙ ap (λ x. outcomes a.t (take i h) ++ x) (outcomes_return a.t a.k o behind)) in
    let number : length (outcomes a.t (take i h)) ≡ a.k = (well i (Return a.t a.k o) at).3 in
    ap (λ x. slice_get x a.k) whole ∙ (ap (slice_get (outcomes a.t (take i h) ++ o ∷ outcomes a.t behind)) (sym number) ∙ last_at (outcomes a.t (take i h)) (outcomes a.t behind) o)

pub same_list : {A : Type 0} (xs ys : List A) → ((k : ℕ) → slice_get xs k ≡ slice_get ys k) → xs ≡ ys
same_list [] [] all = refl
same_list [] (y ∷ ys) all = absurd (let none = all 0 in cc)
same_list (x ∷ xs) [] all = absurd (let none = all 0 in cc)
same_list (x ∷ xs) (y ∷ ys) all = ap (λ z. z ∷ xs) (same_Some x y (all 0)) ∙ ap (λ zs. y ∷ zs) (same_list xs ys (λ k. all (suc k)))

-- it has an entry for each operation that returned
pub has_returned : (q : List SerialOp) (h : List Event) → IsWellFormed h → HasOutcomes q h → (u : ℕ) → length (outcomes u h) ≤ length (entries u q)
has_returned q h well had u =
    elim (cases_lt (length (entries u q)) (length (outcomes u h))) as (λ _. length (outcomes u h) ≤ length (entries u q)) [
      | inl fewer ↦
          (let a : OpId = record { t = u; k = length (entries u q) } in
          let whole : take (length h) h ≡ h = take_all (length h) h (omega arith) in
          let back = return_before h well (length h) a (subst (λ g. a.k < length (outcomes u g)) (sym whole) fewer) in
          let there = slice_get_within (entries u q) a.k (as_serial back.2.0) (had back.0 a back.2.0 back.2.1) in
          absurd (omega (arith, there)))
      | inr enough ↦ enough
    ]

-- its entries are as many as the calls, and the last of a thread that waits is stuck
pub record EndsAs (q : List SerialOp) (h : List Event) : Type 0 where
  pub long : (u : ℕ) → length (entries u q) ≡ calls u h
  pub stuck : (u : ℕ) → length (outcomes u h) < calls u h → slice_get (entries u q) (length (outcomes u h)) ≡ Some Stuck

module _ (q : List SerialOp) (h g : List Event) (well : IsWellFormed h) (formed : IsWellFormed g) (same : (u : ℕ) → outcomes u g ≡ outcomes u h) (precedence_too : ((b : OpId) (l : ℕ) → IsEntryAt q l b → b.k < calls b.t g) → KeepsPrecedence q h ↔ KeepsPrecedence q g) where
  returned : (u k : ℕ) → k < length (outcomes u h) → HasOutcomes q h → slice_get (entries u q) k ≡ slice_get (part u g) k
  returned u k lt had =
      let a : OpId = record { t = u; k = k } in
      let whole : take (length h) h ≡ h = take_all (length h) h (omega arith) in
      let back = return_before h well (length h) a (subst (λ x. k < length (outcomes u x)) (sym whole) lt) in
      let o = back.2.0 in
      let here : slice_get (outcomes u g) k ≡ Some o = ap (λ x. slice_get x k) (same u) ∙ outcome_at h well back.0 a o back.2.1 in
      let entry = part_below u g k o (slice_get_within (outcomes u g) k o here) in
      had back.0 a o back.2.1 ∙ sym (entry ∙ ap (λ x. Some (as_serial x)) (get_or_from_slice_get (outcomes u g) k o o here))

  parts : HasOutcomes q h → EndsAs q g → (u k : ℕ) → slice_get (entries u q) k ≡ slice_get (part u g) k
  parts had ends u k =
      let many = ap length (same u) in
      elim (cases_lt k (length (outcomes u h))) as (λ _. slice_get (entries u q) k ≡ slice_get (part u g) k) [
        | inl lt ↦ returned u k lt had
        | inr ge ↦ elim (cases_lt k (calls u g)) as (λ _. slice_get (entries u q) k ≡ slice_get (part u g) k) [
          | inl called ↦
              (let turn = in_turn g formed u in
              let one = turn.open_one in
              let last : length (outcomes u g) ≡ k = omega (arith, many, ge, called, one) in
              subst (λ n. slice_get (entries u q) n ≡ Some Stuck) last (ends.stuck u (omega (arith, last, called))) ∙ sym (part_last g formed u k (omega (arith, last)) called))
          | inr past ↦
              (let long = ends.long u in
              slice_get_past (entries u q) k (omega (arith, long, past)) ∙ sym (part_past g formed u k past))
        ]
      ]

  pub possible_witness : IsPossible q h → EndsAs q g → IsWitness q g
  possible_witness is ends =
      let all : (u : ℕ) → entries u q ≡ part u g = λ u. same_list (entries u q) (part u g) (parts is.outcomes ends u) in
      (precedence_is_witness q g formed all).0 ((precedence_too (λ b l at. is_called q g formed all b l at)).0 is.precedence)

  pub witness_possible : IsWitness q g → IsPossible q h × EndsAs q g
  witness_possible w = (
    record {
      outcomes = λ i a o at.
          (let here : slice_get (outcomes a.t g) a.k ≡ Some o = ap (λ x. slice_get x a.k) (same a.t) ∙ outcome_at h well i a o at in
          ap (λ x. slice_get x a.k) (w.parts a.t) ∙ (part_below a.t g a.k o (slice_get_within (outcomes a.t g) a.k o here) ∙ ap (λ x. Some (as_serial x)) (get_or_from_slice_get (outcomes a.t g) a.k o o here)));
      precedence = (precedence_too (λ b l at. is_called q g formed w.parts b l at)).1 ((precedence_is_witness q g formed w.parts).1 w);
    },
    record {
      long = λ u. ap length (w.parts u) ∙ part_length g formed u;
      stuck = λ u waits. ap (λ x. slice_get x (length (outcomes u g))) (w.parts u) ∙ part_last g formed u (length (outcomes u g)) (omega arith) waits;
    },
  )

-- ---- the calls that are kept

module _ (t : ℕ) (h : List Event) (well : IsWellFormed h) where
  pub own_calls : calls t (keep_pending t h) ≡ calls t h
  own_calls = calls_kept (is_kept t h) t h (λ j k at. ap (λ b. b || has_return h (record { t = t; k = k })) (same_number t))

  pub others_calls : (u : ℕ) → u ≢ t → calls u (keep_pending t h) ≡ length (outcomes u h)
  others_calls u other =
      let same = ap length (outcomes_kept t h u h) in
      let turn = in_turn (keep_pending t h) (kept_formed t h well) u in
      let low = turn.returned in
      elim (cases_lt (length (outcomes u h)) (calls u (keep_pending t h))) as (λ _. calls u (keep_pending t h) ≡ length (outcomes u h)) [
        | inl more ↦
            (let b : OpId = record { t = u; k = length (outcomes u h) } in
            let call = call_of (keep_pending t h) (kept_formed t h well) b more in
            let kept = (place_of (is_kept t h) h call.0 (Call u b.k) call.1).2 in
            let never : nat_lt b.k (length (outcomes u h)) ≡ false = ltb_false b.k (length (outcomes u h)) (omega arith) in
            let apart : (u == t) ≡ false = not_same u t other in
            absurd (neither (u == t) (nat_lt b.k (length (outcomes u h))) apart never (sym (is_kept_count t h well u b.k) ∙ kept)))
        | inr le ↦ omega (arith, le, low, same)
      ]
    where
      neither : (a b : Bool) → a ≡ false → b ≡ false → (a || b) ≡ true → ⊥
      neither true b p q r = cc
      neither false true p q r = cc
      neither false false p q r = cc

      not_same : (a b : ℕ) → a ≢ b → (a == b) ≡ false
      not_same a b apart = elim (eqb_tells a b) as (λ _. (a == b) ≡ false) [ inl is ↦ absurd (apart is.1) | inr is ↦ is.0 ]
