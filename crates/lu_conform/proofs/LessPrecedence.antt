-- A history with less precedence comes about by such changes.
use Rattle.std.proofs.Common.{arith, ◌≡◌, ◌⊎◌, ℕ, zero, suc, ◌<◌, ◌==◌, Bool, true, false, cond, List, [], ◌∷◌, ◌++◌, length, take, drop, Some, slice_get, refl, sym, ◌∙◌, ap, subst, inl, inr}
use Rattle.std.proofs.lemmas.Bool.{cases_lt, eq-eqb, eqb-true}
use Rattle.std.proofs.lemmas.List.{take-append-drop}
use Rattle.std.proofs.lemmas.Option.{same_Some}
use Rattle.lu_machine.specs.declared.event.Event.{Event}
use Rattle.lu_machine.specs.declared.event.Event.TheVariants.{Call, Return}
use Rattle.lu_machine.specs.declared.event.Outcome.{Outcome}
use Rattle.lu_history.specs.declared.operation.OpId.{OpId}
use Rattle.lu_history.specs.Histories.{IsCallAt, IsReturnAt, IsWellFormed, Precedes, calls, outcomes, thread_of}
use Rattle.lu_history.proofs.Events.{called_at, counted_return, pop_history}
use Rattle.lu_conform.proofs.Stretched.{stretched_is_shown}
use Rattle.lu_conform.specs.Stretching.{HasLessPrecedence, IsStretchedBy, IsStretchedOnce, LessIsShown, LessIsStretched, MayStretch, events_of}

-- ---- changes, one after the other

IsStretched : List Event → List Event → Type 0
IsStretched h k = (n : ℕ) × IsStretchedBy n h k

once_after : (z : Event) (h k : List Event) → IsStretchedOnce h k → IsStretchedOnce (z ∷ h) (z ∷ k)
once_after z h k once = record {
  front = z ∷ once.front;
  back = once.back;
  first = once.first;
  second = once.second;
  may = once.may;
  before = ap (λ l. z ∷ l) once.before;
  after = ap (λ l. z ∷ l) once.after;
}

behind : (z : Event) (n : ℕ) (h k : List Event) → IsStretchedBy n h k → IsStretchedBy n (z ∷ h) (z ∷ k)
behind z zero h k is = ap (λ l. z ∷ l) is
behind z (suc n) h k (g, once, more) = (z ∷ g, once_after z h g once, behind z n g k more)

then_by : (n m : ℕ) (h g k : List Event) → IsStretchedBy n h g → IsStretchedBy m g k → (r : ℕ) × IsStretchedBy r h k
then_by zero m h g k is more = (m, subst (λ l. IsStretchedBy m l k) (sym is) more)
then_by (suc n) m h g k (f, once, rest) more = let on = then_by n m f g k rest more in (suc on.0, (f, once, on.1))

-- ---- where events stand

-- x stands in h
abbrev Occurs : List Event → Event → Type 0
Occurs [] x = ⊥
Occurs (z ∷ h) x = (z ≡ x) ⊎ Occurs h x

-- x stands before y in h
abbrev Before : List Event → Event → Event → Type 0
Before [] x y = ⊥
Before (z ∷ h) x y = ((z ≡ x) × Occurs h y) ⊎ Before h x y

occurs_at : (h : List Event) (x : Event) → Occurs h x → (i : ℕ) × (slice_get h i ≡ Some x)
occurs_at [] x o = absurd o
occurs_at (z ∷ h) x (inl is) = (zero, ap Some is)
occurs_at (z ∷ h) x (inr o) = let there = occurs_at h x o in (suc there.0, there.1)

at_occurs : (h : List Event) (i : ℕ) (x : Event) → slice_get h i ≡ Some x → Occurs h x
at_occurs [] i x at = absurd (cc)
at_occurs (z ∷ h) zero x at = inl (same_Some z x at)
at_occurs (z ∷ h) (suc i) x at = inr (at_occurs h i x at)

before_at : (h : List Event) (x y : Event) → Before h x y → (i j : ℕ) × (i < j) × (slice_get h i ≡ Some x) × (slice_get h j ≡ Some y)
before_at [] x y b = absurd b
before_at (z ∷ h) x y (inl (is, o)) = let there = occurs_at h y o in (zero, suc there.0, omega arith, ap Some is, there.1)
before_at (z ∷ h) x y (inr b) = let there = before_at h x y b in (suc there.0, suc there.1, omega (arith, there.2), there.3, there.4)

at_before : (h : List Event) (i j : ℕ) (x y : Event) → i < j → slice_get h i ≡ Some x → slice_get h j ≡ Some y → Before h x y
at_before [] i j x y lt p q = absurd (cc)
at_before (z ∷ h) i zero x y lt p q = absurd (omega arith)
at_before (z ∷ h) zero (suc j) x y lt p q = inl (same_Some z x p, at_occurs h j y q)
at_before (z ∷ h) (suc i) (suc j) x y lt p q = inr (at_before h i j x y (omega arith) p q)

before_second : (h : List Event) (x y : Event) → Before h x y → Occurs h y
before_second [] x y b = absurd b
before_second (z ∷ h) x y (inl (is, o)) = inr o
before_second (z ∷ h) x y (inr b) = inr (before_second h x y b)

-- one event more, or less
occurs_more : (front : List Event) (e : Event) (back : List Event) (x : Event) → Occurs (front ++ back) x → Occurs (front ++ e ∷ back) x
occurs_more [] e back x o = inr o
occurs_more (z ∷ front) e back x (inl is) = inl is
occurs_more (z ∷ front) e back x (inr o) = inr (occurs_more front e back x o)

occurs_less : (front : List Event) (e : Event) (back : List Event) (x : Event) → (x ≡ e → ⊥) → Occurs (front ++ e ∷ back) x → Occurs (front ++ back) x
occurs_less [] e back x other (inl is) = absurd (other (sym is))
occurs_less [] e back x other (inr o) = o
occurs_less (z ∷ front) e back x other (inl is) = inl is
occurs_less (z ∷ front) e back x other (inr o) = inr (occurs_less front e back x other o)

before_more : (front : List Event) (e : Event) (back : List Event) (x y : Event) → Before (front ++ back) x y → Before (front ++ e ∷ back) x y
before_more [] e back x y b = inr b
before_more (z ∷ front) e back x y (inl (is, o)) = inl (is, occurs_more front e back y o)
before_more (z ∷ front) e back x y (inr b) = inr (before_more front e back x y b)

before_less : (front : List Event) (e : Event) (back : List Event) (x y : Event) → (x ≡ e → ⊥) → (y ≡ e → ⊥) → Before (front ++ e ∷ back) x y → Before (front ++ back) x y
before_less [] e back x y p q (inl (is, o)) = absurd (p (sym is))
before_less [] e back x y p q (inr b) = b
before_less (z ∷ front) e back x y p q (inl (is, o)) = inl (is, occurs_less front e back y q o)
before_less (z ∷ front) e back x y p q (inr b) = inr (before_less front e back x y p q b)

middle : (front : List Event) (e : Event) (back : List Event) → Occurs (front ++ e ∷ back) e
middle [] e back = inl refl
middle (z ∷ front) e back = inr (middle front e back)

in_front : (front back : List Event) (x : Event) → Occurs front x → Occurs (front ++ back) x
in_front [] back x o = absurd o
in_front (z ∷ front) back x (inl is) = inl is
in_front (z ∷ front) back x (inr o) = inr (in_front front back x o)

-- no event stands in it twice
IsOnce : List Event → Type 0
IsOnce h = (x : Event) → Before h x x → ⊥

-- e does not stand before what stands in front of it
crossing : (front : List Event) (e : Event) (back : List Event) (f : Event) → ((x : Event) → Before (front ++ e ∷ back) x x → ⊥) → Occurs front f → Before (front ++ e ∷ back) e f → ⊥
crossing [] e back f once o b = o
crossing (z ∷ front) e back f once o (inl (is, after_it)) = once e (inl (is, middle front e back))
crossing (z ∷ front) e back f once (inl is) (inr b) = once f (inl (is, before_second (front ++ e ∷ back) e f b))
crossing (z ∷ front) e back f once (inr o) (inr b) = crossing front e back f (λ x twice. once x (inr twice)) o b

-- ---- the events of a thread

pick_out : (t : ℕ) (z : Event) (h : List Event) (b : Bool) → (thread_of z == t) ≡ b → events_of t (z ∷ h) ≡ cond b (z ∷ events_of t h) (events_of t h)
pick_out t z h b is = ap (λ c. cond c (z ∷ events_of t h) (events_of t h)) is

occurs_of : (h : List Event) (x : Event) → Occurs h x → Occurs (events_of (thread_of x) h) x
occurs_of [] x o = absurd o
occurs_of (z ∷ h) x o = by (thread_of z == thread_of x) refl o (occurs_of h x)
  where
    by : (b : Bool) → (thread_of z == thread_of x) ≡ b → (z ≡ x) ⊎ Occurs h x → (Occurs h x → Occurs (events_of (thread_of x) h) x) → Occurs (cond b (z ∷ events_of (thread_of x) h) (events_of (thread_of x) h)) x
    by true e (inl is) go = inl is
    by true e (inr p) go = inr (go p)
    by false e (inl is) go = absurd (let same : (thread_of z == thread_of x) ≡ true = eq-eqb (thread_of z) (thread_of x) (ap thread_of is) in let wrong : true ≡ false = sym same ∙ e in cc)
    by false e (inr p) go = go p

of_occurs : (t : ℕ) (h : List Event) (x : Event) → Occurs (events_of t h) x → Occurs h x
of_occurs t [] x o = absurd o
of_occurs t (z ∷ h) x o = by (thread_of z == t) o (of_occurs t h x)
  where
    by : (b : Bool) → Occurs (cond b (z ∷ events_of t h) (events_of t h)) x → (Occurs (events_of t h) x → Occurs h x) → (z ≡ x) ⊎ Occurs h x
    by true (inl is) go = inl is
    by true (inr p) go = inr (go p)
    by false p go = inr (go p)

-- the first event of a thread, with none of it in front
record FirstOf (h : List Event) (e : Event) (rest : List Event) : Type 0 where
  front : List Event
  back : List Event
  whole : h ≡ front ++ e ∷ back
  none : events_of (thread_of e) front ≡ []

first_of : (h : List Event) (e : Event) (rest : List Event) → events_of (thread_of e) h ≡ e ∷ rest → FirstOf h e rest
first_of [] e rest is = absurd (cc)
first_of (z ∷ h) e rest is = by (thread_of z == thread_of e) refl is (first_of h e rest)
  where
    by : (b : Bool) → (thread_of z == thread_of e) ≡ b → cond b (z ∷ events_of (thread_of e) h) (events_of (thread_of e) h) ≡ e ∷ rest → (events_of (thread_of e) h ≡ e ∷ rest → FirstOf h e rest) → FirstOf (z ∷ h) e rest
    by true t p go = record { front = []; back = h; whole = (let same : z ≡ e = cc in ap (λ x. x ∷ h) same); none = refl }
    by false t p go =
        let on = go p in
        record { front = z ∷ on.front; back = on.back; whole = ap (λ l. z ∷ l) on.whole; none = pick_out (thread_of e) z on.front false t ∙ on.none }

none_apart : (front : List Event) (t : ℕ) (f : Event) → events_of t front ≡ [] → Occurs front f → thread_of f ≡ t → ⊥
none_apart front t f none o is =
    subst (λ l. Occurs l f) none (subst (λ u. Occurs (events_of u front) f) is (occurs_of front f o))

-- without the event
of_less : (t : ℕ) (front : List Event) (e : Event) (back : List Event) → (thread_of e == t) ≡ false → events_of t (front ++ e ∷ back) ≡ events_of t (front ++ back)
of_less t [] e back other = pick_out t e back false other
of_less t (z ∷ front) e back other = ap (λ l. cond (thread_of z == t) (z ∷ l) l) (of_less t front e back other)

of_first : (t : ℕ) (front : List Event) (e : Event) (back : List Event) → (thread_of e == t) ≡ true → events_of t front ≡ [] → events_of t (front ++ e ∷ back) ≡ e ∷ events_of t (front ++ back)
of_first t [] e back same none = pick_out t e back true same
of_first t (z ∷ front) e back same none = by (thread_of z == t) refl none (of_first t front e back same)
  where
    by : (b : Bool) → (thread_of z == t) ≡ b → cond b (z ∷ events_of t front) (events_of t front) ≡ [] → (events_of t front ≡ [] → events_of t (front ++ e ∷ back) ≡ e ∷ events_of t (front ++ back)) → cond (thread_of z == t) (z ∷ events_of t (front ++ e ∷ back)) (events_of t (front ++ e ∷ back)) ≡ e ∷ cond (thread_of z == t) (z ∷ events_of t (front ++ back)) (events_of t (front ++ back))
    by true is p go = absurd (cc)
    by false is p go = rw is (go p)

-- ---- one event after the other is brought to its place

record AreAlike (h k : List Event) : Type 0 where
  threads : (t : ℕ) → events_of t h ≡ events_of t k
  keeps : (t i : ℕ) (o : Outcome) (u j : ℕ) → Before k (Return t i o) (Call u j) → Before h (Return t i o) (Call u j)
  once : (x : Event) → Before h x x → ⊥
  once_too : (x : Event) → Before k x x → ⊥

nothing_left : (h : List Event) → ((t : ℕ) → events_of t h ≡ []) → h ≡ []
nothing_left [] none = refl
nothing_left (z ∷ h) none =
    absurd (let same = pick_out (thread_of z) z h true (eq-eqb (thread_of z) (thread_of z) refl) in let wrong : z ∷ events_of (thread_of z) h ≡ [] = sym same ∙ none (thread_of z) in cc)

may_stretch : (f e : Event) → (thread_of f ≡ thread_of e → ⊥) → ((u j t i : ℕ) (o : Outcome) → f ≡ Call u j → e ≡ Return t i o → ⊥) → MayStretch f e
may_stretch (Call u j) (Call t i) apart never = apart
may_stretch (Call u j) (Return t i o) apart never = never u j t i o refl refl
may_stretch (Return u j p) (Call t i) apart never = apart
may_stretch (Return u j p) (Return t i o) apart never = apart

brought : (front : List Event) (e : Event) (back : List Event) → ((f : Event) → Occurs front f → MayStretch f e) → (n : ℕ) × IsStretchedBy n (front ++ e ∷ back) (e ∷ (front ++ back))
brought [] e back may = (zero, refl)
brought (z ∷ front) e back may =
    let on = brought front e back (λ f o. may f (inr o)) in
    let last : IsStretchedOnce (z ∷ e ∷ (front ++ back)) (e ∷ z ∷ (front ++ back)) = record { front = []; back = front ++ back; first = z; second = e; may = may z (inl refl); before = refl; after = refl } in
    then_by on.0 (suc zero) (z ∷ (front ++ e ∷ back)) (z ∷ e ∷ (front ++ back)) (e ∷ z ∷ (front ++ back)) (behind z on.0 (front ++ e ∷ back) (e ∷ (front ++ back)) on.1) (e ∷ z ∷ (front ++ back), last, refl)

module _ (e : Event) (k front back : List Event) (alike : AreAlike (front ++ e ∷ back) (e ∷ k)) (none : events_of (thread_of e) front ≡ []) where
  not_in_rest : Occurs k e → ⊥
  not_in_rest o = alike.once_too e (inl (refl, o))

  may_pass : (f : Event) → Occurs front f → MayStretch f e
  may_pass f o = may_stretch f e (none_apart front (thread_of e) f none o) crosses
    where
      in_rest : (f ≡ e → ⊥) → Occurs (e ∷ k) f → Occurs k f
      in_rest other (inl is) = absurd (other (sym is))
      in_rest other (inr p) = p

      crosses : (u j t i : ℕ) (o' : Outcome) → f ≡ Call u j → e ≡ Return t i o' → ⊥
      crosses u j t i o' is called =
          let other : f ≡ e → ⊥ = λ same. (let wrong : Call u j ≡ Return t i o' = sym is ∙ (same ∙ called) in cc) in
          let there = in_rest other (of_occurs (thread_of f) (e ∷ k) f (subst (λ l. Occurs l f) (alike.threads (thread_of f)) (occurs_of (front ++ e ∷ back) f (in_front front (e ∷ back) f o)))) in
          let first : Before (e ∷ k) e f = inl (refl, there) in
          let as_named : Before (e ∷ k) (Return t i o') (Call u j) = subst (λ x. Before (e ∷ k) x (Call u j)) called (subst (λ x. Before (e ∷ k) e x) is first) in
          let in_h = alike.keeps t i o' u j as_named in
          let back_named : Before (front ++ e ∷ back) e f = subst (λ x. Before (front ++ e ∷ back) x f) (sym called) (subst (λ x. Before (front ++ e ∷ back) (Return t i o') x) (sym is) in_h) in
          crossing front e back f alike.once o back_named

  rest_alike : AreAlike (front ++ back) k
  rest_alike = record {
    threads = λ t. by_thread t (thread_of e == t) refl;
    keeps = λ t i o u j b. before_less front e back (Return t i o) (Call u j)
        (λ is. not_in_rest (subst (Occurs k) is (before_first k (Return t i o) (Call u j) b)))
        (λ is. not_in_rest (subst (Occurs k) is (before_second k (Return t i o) (Call u j) b)))
        (alike.keeps t i o u j (inr b));
    once = λ x twice. alike.once x (before_more front e back x x twice);
    once_too = λ x twice. alike.once_too x (inr twice);
  }
    where
      before_first : (l : List Event) (x y : Event) → Before l x y → Occurs l x
      before_first [] x y b = absurd b
      before_first (z ∷ l) x y (inl (is, o)) = inl is
      before_first (z ∷ l) x y (inr b) = inr (before_first l x y b)

      by_thread : (t : ℕ) (b : Bool) → (thread_of e == t) ≡ b → events_of t (front ++ back) ≡ events_of t k
      by_thread t true is =
          let same : thread_of e ≡ t = eqb-true (thread_of e) t is in
          let left = of_first t front e back is (subst (λ u. events_of u front ≡ []) same none) in
          let right = pick_out t e k true is in
          let both : e ∷ events_of t (front ++ back) ≡ e ∷ events_of t k = sym left ∙ (alike.threads t ∙ right) in
          cc
      by_thread t false is = sym (of_less t front e back is) ∙ (alike.threads t ∙ pick_out t e k false is)

stretched_to : (k h : List Event) → AreAlike h k → (n : ℕ) × IsStretchedBy n h k
stretched_to [] h alike = (zero, nothing_left h alike.threads)
stretched_to (e ∷ k) h alike =
    let first = first_of h e (events_of (thread_of e) k) (alike.threads (thread_of e) ∙ pick_out (thread_of e) e k true (eq-eqb (thread_of e) (thread_of e) refl)) in
    let same : AreAlike (first.front ++ e ∷ first.back) (e ∷ k) = subst (λ l. AreAlike l (e ∷ k)) first.whole alike in
    let up = brought first.front e first.back (may_pass e k first.front first.back same first.none) in
    let rest = stretched_to k (first.front ++ first.back) (rest_alike e k first.front first.back same first.none) in
    let both = then_by up.0 rest.0 (first.front ++ e ∷ first.back) (e ∷ (first.front ++ first.back)) (e ∷ k) up.1 (behind e rest.0 (first.front ++ first.back) k rest.1) in
    (both.0, subst (λ l. IsStretchedBy both.0 l (e ∷ k)) (sym first.whole) both.1)

-- ---- what is well formed has each event once

return_once : (h : List Event) → IsWellFormed h → (i j : ℕ) (a : OpId) → i < j → IsReturnAt h i a → IsReturnAt h j a → ⊥
return_once h well i j a lt p q =
    let more = counted_return h well i j a lt p in
    let fits = well j (Return a.t a.k q.0) q.1 in
    let few : length (outcomes a.t (take j h)) ≡ a.k = fits.3 in
    omega (arith, more, few)

taken_well : (h : List Event) (j : ℕ) → IsWellFormed h → IsWellFormed (take j h)
taken_well h j well = pop_history (take j h) (drop j h) (subst IsWellFormed (sym (take-append-drop j h)) well)

call_once : (h : List Event) → IsWellFormed h → (i j : ℕ) (a : OpId) → i < j → IsCallAt h i a → IsCallAt h j a → ⊥
call_once h well i j a lt p q =
    let here : IsCallAt (take j h) i a = at_taken h j i (Call a.t a.k) lt p in
    let more = called_at (take j h) i a (taken_well h j well) here in
    let fits = well j (Call a.t a.k) q in
    let few : calls a.t (take j h) ≡ a.k = fits.2 in
    omega (arith, more, few)
  where
    at_taken : (xs : List Event) (n k : ℕ) (x : Event) → k < n → slice_get xs k ≡ Some x → slice_get (take n xs) k ≡ Some x
    at_taken [] n k x less at = absurd (cc)
    at_taken (w ∷ xs) zero k x less at = absurd (omega arith)
    at_taken (w ∷ xs) (suc n) zero x less at = at
    at_taken (w ∷ xs) (suc n) (suc k) x less at = at_taken xs n k x (omega arith) at

is_once : (h : List Event) → IsWellFormed h → (x : Event) → Before h x x → ⊥
is_once h well (Call t k) b = let there = before_at h (Call t k) (Call t k) b in call_once h well there.0 there.1 (record { t = t; k = k }) there.2 there.3 there.4
is_once h well (Return t k o) b = let there = before_at h (Return t k o) (Return t k o) b in return_once h well there.0 there.1 (record { t = t; k = k }) there.2 (o, there.3) (o, there.4)

module _ (h k : List Event) (well : IsWellFormed h) (well_too : IsWellFormed k) (less : HasLessPrecedence h k) where
  keeps_before : (t i : ℕ) (o : Outcome) (u j : ℕ) → Before k (Return t i o) (Call u j) → Before h (Return t i o) (Call u j)
  keeps_before t i o u j b =
      let a : OpId = record { t = t; k = i } in
      let c : OpId = record { t = u; k = j } in
      let there = before_at k (Return t i o) (Call u j) b in
      let in_h : Precedes h a c = less.precedes a c (there.0, there.1, there.2, (o, there.3), there.4) in
      let itself = occurs_at h (Return t i o) (of_occurs t h (Return t i o) (subst (λ l. Occurs l (Return t i o)) (sym (less.threads t)) (occurs_of k (Return t i o) (at_occurs k there.0 (Return t i o) there.3)))) in
      at_before h itself.0 in_h.1 (Return t i o) (Call u j) (earlier a itself.0 in_h.0 in_h.1 in_h.2 (o, itself.1) in_h.3) itself.1 in_h.4
    where
      earlier : (a : OpId) (p q r : ℕ) → q < r → IsReturnAt h p a → IsReturnAt h q a → p < r
      earlier a p q r lt here there =
          elim (cases_lt q p) as (λ _. p < r) [
            | inl less_than ↦ absurd (return_once h well q p a less_than there here)
            | inr le ↦ omega arith
          ]

  ends_stretched : (n : ℕ) × IsStretchedBy n h k
  ends_stretched = stretched_to k h (record { threads = less.threads; keeps = keeps_before; once = is_once h well; once_too = is_once k well_too })

pub less_is_stretched : LessIsStretched
less_is_stretched h k well well_too less = ends_stretched h k well well_too less

pub less_is_shown : LessIsShown
less_is_shown c matrix recorded u k shows well well_too less =
    let stretched = less_is_stretched recorded.history k well well_too less in
    stretched_is_shown c matrix recorded u k stretched.0 shows stretched.1
