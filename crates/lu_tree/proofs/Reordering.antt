-- What is a witness of a history is one of each reordered history.
use Rattle.std.proofs.Common.{◌≡◌, ℕ, zero, suc, ◌+◌, ◌<◌, ◌⊎◌, Bool, true, false, cond, if◌then◌else◌, List, [], ◌∷◌, ◌++◌, Option, None, Some, slice_get, map, length, refl, sym, ◌∙◌, ap, subst, inl, inr, arith, append_assoc}
use Rattle.std.specs.Prelude.{◌==◌, ◌||◌, nat_lt}
use Rattle.std.specs.List.{filter, list_any}
use Rattle.std.proofs.lemmas.Bool.{ne_eqb}
use Rattle.std.proofs.lemmas.Bool.Decides.{eqb_tells}
use Rattle.std.proofs.lemmas.List.{append-nil}
use Rattle.std.proofs.lemmas.Option.{same_Some}
use Rattle.lu_machine.specs.declared.counts.Counts.{Counts}
use Rattle.lu_machine.specs.declared.event.Event.{Event}
use Rattle.lu_machine.specs.declared.event.Event.TheVariants.{Call, Return}
use Rattle.lu_machine.specs.declared.event.Outcome.{Outcome}
use Rattle.lu_machine.specs.States.{State}
use Rattle.lu_machine.specs.Runs.{with_event}
use Rattle.lu_history.specs.declared.operation.OpId.{OpId}
use Rattle.lu_history.specs.declared.serial.SerialOp.{SerialOp}
use Rattle.lu_history.specs.declared.serial.SerialOutcome.{SerialOutcome}
use Rattle.lu_history.specs.declared.serial.SerialOutcome.TheVariants.{Stuck}
use Rattle.lu_history.specs.Histories.{IsCallAt, IsPending, Precedes, calls, outcomes}
use Rattle.lu_history.specs.Parts.{as_serial, is_kept, is_return, keep_pending, part}
use Rattle.lu_history.proofs.Events.{calls-append, outcomes-append}
use Rattle.lu_witness.specs.Goodness.{IsGoodAt}
use Rattle.lu_witness.specs.Witnesses.{HasWitness, IsWitness}
use Rattle.lu_tree.specs.Reordered.{AreExchanged, MayChange, AreReordered, AreReorderedBy, AreUnordered}
use Rattle.lu_tree.specs.Walks.{IsCountAtEnd}

pub reordered_same : (h : List Event) → AreReordered h h
reordered_same h = (zero, refl)

-- with the same after both
by_then : (n : ℕ) (h k x : List Event) → AreReorderedBy n h k → AreReorderedBy n (h ++ x) (k ++ x)
by_then zero h k x same = ap (λ y. y ++ x) same
by_then (suc n) h k x (g, e, rest) = (
  g ++ x,
  record {
    front = e.front;
    back = e.back ++ x;
    first = e.first;
    second = e.second;
    may = e.may;
    before = ap (λ y. y ++ x) e.before ∙ append_assoc e.front (e.first ∷ e.second ∷ e.back) x;
    after = ap (λ y. y ++ x) e.after ∙ append_assoc e.front (e.second ∷ e.first ∷ e.back) x;
  },
  by_then n g k x rest,
)

pub reordered_then : (h k x : List Event) → AreReordered h k → AreReordered (h ++ x) (k ++ x)
reordered_then h k x (n, by) = (n, by_then n h k x by)

-- with the same event in front of both
by_front : (n : ℕ) (z : Event) (h k : List Event) → AreReorderedBy n h k → AreReorderedBy n (z ∷ h) (z ∷ k)
by_front zero z h k same = ap (λ y. z ∷ y) same
by_front (suc n) z h k (g, e, rest) = (
  z ∷ g,
  record {
    front = z ∷ e.front;
    back = e.back;
    first = e.first;
    second = e.second;
    may = e.may;
    before = ap (λ y. z ∷ y) e.before;
    after = ap (λ y. z ∷ y) e.after;
  },
  by_front n z g k rest,
)

pub reordered_after : (z : Event) (h k : List Event) → AreReordered h k → AreReordered (z ∷ h) (z ∷ k)
reordered_after z h k (n, by) = (n, by_front n z h k by)

-- one after the other
by_both : (n : ℕ) (h g k : List Event) → AreReorderedBy n h g → AreReordered g k → AreReordered h k
by_both zero h g k same on = subst (λ x. AreReordered x k) (sym same) on
by_both (suc n) h g k (x, e, rest) on = let all = by_both n x g k rest on in (suc all.0, (x, e, all.1))

pub reordered_both : (h g k : List Event) → AreReordered h g → AreReordered g k → AreReordered h k
reordered_both h g k (n, by) on = by_both n h g k by on

pub exchanged_once : (h k : List Event) → AreExchanged h k → AreReordered h k
exchanged_once h k e = (suc zero, (k, e, refl))

-- what an exchange leaves as it was
module _ (a b : Event) (kind : MayChange a b) where
  outcomes_two : (t : ℕ) (a b : Event) (y : List Event) → MayChange a b → outcomes t (a ∷ b ∷ y) ≡ outcomes t (b ∷ a ∷ y)
  outcomes_two t (Call u i) (Call v j) y differ = refl
  outcomes_two t (Call u i) (Return v j p) y differ = absurd differ
  outcomes_two t (Return u i o) (Call v j) y may = refl
  outcomes_two t (Return u i o) (Return v j p) y differ =
      let rest = outcomes t y in
      let go : (c d : Bool) → (c ≡ true → d ≡ false) → (if c then o ∷ (if d then p ∷ rest else rest) else (if d then p ∷ rest else rest)) ≡ (if d then p ∷ (if c then o ∷ rest else rest) else (if c then o ∷ rest else rest)) = λ c d apart. two c d o p rest apart in
      go (u == t) (v == t) (λ is. elim (eqb_tells u t) [
        | inl same ↦ ne_eqb v t (λ other. differ (same.1 ∙ sym other))
        | inr not ↦ absurd (cc)
      ])
    where
      two : (c d : Bool) (o p : Outcome) (rest : List Outcome) → (c ≡ true → d ≡ false) → (if c then o ∷ (if d then p ∷ rest else rest) else (if d then p ∷ rest else rest)) ≡ (if d then p ∷ (if c then o ∷ rest else rest) else (if c then o ∷ rest else rest))
      two true d o p rest apart = rw (apart refl) refl
      two false d o p rest apart = refl

  calls_two : (t : ℕ) (a b : Event) (y : List Event) → MayChange a b → calls t (a ∷ b ∷ y) ≡ calls t (b ∷ a ∷ y)
  calls_two t (Call u i) (Call v j) y differ = two (u == t) (v == t) (calls t y)
    where
      two : (c d : Bool) (n : ℕ) → (if c then (if d then n + 1 else n) + 1 else (if d then n + 1 else n)) ≡ (if d then (if c then n + 1 else n) + 1 else (if c then n + 1 else n))
      two true true n = refl
      two true false n = refl
      two false true n = refl
      two false false n = refl
  calls_two t (Call u i) (Return v j p) y differ = absurd differ
  calls_two t (Return u i o) (Call v j) y may = refl
  calls_two t (Return u i o) (Return v j p) y differ = refl

  module _ (x y : List Event) where
    part_exchanged : (t : ℕ) → part t (x ++ a ∷ b ∷ y) ≡ part t (x ++ b ∷ a ∷ y)
    part_exchanged t =
        let h = x ++ a ∷ b ∷ y in
        let k = x ++ b ∷ a ∷ y in
        let outs : outcomes t h ≡ outcomes t k = outcomes-append t x (a ∷ b ∷ y) ∙ (ap (λ z. outcomes t x ++ z) (outcomes_two t a b y kind) ∙ sym (outcomes-append t x (b ∷ a ∷ y))) in
        let called : calls t h ≡ calls t k = calls-append t x (a ∷ b ∷ y) ∙ (ap (λ z. calls t x + z) (calls_two t a b y kind) ∙ sym (calls-append t x (b ∷ a ∷ y))) in
        let stuck : List SerialOutcome = Stuck ∷ [] in
        ap (λ z. map as_serial z ++ (if nat_lt (length z) (calls t h) then stuck else [])) outs
        ∙ ap (λ z. map as_serial (outcomes t k) ++ (if nat_lt (length (outcomes t k)) z then stuck else [])) called

-- where the event at place i of the one list stands in the other
abbrev IsMoved : ℕ → Event → Event → ℕ → ℕ → Event → Type 0
IsMoved n a b i j e =
    ((j ≡ i) × ((i < n) ⊎ (n + 1 < i)))
    ⊎ (((i ≡ n) × (j ≡ n + 1) × (b ≡ e)) ⊎ ((i ≡ n + 1) × (j ≡ n) × (a ≡ e)))

moved_on : (n i j : ℕ) (a b e : Event) → IsMoved n a b i j e → IsMoved (suc n) a b (suc i) (suc j) e
moved_on n i j a b e (inl (same, inl before)) = inl (omega arith, inl (omega arith))
moved_on n i j a b e (inl (same, inr behind)) = inl (omega arith, inr (omega arith))
moved_on n i j a b e (inr (inl (at, to, is))) = inr (inl (omega arith, omega arith, is))
moved_on n i j a b e (inr (inr (at, to, is))) = inr (inr (omega arith, omega arith, is))

found : (x y : List Event) (a b : Event) (i : ℕ) (e : Event) → slice_get (x ++ b ∷ a ∷ y) i ≡ Some e → (j : ℕ) × (slice_get (x ++ a ∷ b ∷ y) j ≡ Some e) × IsMoved (length x) a b i j e
found [] y a b zero e at = (suc zero, at, inr (inl (refl, refl, same_Some b e at)))
found [] y a b (suc zero) e at = (zero, at, inr (inr (refl, refl, same_Some a e at)))
found [] y a b (suc (suc i)) e at = (suc (suc i), at, inl (refl, inr (omega arith)))
found (z ∷ x) y a b zero e at = (zero, at, inl (refl, inl (omega arith)))
found (z ∷ x) y a b (suc i) e at =
    let there = found x y a b i e at in
    (suc there.0, there.1, moved_on (length x) i there.0 a b e there.2)

never_both : (a b : Event) (u k : ℕ) (o : Outcome) (v l : ℕ) → MayChange a b → b ≡ Return u k o → a ≡ Call v l → ⊥
never_both a b u k o v l kind returns calls_is = by (subst (λ x. MayChange x b) calls_is kind)
  where
    by : MayChange (Call v l) b → ⊥
    by other = subst (λ x. MayChange (Call v l) x) returns other

in_order : (n : ℕ) (a b : Event) (u k : ℕ) (o : Outcome) (v l i j p q : ℕ) → MayChange a b → i < j → IsMoved n a b i p (Return u k o) → IsMoved n a b j q (Call v l) → p < q
in_order n a b u k o v l i j p q kind lt (inl (one, side)) (inl (two, other)) = omega arith
in_order n a b u k o v l i j p q kind lt (inl (one, inl before)) (inr (inl two)) = omega (arith, two.0, two.1)
in_order n a b u k o v l i j p q kind lt (inl (one, inr behind)) (inr (inl two)) = absurd (omega (arith, two.0))
in_order n a b u k o v l i j p q kind lt (inl (one, inl before)) (inr (inr two)) = omega (arith, two.0, two.1)
in_order n a b u k o v l i j p q kind lt (inl (one, inr behind)) (inr (inr two)) = absurd (omega (arith, two.0))
in_order n a b u k o v l i j p q kind lt (inr (inl one)) (inl (two, inl before)) = absurd (omega (arith, one.0))
in_order n a b u k o v l i j p q kind lt (inr (inl one)) (inl (two, inr behind)) = omega (arith, one.0, one.1)
in_order n a b u k o v l i j p q kind lt (inr (inl one)) (inr (inl two)) = absurd (omega (arith, one.0, two.0))
in_order n a b u k o v l i j p q kind lt (inr (inl one)) (inr (inr two)) = absurd (never_both a b u k o v l kind one.2 two.2)
in_order n a b u k o v l i j p q kind lt (inr (inr one)) (inl (two, inl before)) = absurd (omega (arith, one.0))
in_order n a b u k o v l i j p q kind lt (inr (inr one)) (inl (two, inr behind)) = omega (arith, one.0, one.1)
in_order n a b u k o v l i j p q kind lt (inr (inr one)) (inr (inl two)) = absurd (omega (arith, one.0, two.0))
in_order n a b u k o v l i j p q kind lt (inr (inr one)) (inr (inr two)) = absurd (omega (arith, one.0, two.0))

precedes_back : (x y : List Event) (a b : Event) → MayChange a b → (c d : OpId) → Precedes (x ++ b ∷ a ∷ y) c d → Precedes (x ++ a ∷ b ∷ y) c d
precedes_back x y a b kind c d (i, j, lt, returns, called) =
    let one = found x y a b i (Return c.t c.k returns.0) returns.1 in
    let two = found x y a b j (Call d.t d.k) called in
    (one.0, two.0, in_order (length x) a b c.t c.k returns.0 d.t d.k i j one.0 two.0 kind lt one.2 two.2, (returns.0, one.1), two.1)

-- a witness stays one
witness_exchanged : (q : List SerialOp) (h k : List Event) → AreExchanged h k → IsWitness q h → IsWitness q k
witness_exchanged q h k e w = record {
  parts = λ t. w.parts t ∙ (ap (part t) e.before ∙ (part_exchanged e.first e.second e.may e.front e.back t ∙ ap (part t) (sym e.after)));
  order = λ c d p. w.order c d (subst (λ g. Precedes g c d) (sym e.before) (precedes_back e.front e.back e.first e.second e.may c d (subst (λ g. Precedes g c d) e.after p)));
}

-- the history with one pending call
any_two : (p : Event → Bool) (x y : List Event) (a b : Event) → list_any p (x ++ a ∷ b ∷ y) ≡ list_any p (x ++ b ∷ a ∷ y)
any_two p [] y a b = two (p a) (p b) (list_any p y)
  where
    two : (c d e : Bool) → (c || (d || e)) ≡ (d || (c || e))
    two true true e = refl
    two true false e = refl
    two false true e = refl
    two false false e = refl
any_two p (z ∷ x) y a b = ap (λ c. p z || c) (any_two p x y a b)

filter_same : (p q : Event → Bool) → ((e : Event) → p e ≡ q e) → (l : List Event) → filter p l ≡ filter q l
filter_same p q same [] = refl
filter_same p q same (z ∷ l) = ap (λ c. cond c (z ∷ filter p l) (filter p l)) (same z) ∙ ap (λ r. cond (q z) (z ∷ r) r) (filter_same p q same l)

filter_two : (p : Event → Bool) (x y : List Event) (a b : Event) → MayChange a b → AreReordered (filter p (x ++ a ∷ b ∷ y)) (filter p (x ++ b ∷ a ∷ y))
filter_two p [] y a b kind = two (p a) (p b) (filter p y)
  where
    two : (c d : Bool) (r : List Event) → AreReordered (cond c (a ∷ cond d (b ∷ r) r) (cond d (b ∷ r) r)) (cond d (b ∷ cond c (a ∷ r) r) (cond c (a ∷ r) r))
    two true true r = exchanged_once (a ∷ b ∷ r) (b ∷ a ∷ r) (record { front = []; back = r; first = a; second = b; may = kind; before = refl; after = refl })
    two true false r = reordered_same (a ∷ r)
    two false true r = reordered_same (b ∷ r)
    two false false r = reordered_same r
filter_two p (z ∷ x) y a b kind = on (p z) (filter_two p x y a b kind)
  where
    on : (c : Bool) → AreReordered (filter p (x ++ a ∷ b ∷ y)) (filter p (x ++ b ∷ a ∷ y)) → AreReordered (cond c (z ∷ filter p (x ++ a ∷ b ∷ y)) (filter p (x ++ a ∷ b ∷ y))) (cond c (z ∷ filter p (x ++ b ∷ a ∷ y)) (filter p (x ++ b ∷ a ∷ y)))
    on true rest = (rest.0, by_front rest.0 z (filter p (x ++ a ∷ b ∷ y)) (filter p (x ++ b ∷ a ∷ y)) rest.1)
    on false rest = rest

kept_exchanged : (t : ℕ) (h k : List Event) → AreExchanged h k → AreReordered (keep_pending t h) (keep_pending t k)
kept_exchanged t h k e =
    let one = e.front ++ e.first ∷ e.second ∷ e.back in
    let two = e.front ++ e.second ∷ e.first ∷ e.back in
    let over = filter_two (is_kept t one) e.front e.back e.first e.second e.may in
    let kept : filter (is_kept t one) two ≡ keep_pending t two = filter_same (is_kept t one) (is_kept t two) alike two in
    let there : AreReordered (keep_pending t one) (keep_pending t two) = subst (AreReordered (keep_pending t one)) kept over in
    subst (λ g. AreReordered (keep_pending t g) (keep_pending t k)) (sym e.before) (subst (λ g. AreReordered (keep_pending t one) (keep_pending t g)) (sym e.after) there)
  where
    alike : (z : Event) → is_kept t (e.front ++ e.first ∷ e.second ∷ e.back) z ≡ is_kept t (e.front ++ e.second ∷ e.first ∷ e.back) z
    alike (Call u i) = ap (λ c. (u == t) || c) (any_two (is_return (record { t = u; k = i })) e.front e.back e.first e.second)
    alike (Return u i o) = refl

pending_back : (a : OpId) (h k : List Event) → AreExchanged h k → IsPending k a → IsPending h a
pending_back a h k e ((i, called), none) =
    let there = found e.front e.back e.first e.second i (Call a.t a.k) (subst (λ g. IsCallAt g i a) e.after called) in (
      (there.0, subst (λ g. IsCallAt g there.0 a) (sym e.before) there.1),
      λ j returns.
          (let back = found e.front e.back e.second e.first j (Return a.t a.k returns.0) (subst (λ g. slice_get g j ≡ Some (Return a.t a.k returns.0)) e.before returns.1) in
          none back.0 (returns.0, subst (λ g. slice_get g back.0 ≡ Some (Return a.t a.k returns.0)) (sym e.after) back.1)),
    )

module _ (Set : List SerialOp → Type 0) where
  witness_by : (n : ℕ) (h k : List Event) → AreReorderedBy n h k → HasWitness Set h → HasWitness Set k
  witness_by zero h k same w = subst (HasWitness Set) same w
  witness_by (suc n) h k (g, e, rest) (q, is, w) = witness_by n g k rest (q, is, witness_exchanged q h g e w)

  pub witness_reordered : (h k : List Event) → AreReordered h k → HasWitness Set h → HasWitness Set k
  witness_reordered h k (n, by) w = witness_by n h k by w

  good_by : (n : ℕ) (s : State) (h k : List Event) → AreReorderedBy n h k → IsGoodAt Set s h → IsGoodAt Set s k
  good_by zero s h k same good = subst (IsGoodAt Set s) same good
  good_by (suc n) s h k (g, e, rest) (inl (complete, w)) = good_by n s g k rest (inl (complete, witness_reordered h g (exchanged_once h g e) w))
  good_by (suc n) s h k (g, e, rest) (inr (stuck, each)) =
      good_by n s g k rest (inr (stuck, λ a pending. witness_reordered (keep_pending a.t h) (keep_pending a.t g) (kept_exchanged a.t h g e) (each a (pending_back a h g e pending))))

  -- a schedule that ends so is good with the one history where it is with the other
  pub good_reordered : (s : State) (h k : List Event) → AreReordered h k → IsGoodAt Set s h → IsGoodAt Set s k
  good_reordered s h k (n, by) good = good_by n s h k by good

  pub counted_reordered : (s : State) (h k : List Event) (counts : Counts) → AreReordered h k → IsCountAtEnd Set s h counts → IsCountAtEnd Set s k counts
  counted_reordered s h k counts re (inl cut) = inl cut
  counted_reordered s h k counts re (inr (inl (complete, good, one))) = inr (inl (complete, good_reordered s h k re good, one))
  counted_reordered s h k counts re (inr (inr (stuck, good, one))) = inr (inr (stuck, good_reordered s h k re good, one))

-- two events in the other order, in which they have no more precedence
pub either_order : (h : List Event) (e f : Option Event) → AreUnordered e f → AreReordered ((h ++ with_event e []) ++ with_event f []) ((h ++ with_event f []) ++ with_event e [])
either_order h None f un = (zero, ap (λ x. x ++ with_event f []) (append-nil h) ∙ sym (append-nil (h ++ with_event f [])))
either_order h (Some a) None un = (zero, append-nil (h ++ a ∷ []) ∙ ap (λ x. x ++ a ∷ []) (sym (append-nil h)))
either_order h (Some a) (Some b) un = exchanged_once ((h ++ a ∷ []) ++ b ∷ []) ((h ++ b ∷ []) ++ a ∷ []) (record {
  front = h;
  back = [];
  first = a;
  second = b;
  may = un;
  before = append_assoc h (a ∷ []) (b ∷ []);
  after = append_assoc h (b ∷ []) (a ∷ []);
})
