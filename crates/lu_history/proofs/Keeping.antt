-- What a history keeps is kept by one event more, and by one less.
use Rattle.std.proofs.Common.{◌≡◌, ◌≢◌, ℕ, ◌+◌, ◌-◌, ◌*◌, ◌<◌, ◌≤◌, Bool, true, false, List, [], ◌∷◌, ◌++◌, length, get_or, set, take, drop, if◌then◌else◌, inl, inr, refl, sym, ap, ◌∙◌, subst, arith}
use Rattle.std.specs.Prelude.{◌==◌}
use Rattle.std.proofs.lemmas.Bool.{cases_lt}
use Rattle.std.proofs.lemmas.Bool.Decides.{eqb_tells}
use Rattle.std.proofs.lemmas.List.{take_at, take-take, take-set-le, take_more_set, drop-set-add, drop-set-lt, length-drop, length-append, append-nil, length_push, get_or-set_same, get_or-set_other}
use Rattle.lu_machine.specs.declared.event.Event.{Event}
use Rattle.lu_machine.specs.declared.event.Event.TheVariants.{Call, Return}
use Rattle.lu_machine.specs.declared.event.Outcome.{Outcome}
use Rattle.lu_history.specs.declared.operation.OpId.{OpId}
use Rattle.lu_history.specs.Histories.{calls, outcomes, Fits, IsCallAt, AreBefore}
use Rattle.lu_history.specs.Tables.{AreTables}
use Rattle.lu_history.proofs.Events.{calls-append, outcomes-append, push_history, pop_history, called_at, in_turn, at_push, kept_at, last_at, take_within, calls_call, outcomes_return}

pub bumped : (c : List ℕ) (t u : ℕ) → t < length c → get_or (set c t (get_or c t 0 + 1)) u 0 ≡ get_or c u 0 + (if t == u then 1 else 0)
bumped c t u lt = elim (eqb_tells t u) as (λ _. get_or (set c t (get_or c t 0 + 1)) u 0 ≡ get_or c u 0 + (if t == u then 1 else 0)) [
  | inl b ↦
      ap (λ x. get_or (set c t (get_or c t 0 + 1)) x 0) (sym b.1) ∙ get_or-set_same c t (get_or c t 0 + 1) 0 lt
      ∙ ap (λ x. get_or c x 0 + 1) b.1 ∙ sym (ap (λ x. get_or c u 0 + (if x then 1 else 0)) b.0)
  | inr b ↦
      let e : get_or c u 0 ≡ get_or c u 0 + 0 = omega arith in
      get_or-set_other c t u (get_or c t 0 + 1) 0 (λ x. b.1 (sym x)) ∙ e ∙ sym (ap (λ x. get_or c u 0 + (if x then 1 else 0)) b.0)
]

lowered : (c : List ℕ) (t u : ℕ) → t < length c → 1 ≤ get_or c t 0 → get_or (set c t (get_or c t 0 - 1)) u 0 + (if t == u then 1 else 0) ≡ get_or c u 0
lowered c t u lt some = elim (eqb_tells t u) as (λ _. get_or (set c t (get_or c t 0 - 1)) u 0 + (if t == u then 1 else 0) ≡ get_or c u 0) [
  | inl b ↦
      let e : get_or c t 0 - 1 + 1 ≡ get_or c t 0 = omega arith in
      ap (λ x. get_or (set c t (get_or c t 0 - 1)) u 0 + (if x then 1 else 0)) b.0
      ∙ ap (λ x. get_or (set c t (get_or c t 0 - 1)) x 0 + 1) (sym b.1)
      ∙ ap (λ x. x + 1) (get_or-set_same c t (get_or c t 0 - 1) 0 lt)
      ∙ e ∙ ap (λ x. get_or c x 0) b.1
  | inr b ↦
      let e : get_or c u 0 + 0 ≡ get_or c u 0 = omega arith in
      ap (λ x. get_or (set c t (get_or c t 0 - 1)) u 0 + (if x then 1 else 0)) b.0
      ∙ ap (λ x. x + 0) (get_or-set_other c t u (get_or c t 0 - 1) 0 (λ x. b.1 (sym x))) ∙ e
]

shorter : {X : Type 0} (xs a b : List X) → take (length (a ++ b)) xs ≡ a ++ b → take (length a) xs ≡ a
shorter xs a b is =
    sym (take-take (length a) (length (a ++ b)) xs (omega (arith, length-append a b)))
    ∙ ap (take (length a)) is ∙ take_at a b (length a) refl

pub calls_more : (u t k : ℕ) (h : List Event) → calls u (h ++ Call t k ∷ []) ≡ calls u h + (if t == u then 1 else 0)
calls_more u t k h =
    let go : (b : Bool) → calls u h + (if b then 0 + 1 else 0) ≡ calls u h + (if b then 1 else 0) = elim [ true ↦ refl | false ↦ refl ] in
    calls-append u h (Call t k ∷ []) ∙ go (t == u)

pub calls_same : (u t k : ℕ) (o : Outcome) (h : List Event) → calls u (h ++ Return t k o ∷ []) ≡ calls u h
calls_same u t k o h = let e = calls-append u h (Return t k o ∷ []) in omega arith

pub outcomes_same : (u t k : ℕ) (h : List Event) → outcomes u (h ++ Call t k ∷ []) ≡ outcomes u h
outcomes_same u t k h = outcomes-append u h (Call t k ∷ []) ∙ append-nil (outcomes u h)

pub outcomes_more : (u t k : ℕ) (o : Outcome) (h : List Event) → length (outcomes u (h ++ Return t k o ∷ [])) ≡ length (outcomes u h) + (if t == u then 1 else 0)
outcomes_more u t k o h =
    let go : (b : Bool) → length (outcomes u h ++ (if b then o ∷ [] else [])) ≡ length (outcomes u h) + (if b then 1 else 0) = elim [ true ↦ length_push (outcomes u h) o | false ↦ let e : length (outcomes u h) ≡ length (outcomes u h) + 0 = omega arith in ap length (append-nil (outcomes u h)) ∙ e ] in
    ap length (outcomes-append u h (Return t k o ∷ [])) ∙ go (t == u)

-- before a call that was there already
before_more : (h : List Event) (e : Event) (b : OpId) (c : List ℕ) → AreBefore h b c → ((j : ℕ) → IsCallAt (h ++ e ∷ []) j b → (j < length h) × IsCallAt h j b) → AreBefore (h ++ e ∷ []) b c
before_more h e b c are old j u at =
    let there = old j at in
    are j u there.1 ∙ ap (λ g. length (outcomes u g)) (sym (take_within h (e ∷ []) (Call b.t b.k) j there.1))

before_less : (h : List Event) (e : Event) (b : OpId) (c : List ℕ) → AreBefore (h ++ e ∷ []) b c → AreBefore h b c
before_less h e b c are j u at =
    are j u (kept_at h (e ∷ []) (Call b.t b.k) j at) ∙ ap (λ g. length (outcomes u g)) (take_within h (e ∷ []) (Call b.t b.k) j at)

module _ (h : List Event) (called returned : List ℕ) (kept : List Outcome) (before : List (List ℕ)) (is : AreTables h called returned kept before) where
  pub kept_call : (t k : ℕ) → t < length called → t * 8 + k < length before → Fits h (Call t k) → AreTables (h ++ Call t k ∷ []) (set called t (get_or called t 0 + 1)) returned kept (set before (t * 8 + k) returned)
  kept_call t k lt room fits = record {
    well_formed = push_history h (Call t k) is.well_formed fits;
    called_are = λ u. bumped called t u lt ∙ ap (λ x. x + (if t == u then 1 else 0)) (is.called_are u) ∙ sym (calls_more u t k h);
    returned_are = λ u. is.returned_are u ∙ ap length (sym (outcomes_same u t k h));
    outcomes_are = λ u. subst (λ os. take (length os) (drop (u * 8) kept) ≡ os) (sym (outcomes_same u t k h)) (is.outcomes_are u);
    before_are = λ b j u at. elim (at_push h (Call t k) (Call b.t b.k) j at) as (λ _. get_or (get_or (set before (t * 8 + k) returned) (b.t * 8 + b.k) []) u 0 ≡ length (outcomes u (take j (h ++ Call t k ∷ [])))) [
      | inl old ↦
          let was = is.well_formed j (Call b.t b.k) old.1 in
          let made = called_at h j b is.well_formed old.1 in
          let apart : b.t * 8 + b.k ≢ t * 8 + k = λ e.
          let same : b.t ≡ t = omega (arith, was.1, fits.1) in
          let number : calls b.t h ≡ k = ap (λ x. calls x h) same ∙ fits.2 in
          omega arith in
          ap (λ x. get_or x u 0) (get_or-set_other before (t * 8 + k) (b.t * 8 + b.k) returned [] apart)
          ∙ is.before_are b j u old.1
          ∙ ap (λ g. length (outcomes u g)) (sym (take_within h (Call t k ∷ []) (Call b.t b.k) j old.1))
      | inr new ↦
          let thread : b.t ≡ t = cc in
          let number : b.k ≡ k = cc in
          let place : b.t * 8 + b.k ≡ t * 8 + k = omega arith in
          ap (λ x. get_or (get_or (set before (t * 8 + k) returned) x []) u 0) place
          ∙ ap (λ x. get_or x u 0) (get_or-set_same before (t * 8 + k) returned [] room)
          ∙ is.returned_are u
          ∙ ap (λ g. length (outcomes u g)) (sym (take_at h (Call t k ∷ []) j (sym new.0)))
    ];
  }

  other_places : (t k u m : ℕ) (o : Outcome) → t ≢ u → k < 8 → m ≤ 8 → take m (drop (u * 8) (set kept (t * 8 + k) o)) ≡ take m (drop (u * 8) kept)
  other_places t k u m o apart lt le = elim (cases_lt (t * 8 + k) (u * 8)) as (λ _. take m (drop (u * 8) (set kept (t * 8 + k) o)) ≡ take m (drop (u * 8) kept)) [
    | inl below ↦ ap (take m) (drop-set-lt (u * 8) kept (t * 8 + k) o below)
    | inr above ↦
        let i : ℕ = t * 8 + k - u * 8 in
        let place : t * 8 + k ≡ u * 8 + i = omega arith in
        let far : u < t = omega arith in
        ap (λ x. take m (drop (u * 8) (set kept x o))) place
        ∙ ap (take m) (drop-set-add (u * 8) kept i o)
        ∙ take-set-le m (drop (u * 8) kept) i o (omega arith)
  ]

  pub kept_return : (t k : ℕ) (o : Outcome) → t < length returned → t * 8 + k < length kept → Fits h (Return t k o) → AreTables (h ++ Return t k o ∷ []) called (set returned t (get_or returned t 0 + 1)) (set kept (t * 8 + k) o) before
  kept_return t k o lt room fits = record {
    well_formed = push_history h (Return t k o) is.well_formed fits;
    called_are = λ u. is.called_are u ∙ sym (calls_same u t k o h);
    returned_are = λ u. bumped returned t u lt ∙ ap (λ x. x + (if t == u then 1 else 0)) (is.returned_are u) ∙ sym (outcomes_more u t k o h);
    outcomes_are = λ u. elim (eqb_tells t u) as (λ _. take (length (outcomes u (h ++ Return t k o ∷ []))) (drop (u * 8) (set kept (t * 8 + k) o)) ≡ outcomes u (h ++ Return t k o ∷ [])) [
      | inl b ↦
          let now : outcomes u (h ++ Return t k o ∷ []) ≡ outcomes u h ++ o ∷ [] = outcomes-append u h (Return t k o ∷ []) ∙ ap (λ x. outcomes u h ++ (if x then o ∷ [] else [])) b.0 in
          let number : k ≡ length (outcomes u h) = sym fits.3 ∙ ap (λ x. length (outcomes x h)) b.1 in
          let long : length (outcomes u h ++ o ∷ []) ≡ k + 1 = length_push (outcomes u h) o ∙ ap (λ x. x + 1) (sym number) in
          let place : t * 8 + k ≡ u * 8 + k = ap (λ x. x * 8 + k) b.1 in
          subst (λ os. take (length os) (drop (u * 8) (set kept (t * 8 + k) o)) ≡ os) (sym now) (
          ap (λ x. take x (drop (u * 8) (set kept (t * 8 + k) o))) long
          ∙ ap (λ x. take (k + 1) (drop (u * 8) (set kept x o))) place
          ∙ ap (take (k + 1)) (drop-set-add (u * 8) kept k o)
          ∙ take_more_set (drop (u * 8) kept) k o (omega (arith, length-drop (u * 8) kept, place))
          ∙ ap (λ x. take x (drop (u * 8) kept) ++ o ∷ []) number
          ∙ ap (λ x. x ++ o ∷ []) (is.outcomes_are u))
      | inr b ↦
          let now : outcomes u (h ++ Return t k o ∷ []) ≡ outcomes u h = outcomes-append u h (Return t k o ∷ []) ∙ ap (λ x. outcomes u h ++ (if x then o ∷ [] else [])) b.0 ∙ append-nil (outcomes u h) in
          let turn = in_turn h is.well_formed u in
          let turn_here = in_turn h is.well_formed t in
          subst (λ os. take (length os) (drop (u * 8) (set kept (t * 8 + k) o)) ≡ os) (sym now) (
          other_places t k u (length (outcomes u h)) o b.1 (omega (arith, turn_here.few, fits.1)) (omega (arith, turn.returned, turn.few)) ∙ is.outcomes_are u)
    ];
    before_are = λ b. before_more h (Return t k o) b (get_or before (b.t * 8 + b.k) []) (is.before_are b) (λ j at. elim (at_push h (Return t k o) (Call b.t b.k) j at) as (λ _. (j < length h) × IsCallAt h j b) [ inl old ↦ old | inr new ↦ cc ]);
  }

module _ (h : List Event) (called returned : List ℕ) (kept : List Outcome) (before : List (List ℕ)) where
  pub dropped_call : (t k : ℕ) → t < length called → AreTables (h ++ Call t k ∷ []) called returned kept before → AreTables h (set called t (get_or called t 0 - 1)) returned kept before
  dropped_call t k lt is = record {
    well_formed = pop_history h (Call t k ∷ []) is.well_formed;
    called_are = λ u.
        let some : 1 ≤ get_or called t 0 = omega (arith, is.called_are t, calls_more t t k h, called_at (h ++ Call t k ∷ []) (length h) (record { t = t; k = k }) is.well_formed (last_at h [] (Call t k))) in
        let a = lowered called t u lt some in
        let b = is.called_are u ∙ calls_more u t k h in
        omega arith;
    returned_are = λ u. is.returned_are u ∙ ap length (outcomes_same u t k h);
    outcomes_are = λ u. subst (λ os. take (length os) (drop (u * 8) kept) ≡ os) (outcomes_same u t k h) (is.outcomes_are u);
    before_are = λ b. before_less h (Call t k) b (get_or before (b.t * 8 + b.k) []) (is.before_are b);
  }

  pub dropped_return : (t k : ℕ) (o : Outcome) → t < length returned → 1 ≤ get_or returned t 0 → AreTables (h ++ Return t k o ∷ []) called returned kept before → AreTables h called (set returned t (get_or returned t 0 - 1)) kept before
  dropped_return t k o lt some is = record {
    well_formed = pop_history h (Return t k o ∷ []) is.well_formed;
    called_are = λ u. is.called_are u ∙ calls_same u t k o h;
    returned_are = λ u.
        let a = lowered returned t u lt some in
        let b = is.returned_are u ∙ outcomes_more u t k o h in
        omega arith;
    outcomes_are = λ u. shorter (drop (u * 8) kept) (outcomes u h) (outcomes u (Return t k o ∷ [])) (subst (λ os. take (length os) (drop (u * 8) kept) ≡ os) (outcomes-append u h (Return t k o ∷ [])) (is.outcomes_are u));
    before_are = λ b. before_less h (Return t k o) b (get_or before (b.t * 8 + b.k) []) (is.before_are b);
  }

pub calls_some : (h : List Event) (t k : ℕ) → 1 ≤ calls t (h ++ Call t k ∷ [])
calls_some h t k = omega (arith, calls-append t h (Call t k ∷ []), calls_call t k [])

pub returns_some : (h : List Event) (t k : ℕ) (o : Outcome) → 1 ≤ length (outcomes t (h ++ Return t k o ∷ []))
returns_some h t k o =
    let e : length (outcomes t (h ++ Return t k o ∷ [])) ≡ length (outcomes t h) + 1 = ap length (outcomes-append t h (Return t k o ∷ []) ∙ ap (λ x. outcomes t h ++ x) (outcomes_return t k o [])) ∙ length_push (outcomes t h) o in
    omega arith
