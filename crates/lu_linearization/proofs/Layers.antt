-- Configurations to which others lead, list by list.
use Rattle.std.proofs.Common.{arith, ◌≡◌, ◌≢◌, ℕ, zero, suc, ◌+◌, ◌<◌, ◌≤◌, List, [], ◌∷◌, ◌++◌, length, take, get_or, Option, Some, None, inl, inr, refl, sym, ap, ◌∙◌, subst}
use Rattle.std.specs.Prelude.{◌↔◌, ◌⊎◌}
use Rattle.std.specs.List.{HoldsAt}
use Rattle.std.proofs.lemmas.Bool.{cases_lt}
use Rattle.std.proofs.lemmas.List.{length_push, take_all, take_more}
use Rattle.lu_history.specs.declared.serial.SerialOp.{SerialOp}
use Rattle.lu_history.specs.declared.serial.SerialOutcome.{SerialOutcome}
use Rattle.lu_linearization.specs.declared.configuration.Configuration.{Configuration as Kept}
use Rattle.lu_linearization.specs.Configurations.{AreSame, Configuration, FirstIsOf, TakesEffect, AllTakeEffect}
use Rattle.lu_linearization.specs.Monitors.{AddsAny, AddsNext, AreClosed, AreNext, Holds, IsNextOf, Joins, ThreadTakesEffect, SomeTakesEffect, configuration_of, by_thread}
use Rattle.lu_linearization.proofs.Held.{holds_append, joins_start}

-- ---- the same configuration

pub same_itself : (b : Configuration ℕ) → AreSame b b
same_itself b = record { state = refl; effects = λ t. refl }

pub same_back : (b c : Configuration ℕ) → AreSame b c → AreSame c b
same_back b c is = record { state = sym is.state; effects = λ t. sym (is.effects t) }

pub same_on : (b c d : Configuration ℕ) → AreSame b c → AreSame c d → AreSame b d
same_on b c d is on = record { state = is.state ∙ on.state; effects = λ t. is.effects t ∙ on.effects t }

pub holds_same : (xs : List Kept) (c d : Configuration ℕ) → AreSame c d → Holds xs c → Holds xs d
holds_same [] c d same = λ held. held
holds_same (x ∷ xs) c d same = elim [ inl here ↦ inl (same_on (configuration_of x) c d here same) | inr there ↦ inr (holds_same xs c d same there) ]

-- ---- lists, one more at a time

-- what leads from one leads from the same
abbrev pub Respects : (Configuration ℕ → Configuration ℕ → Type 0) → Type 0
Respects R = (b d c : Configuration ℕ) → AreSame b d → R b c → R d c

module _ (R : Configuration ℕ → Configuration ℕ → Type 0) where
  pub adds_one : (from : Kept) (old new : List Kept) (to : Option Kept) → IsNextOf R from to → AddsAny old new to → AddsNext R from old new
  adds_one from old new to next adds c = (
    (λ held. elim ((adds c).0 held) [ inl before ↦ inl before | inr it ↦ inr ((next c).0 it) ]),
    elim [ inl before ↦ (adds c).1 (inl before) | inr leads ↦ (adds c).1 (inr ((next c).1 leads)) ],
  )

  pub next_start : AreNext R [] []
  next_start c = ((λ none. absurd none), (λ (b, none, leads). absurd none))

  pub next_more : Respects R → (from to new : List Kept) (i : ℕ) (one : Kept) → AreNext R (take i from) to → i < length from → HoldsAt (λ y. y ≡ one) from i → AddsNext R one to new → AreNext R (take (i + 1) from) new
  next_more respects from to new i one so_far lt at adds c =
      let whole : take (i + 1) from ≡ take i from ++ one ∷ [] = take_more from i one lt ∙ ap (λ x. take i from ++ x ∷ []) (at one) in
      let back : (b : Configuration ℕ) → Holds (take i from) b ⊎ Holds (one ∷ []) b → Holds (take (i + 1) from) b =
      λ b either. subst (λ xs. Holds xs b) (sym whole) ((holds_append (take i from) (one ∷ []) b).1 either) in (
        (λ held. elim ((adds c).0 held) [
          | inl before ↦ (let old = (so_far c).0 before in (old.0, back old.0 (inl old.1), old.2))
          | inr leads ↦ (configuration_of one, back (configuration_of one) (inr (inl (same_itself (configuration_of one)))), leads)
        ]),
        (λ (b, among, leads). elim ((holds_append (take i from) (one ∷ []) b).0 (subst (λ xs. Holds xs b) whole among)) [
          | inl front ↦ (adds c).1 (inl ((so_far c).1 (b, front, leads)))
          | inr (inl here) ↦ (adds c).1 (inr (respects b (configuration_of one) c (same_back (configuration_of one) b here) leads))
          | inr (inr none) ↦ absurd none
        ]),
      )

  pub next_end : (from to : List Kept) (i : ℕ) → length from ≤ i → AreNext R (take i from) to → AreNext R from to
  next_end from to i le so_far = subst (λ xs. AreNext R xs to) (take_all i from le) so_far

-- ---- how many threads' operations do not stand

one_if_none : Option SerialOutcome → ℕ
one_if_none None = 1
one_if_none (Some o) = 0

at_most_one : (o : Option SerialOutcome) → one_if_none o ≤ 1
unfolding one_if_none
at_most_one None = omega arith
at_most_one (Some o) = omega arith

-- of the threads below n
absent_below : ℕ → (ℕ → Option SerialOutcome) → ℕ
absent_below zero s = 0
absent_below (suc n) s = absent_below n s + one_if_none (s n)

most_absent : (n : ℕ) (s : ℕ → Option SerialOutcome) → absent_below n s ≤ n
unfolding absent_below
most_absent zero s = omega arith
most_absent (suc n) s = let rest = most_absent n s in let one = at_most_one (s n) in omega (arith, rest, one)

same_absent : (n : ℕ) (s z : ℕ → Option SerialOutcome) → ((t : ℕ) → t < n → z t ≡ s t) → absent_below n z ≡ absent_below n s
unfolding absent_below
same_absent zero s z same = refl
same_absent (suc n) s z same =
    let rest = same_absent n s z (λ t lt. same t (omega (arith, lt))) in
    let one = ap one_if_none (same n (omega arith)) in
    omega (arith, rest, one)

-- one less where one takes effect
fewer_absent : (n t : ℕ) (o : SerialOutcome) (s z : ℕ → Option SerialOutcome) → t < n → s t ≡ None → z t ≡ Some o → ((u : ℕ) → u ≢ t → z u ≡ s u) → absent_below n s ≡ absent_below n z + 1
unfolding absent_below one_if_none
fewer_absent zero t o s z lt none some same = absurd (omega (arith, lt))
fewer_absent (suc n) t o s z lt none some same = elim (cases_lt t n) as (λ _. absent_below n s + one_if_none (s n) ≡ absent_below n z + one_if_none (z n) + 1) [
  | inl below ↦
      (let rest = fewer_absent n t o s z below none some same in
      let one = ap one_if_none (same n (λ is. omega (arith, is, below))) in
      omega (arith, rest, one))
  | inr last ↦
      (let is : n ≡ t = omega (arith, lt, last) in
      let rest = same_absent n s z (λ u less. same u (λ e. omega (arith, e, less, is))) in
      let before : one_if_none (s n) ≡ 1 = ap (λ x. one_if_none (s x)) is ∙ ap one_if_none none in
      let after : one_if_none (z n) ≡ 0 = ap (λ x. one_if_none (z x)) is ∙ ap one_if_none some in
      omega (arith, rest, before, after))
]

-- ---- operations that take effect

-- no other threads than eight wait
abbrev pub AreFew : {C : Type 0} → (ℕ → Option C) → Type 0
AreFew pending_calls = (t : ℕ) → 8 ≤ t → pending_calls t ≡ None

module _ {C : Type 0} (Next : ℕ → C → SerialOutcome → ℕ → Type 0) (pending_calls : ℕ → Option C) where
  puts_from_same : (op : SerialOp) (b d c : Configuration ℕ) → AreSame b d → TakesEffect Next pending_calls op b c → TakesEffect Next pending_calls op d c
  puts_from_same op b d c same take_effect = record {
    call = take_effect.call;
    is_pending = take_effect.is_pending;
    absent = sym (same.effects op.thread) ∙ take_effect.absent;
    leads = subst (λ x. Next x take_effect.call op.outcome c.state) same.state take_effect.leads;
    effects = take_effect.effects;
    others = λ t other. take_effect.others t other ∙ same.effects t;
  }

  puts_to_same : (op : SerialOp) (b c d : Configuration ℕ) → AreSame c d → TakesEffect Next pending_calls op b c → TakesEffect Next pending_calls op b d
  puts_to_same op b c d same take_effect = record {
    call = take_effect.call;
    is_pending = take_effect.is_pending;
    absent = take_effect.absent;
    leads = subst (λ x. Next b.state take_effect.call op.outcome x) same.state take_effect.leads;
    effects = sym (same.effects op.thread) ∙ take_effect.effects;
    others = λ t other. sym (same.effects t) ∙ take_effect.others t other;
  }

  pub one_respects : Respects (SomeTakesEffect Next pending_calls)
  one_respects b d c same (op, take_effect) = (op, puts_from_same op b d c same take_effect)

  pub of_respects : (t : ℕ) → Respects (ThreadTakesEffect Next pending_calls t)
  of_respects t b d c same (op, thread, take_effect) = (op, thread, puts_from_same op b d c same take_effect)

  -- ---- thread by thread

  -- those of the list, and those to which the calls of the threads below n lead
  abbrev pub AddsBelow : ℕ → Kept → List Kept → List Kept → Type 0
  AddsBelow n from old new = (c : Configuration ℕ) → Holds new c ↔ (Holds old c ⊎ ((op : SerialOp) × (op.thread < n) × TakesEffect Next pending_calls op (configuration_of from) c))

  pub below_start : (from : Kept) (old : List Kept) → AddsBelow 0 from old old
  below_start from old c = ((λ held. inl held), elim [ inl held ↦ held | inr (op, none, take_effect) ↦ absurd (omega (arith, none)) ])

  pub below_next : (n : ℕ) (from : Kept) (old all new : List Kept) (to : Option Kept) → IsNextOf (ThreadTakesEffect Next pending_calls n) from to → AddsAny all new to → AddsBelow n from old all → AddsBelow (n + 1) from old new
  below_next n from old all new to next adds so_far c = (
    (λ held. elim ((adds c).0 held) [
      | inl before ↦ elim ((so_far c).0 before) [ inl first ↦ inl first | inr (op, lt, take_effect) ↦ inr (op, omega (arith, lt), take_effect) ]
      | inr it ↦ (let leads = (next c).0 it in inr (leads.0, (let same = leads.1 in omega (arith, same)), leads.2))
    ]),
    elim [
      | inl first ↦ (adds c).1 (inl ((so_far c).1 (inl first)))
      | inr (op, lt, take_effect) ↦ elim (cases_lt op.thread n) [
        | inl below ↦ (adds c).1 (inl ((so_far c).1 (inr (op, below, take_effect))))
        | inr above ↦ (adds c).1 (inr ((next c).1 (op, omega (arith, lt, above), take_effect)))
      ]
    ],
  )

  few_wait : AreFew pending_calls → (op : SerialOp) (b c : Configuration ℕ) → TakesEffect Next pending_calls op b c → op.thread < 8
  few_wait few op b c take_effect = elim (cases_lt op.thread 8) as (λ _. op.thread < 8) [
    | inl lt ↦ lt
    | inr past ↦ (let none = few op.thread past in let some = take_effect.is_pending in absurd (cc))
  ]

  pub below_end : AreFew pending_calls → (n : ℕ) (from : Kept) (old new : List Kept) → 8 ≤ n → AddsBelow n from old new → AddsNext (SomeTakesEffect Next pending_calls) from old new
  below_end few n from old new all so_far c = (
    (λ held. elim ((so_far c).0 held) [ inl first ↦ inl first | inr (op, lt, take_effect) ↦ inr (op, take_effect) ]),
    elim [
      | inl first ↦ (so_far c).1 (inl first)
      | inr (op, take_effect) ↦ (so_far c).1 (inr (op, (let lt = few_wait few op (configuration_of from) c take_effect in omega (arith, lt, all)), take_effect))
    ],
  )

  -- ---- layer by layer

  puts_push : (r : List SerialOp) (op : SerialOp) (b d c : Configuration ℕ) → AllTakeEffect Next pending_calls r b d → TakesEffect Next pending_calls op d c → AllTakeEffect Next pending_calls (r ++ op ∷ []) b c
  puts_push [] op b d c same take_effect = (c, puts_from_same op d b c (same_back b d same) take_effect, same_itself c)
  puts_push (o ∷ r) op b d c (e, first, rest) take_effect = (e, first, puts_push r op e d c rest take_effect)

  puts_pop : (r : List SerialOp) (op : SerialOp) (b c : Configuration ℕ) → AllTakeEffect Next pending_calls (r ++ op ∷ []) b c → (d : Configuration ℕ) × AllTakeEffect Next pending_calls r b d × TakesEffect Next pending_calls op d c
  puts_pop [] op b c (d, take_effect, same) = (b, same_itself b, puts_to_same op b d c same take_effect)
  puts_pop (o ∷ r) op b c (e, first, rest) = let back = puts_pop r op e c rest in (back.0, (e, first, back.1), back.2)

  popped : (r : List SerialOp) (n : ℕ) → length r ≡ n + 1 → (p : List SerialOp) × (op : SerialOp) × (r ≡ p ++ op ∷ [])
  popped [] n is = absurd (omega (arith, is))
  popped (op ∷ []) n is = ([], op, refl)
  popped (op ∷ o ∷ r) n is = let rest = popped (o ∷ r) (length r) (omega arith) in (op ∷ rest.0, rest.1, ap (λ x. op ∷ x) rest.2)

  first_push : (t : ℕ) (r : List SerialOp) (op : SerialOp) → 1 ≤ length r → FirstIsOf t r → FirstIsOf t (r ++ op ∷ [])
  first_push t [] op some first = absurd (omega (arith, some))
  first_push t (o ∷ r) op some first = first

  first_pop : (t : ℕ) (r : List SerialOp) (op : SerialOp) → FirstIsOf t (r ++ op ∷ []) → FirstIsOf t r
  first_pop t [] op first = tt
  first_pop t (o ∷ r) op first = first

  most_puts : AreFew pending_calls → (r : List SerialOp) (b c : Configuration ℕ) → AllTakeEffect Next pending_calls r b c → length r ≤ absent_below 8 b.effects
  most_puts few [] b c same = omega arith
  most_puts few (op ∷ r) b c (d, take_effect, rest) =
      let less = fewer_absent 8 op.thread op.outcome b.effects d.effects (few_wait few op b d take_effect) take_effect.absent take_effect.effects take_effect.others in
      let most = most_puts few r d c rest in
      omega (arith, less, most)

  few_puts : AreFew pending_calls → (r : List SerialOp) (b c : Configuration ℕ) → AllTakeEffect Next pending_calls r b c → length r ≤ 8
  few_puts few r b c puts =
      let most = most_puts few r b c puts in
      let all = most_absent 8 b.effects in
      omega (arith, most, all)

  module _ (t : ℕ) (from : List Kept) where
    -- those to which n calls lead, the first of them of thread t
    abbrev pub IsLayer : ℕ → List Kept → Type 0
    IsLayer n to = (c : Configuration ℕ) → Holds to c ↔ ((b : Configuration ℕ) × (r : List SerialOp) × Holds from b × FirstIsOf t r × (length r ≡ n) × AllTakeEffect Next pending_calls r b c)

    -- or not more
    abbrev pub AreUpTo : ℕ → List Kept → Type 0
    AreUpTo n to = (c : Configuration ℕ) → Holds to c ↔ ((b : Configuration ℕ) × (r : List SerialOp) × Holds from b × FirstIsOf t r × (length r ≤ n) × AllTakeEffect Next pending_calls r b c)

    pub layer_first : (to : List Kept) → AreNext (ThreadTakesEffect Next pending_calls t) from to → IsLayer 1 to
    layer_first to next c = (
      (λ held. let is = (next c).0 held in (is.0, is.2.0 ∷ [], is.1, is.2.1, refl, (c, is.2.2, same_itself c))),
      (λ (b, r, held, first, one, puts). (next c).1 (b, held, only b r first one puts)),
    )
      where
        only : (b : Configuration ℕ) (r : List SerialOp) → FirstIsOf t r → length r ≡ 1 → AllTakeEffect Next pending_calls r b c → ThreadTakesEffect Next pending_calls t b c
        only b [] first one puts = absurd (omega (arith, one))
        only b (op ∷ []) first one (d, take_effect, same) = (op, first, puts_to_same op b d c same take_effect)
        only b (op ∷ o ∷ r) first one puts = absurd (omega (arith, one))

    pub layer_next : (n : ℕ) (to new : List Kept) → 1 ≤ n → IsLayer n to → AreNext (SomeTakesEffect Next pending_calls) to new → IsLayer (n + 1) new
    layer_next n to new some layer next c = (
      (λ held.
          let last = (next c).0 held in
          let before = (layer last.0).0 last.1 in
          let op : SerialOp = last.2.0 in
          let r : List SerialOp = before.1 in
          let many = before.4 in (
            before.0,
            r ++ op ∷ [],
            before.2,
            first_push t r op (omega (arith, some, many)) before.3,
            length_push r op ∙ ap (λ x. x + 1) many,
            puts_push r op before.0 last.0 c before.5 last.2.1,
          )),
      (λ (b, r, held, first, many, puts).
          let split = popped r n many in
          let p : List SerialOp = split.0 in
          let op : SerialOp = split.1 in
          let long = ap length (sym split.2) ∙ many in
          let pushed = length_push p op in
          let back = puts_pop p op b c (subst (λ x. AllTakeEffect Next pending_calls x b c) split.2 puts) in
          (next c).1 (back.0, (layer back.0).1 (b, p, held, first_pop t p op (subst (FirstIsOf t) split.2 first), omega (arith, long, pushed), back.1), (op, back.2))),
    )

    pub up_to_first : (old all layer : List Kept) → old ≡ from → Joins old all layer → IsLayer 1 layer → AreUpTo 1 all
    up_to_first old all layer is joins first c = (
      (λ held. elim ((joins c).0 held) [
        | inl before ↦ (c, [], subst (λ xs. Holds xs c) is before, tt, omega arith, same_itself c)
        | inr among ↦ (let one = (first c).0 among in (one.0, one.1, one.2, one.3, (let many = one.4 in omega (arith, many)), one.5))
      ]),
      (λ (b, r, held, begins, many, puts). (joins c).1 (either b r held begins many puts)),
    )
      where
        either : (b : Configuration ℕ) (r : List SerialOp) → Holds from b → FirstIsOf t r → length r ≤ 1 → AllTakeEffect Next pending_calls r b c → Holds old c ⊎ Holds layer c
        either b [] held begins many same = inl (subst (λ xs. Holds xs c) (sym is) (holds_same from b c same held))
        either b (op ∷ r) held begins many puts = inr ((first c).1 (b, op ∷ r, held, begins, omega (arith, many), puts))

    pub up_to_next : (n : ℕ) (all new layer : List Kept) → AreUpTo n all → Joins all new layer → IsLayer (n + 1) layer → AreUpTo (n + 1) new
    up_to_next n all new layer so_far joins more c = (
      (λ held. elim ((joins c).0 held) [
        | inl before ↦ (let one = (so_far c).0 before in (one.0, one.1, one.2, one.3, (let many = one.4 in omega (arith, many)), one.5))
        | inr among ↦ (let one = (more c).0 among in (one.0, one.1, one.2, one.3, (let many = one.4 in omega (arith, many)), one.5))
      ]),
      (λ (b, r, held, begins, many, puts). elim (cases_lt n (length r)) as (λ _. Holds new c) [
        | inl last ↦ (joins c).1 (inr ((more c).1 (b, r, held, begins, omega (arith, last, many), puts)))
        | inr few ↦ (joins c).1 (inl ((so_far c).1 (b, r, held, begins, few, puts)))
      ]),
    )

    -- no more operations take effect than threads have pending calls
    pub closed_end : AreFew pending_calls → (n : ℕ) (all : List Kept) → 8 ≤ n → AreUpTo n all → AreClosed Next pending_calls t from all
    closed_end few n all enough so_far c = (
      (λ held. let one = (so_far c).0 held in (one.0, one.1, one.2, one.3, one.5)),
      (λ (b, r, held, begins, puts). (so_far c).1 (b, r, held, begins, (let most = few_puts few r b c puts in omega (arith, most, enough)), puts)),
    )

    -- after an empty layer come empty ones
    up_to_more : (n m : ℕ) (all : List Kept) → 1 ≤ n → IsLayer n [] → AreUpTo n all → IsLayer (n + m) [] × AreUpTo (n + m) all
    up_to_more n zero all some none so_far =
        let same : n + 0 ≡ n = omega arith in
        (subst (λ x. IsLayer x []) (sym same) none, subst (λ x. AreUpTo x all) (sym same) so_far)
    up_to_more n (suc m) all some none so_far =
        let before = up_to_more n m all some none so_far in
        let one : n + suc m ≡ n + m + 1 = omega arith in
        let more : IsLayer (n + m + 1) [] = layer_next (n + m) [] [] (omega (arith, some)) before.0 (next_start (SomeTakesEffect Next pending_calls)) in (
          subst (λ x. IsLayer x []) (sym one) more,
          subst (λ x. AreUpTo x all) (sym one) (up_to_next (n + m) all all [] before.1 (joins_start all) more),
        )

    pub closed_early : AreFew pending_calls → (n : ℕ) (layer all : List Kept) → 1 ≤ n → length layer ≡ 0 → IsLayer n layer → AreUpTo n all → AreClosed Next pending_calls t from all
    closed_early few n layer all some none last so_far =
        let empty : layer ≡ [] = nothing layer none in
        closed_end few (n + 8) all (omega arith) (up_to_more n 8 all some (subst (IsLayer n) empty last) so_far).1
      where
        nothing : (xs : List Kept) → length xs ≡ 0 → xs ≡ []
        nothing [] is = refl
        nothing (x ∷ xs) is = absurd (omega (arith, is))

past : {A : Type 0} (xs : List A) (i : ℕ) (d : A) → length xs ≤ i → get_or xs i d ≡ d
past [] i d le = refl
past (x ∷ xs) zero d le = absurd (omega (arith, le))
past (x ∷ xs) (suc i) d le = past xs i d (omega (arith, le))

pub few_pending : {C : Type 0} (pending_calls : List (Option C)) → length pending_calls ≡ 8 → AreFew (by_thread pending_calls)
few_pending pending_calls long t le = past pending_calls t None (omega (arith, long, le))
