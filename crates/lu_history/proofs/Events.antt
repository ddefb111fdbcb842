-- What a history says, one event on, and at its positions.
use Rattle.std.proofs.Common.{◌≡◌, ℕ, zero, suc, ◌+◌, ◌<◌, ◌≤◌, Bool, true, false, List, [], ◌∷◌, ◌++◌, length, get_or, take, drop, Some, slice_get, if◌then◌else◌, ◌⊎◌, inl, inr, refl, sym, ap, ◌∙◌, subst, arith}
use Rattle.std.specs.Prelude.{◌==◌, nat_lt, ◌↔◌}
use Rattle.std.proofs.lemmas.Bool.{eq-eqb, cases_lt, ltb-true, lt-ltb}
use Rattle.std.proofs.lemmas.Bool.Decides.{eqb_tells}
use Rattle.std.proofs.lemmas.Option.{slice_get_within, slice_get_cases}
use Rattle.std.proofs.lemmas.List.{take-append-le, take_at, take-take, take-append-drop, take_all, append-nil, length_push, length-append}
use Rattle.lu_machine.specs.declared.event.Event.{Event}
use Rattle.lu_machine.specs.declared.event.Event.TheVariants.{Call, Return}
use Rattle.lu_machine.specs.declared.event.Outcome.{Outcome}
use Rattle.lu_history.specs.declared.operation.OpId.{OpId}
use Rattle.lu_history.specs.Histories.{calls, outcomes, Fits, IsWellFormed, IsCallAt, IsReturnAt, Precedes, AreBefore}

pub same_number : (t : ℕ) → (t == t) ≡ true
same_number t = eq-eqb t t refl

if_step : {X : Type 0} (b : Bool) (x y : X) (f : X → X) → f (if b then x else y) ≡ (if b then f x else f y)
if_step true x y f = refl
if_step false x y f = refl

pub calls-append : (t : ℕ) (h g : List Event) → calls t (h ++ g) ≡ calls t h + calls t g
calls-append t [] g = omega arith
calls-append t (Call u k ∷ h) g =
    let go : (b : Bool) → (if b then calls t (h ++ g) + 1 else calls t (h ++ g)) ≡ (if b then calls t h + 1 else calls t h) + calls t g = elim [ true ↦ omega (arith, calls-append t h g) | false ↦ calls-append t h g ] in
    go (u == t)
calls-append t (Return u k o ∷ h) g = calls-append t h g

pub outcomes-append : (t : ℕ) (h g : List Event) → outcomes t (h ++ g) ≡ outcomes t h ++ outcomes t g
outcomes-append t [] g = refl
outcomes-append t (Call u k ∷ h) g = outcomes-append t h g
outcomes-append t (Return u k o ∷ h) g =
    let go : (b : Bool) → (if b then o ∷ outcomes t (h ++ g) else outcomes t (h ++ g)) ≡ (if b then o ∷ outcomes t h else outcomes t h) ++ outcomes t g = elim [ true ↦ ap (λ x. o ∷ x) (outcomes-append t h g) | false ↦ outcomes-append t h g ] in
    go (u == t)

pub at_push : {X : Type 0} (h : List X) (e x : X) (i : ℕ) → slice_get (h ++ e ∷ []) i ≡ Some x → ((i < length h) × (slice_get h i ≡ Some x)) ⊎ ((i ≡ length h) × (x ≡ e))
at_push [] e x zero is = inr (refl, cc)
at_push [] e x (suc i) is = cc
at_push (y ∷ h) e x zero is = inl (omega arith, is)
at_push (y ∷ h) e x (suc i) is = elim (at_push h e x i is) as (λ _. ((suc i < length (y ∷ h)) × (slice_get h i ≡ Some x)) ⊎ ((suc i ≡ length (y ∷ h)) × (x ≡ e))) [ inl b ↦ inl (omega arith, b.1) | inr b ↦ inr (omega arith, b.1) ]

pub kept_at : {X : Type 0} (h g : List X) (x : X) (i : ℕ) → slice_get h i ≡ Some x → slice_get (h ++ g) i ≡ Some x
kept_at [] g x i is = cc
kept_at (y ∷ h) g x zero is = is
kept_at (y ∷ h) g x (suc i) is = kept_at h g x i is

pub last_at : {X : Type 0} (h g : List X) (x : X) → slice_get (h ++ x ∷ g) (length h) ≡ Some x
last_at [] g x = refl
last_at (y ∷ h) g x = last_at h g x

pub split_at : {X : Type 0} (h : List X) (x : X) (i : ℕ) → slice_get h i ≡ Some x → h ≡ take i h ++ x ∷ drop (suc i) h
split_at [] x i is = cc
split_at (y ∷ h) x zero is = let e : y ≡ x = cc in ap (λ z. z ∷ h) e
split_at (y ∷ h) x (suc i) is = ap (λ z. y ∷ z) (split_at h x i is)

-- the entries before position i, in a list with more after them
pub take_within : {X : Type 0} (h g : List X) (x : X) (i : ℕ) → slice_get h i ≡ Some x → take i (h ++ g) ≡ take i h
take_within h g x i is = let lt = slice_get_within h i x is in take-append-le i h g (omega arith)

pub push_history : (h : List Event) (e : Event) → IsWellFormed h → Fits h e → IsWellFormed (h ++ e ∷ [])
push_history h e is fits i x at = elim (at_push h e x i at) as (λ _. Fits (take i (h ++ e ∷ [])) x) [
  | inl b ↦ subst (λ g. Fits g x) (sym (take_within h (e ∷ []) x i b.1)) (is i x b.1)
  | inr b ↦ subst (λ y. Fits (take i (h ++ e ∷ [])) y) (sym b.1) (subst (λ g. Fits g e) (sym (take_at h (e ∷ []) i (sym b.0))) fits)
]

pub pop_history : (h g : List Event) → IsWellFormed (h ++ g) → IsWellFormed h
pop_history h g is i x at = subst (λ y. Fits y x) (take_within h g x i at) (is i x (kept_at h g x i at))

pub pop_fits : (h g : List Event) (e : Event) → IsWellFormed (h ++ e ∷ g) → Fits h e
pop_fits h g e is = subst (λ y. Fits y e) (take_at h (e ∷ g) (length h) refl) (is (length h) e (last_at h g e))

pub calls_call : (t k : ℕ) (g : List Event) → calls t (Call t k ∷ g) ≡ calls t g + 1
calls_call t k g = ap (λ b. if b then calls t g + 1 else calls t g) (same_number t)

pub outcomes_return : (t k : ℕ) (o : Outcome) (g : List Event) → outcomes t (Return t k o ∷ g) ≡ o ∷ outcomes t g
outcomes_return t k o g = ap (λ b. if b then o ∷ outcomes t g else outcomes t g) (same_number t)

-- the number of calls, split at a call
pub called_at : (h : List Event) (j : ℕ) (b : OpId) → IsWellFormed h → IsCallAt h j b → b.k < calls b.t h
called_at h j b is at =
    let fits = is j (Call b.t b.k) at in
    let whole : calls b.t h ≡ calls b.t (take j h) + calls b.t (Call b.t b.k ∷ drop (suc j) h) = ap (calls b.t) (split_at h (Call b.t b.k) j at) ∙ calls-append b.t (take j h) (Call b.t b.k ∷ drop (suc j) h) in
    omega (arith, fits.2, whole, calls_call b.t b.k (drop (suc j) h))

pub take_next : {X : Type 0} (h : List X) (x : X) (i : ℕ) → slice_get h i ≡ Some x → take (suc i) h ≡ take i h ++ x ∷ []
take_next [] x i is = cc
take_next (y ∷ h) x zero is = let e : y ≡ x = cc in ap (λ z. z ∷ []) e
take_next (y ∷ h) x (suc i) is = ap (λ z. y ∷ z) (take_next h x i is)

-- what holds of the empty list and is kept by each next element holds of each beginning
pub each_beginning : {X : Type 0} (P : List X → Type 0) (h : List X) → P [] → ((i : ℕ) (x : X) → slice_get h i ≡ Some x → P (take i h) → P (take i h ++ x ∷ [])) → (i : ℕ) → P (take i h)
each_beginning P h none more zero = none
each_beginning P h none more (suc i) = elim (slice_get_cases h i).1 as (λ _. P (take (suc i) h)) [
  | inl b ↦ subst P (sym (take_next h b.0 i b.2)) (more i b.0 b.2 (each_beginning P h none more i))
  | inr b ↦ subst P (take_all i h b.0 ∙ sym (take_all (suc i) h (omega (arith, b.0)))) (each_beginning P h none more i)
]

-- a thread has returned from all its calls but the last, or from all
pub record IsInTurn (t : ℕ) (h : List Event) : Type 0 where
  pub returned : length (outcomes t h) ≤ calls t h
  pub open_one : calls t h ≤ length (outcomes t h) + 1
  pub few : calls t h ≤ 8
  pub none : 8 ≤ t → calls t h ≡ 0

turn_push : (t : ℕ) (h : List Event) (e : Event) → IsInTurn t h → Fits h e → IsInTurn t (h ++ e ∷ [])
turn_push t h (Call u k) turn fits = elim (eqb_tells u t) as (λ _. IsInTurn t (h ++ Call u k ∷ [])) [
  | inl b ↦
      let c : calls t (h ++ Call u k ∷ []) ≡ calls t h + 1 = calls-append t h (Call u k ∷ []) ∙ ap (λ x. calls t h + (if x then 0 + 1 else 0)) b.0 in
      let o : length (outcomes t (h ++ Call u k ∷ [])) ≡ length (outcomes t h) = ap length (outcomes-append t h (Call u k ∷ []) ∙ append-nil (outcomes t h)) in
      let m : calls t h ≡ k = ap (λ x. calls x h) (sym b.1) ∙ fits.2 in
      let n : length (outcomes t h) ≡ k = ap (λ x. length (outcomes x h)) (sym b.1) ∙ fits.3 in
      record { returned = omega (arith, turn.returned); open_one = omega arith; few = omega (arith, fits.1); none = λ le. absurd (omega (arith, fits.0, b.1)) }
  | inr b ↦
      let c : calls t (h ++ Call u k ∷ []) ≡ calls t h + 0 = calls-append t h (Call u k ∷ []) ∙ ap (λ x. calls t h + (if x then 0 + 1 else 0)) b.0 in
      let o : length (outcomes t (h ++ Call u k ∷ [])) ≡ length (outcomes t h) = ap length (outcomes-append t h (Call u k ∷ []) ∙ append-nil (outcomes t h)) in
      record { returned = omega (arith, turn.returned); open_one = omega (arith, turn.open_one); few = omega (arith, turn.few); none = λ le. omega (arith, turn.none le) }
]
turn_push t h (Return u k w) turn fits = elim (eqb_tells u t) as (λ _. IsInTurn t (h ++ Return u k w ∷ [])) [
  | inl b ↦
      let c : calls t (h ++ Return u k w ∷ []) ≡ calls t h + 0 = calls-append t h (Return u k w ∷ []) in
      let o : length (outcomes t (h ++ Return u k w ∷ [])) ≡ length (outcomes t h) + 1 = ap length (outcomes-append t h (Return u k w ∷ []) ∙ ap (λ x. outcomes t h ++ (if x then w ∷ [] else [])) b.0) ∙ length_push (outcomes t h) w in
      let m : calls t h ≡ k + 1 = ap (λ x. calls x h) (sym b.1) ∙ fits.2 in
      let n : length (outcomes t h) ≡ k = ap (λ x. length (outcomes x h)) (sym b.1) ∙ fits.3 in
      record { returned = omega arith; open_one = omega arith; few = omega (arith, turn.few); none = λ le. absurd (omega (arith, fits.0, b.1)) }
  | inr b ↦
      let c : calls t (h ++ Return u k w ∷ []) ≡ calls t h + 0 = calls-append t h (Return u k w ∷ []) in
      let o : length (outcomes t (h ++ Return u k w ∷ [])) ≡ length (outcomes t h) = ap length (outcomes-append t h (Return u k w ∷ []) ∙ ap (λ x. outcomes t h ++ (if x then w ∷ [] else [])) b.0 ∙ append-nil (outcomes t h)) in
      record { returned = omega (arith, turn.returned); open_one = omega (arith, turn.open_one); few = omega (arith, turn.few); none = λ le. omega (arith, turn.none le) }
]

pub in_turn : (h : List Event) → IsWellFormed h → (t : ℕ) → IsInTurn t h
in_turn h is t = subst (IsInTurn t) (take_all (length h) h (omega arith)) (each_beginning (IsInTurn t) h (record { returned = omega arith; open_one = omega arith; few = omega arith; none = λ le. refl }) (λ i x at turn. turn_push t (take i h) x turn (is i x at)) (length h))

-- as many returns as there are operations returned
abbrev HaveReturns : List Event → Type 0
HaveReturns h = (a : OpId) → a.k < length (outcomes a.t h) → (i : ℕ) × IsReturnAt h i a

returns_push : (h : List Event) (e : Event) → Fits h e → HaveReturns h → HaveReturns (h ++ e ∷ [])
returns_push h (Call u k) fits have a lt =
    let old = have a (subst (λ os. a.k < length os) (outcomes-append a.t h (Call u k ∷ []) ∙ append-nil (outcomes a.t h)) lt) in
    (old.0, (old.1.0, kept_at h (Call u k ∷ []) (Return a.t a.k old.1.0) old.0 old.1.1))
returns_push h (Return u k w) fits have a lt = elim (cases_lt a.k (length (outcomes a.t h))) as (λ _. (i : ℕ) × IsReturnAt (h ++ Return u k w ∷ []) i a) [
  | inl before ↦ let old = have a before in (old.0, (old.1.0, kept_at h (Return u k w ∷ []) (Return a.t a.k old.1.0) old.0 old.1.1))
  | inr past ↦ elim (eqb_tells u a.t) as (λ _. (i : ℕ) × IsReturnAt (h ++ Return u k w ∷ []) i a) [
    | inl b ↦
        let o : length (outcomes a.t (h ++ Return u k w ∷ [])) ≡ length (outcomes a.t h) + 1 = ap length (outcomes-append a.t h (Return u k w ∷ []) ∙ ap (λ x. outcomes a.t h ++ (if x then w ∷ [] else [])) b.0) ∙ length_push (outcomes a.t h) w in
        let n : length (outcomes a.t h) ≡ k = ap (λ x. length (outcomes x h)) (sym b.1) ∙ fits.3 in
        let same : k ≡ a.k = omega arith in
        (length h, (w, last_at h [] (Return u k w) ∙ ap (λ x. Some (Return x k w)) b.1 ∙ ap (λ x. Some (Return a.t x w)) same))
    | inr b ↦
        let o : length (outcomes a.t (h ++ Return u k w ∷ [])) ≡ length (outcomes a.t h) = ap length (outcomes-append a.t h (Return u k w ∷ []) ∙ ap (λ x. outcomes a.t h ++ (if x then w ∷ [] else [])) b.0 ∙ append-nil (outcomes a.t h)) in
        absurd (omega arith)
  ]
]

have_returns : (h : List Event) → IsWellFormed h → (j : ℕ) → HaveReturns (take j h)
have_returns h is = each_beginning HaveReturns h (λ a lt. absurd (omega arith)) (λ i x at have. returns_push (take i h) x (is i x at) have)

pub at_take : {X : Type 0} (h : List X) (x : X) (i j : ℕ) → slice_get (take j h) i ≡ Some x → (i < j) × (slice_get h i ≡ Some x)
at_take h x i zero is = cc
at_take [] x i (suc j) is = cc
at_take (y ∷ h) x zero (suc j) is = (omega arith, is)
at_take (y ∷ h) x (suc i) (suc j) is = let below = at_take h x i j is in (omega arith, below.1)

-- what has returned before position j has a return there
pub return_before : (h : List Event) → IsWellFormed h → (j : ℕ) (a : OpId) → a.k < length (outcomes a.t (take j h)) → (i : ℕ) × (i < j) × IsReturnAt h i a
return_before h is j a lt =
    let found = have_returns h is j a lt in
    let below = at_take h (Return a.t a.k found.1.0) found.0 j found.1.1 in
    (found.0, below.0, (found.1.0, below.1))

-- no fewer outcomes later on
pub outcomes_grow : (t : ℕ) (h : List Event) (i j : ℕ) → i ≤ j → length (outcomes t (take i h)) ≤ length (outcomes t (take j h))
outcomes_grow t h i j le =
    let whole : length (outcomes t (take j h)) ≡ length (outcomes t (take i h)) + length (outcomes t (drop i (take j h))) =
    ap (λ x. length (outcomes t x)) (sym (take-append-drop i (take j h))) ∙ ap length (outcomes-append t (take i (take j h)) (drop i (take j h))) ∙ length-append (outcomes t (take i (take j h))) (outcomes t (drop i (take j h)))
    ∙ ap (λ x. length (outcomes t x) + length (outcomes t (drop i (take j h)))) (take-take i j h le) in
    omega arith

-- a return before position j counts there
pub counted_return : (h : List Event) → IsWellFormed h → (i j : ℕ) (a : OpId) → i < j → IsReturnAt h i a → a.k < length (outcomes a.t (take j h))
counted_return h is i j a lt at =
    let fits = is i (Return a.t a.k at.0) at.1 in
    let here : length (outcomes a.t (take (suc i) h)) ≡ length (outcomes a.t (take i h)) + 1 =
    ap (λ x. length (outcomes a.t x)) (take_next h (Return a.t a.k at.0) i at.1)
    ∙ ap length (outcomes-append a.t (take i h) (Return a.t a.k at.0 ∷ []) ∙ ap (λ x. outcomes a.t (take i h) ++ x) (outcomes_return a.t a.k at.0 []))
    ∙ length_push (outcomes a.t (take i h)) at.0 in
    omega (arith, fits.3, here, outcomes_grow a.t h (suc i) j (omega arith))

-- a precedes b where it has returned at b's call
pub precedes_at : (h : List Event) → IsWellFormed h → (a b : OpId) (j : ℕ) → IsCallAt h j b → a.k < length (outcomes a.t (take j h)) → Precedes h a b
precedes_at h is a b j at lt = let found = return_before h is j a lt in (found.0, j, found.1, found.2, at)

abbrev HaveCalls : List Event → Type 0
HaveCalls h = (b : OpId) → b.k < calls b.t h → (j : ℕ) × IsCallAt h j b

calls_push : (h : List Event) (e : Event) → Fits h e → HaveCalls h → HaveCalls (h ++ e ∷ [])
calls_push h (Return u k w) fits have b lt =
    let same : calls b.t (h ++ Return u k w ∷ []) ≡ calls b.t h + 0 = calls-append b.t h (Return u k w ∷ []) in
    let old = have b (omega arith) in
    (old.0, kept_at h (Return u k w ∷ []) (Call b.t b.k) old.0 old.1)
calls_push h (Call u k) fits have b lt = elim (cases_lt b.k (calls b.t h)) as (λ _. (j : ℕ) × IsCallAt (h ++ Call u k ∷ []) j b) [
  | inl before ↦ let old = have b before in (old.0, kept_at h (Call u k ∷ []) (Call b.t b.k) old.0 old.1)
  | inr past ↦ elim (eqb_tells u b.t) as (λ _. (j : ℕ) × IsCallAt (h ++ Call u k ∷ []) j b) [
    | inl is ↦
        let c : calls b.t (h ++ Call u k ∷ []) ≡ calls b.t h + 1 = calls-append b.t h (Call u k ∷ []) ∙ ap (λ x. calls b.t h + (if x then 0 + 1 else 0)) is.0 in
        let n : calls b.t h ≡ k = ap (λ x. calls x h) (sym is.1) ∙ fits.2 in
        let same : k ≡ b.k = omega arith in
        (length h, last_at h [] (Call u k) ∙ ap (λ x. Some (Call x k)) is.1 ∙ ap (λ x. Some (Call b.t x)) same)
    | inr is ↦
        let c : calls b.t (h ++ Call u k ∷ []) ≡ calls b.t h + 0 = calls-append b.t h (Call u k ∷ []) ∙ ap (λ x. calls b.t h + (if x then 0 + 1 else 0)) is.0 in
        absurd (omega arith)
  ]
]

-- an operation whose number is below that of its thread's calls is called
pub call_of : (h : List Event) → IsWellFormed h → (b : OpId) → b.k < calls b.t h → (j : ℕ) × IsCallAt h j b
call_of h is = subst HaveCalls (take_all (length h) h (omega arith)) (each_beginning HaveCalls h (λ b lt. absurd (omega arith)) (λ i x at have. calls_push (take i h) x (is i x at) have) (length h))

-- a comparison of numbers tells whether a precedes b
pub precedes_tells : (h : List Event) → IsWellFormed h → (a b : OpId) (counts : List ℕ) (n : ℕ) → AreBefore h b counts → b.k < calls b.t h → n ≡ get_or counts a.t 0 → (nat_lt a.k n ≡ true) ↔ Precedes h a b
precedes_tells h is a b counts n are lt same =
    let call = call_of h is b lt in (
      λ t. precedes_at h is a b call.0 call.1 (omega (arith, ltb-true a.k n t, are call.0 a.t call.1)),
      λ p. lt-ltb a.k n (omega (arith, counted_return h is p.0 p.1 a p.2 p.3, are p.1 a.t p.4)),
    )

pub precedes_none : (h : List Event) → IsWellFormed h → (a b : OpId) (n : ℕ) → n ≡ calls b.t h → n ≤ b.k → (nat_lt b.k n ≡ true) ↔ Precedes h a b
precedes_none h is a b n same past = (λ t. absurd (omega (arith, ltb-true b.k n t)), λ p. absurd (omega (arith, called_at h p.1 b is p.4)))
