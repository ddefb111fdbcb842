-- A history without some pending calls is one.
use Rattle.std.proofs.Common.{◌≡◌, ◌≢◌, ℕ, zero, suc, ◌+◌, ◌<◌, ◌≤◌, Bool, true, false, cond, List, [], ◌∷◌, length, take, drop, Some, slice_get, if◌then◌else◌, inl, inr, refl, sym, ap, ◌∙◌, subst, arith}
use Rattle.std.specs.Prelude.{◌==◌, ◌&&◌, ◌||◌, nat_lt, ◌↔◌}
use Rattle.std.specs.List.{filter}
use Rattle.std.proofs.lemmas.Bool.{eq-eqb, lt-ltb, ne_eqb, cases_lt}
use Rattle.std.proofs.lemmas.Bool.Decides.{eqb_tells}
use Rattle.std.proofs.lemmas.Option.{slice_get_within}
use Rattle.std.proofs.lemmas.List.{take_all, take-append-drop}
use Rattle.lu_machine.specs.declared.event.Event.{Event}
use Rattle.lu_machine.specs.declared.event.Event.TheVariants.{Call, Return}
use Rattle.lu_history.specs.declared.operation.OpId.{OpId}
use Rattle.lu_history.specs.Histories.{calls, outcomes, Fits, IsWellFormed, IsCallAt, IsReturnAt, IsPending, thread_of}
use Rattle.lu_history.specs.Parts.{is_kept, has_return}
use Rattle.lu_history.proofs.Events.{pop_history, called_at, outcomes_grow, counted_return, return_before}
use Rattle.lu_history.proofs.PartEntries.{ltb_false}

-- an operation that is found to return has its return somewhere
returned_at : (h : List Event) (a : OpId) → has_return h a ≡ true → (i : ℕ) × IsReturnAt h i a
returned_at [] a e = cc
returned_at (Call u k ∷ h) a e = let found = returned_at h a e in (suc found.0, found.1)
returned_at (Return u k o ∷ h) a e =
    let later : has_return h a ≡ true → (i : ℕ) × IsReturnAt (Return u k o ∷ h) i a = λ rest. (let found = returned_at h a rest in (suc found.0, found.1)) in
    elim (eqb_tells u a.t) as (λ _. (i : ℕ) × IsReturnAt (Return u k o ∷ h) i a) [
      | inl thread ↦ elim (eqb_tells k a.k) as (λ _. (i : ℕ) × IsReturnAt (Return u k o ∷ h) i a) [
        | inl number ↦ (0, (o, ap (λ x. Some (Return x k o)) thread.1 ∙ ap (λ x. Some (Return a.t x o)) number.1))
        | inr other ↦ later (sym (ap (λ b. ((u == a.t) && b) || has_return h a) other.0 ∙ ap (λ b. (b && false) || has_return h a) thread.0) ∙ e)
      ]
      | inr other ↦ later (sym (ap (λ b. (b && (k == a.k)) || has_return h a) other.0) ∙ e)
    ]

either_way : (b c : Bool) → c ≡ true → (b || c) ≡ true
either_way true c e = refl
either_way false c e = e

return_found : (h : List Event) (i : ℕ) (a : OpId) → IsReturnAt h i a → has_return h a ≡ true
return_found [] i a at = let e = at.1 in absurd (cc)
return_found (Call u k ∷ h) zero a at = let e = at.1 in absurd (cc)
return_found (Call u k ∷ h) (suc i) a at = return_found h i a at
return_found (Return u k o ∷ h) zero a at =
    let e = at.1 in
    let thread : u ≡ a.t = cc in
    let number : k ≡ a.k = cc in
    ap (λ b. (b && (k == a.k)) || has_return h a) (eq-eqb u a.t thread) ∙ ap (λ b. b || has_return h a) (eq-eqb k a.k number)
return_found (Return u k o ∷ h) (suc i) a at = either_way ((u == a.t) && (k == a.k)) (has_return h a) (return_found h i a at)

-- an operation returns exactly where its number is below that of its thread's outcomes
pub has_return_count : (h : List Event) → IsWellFormed h → (a : OpId) → has_return h a ≡ nat_lt a.k (length (outcomes a.t h))
has_return_count h is a =
    let whole : take (length h) h ≡ h = take_all (length h) h (omega arith) in
    elim (cases_lt a.k (length (outcomes a.t h))) as (λ _. has_return h a ≡ nat_lt a.k (length (outcomes a.t h))) [
      | inl lt ↦
          let back = return_before h is (length h) a (subst (λ g. a.k < length (outcomes a.t g)) (sym whole) lt) in
          return_found h back.0 a back.2 ∙ sym (lt-ltb a.k (length (outcomes a.t h)) lt)
      | inr le ↦
          let never : (b : Bool) → has_return h a ≡ b → b ≡ false = elim [
            | true ↦ λ e.
                let back = returned_at h a e in
                let counted : a.k < length (outcomes a.t h) = subst (λ g. a.k < length (outcomes a.t g)) whole (counted_return h is back.0 (length h) a (slice_get_within h back.0 (Return a.t a.k back.1.0) back.1.1) back.1) in
                absurd (omega arith)
            | false ↦ λ e. refl
          ] in
          never (has_return h a) refl ∙ sym (ltb_false a.k (length (outcomes a.t h)) le)
    ]

-- whether a call is kept, by its thread's number of outcomes
pub is_kept_count : (t : ℕ) (h : List Event) → IsWellFormed h → (u k : ℕ) → is_kept t h (Call u k) ≡ ((u == t) || nat_lt k (length (outcomes u h)))
is_kept_count t h is u k = ap (λ b. (u == t) || b) (has_return_count h is (record { t = u; k = k }))

pub calls_kept : (p : Event → Bool) (u : ℕ) (g : List Event) → ((j k : ℕ) → slice_get g j ≡ Some (Call u k) → p (Call u k) ≡ true) → calls u (filter p g) ≡ calls u g
calls_kept p u [] all = refl
calls_kept p u (Call v k ∷ g) all =
    let rest = calls_kept p u g (λ j i. all (suc j) i) in
    elim (eqb_tells v u) as (λ _. calls u (filter p (Call v k ∷ g)) ≡ calls u (Call v k ∷ g)) [
      | inl is ↦
          ap (λ b. calls u (cond b (Call v k ∷ filter p g) (filter p g))) (ap (λ x. p (Call x k)) is.1 ∙ all 0 k (ap (λ x. Some (Call x k)) is.1))
          ∙ ap (λ x. if v == u then x + 1 else x) rest
      | inr is ↦
          let go : (b : Bool) → calls u (cond b (Call v k ∷ filter p g) (filter p g)) ≡ calls u (Call v k ∷ g) = elim [
            | true ↦ ap (λ x. if v == u then x + 1 else x) rest
            | false ↦ rest ∙ sym (ap (λ b. if b then calls u g + 1 else calls u g) is.0)
          ] in
          go (p (Call v k))
    ]
calls_kept p u (Return v k o ∷ g) all =
    let rest = calls_kept p u g (λ j i. all (suc j) i) in
    let go : (b : Bool) → calls u (cond b (Return v k o ∷ filter p g) (filter p g)) ≡ calls u g = elim [ true ↦ rest | false ↦ rest ] in
    go (p (Return v k o))

module _ (t : ℕ) (h : List Event) where
  pub outcomes_kept : (u : ℕ) (g : List Event) → outcomes u (filter (is_kept t h) g) ≡ outcomes u g
  outcomes_kept u [] = refl
  outcomes_kept u (Call v k ∷ g) =
      let rest = outcomes_kept u g in
      let go : (b : Bool) → outcomes u (cond b (Call v k ∷ filter (is_kept t h) g) (filter (is_kept t h) g)) ≡ outcomes u g = elim [ true ↦ rest | false ↦ rest ] in
      go (is_kept t h (Call v k))
  outcomes_kept u (Return v k o ∷ g) = ap (λ x. if v == u then o ∷ x else x) (outcomes_kept u g)

  module _ (is : IsWellFormed h) where
    keeps_call : (u k : ℕ) → k < length (outcomes u h) → is_kept t h (Call u k) ≡ true
    keeps_call u k lt = is_kept_count t h is u k ∙ either_way (u == t) (nat_lt k (length (outcomes u h))) (lt-ltb k (length (outcomes u h)) lt)

    before_history : (i : ℕ) → IsWellFormed (take i h)
    before_history i = pop_history (take i h) (drop i h) (subst IsWellFormed (sym (take-append-drop i h)) is)

    -- calls of a thread that have all returned are kept
    all_kept : (u i : ℕ) → calls u (take i h) ≤ length (outcomes u h) → calls u (filter (is_kept t h) (take i h)) ≡ calls u (take i h)
    all_kept u i le = calls_kept (is_kept t h) u (take i h) (λ j k at.
        keeps_call u k (let lt = called_at (take i h) j (record { t = u; k = k }) (before_history i) at in omega (arith, lt)))

    pub filtered_fits : (i : ℕ) (e : Event) → slice_get h i ≡ Some e → Fits (filter (is_kept t h) (take i h)) e
    filtered_fits i (Call u k) at =
        let fits = is i (Call u k) at in
        let within = slice_get_within h i (Call u k) at in
        let grown : length (outcomes u (take i h)) ≤ length (outcomes u h) = subst (λ g. length (outcomes u (take i h)) ≤ length (outcomes u g)) (take_all (length h) h (omega arith)) (outcomes_grow u h i (length h) (omega arith)) in
        (fits.0, fits.1, all_kept u i (omega (arith, fits.2, fits.3)) ∙ fits.2, ap length (outcomes_kept u (take i h)) ∙ fits.3)
    filtered_fits i (Return u k o) at =
        let fits = is i (Return u k o) at in
        let within = slice_get_within h i (Return u k o) at in
        let returned : k < length (outcomes u h) = subst (λ g. k < length (outcomes u g)) (take_all (length h) h (omega arith)) (counted_return h is i (length h) (record { t = u; k = k }) within (o, at)) in
        (fits.0, fits.1, all_kept u i (omega (arith, fits.2)) ∙ fits.2, ap length (outcomes_kept u (take i h)) ∙ fits.3)

    pub few_threads : (i : ℕ) (e : Event) → slice_get h i ≡ Some e → thread_of e < 8
    few_threads i (Call u k) at = (is i (Call u k) at).0
    few_threads i (Return u k o) at = (is i (Return u k o) at).0

-- a call is left out where it is pending and another thread's
pub left_out : (t : ℕ) (h : List Event) → IsWellFormed h → (i : ℕ) (a : OpId) → IsCallAt h i a → (is_kept t h (Call a.t a.k) ≡ false) ↔ ((a.t ≢ t) × IsPending h a)
left_out t h is i a at =
    let whole : take (length h) h ≡ h = take_all (length h) h (omega arith) in
    let count = is_kept_count t h is a.t a.k in (
      λ e. elim (eqb_tells a.t t) as (λ _. (a.t ≢ t) × IsPending h a) [
        | inl own ↦ let kept : is_kept t h (Call a.t a.k) ≡ true = ap (λ b. b || has_return h a) own.0 in cc
        | inr other ↦
            let never : has_return h a ≡ false = sym (ap (λ b. b || has_return h a) other.0) ∙ e in
            (other.1, ((i, at), λ j back. let found = return_found h j a back in cc (found, never)))
      ],
      λ p. elim (cases_lt a.k (length (outcomes a.t h))) as (λ _. is_kept t h (Call a.t a.k) ≡ false) [
        | inl lt ↦
            let back = return_before h is (length h) a (subst (λ g. a.k < length (outcomes a.t g)) (sym whole) lt) in
            absurd (p.1.1 back.0 back.2)
        | inr le ↦ count ∙ ap (λ b. b || nat_lt a.k (length (outcomes a.t h))) (ne_eqb a.t t p.0) ∙ ltb_false a.k (length (outcomes a.t h)) le
      ],
    )
