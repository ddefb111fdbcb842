-- A machine's events fit the history that led to its state.
use Rattle.std.proofs.Common.{◌≡◌, ℕ, zero, suc, ◌+◌, ◌<◌, true, false, List, [], ◌∷◌, ◌++◌, length, set, replicate, if◌then◌else◌, inl, inr, refl, sym, ap, ◌∙◌, arith}
use Rattle.std.specs.Prelude.{◌==◌}
use Rattle.std.proofs.lemmas.Bool.Decides.{eqb_tells}
use Rattle.std.proofs.lemmas.List.{get_or-set_same, get_or-set_other}
use Rattle.lu_machine.specs.declared.event.Event.{Event}
use Rattle.lu_machine.specs.declared.event.Event.TheVariants.{Call, Return}
use Rattle.lu_machine.specs.declared.event.Outcome.{Outcome}
use Rattle.lu_history.specs.Histories.{calls, outcomes, Fits}
use Rattle.lu_history.specs.Standing.{Standing, standing_of, Agree}
use Rattle.lu_history.proofs.Keeping.{calls_more, calls_same, outcomes_same, outcomes_more}

idle_replicate : (n t : ℕ) → standing_of (replicate n (0, false)) t ≡ (0, false)
idle_replicate zero t = refl
idle_replicate (suc n) zero = refl
idle_replicate (suc n) (suc t) = idle_replicate n t

-- at the start all are idle, and nothing has happened
pub agree_start : (n : ℕ) → Agree (replicate n (0, false)) []
agree_start n = record {
  done = λ t. ap (λ (s : Standing). s.0) (sym (idle_replicate n t));
  called = λ t. ap (λ (s : Standing). s.0 + (if s.1 then 1 else 0)) (sym (idle_replicate n t));
}

module _ (threads : List Standing) (h : List Event) (agree : Agree threads h) (t k : ℕ) where
  -- an idle thread's next call fits
  pub call_fits : standing_of threads t ≡ (k, false) → t < 8 → k < 8 → Fits h (Call t k)
  call_fits idle few small = (few, small, agree.called t ∙ ap (λ (s : Standing). s.0 + (if s.1 then 1 else 0)) idle ∙ (let e : ◌≡◌ {A = ℕ} (k + 0) k = omega arith in e), agree.done t ∙ ap (λ (s : Standing). s.0) idle)

  -- the return of an open operation fits
  pub return_fits : (o : Outcome) → standing_of threads t ≡ (k, true) → t < 8 → k < 8 → Fits h (Return t k o)
  return_fits o is_open few small = (few, small, agree.called t ∙ ap (λ (s : Standing). s.0 + (if s.1 then 1 else 0)) is_open, agree.done t ∙ ap (λ (s : Standing). s.0) is_open)

  module _ (within : t < length threads) where
    -- after the call it is open
    pub agree_call : standing_of threads t ≡ (k, false) → Agree (set threads t (k, true)) (h ++ Call t k ∷ [])
    agree_call idle = record {
      done = λ u. ap length (outcomes_same u t k h) ∙ agree.done u ∙ elim (eqb_tells t u) as (λ _. (standing_of threads u).0 ≡ (standing_of (set threads t (k, true)) u).0) [
        | inl is ↦
            ap (λ x. (standing_of threads x).0) (sym is.1) ∙ ap (λ (s : Standing). s.0) idle
            ∙ ap (λ (s : Standing). s.0) (sym (get_or-set_same threads t (k, true) (0, false) within))
            ∙ ap (λ x. (standing_of (set threads t (k, true)) x).0) is.1
        | inr other ↦ ap (λ (s : Standing). s.0) (sym (get_or-set_other threads t u (k, true) (0, false) (λ e. other.1 (sym e))))
      ];
      called = λ u. calls_more u t k h ∙ elim (eqb_tells t u) as (λ _. calls u h + (if t == u then 1 else 0) ≡ (standing_of (set threads t (k, true)) u).0 + (if (standing_of (set threads t (k, true)) u).1 then 1 else 0)) [
        | inl is ↦
            let now : standing_of (set threads t (k, true)) u ≡ (k, true) = ap (standing_of (set threads t (k, true))) (sym is.1) ∙ get_or-set_same threads t (k, true) (0, false) within in
            let was : calls u h ≡ k + 0 = agree.called u ∙ ap (λ x. (standing_of threads x).0 + (if (standing_of threads x).1 then 1 else 0)) (sym is.1) ∙ ap (λ (s : Standing). s.0 + (if s.1 then 1 else 0)) idle in
            let e : calls u h + 1 ≡ k + 1 = omega arith in
            ap (λ b. calls u h + (if b then 1 else 0)) is.0 ∙ e ∙ ap (λ (s : Standing). s.0 + (if s.1 then 1 else 0)) (sym now)
        | inr other ↦
            let same : standing_of threads u ≡ standing_of (set threads t (k, true)) u = sym (get_or-set_other threads t u (k, true) (0, false) (λ e. other.1 (sym e))) in
            let e : calls u h + 0 ≡ calls u h = omega arith in
            ap (λ b. calls u h + (if b then 1 else 0)) other.0 ∙ e ∙ agree.called u ∙ ap (λ (s : Standing). s.0 + (if s.1 then 1 else 0)) same
      ];
    }

    -- after the return it is done
    pub agree_return : (o : Outcome) → standing_of threads t ≡ (k, true) → Agree (set threads t (k + 1, false)) (h ++ Return t k o ∷ [])
    agree_return o is_open = record {
      done = λ u. outcomes_more u t k o h ∙ elim (eqb_tells t u) as (λ _. length (outcomes u h) + (if t == u then 1 else 0) ≡ (standing_of (set threads t (k + 1, false)) u).0) [
        | inl is ↦
            let now : standing_of (set threads t (k + 1, false)) u ≡ (k + 1, false) = ap (standing_of (set threads t (k + 1, false))) (sym is.1) ∙ get_or-set_same threads t (k + 1, false) (0, false) within in
            let was : length (outcomes u h) ≡ k = agree.done u ∙ ap (λ x. (standing_of threads x).0) (sym is.1) ∙ ap (λ (s : Standing). s.0) is_open in
            ap (λ b. length (outcomes u h) + (if b then 1 else 0)) is.0 ∙ ap (λ x. x + 1) was ∙ ap (λ (s : Standing). s.0) (sym now)
        | inr other ↦
            let same : standing_of threads u ≡ standing_of (set threads t (k + 1, false)) u = sym (get_or-set_other threads t u (k + 1, false) (0, false) (λ e. other.1 (sym e))) in
            let e : length (outcomes u h) + 0 ≡ length (outcomes u h) = omega arith in
            ap (λ b. length (outcomes u h) + (if b then 1 else 0)) other.0 ∙ e ∙ agree.done u ∙ ap (λ (s : Standing). s.0) same
      ];
      called = λ u. calls_same u t k o h ∙ agree.called u ∙ elim (eqb_tells t u) as (λ _. (standing_of threads u).0 + (if (standing_of threads u).1 then 1 else 0) ≡ (standing_of (set threads t (k + 1, false)) u).0 + (if (standing_of (set threads t (k + 1, false)) u).1 then 1 else 0)) [
        | inl is ↦
            let now : standing_of (set threads t (k + 1, false)) u ≡ (k + 1, false) = ap (standing_of (set threads t (k + 1, false))) (sym is.1) ∙ get_or-set_same threads t (k + 1, false) (0, false) within in
            let e : ◌≡◌ {A = ℕ} (k + 1) (k + 1 + 0) = omega arith in
            ap (λ x. (standing_of threads x).0 + (if (standing_of threads x).1 then 1 else 0)) (sym is.1) ∙ ap (λ (s : Standing). s.0 + (if s.1 then 1 else 0)) is_open ∙ e ∙ ap (λ (s : Standing). s.0 + (if s.1 then 1 else 0)) (sym now)
        | inr other ↦ ap (λ (s : Standing). s.0 + (if s.1 then 1 else 0)) (sym (get_or-set_other threads t u (k + 1, false) (0, false) (λ e. other.1 (sym e))))
      ];
    }
