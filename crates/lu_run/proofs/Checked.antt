-- Which events may come next.
use Rattle.std.proofs.Common.{arith, ◌≡◌, ℕ, ◌<◌, ◌≤◌, ◌+◌, Bool, true, false, List, [], ◌∷◌, ◌++◌, length, set, get_or, Some, None, refl, sym, ◌∙◌, ap, subst, inl, inr}
use Rattle.std.specs.Prelude.{if◌then◌else◌, MatchBool}
use Rattle.std.proofs.lemmas.Bool.Decides.{eqb_tells}
use Rattle.std.proofs.lemmas.List.{append-nil, get_or-set_other, get_or-set_same, length-append}
use Rattle.lu_test.specs.declared.matrix.Call.{Call as ACall}
use Rattle.lu_machine.specs.declared.event.Event.{Event}
use Rattle.lu_machine.specs.declared.event.Event.TheVariants.{Call, Return}
use Rattle.lu_machine.specs.declared.event.Outcome.{Outcome}
use Rattle.lu_history.specs.Histories.{calls, outcomes}
use Rattle.lu_history.proofs.Events.{calls-append, outcomes-append}
use Rattle.lu_run.specs.declared.run.RunEvent.TheVariants.{Call as Calls, Return as Back}
use Rattle.lu_run.specs.Checking.{Accepts, TellsPending}

told : (pending : List Bool) (h : List Event) → TellsPending pending h → (t : ℕ) → t < 8 → (b : Bool) → get_or pending t false ≡ b → MatchBool b (calls t h ≡ length (outcomes t h) + 1) (calls t h ≡ length (outcomes t h))
told pending h tells t lt b is = subst (λ x. MatchBool x (calls t h ≡ length (outcomes t h) + 1) (calls t h ≡ length (outcomes t h))) is (tells t lt)

module _ (table : List ACall) (pending : List Bool) (t : ℕ) where
  pub no_thread_calls : (n : ℕ) → 8 ≤ t → Accepts table pending (Calls t n) None
  no_thread_calls n past h tells may = (let seat = may.0.0 in omega (arith, past, seat))

  pub no_call : (n : ℕ) → length table ≤ n → Accepts table pending (Calls t n) None
  no_call n past h tells may = (let within = may.0.1 in omega (arith, past, within))

  pub busy_calls : (n : ℕ) → t < 8 → get_or pending t false ≡ true → Accepts table pending (Calls t n) None
  busy_calls n lt is h tells may = (let one = told pending h tells t lt true is in let same = may.1.1 in omega (arith, one, same))

  pub no_thread_returns : (o : Outcome) → 8 ≤ t → Accepts table pending (Back t o) None
  no_thread_returns o past h tells may = (let seat = may.0 in omega (arith, past, seat))

  pub idle_returns : (o : Outcome) → t < 8 → get_or pending t false ≡ false → Accepts table pending (Back t o) None
  idle_returns o lt is h tells may = (let one = told pending h tells t lt false is in let same = may.1.0 in omega (arith, one, same))

  pub calls_next : (n : ℕ) → t < 8 → n < length table → get_or pending t false ≡ false → length pending ≡ 8 → Accepts table pending (Calls t n) (Some (set pending t true))
  calls_next n lt within is long h tells =
      let idle = told pending h tells t lt false is in (
        ((lt, within), (refl, sym idle)),
        (λ u below.
            let more = calls-append u h (Call t (calls t h) ∷ []) in
            let same = ap length (outcomes-append u h (Call t (calls t h) ∷ []) ∙ append-nil (outcomes u h)) in
            elim (eqb_tells t u) as (λ _. MatchBool (get_or (set pending t true) u false) (calls u (h ++ Call t (calls t h) ∷ []) ≡ length (outcomes u (h ++ Call t (calls t h) ∷ [])) + 1) (calls u (h ++ Call t (calls t h) ∷ []) ≡ length (outcomes u (h ++ Call t (calls t h) ∷ [])))) [
              | inl own ↦
                  (let flag : get_or (set pending t true) u false ≡ true = subst (λ x. get_or (set pending t true) x false ≡ true) own.1 (get_or-set_same pending t true false (omega (arith, long, lt))) in
                  let one : calls u (Call t (calls t h) ∷ []) ≡ 0 + 1 = ap (λ b. if b then 0 + 1 else 0) own.0 in
                  let before : calls u h ≡ length (outcomes u h) = subst (λ x. calls x h ≡ length (outcomes x h)) own.1 idle in
                  let whole : calls u (h ++ Call t (calls t h) ∷ []) ≡ length (outcomes u (h ++ Call t (calls t h) ∷ [])) + 1 = omega (arith, more, same, one, before) in
                  subst (λ b. MatchBool b (calls u (h ++ Call t (calls t h) ∷ []) ≡ length (outcomes u (h ++ Call t (calls t h) ∷ [])) + 1) (calls u (h ++ Call t (calls t h) ∷ []) ≡ length (outcomes u (h ++ Call t (calls t h) ∷ [])))) (sym flag) whole)
              | inr other ↦
                  (let flag : get_or (set pending t true) u false ≡ get_or pending u false = get_or-set_other pending t u true false (λ e. other.1 (sym e)) in
                  let none : calls u (Call t (calls t h) ∷ []) ≡ 0 = ap (λ b. if b then 0 + 1 else 0) other.0 in
                  let called : calls u h ≡ calls u (h ++ Call t (calls t h) ∷ []) = omega (arith, more, none) in
                  subst (λ b. MatchBool b (calls u (h ++ Call t (calls t h) ∷ []) ≡ length (outcomes u (h ++ Call t (calls t h) ∷ [])) + 1) (calls u (h ++ Call t (calls t h) ∷ []) ≡ length (outcomes u (h ++ Call t (calls t h) ∷ [])))) (sym flag)
                  (subst (λ n. MatchBool (get_or pending u false) (n ≡ length (outcomes u (h ++ Call t (calls t h) ∷ [])) + 1) (n ≡ length (outcomes u (h ++ Call t (calls t h) ∷ [])))) called
                  (subst (λ n. MatchBool (get_or pending u false) (calls u h ≡ n + 1) (calls u h ≡ n)) (sym same) (tells u below))))
            ]),
      )

  pub returns_next : (o : Outcome) → t < 8 → get_or pending t false ≡ true → length pending ≡ 8 → Accepts table pending (Back t o) (Some (set pending t false))
  returns_next o lt is long h tells =
      let busy = told pending h tells t lt true is in
      let e : Event = Return t (length (outcomes t h)) o in (
        (lt, (busy, refl)),
        (λ u below.
            let same = calls-append u h (e ∷ []) in
            let more = ap length (outcomes-append u h (e ∷ [])) ∙ length-append (outcomes u h) (outcomes u (e ∷ [])) in
            elim (eqb_tells t u) as (λ _. MatchBool (get_or (set pending t false) u false) (calls u (h ++ e ∷ []) ≡ length (outcomes u (h ++ e ∷ [])) + 1) (calls u (h ++ e ∷ []) ≡ length (outcomes u (h ++ e ∷ [])))) [
              | inl own ↦
                  (let flag : get_or (set pending t false) u false ≡ false = subst (λ x. get_or (set pending t false) x false ≡ false) own.1 (get_or-set_same pending t false false (omega (arith, long, lt))) in
                  let one : length (outcomes u (e ∷ [])) ≡ 1 = ap (λ b. length (if b then o ∷ [] else [])) own.0 in
                  let before : calls u h ≡ length (outcomes u h) + 1 = subst (λ x. calls x h ≡ length (outcomes x h) + 1) own.1 busy in
                  let whole : calls u (h ++ e ∷ []) ≡ length (outcomes u (h ++ e ∷ [])) = omega (arith, more, same, one, before) in
                  subst (λ b. MatchBool b (calls u (h ++ e ∷ []) ≡ length (outcomes u (h ++ e ∷ [])) + 1) (calls u (h ++ e ∷ []) ≡ length (outcomes u (h ++ e ∷ [])))) (sym flag) whole)
              | inr other ↦
                  (let flag : get_or (set pending t false) u false ≡ get_or pending u false = get_or-set_other pending t u false false (λ x. other.1 (sym x)) in
                  let none : length (outcomes u (e ∷ [])) ≡ 0 = ap (λ b. length (if b then o ∷ [] else [])) other.0 in
                  let called : calls u h ≡ calls u (h ++ e ∷ []) = omega (arith, same) in
                  let back : length (outcomes u h) ≡ length (outcomes u (h ++ e ∷ [])) = omega (arith, more, none) in
                  subst (λ b. MatchBool b (calls u (h ++ e ∷ []) ≡ length (outcomes u (h ++ e ∷ [])) + 1) (calls u (h ++ e ∷ []) ≡ length (outcomes u (h ++ e ∷ [])))) (sym flag)
                  (subst (λ n. MatchBool (get_or pending u false) (n ≡ length (outcomes u (h ++ e ∷ [])) + 1) (n ≡ length (outcomes u (h ++ e ∷ [])))) called
                  (subst (λ n. MatchBool (get_or pending u false) (calls u h ≡ n + 1) (calls u h ≡ n)) back (tells u below))))
            ]),
      )
