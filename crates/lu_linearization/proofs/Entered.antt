-- The configuration after an operation takes effect.
use Rattle.std.proofs.Common.{◌≡◌, ◌≢◌, ℕ, ◌<◌, List, length, set, get_or, Option, Some, None, inl, inr, refl, sym, ap, ◌∙◌, subst}
use Rattle.std.specs.Prelude.{◌↔◌}
use Rattle.std.proofs.lemmas.Bool.Decides.{eqb_tells}
use Rattle.std.proofs.lemmas.List.{get_or-set_same, get_or-set_other}
use Rattle.std.proofs.lemmas.Option.{same_Some}
use Rattle.lu_history.specs.declared.serial.SerialOp.{SerialOp}
use Rattle.lu_history.specs.declared.serial.SerialOutcome.{SerialOutcome}
use Rattle.lu_linearization.specs.declared.configuration.Configuration.{Configuration as Kept}
use Rattle.lu_linearization.specs.Configurations.{AreSame, Configuration, TakesEffect}
use Rattle.lu_linearization.specs.Monitors.{IsStep, configuration_of, by_thread}

module _ {C : Type 0} (Next : ℕ → C → SerialOutcome → ℕ → Type 0) (pending_calls : List (Option C)) (from to : Kept) (t : ℕ) (call : C) (outcome : SerialOutcome) (state : ℕ) where
  pub put_tells : t < length from.effects → get_or pending_calls t None ≡ Some call → get_or from.effects t None ≡ None → IsStep Next from.state call (Some (outcome, state)) → to.state ≡ state → to.effects ≡ set from.effects t (Some outcome) → (c : Configuration ℕ) → AreSame (configuration_of to) c ↔ ((op : SerialOp) × (op.thread ≡ t) × TakesEffect Next (by_thread pending_calls) op (configuration_of from) c)
  put_tells within is_pending absent step led take_effect c = (
    (λ same. (
      record { thread = t; outcome = outcome },
      refl,
      record {
        call = call;
        is_pending = is_pending;
        absent = absent;
        leads = subst (λ x. Next from.state call outcome x) (sym led ∙ same.state) ((step outcome state).1 refl);
        effects = sym (same.effects t) ∙ own;
        others = λ u apart. sym (same.effects u) ∙ other u apart;
      },
    )),
    (λ (op, thread, puts).
        let made : puts.call ≡ call = same_Some puts.call call (sym puts.is_pending ∙ (ap (λ u. get_or pending_calls u None) thread ∙ is_pending)) in
        let ends = (step op.outcome c.state).0 (subst (λ x. Next from.state x op.outcome c.state) made puts.leads) in
        let both : (outcome, state) ≡ (op.outcome, c.state) = same_Some (outcome, state) (op.outcome, c.state) ends in
        record {
          state = led ∙ ap (λ x. x.1) both;
          effects = λ u. elim (eqb_tells u t) as (λ _. get_or to.effects u None ≡ c.effects u) [
            | inl is ↦
                (let here : get_or to.effects u None ≡ get_or to.effects t None = ap (λ v. get_or to.effects v None) is.1 in
                let ended : ◌≡◌ {A = Option SerialOutcome} (Some outcome) (Some op.outcome) = ap (λ (x : SerialOutcome × ℕ). Some x.0) both in
                let there : c.effects op.thread ≡ c.effects u = ap c.effects (thread ∙ sym is.1) in
                here ∙ (own ∙ (ended ∙ (sym puts.effects ∙ there))))
            | inr not ↦ other u not.1 ∙ sym (puts.others u (λ same. not.1 (same ∙ thread)))
          ];
        }),
  )
    where
      own : get_or to.effects t None ≡ Some outcome
      own = ap (λ xs. get_or xs t None) take_effect ∙ get_or-set_same from.effects t (Some outcome) None within

      other : (u : ℕ) → u ≢ t → get_or to.effects u None ≡ get_or from.effects u None
      other u apart = ap (λ xs. get_or xs u None) take_effect ∙ get_or-set_other from.effects t u (Some outcome) None apart
