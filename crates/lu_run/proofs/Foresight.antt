-- Operations that take effect with the outcomes that their calls return later.
use Rattle.std.proofs.Common.{◌≡◌, ◌≢◌, ℕ, List, [], ◌∷◌, ◌++◌, length, Option, Some, None, refl, sym, ◌∙◌, ap, subst, append_assoc, inl, inr}
use Rattle.std.specs.Prelude.{Bool, true, false, if◌then◌else◌}
use Rattle.std.proofs.lemmas.Bool.Decides.{eqb_tells}
use Rattle.std.proofs.lemmas.List.{append-nil}
use Rattle.std.proofs.lemmas.Option.{same_Some}
use Rattle.lu_component.specs.Component.{Component}
use Rattle.lu_test.specs.declared.matrix.Call.{Call as ACall}
use Rattle.lu_machine.specs.declared.event.Event.{Event}
use Rattle.lu_machine.specs.declared.event.Outcome.{Outcome}
use Rattle.lu_history.specs.declared.serial.SerialOp.{SerialOp}
use Rattle.lu_history.specs.declared.serial.SerialOutcome.{SerialOutcome}
use Rattle.lu_history.specs.Histories.{outcomes, pending}
use Rattle.lu_history.specs.Parts.{as_serial}
use Rattle.lu_client.specs.Alone.{Rest}
use Rattle.lu_linearization.specs.declared.configuration.Configuration.{Configuration as Kept}
use Rattle.lu_linearization.specs.Configurations.{AllTakeEffect, Configuration, FirstIsOf, Returns, TakesEffect, pending_call}
use Rattle.lu_linearization.specs.Monitors.{AreClosed, Holds, by_thread}
use Rattle.lu_run.specs.declared.automaton.ThreadCall.{ThreadCall}
use Rattle.lu_run.specs.declared.run.RunEvent.{RunEvent}
use Rattle.lu_run.specs.declared.run.RunEvent.TheVariants.{Return as Back}
use Rattle.lu_run.specs.declared.table.Table.{Table}
use Rattle.lu_run.specs.Tables.{IsTable}
use Rattle.lu_run.specs.Following.{AreAnswered, NextState}
use Rattle.lu_run.specs.Foreseeing.{Allows, FitsReturns, NextAllowed, next_return}
use Rattle.lu_run.specs.Judging.{InState, call_of}
use Rattle.lu_run.specs.Offending.{NextRest}
use Rattle.lu_run.proofs.Simulated.{all_push, first_front, to_state}

-- each pending call is of its thread
pub own_thread : (calls : List ACall) (events : List RunEvent) (h : List Event) (t : ℕ) (call : ThreadCall) → pending_call (call_of calls events) h t ≡ Some call → call.thread ≡ t
own_thread calls events h t call is = by (pending t h) is
  where
    by : (b : Bool) → (if b then Some (call_of calls events (record { t = t; k = length (outcomes t h) })) else None) ≡ Some call → call.thread ≡ t
    by true e = sym (ap (λ (x : ThreadCall). x.thread) (same_Some (call_of calls events (record { t = t; k = length (outcomes t h) })) call e))
    by false e = absurd cc

-- ---- effects stay

module _ {X C : Type 0} (Next : X → C → SerialOutcome → X → Type 0) (waiting : ℕ → Option C) where
  pub effects_stay : (r : List SerialOp) (b d : Configuration X) (t : ℕ) (o : SerialOutcome) → AllTakeEffect Next waiting r b d → b.effects t ≡ Some o → d.effects t ≡ Some o
  effects_stay [] b d t o same is = sym (same.effects t) ∙ is
  effects_stay (op ∷ r) b d t o (m, takes, all) is = effects_stay r m d t o all (elim (eqb_tells op.thread t) as (λ _. m.effects t ≡ Some o) [
    | inl here ↦ absurd (let none : b.effects t ≡ None = subst (λ u. b.effects u ≡ None) here.1 takes.absent in cc)
    | inr apart ↦ takes.others t (λ e. apart.1 (sym e)) ∙ is
  ])

  -- what fits at the end has fitted before
  pub fits_before : (more : List RunEvent) (r : List SerialOp) (b d : Configuration X) → AllTakeEffect Next waiting r b d → FitsReturns more d.effects → FitsReturns more b.effects
  fits_before more r b d all fits t x y is comes = fits t x y (effects_stay r b d t x all is) comes

-- ---- a return

module _ {X : Type 0} (t : ℕ) (outcome : Outcome) (more : List RunEvent) (b d : Configuration X) (back : Returns t (as_serial outcome) b d) where
  pub fits_before_return : FitsReturns more d.effects → FitsReturns (Back t outcome ∷ more) b.effects
  fits_before_return fits u x y is comes = elim (eqb_tells t u) as (λ _. x ≡ y) [
    | inl here ↦
        (let had : b.effects u ≡ Some (as_serial outcome) = subst (λ v. b.effects v ≡ Some (as_serial outcome)) here.1 back.had in
        let first : x ≡ as_serial outcome = same_Some x (as_serial outcome) (sym is ∙ had) in
        let second : as_serial outcome ≡ y = same_Some (as_serial outcome) y (sym (ap (λ z. if z then Some (as_serial outcome) else next_return u more) here.0) ∙ comes) in
        first ∙ second)
    | inr apart ↦
        (let there : next_return u more ≡ Some y = sym (ap (λ z. if z then Some (as_serial outcome) else next_return u more) apart.0) ∙ comes in
        fits u x y (back.others u (λ e. apart.1 (sym e)) ∙ is) there)
  ]

  pub fits_after_return : FitsReturns (Back t outcome ∷ more) b.effects → FitsReturns more d.effects
  fits_after_return fits u x y is comes = elim (eqb_tells t u) as (λ _. x ≡ y) [
    | inl here ↦ absurd (let none : d.effects u ≡ None = subst (λ v. d.effects v ≡ None) here.1 back.gone in cc)
    | inr apart ↦
        (let there : next_return u (Back t outcome ∷ more) ≡ Some y = ap (λ z. if z then Some (as_serial outcome) else next_return u more) apart.0 ∙ comes in
        fits u x y (sym (back.others u (λ e. apart.1 (sym e))) ∙ is) there)
  ]

-- the return of another thread
pub other_return : (t u : ℕ) (outcome : Outcome) (more : List RunEvent) → t ≢ u → next_return u (Back t outcome ∷ more) ≡ next_return u more
other_return t u outcome more ne = elim (eqb_tells t u) as (λ _. next_return u (Back t outcome ∷ more) ≡ next_return u more) [
  | inl here ↦ absurd (ne here.1)
  | inr apart ↦ ap (λ z. if z then Some (as_serial outcome) else next_return u more) apart.0
]

-- ---- the automaton that foresees

module _ (table : Table) (returns : List (Option SerialOutcome)) (waiting : ℕ → Option ThreadCall) where
  pub unforeseen : (r : List SerialOp) (b d : Configuration ℕ) → AllTakeEffect (NextAllowed table returns) waiting r b d → AllTakeEffect (NextState table) waiting r b d
  unforeseen [] b d same = same
  unforeseen (op ∷ r) b d (m, takes, all) = (m, record { call = takes.call; is_pending = takes.is_pending; absent = takes.absent; leads = takes.leads.0; effects = takes.effects; others = takes.others }, unforeseen r m d all)

  module _ (more : List RunEvent) (own : (t : ℕ) (call : ThreadCall) → waiting t ≡ Some call → call.thread ≡ t) (foretold : (t : ℕ) (call : ThreadCall) → waiting t ≡ Some call → by_thread returns t ≡ next_return t more) where
    allowed_fits : (o : Option SerialOutcome) (x y : SerialOutcome) → Allows o x → o ≡ Some y → x ≡ y
    allowed_fits None x y allows is = absurd cc
    allowed_fits (Some z) x y allows is = allows ∙ same_Some z y is

    -- what takes effect fits
    pub fits_after : (r : List SerialOp) (b d : Configuration ℕ) → AllTakeEffect (NextAllowed table returns) waiting r b d → FitsReturns more b.effects → FitsReturns more d.effects
    fits_after [] b d same fits = λ t x y is comes. fits t x y (same.effects t ∙ is) comes
    fits_after (op ∷ r) b d (m, takes, all) fits = fits_after r m d all one
      where
        one : FitsReturns more m.effects
        one t x y is comes = elim (eqb_tells op.thread t) as (λ _. x ≡ y) [
          | inl here ↦
              (let which : op.outcome ≡ x = same_Some op.outcome x (sym (subst (λ u. m.effects u ≡ Some op.outcome) here.1 takes.effects) ∙ is) in
              let thread : takes.call.thread ≡ op.thread = own op.thread takes.call takes.is_pending in
              let told : by_thread returns takes.call.thread ≡ Some y = ap (by_thread returns) thread ∙ (foretold op.thread takes.call takes.is_pending ∙ (ap (λ u. next_return u more) here.1 ∙ comes)) in
              sym which ∙ allowed_fits (by_thread returns takes.call.thread) op.outcome y takes.leads.1 told)
          | inr apart ↦ fits t x y (sym (takes.others t (λ e. apart.1 (sym e))) ∙ is) comes
        ]

    fits_allowed : (o : Option SerialOutcome) (t : ℕ) (x : SerialOutcome) (effects : ℕ → Option SerialOutcome) → o ≡ next_return t more → effects t ≡ Some x → FitsReturns more effects → Allows o x
    fits_allowed None t x effects is took fits = tt
    fits_allowed (Some y) t x effects is took fits = fits t x y took (sym is)

    -- operations that take effect and fit lead to configurations that are held
    module _ (c : Component) (calls : List ACall) (is : IsTable c calls table) (t : ℕ) (list closure : List Kept) (closed : AreClosed (NextAllowed table returns) waiting t list closure) (known : AreAnswered table waiting closure) where
      pub forward : (r p : List SerialOp) (b d : Configuration ℕ) (from to : Configuration Rest) → Holds list b → FirstIsOf t (p ++ r) → AllTakeEffect (NextAllowed table returns) waiting p b d → InState table d.state from.state → ((u : ℕ) → d.effects u ≡ from.effects u) → AllTakeEffect (NextRest c calls) waiting r from to → FitsReturns more to.effects
          → (e : Configuration ℕ) × AllTakeEffect (NextAllowed table returns) waiting (p ++ r) b e × InState table e.state to.state × ((u : ℕ) → e.effects u ≡ to.effects u)
      forward [] p b d from to holds first all at effects same fits = (d, subst (λ x. AllTakeEffect (NextAllowed table returns) waiting x b d) (sym (append-nil p)) all, subst (InState table d.state) same.state at, λ u. effects u ∙ same.effects u)
      forward (op ∷ r) p b d from to holds first all at effects (mid, takes, rest) fits =
          let here : Holds closure d = (closed d).1 (b, p, holds, first_front t p (op ∷ r) first, all) in
          let yes = known d op.thread takes.call here takes.is_pending (effects op.thread ∙ takes.absent) in
          let next = to_state c calls table is d.state takes.call from.state mid.state op.outcome yes at takes.leads in
          let e : Configuration ℕ = record { state = next.0; effects = mid.effects } in
          let took : to.effects op.thread ≡ Some op.outcome = effects_stay (NextRest c calls) waiting r mid to op.thread op.outcome rest takes.effects in
          let told : by_thread returns takes.call.thread ≡ next_return op.thread more = ap (by_thread returns) (own op.thread takes.call takes.is_pending) ∙ foretold op.thread takes.call takes.is_pending in
          let allows : Allows (by_thread returns takes.call.thread) op.outcome = fits_allowed (by_thread returns takes.call.thread) op.thread op.outcome to.effects told took fits in
          let step : TakesEffect (NextAllowed table returns) waiting op d e = record { call = takes.call; is_pending = takes.is_pending; absent = effects op.thread ∙ takes.absent; leads = (next.1, allows); effects = takes.effects; others = λ u ne. takes.others u ne ∙ sym (effects u) } in
          let longer = all_push (NextAllowed table returns) waiting p b d e op all step in
          let end = forward r (p ++ op ∷ []) b e mid to holds (subst (FirstIsOf t) (sym (append_assoc p (op ∷ []) r)) first) longer next.2 (λ u. refl) rest fits in
          (end.0, subst (λ x. AllTakeEffect (NextAllowed table returns) waiting x b end.0) (append_assoc p (op ∷ []) r) end.1, end.2, end.3)
