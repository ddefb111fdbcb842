-- Monitors have the configurations of the linearizations.
use Rattle.std.proofs.Common.{◌≡◌, ◌≢◌, ℕ, ◌+◌, ◌<◌, ◌≤◌, List, [], ◌∷◌, ◌++◌, length, take, Some, None, inl, inr, refl, sym, ap, ◌∙◌, subst}
use Rattle.std.specs.Prelude.{◌↔◌, IsTrue, true, false}
use Rattle.std.specs.List.{HoldsAt}
use Rattle.std.proofs.lemmas.List.{take_all, take_more}
use Rattle.lu_machine.specs.declared.event.Event.TheVariants.{Call}
use Rattle.lu_history.specs.declared.operation.OpId.{OpId}
use Rattle.lu_history.specs.declared.serial.SerialOp.{SerialOp}
use Rattle.lu_history.specs.declared.serial.SerialOutcome.{SerialOutcome}
use Rattle.lu_linearization.specs.declared.configuration.Configuration.{Configuration as Kept}
use Rattle.lu_linearization.specs.Configurations.{AreSame, Configuration, IsAutomaton, IsConfiguration, Returns, pending_call}
use Rattle.lu_linearization.specs.Monitors.{Holds, IsStep, IsStuckFrom, MonitorAfterCall, MonitorOfComplete, MonitorIsEmpty, MonitorAfterReturn, MonitorAtStart, MonitorOfStuck, CanBeStuck, CanBeStuckAt, configuration_of}
use Rattle.lu_linearization.proofs.Held.{holds_append, holds_at}
use Rattle.lu_linearization.proofs.Layers.{Respects, same_itself}
use Rattle.lu_linearization.proofs.Configured.{call_law, complete_is_configured, nothing_is_configured, puts_waits, return_is_configured, stuck_is_configured}

pub returns_respects : (t : ℕ) (outcome : SerialOutcome) → Respects (Returns t outcome)
returns_respects t outcome b d c same back = record {
  state = sym same.state ∙ back.state;
  had = sym (same.effects t) ∙ back.had;
  gone = back.gone;
  others = λ u other. back.others u other ∙ same.effects u;
}

module _ (LeadsTo : List SerialOp → ℕ → Type 0) where
  pub monitor_starts : MonitorAtStart LeadsTo
  monitor_starts m start one holds c =
      let law = nothing_is_configured LeadsTo c in (
        (λ held. let both = (holds c).0 held in law.1 ((one c.state).1 both.0, both.1)),
        (λ is. let both = law.0 is in (holds c).1 ((one c.state).0 both.0, both.1)),
      )

  pub monitor_returns : MonitorAfterReturn LeadsTo
  monitor_returns h a outcome old new next was back c =
      let law = return_is_configured LeadsTo h a outcome c next in (
        (λ held. let from = (back c).0 held in law.1 (from.0, (was from.0).0 from.1, from.2)),
        (λ is. let from = law.0 is in (back c).1 (from.0, (was from.0).1 from.1, from.2)),
      )

  pub monitor_is_empty : MonitorIsEmpty LeadsTo
  monitor_is_empty h m is = (
    (λ none c line. subst (λ xs. Holds xs c) none ((is c).1 line)),
    (λ none. only m (λ c held. none c ((is c).0 held))),
  )
    where
      only : (xs : List Kept) → ((c : Configuration ℕ) → Holds xs c → ⊥) → xs ≡ []
      only [] none = refl
      only (x ∷ xs) none = absurd (none (configuration_of x) (inl (same_itself (configuration_of x))))

  module _ {C : Type 0} (Next : ℕ → C → SerialOutcome → ℕ → Type 0) (call : OpId → C) where
    pub monitor_calls : IsAutomaton LeadsTo Next call → MonitorAfterCall LeadsTo Next call
    monitor_calls auto h a pending_calls old new next same was closed c =
        let law = call_law LeadsTo Next call auto h a c next in
        let pending = pending_call call (h ++ Call a.t a.k ∷ []) in (
          (λ held.
              let from = (closed c).0 held in
              law.1 (from.0, from.1, (was from.0).0 from.2, from.3, puts_waits LeadsTo Next call pending_calls pending (λ t. sym (same t)) from.1 from.0 c from.4)),
          (λ is.
              let from = law.0 is in
              (closed c).1 (from.0, from.1, (was from.0).1 from.2, from.3, puts_waits LeadsTo Next call pending pending_calls same from.1 from.0 c from.4)),
        )

-- ---- stuck calls

module _ {C : Type 0} (Next : ℕ → C → SerialOutcome → ℕ → Type 0) (call : C) where
  pub stuck_none : (state : ℕ) → IsStep Next state call None → IsTrue true ↔ IsStuckFrom Next state call
  stuck_none state step = ((λ _ o n next. absurd (let e = (step o n).0 next in cc)), (λ _. refl))

  pub stuck_some : (state : ℕ) (to : SerialOutcome × ℕ) → IsStep Next state call (Some to) → IsTrue false ↔ IsStuckFrom Next state call
  stuck_some state to step = ((λ e. absurd (cc)), (λ none. absurd (none to.0 to.1 ((step to.0 to.1).1 refl))))

  sticks_same : (b c : Configuration ℕ) → AreSame b c → CanBeStuckAt Next call c → CanBeStuckAt Next call b
  sticks_same b c same is = (
    (λ t. same.effects t ∙ is.0 t),
    (λ o n next. is.1 o n (subst (λ x. Next x call o n) same.state next)),
  )

  -- the call can be stuck in none of these
  abbrev pub NoneSticks : List Kept → Type 0
  NoneSticks xs = (c : Configuration ℕ) → Holds xs c → CanBeStuckAt Next call c → ⊥

  pub none_more : (xs : List Kept) (i : ℕ) (one : Kept) → i < length xs → HoldsAt (λ y. y ≡ one) xs i → (CanBeStuckAt Next call (configuration_of one) → ⊥) → NoneSticks (take i xs) → NoneSticks (take (i + 1) xs)
  none_more xs i one lt at none so_far c held can_be_stuck =
      let whole : take (i + 1) xs ≡ take i xs ++ one ∷ [] = take_more xs i one lt ∙ ap (λ x. take i xs ++ x ∷ []) (at one) in
      elim ((holds_append (take i xs) (one ∷ []) c).0 (subst (λ ys. Holds ys c) whole held)) [
        | inl front ↦ so_far c front can_be_stuck
        | inr (inl here) ↦ none (sticks_same (configuration_of one) c here can_be_stuck)
        | inr (inr never) ↦ never
      ]

  pub some_sticks : (xs : List Kept) (i : ℕ) (one : Kept) → i < length xs → HoldsAt (λ y. y ≡ one) xs i → CanBeStuckAt Next call (configuration_of one) → CanBeStuck Next call xs
  some_sticks xs i one lt at can_be_stuck = (configuration_of one, holds_at xs i one (configuration_of one) lt at (same_itself (configuration_of one)), can_be_stuck)

  pub none_sticks : (xs : List Kept) (i : ℕ) → length xs ≤ i → NoneSticks (take i xs) → CanBeStuck Next call xs → ⊥
  none_sticks xs i le none some = none some.0 (subst (λ ys. Holds ys some.0) (sym (take_all i xs le)) some.1) some.2

-- ---- histories that have ended

module _ (Set : List SerialOp → Type 0) (LeadsTo : List SerialOp → ℕ → Type 0) where
  pub monitor_completes : MonitorOfComplete Set LeadsTo
  monitor_completes reads h m next all whole is =
      let law = complete_is_configured Set LeadsTo reads h next all whole in (
        (λ w none. let some = law.0 w in subst (λ xs. Holds xs some.0) none ((is some.0).1 some.1)),
        (λ some. law.1 (first m some (λ c held. (is c).0 held))),
      )
    where
      first : (xs : List Kept) → xs ≢ [] → ((c : Configuration ℕ) → Holds xs c → IsConfiguration LeadsTo h c) → (c : Configuration ℕ) × IsConfiguration LeadsTo h c
      first [] some held = absurd (some refl)
      first (x ∷ xs) some held = (configuration_of x, held (configuration_of x) (inl (same_itself (configuration_of x))))

  module _ {C : Type 0} (Next : ℕ → C → SerialOutcome → ℕ → Type 0) (call : OpId → C) where
    pub monitor_sticks : MonitorOfStuck Set LeadsTo Next call
    monitor_sticks reads serial h a m next pending_calls has is =
        let law = stuck_is_configured Set LeadsTo (λ x k. IsStuckFrom Next x k) call reads serial h a next pending_calls has in (
          (λ w. let some = law.0 w in (some.0, (is some.0).1 some.1, (some.2, some.3))),
          (λ (c, held, can_be_stuck). law.1 (c, (is c).0 held, can_be_stuck.0, can_be_stuck.1)),
        )
