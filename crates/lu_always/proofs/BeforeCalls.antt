-- A call can be stuck after it exactly where it can be stuck before it.
use Rattle.std.proofs.Common.{◌≡◌, ◌↔◌, ℕ, List, [], ◌∷◌, ◌++◌, Option, Some, None, sym, ◌∙◌, ap, subst, inl, inr}
use Rattle.std.proofs.lemmas.Bool.{cases_eq}
use Rattle.lu_machine.specs.declared.event.Event.{Event}
use Rattle.lu_machine.specs.declared.event.Event.TheVariants.{Call}
use Rattle.lu_history.specs.declared.operation.OpId.{OpId}
use Rattle.lu_history.specs.declared.serial.SerialOp.{SerialOp}
use Rattle.lu_history.specs.declared.serial.SerialOutcome.{SerialOutcome}
use Rattle.lu_history.specs.Histories.{IsPending}
use Rattle.lu_history.specs.Parts.{keep_pending}
use Rattle.lu_history.specs.Serial.{IsSerial}
use Rattle.lu_witness.specs.Witnesses.{HasWitness}
use Rattle.lu_linearization.specs.declared.configuration.Configuration.{Configuration as Shown}
use Rattle.lu_linearization.specs.Configurations.{AllTakeEffect, AreSame, Configuration, HasStuck, IsAutomaton, IsConfiguration, ReadsPrefixes, pending_call}
use Rattle.lu_linearization.specs.Linearizations.{HasSequentialThreads}
use Rattle.lu_linearization.specs.Monitors.{CanBeStuck, Holds, IsMonitorOf, IsStuckFrom}
use Rattle.lu_linearization.proofs.Configured.{call_law, stuck_is_configured}
use Rattle.lu_linearization.proofs.Layers.{same_itself}

module _ {C : Type 0} (Next : ℕ → C → SerialOutcome → ℕ → Type 0) (pending_calls : ℕ → Option C) where
  -- what has taken effect stays
  stays : (r : List SerialOp) (d c : Configuration ℕ) (t : ℕ) (o : SerialOutcome) → d.effects t ≡ Some o → AllTakeEffect Next pending_calls r d c → c.effects t ≡ Some o
  stays [] d c t o at same = sym (same.effects t) ∙ at
  stays (op ∷ r) d c t o at (e, one, rest) = elim (cases_eq t op.thread) as (λ _. c.effects t ≡ Some o) [
    | inl same ↦
        (let none : d.effects t ≡ None = ap d.effects same ∙ one.absent in
        let clash : None ≡ Some o = sym none ∙ at in
        absurd (cc))
    | inr differ ↦ stays r e c t o (one.others t differ ∙ at) rest
  ]

  -- where nothing has taken effect, nothing has just done so
  nothing_new : (r : List SerialOp) (b c : Configuration ℕ) → ((t : ℕ) → c.effects t ≡ None) → AllTakeEffect Next pending_calls r b c → AreSame b c
  nothing_new [] b c none same = same
  nothing_new (op ∷ r) b c none (d, one, rest) =
      let at : c.effects op.thread ≡ Some op.outcome = stays r d c op.thread op.outcome one.effects rest in
      let clash : None ≡ Some op.outcome = sym (none op.thread) ∙ at in
      absurd (cc)

module _ (Set : List SerialOp → Type 0) (LeadsTo : List SerialOp → ℕ → Type 0) {C : Type 0} (Next : ℕ → C → SerialOutcome → ℕ → Type 0) (call : OpId → C) (auto : IsAutomaton LeadsTo Next call) (reads : ReadsPrefixes Set LeadsTo) (serial : (q : List SerialOp) → Set q → IsSerial q) where
  -- The monitor is that of the history before the call.
  pub sticks_before : (h : List Event) (a : OpId) (m : List Shown) → HasSequentialThreads (h ++ Call a.t a.k ∷ []) → IsPending (h ++ Call a.t a.k ∷ []) a → HasStuck Set LeadsTo (λ x. IsStuckFrom Next x (call a)) (h ++ Call a.t a.k ∷ []) a → IsMonitorOf LeadsTo m h → HasWitness Set (keep_pending a.t (h ++ Call a.t a.k ∷ [])) ↔ CanBeStuck Next (call a) m
  sticks_before h a m sequential waits has is =
      let law = stuck_is_configured Set LeadsTo (λ x k. IsStuckFrom Next x k) call reads serial (h ++ Call a.t a.k ∷ []) a sequential waits has in
      let pending_calls = pending_call call (h ++ Call a.t a.k ∷ []) in (
        (λ w.
            let some = law.0 w in
            let from = (call_law LeadsTo Next call auto h a some.0 sequential).0 some.1 in
            let same = nothing_new Next pending_calls from.1 from.0 some.0 some.2 from.4 in (
              from.0,
              (is from.0).1 from.2,
              ((λ t. same.effects t ∙ some.2 t), subst (λ x. IsStuckFrom Next x (call a)) (sym same.state) some.3),
            )),
        (λ (c, held, stuck).
            law.1 (c, (call_law LeadsTo Next call auto h a c sequential).1 (c, [], (is c).0 held, tt, same_itself c), stuck.0, stuck.1)),
      )

  -- So it can where only some of the configurations before the call are known.
  pub part_before : (h : List Event) (a : OpId) (m : List Shown) → HasSequentialThreads (h ++ Call a.t a.k ∷ []) → IsPending (h ++ Call a.t a.k ∷ []) a → HasStuck Set LeadsTo (λ x. IsStuckFrom Next x (call a)) (h ++ Call a.t a.k ∷ []) a → ((d : Configuration ℕ) → Holds m d → IsConfiguration LeadsTo h d) → CanBeStuck Next (call a) m → HasWitness Set (keep_pending a.t (h ++ Call a.t a.k ∷ []))
  part_before h a m sequential waits has part (c, held, stuck) =
      let law = stuck_is_configured Set LeadsTo (λ x k. IsStuckFrom Next x k) call reads serial (h ++ Call a.t a.k ∷ []) a sequential waits has in
      law.1 (c, (call_law LeadsTo Next call auto h a c sequential).1 (c, [], part c held, tt, same_itself c), stuck.0, stuck.1)
