-- Calls that would be blocked at once.
use Rattle.std.proofs.Common.{arith, ◌≡◌, ℕ, ◌+◌, ◌<◌, ◌≤◌, [], Option, sym, ◌∙◌, ap, subst, inl, inr, length}
use Rattle.std.proofs.lemmas.Bool.{cases_lt}
use Rattle.std.proofs.lemmas.Option.{slice_get_within}
use Rattle.std.specs.Prelude.{List}
use Rattle.lu_test.specs.declared.schedule.Move.{Move}
use Rattle.lu_machine.specs.declared.event.Event.{Event}
use Rattle.lu_machine.specs.States.{State}
use Rattle.lu_machine.specs.Steps.{picks_of}
use Rattle.lu_serial.specs.Serial.{HasOpen}
use Rattle.lu_linearization.specs.declared.configuration.Configuration.{Configuration as Shown}
use Rattle.lu_linearization.specs.Monitors.{CanBeStuck}
use Rattle.lu_client.specs.Clients.{ClientStep}
use Rattle.lu_answers.specs.declared.rounds.Rounds.{Rounds}
use Rattle.lu_answers.specs.Tables.{Goes, Rows, table_of}
use Rattle.lu_answers.specs.Ways.{limit_of, way_of}
use Rattle.lu_always.specs.Searching.{node_at}
use Rattle.lu_always.specs.Steps.{IsBlockedCall}
use Rattle.lu_always.specs.StepSearch.{AllCallsAreFine, IsBadCall, IsFineCall}
use Rattle.lu_always.proofs.Exiting.{client_feasible}
use Rattle.lu_always.proofs.Likeness.{in_order_once}
use Rattle.lu_always.proofs.StepsMade.{idle_once, idle_shut, shut_idle}

-- the call of thread t
abbrev pub call_of : ℕ → Move
call_of t = record { thread = t; pick = 0 }

module _ (rounds : Rounds) (rows : Rows) (a : State) (monitor : List Shown) (t : ℕ) where
  pub open_is_fine : HasOpen a t → IsFineCall rounds rows (node_at a monitor) (call_of t)
  open_is_fine busy blocked = absurd (idle_shut a t blocked.0 busy)

  pub none_is_fine : picks_of a t ≡ 0 → IsFineCall rounds rows (node_at a monitor) (call_of t)
  none_is_fine none (rests, (b, event, step, picks)) =
      let can = client_feasible rounds a (call_of t) b event step in
      absurd (omega (arith, can, none))

  module _ (b : State) (event : Option Event) (step : ClientStep (way_of rounds) a (call_of t) b event) where
    pub blocked_is_bad : (HasOpen a t → ⊥) → 0 < picks_of a t → picks_of b t ≡ 0 → (CanBeStuck (Goes (table_of [] rows)) t monitor → ⊥) → IsBadCall rounds rows (node_at a monitor) (call_of t)
    blocked_is_bad shut can none never = ((shut_idle a t shut can, (b, event, step, none)), never)

    pub moving_is_fine : (picks_of b t ≡ 0 → ⊥) → IsFineCall rounds rows (node_at a monitor) (call_of t)
    moving_is_fine moves (rests, (other, others, also, none)) =
        let same = (in_order_once (limit_of rounds) a (call_of t) b other event others step also).0 in
        absurd (moves (ap (λ (x : State). picks_of x t) same ∙ none))

-- ---- thread by thread

abbrev pub AreFineBefore : Rounds → Rows → State → List Shown → ℕ → Type 0
AreFineBefore rounds rows s monitor n = (t : ℕ) → t < n → IsFineCall rounds rows (node_at s monitor) (call_of t)

module _ (rounds : Rounds) (rows : Rows) (s : State) (monitor : List Shown) where
  pub fine_none : AreFineBefore rounds rows s monitor 0
  fine_none t lt = absurd (omega (arith, lt))

  pub fine_next : (n : ℕ) → AreFineBefore rounds rows s monitor n → IsFineCall rounds rows (node_at s monitor) (call_of n) → AreFineBefore rounds rows s monitor (n + 1)
  fine_next n before here t lt = elim (cases_lt t n) as (λ _. IsFineCall rounds rows (node_at s monitor) (call_of t)) [
    | inl less ↦ before t less
    | inr past ↦ (let same : t ≡ n = omega (arith, lt, past) in subst (λ x. IsFineCall rounds rows (node_at s monitor) (call_of x)) (sym same) here)
  ]

  pub fine_all : (n : ℕ) → length s.threads ≤ n → AreFineBefore rounds rows s monitor n → AllCallsAreFine rounds rows (node_at s monitor)
  fine_all n past before m blocked =
      let (k, at) = blocked.0 in
      let within = slice_get_within s.threads m.thread _ at in
      let few = idle_once s m.thread blocked.0 in
      let can = client_feasible rounds s m blocked.1.0 blocked.1.1 blocked.1.2 in
      let pick : m.pick ≡ 0 = omega (arith, few, can) in
      let same : m ≡ call_of m.thread = ap (λ (x : ℕ). let y : Move = record { thread = m.thread; pick = x } in y) pick in
      before m.thread (omega (arith, within, past)) (subst (λ (x : Move). IsBlockedCall (way_of rounds) s x) same blocked)
