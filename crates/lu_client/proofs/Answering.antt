-- A call that does not overrun has an outcome.
use Rattle.std.proofs.Common.{arith, ◌≡◌, ℕ, ◌<◌, [], ◌∷◌, length, Option, Some, slice_get, refl, ap, inl, inr}
use Rattle.std.proofs.lemmas.Bool.{lt-ltb}
use Rattle.lu_component.specs.Component.{Component}
use Rattle.lu_test.specs.declared.matrix.Call.{Call as ACall}
use Rattle.lu_test.specs.declared.schedule.Move.{Move}
use Rattle.lu_machine.specs.declared.event.Event.{Event}
use Rattle.lu_machine.specs.declared.event.Event.TheVariants.{Call, Return}
use Rattle.lu_machine.specs.States.{State, call_count}
use Rattle.lu_machine.specs.Steps.{Step, picks_of}
use Rattle.lu_machine.specs.Runs.{Leads, with_event}
use Rattle.lu_machine.proofs.StepLaws.{feasible_step}
use Rattle.lu_history.specs.declared.serial.SerialOutcome.{SerialOutcome}
use Rattle.lu_history.specs.declared.serial.SerialOutcome.TheVariants.{Stuck}
use Rattle.lu_history.specs.Parts.{as_serial}
use Rattle.lu_serial.specs.Serial.{HasOpen, entries_of}
use Rattle.lu_serial.proofs.Opening.{same_or_not}
use Rattle.lu_serial.proofs.Moves.{step_stepped}
use Rattle.lu_serial.proofs.Ops.{Held, IsOnlyOpen, Returned, open_before, run_open}
use Rattle.lu_serial.proofs.Serially.{serially_leads}
use Rattle.lu_client.specs.Alone.{Answers, Overruns, Rest, before_call, rest_of}
use Rattle.lu_client.proofs.OneCalls.{idle_thread, x_count, x_quiet, x_stands}

idle_picks : (s : State) (t : ℕ) → slice_get s.threads t ≡ Some idle_thread → 0 < call_count s t → 0 < picks_of s t
idle_picks s t stands left = rw (stands, lt-ltb 0 (call_count s t) left) (omega arith)

module _ (c : Component) (bound : ℕ) (rest : Rest) (t : ℕ) (call : ACall) (short : Overruns c bound rest t call → ⊥) where
  abbrev x : State
  x = before_call c rest t call

  abbrev m : Move
  m = record { thread = t; pick = 0 }

  -- the call is made
  module _ (next : State) (event : Option Event) (step : Step x m next event) (k : ℕ) (called : event ≡ Some (Call t k)) where
    returned : Returned next t → (outcome : SerialOutcome) × Answers c rest t call outcome
    returned r =
        let leads : Leads x (m ∷ r.moves) r.end (with_event event (Return t r.number r.outcome ∷ [])) = (next, event, Return t r.number r.outcome ∷ [], step, serially_leads next r.moves r.end (Return t r.number r.outcome ∷ []) r.leads, refl) in (
          as_serial r.outcome,
          inl (
            rest_of r.end,
            record {
              moves = m ∷ r.moves;
              end = r.end;
              history = with_event event (Return t r.number r.outcome ∷ []);
              leads = leads;
              returns = ap (λ e. entries_of (with_event e (Return t r.number r.outcome ∷ []))) called;
              leaves = refl;
            },
          ),
        )

    held : Held next t bound → (outcome : SerialOutcome) × Answers c rest t call outcome
    held h =
        let leads : Leads x (m ∷ h.moves) h.end (with_event event []) = (next, event, [], step, serially_leads next h.moves h.end [] h.leads, refl) in
        elim h.stands [
          | inl blocked ↦ (Stuck, inr (refl, (length h.moves, h.end, record { first = m; moves = h.moves; history = with_event event []; leads = leads; long = refl; still = h.open_still }, blocked)))
          | inr long ↦ absurd (short (h.end, record { first = m; moves = h.moves; history = with_event event []; leads = leads; long = long.0; still = h.open_still }, long.1))
        ]

  answer : (outcome : SerialOutcome) × Answers c rest t call outcome
  answer =
      let count = x_count c rest t call in
      let quiet = x_quiet c rest t call in
      let to = feasible_step x m (idle_picks x t (x_stands c rest t call) (omega (arith, count))) in
      let its = step_stepped x m to.0 to.1 to.2 in
      elim its.kind as (λ _. (outcome : SerialOutcome) × Answers c rest t call outcome) [
        | inl called ↦
            (let busy : HasOpen to.0 t = (its.after, its.is, called.1) in
            let only : IsOnlyOpen to.0 t = λ i o. elim (same_or_not i t) [ inl same ↦ same | inr apart ↦ absurd (quiet i (open_before x m to.0 to.1 its i apart o)) ] in
            elim (run_open bound to.0 t busy only) [
              | inl r ↦ returned to.0 to.1 to.2 its.before.done called.3 r
              | inr h ↦ held to.0 to.1 to.2 its.before.done called.3 h
            ])
        | inr other ↦ elim other as (λ _. (outcome : SerialOutcome) × Answers c rest t call outcome) [
          | inl went ↦ absurd (quiet t (its.before, its.was, went.0))
          | inr closed ↦ absurd (quiet t (its.before, its.was, closed.0))
        ]
      ]

pub some_answer : (c : Component) (bound : ℕ) (rest : Rest) (t : ℕ) (call : ACall) → (Overruns c bound rest t call → ⊥) → (outcome : SerialOutcome) × Answers c rest t call outcome
some_answer c bound rest t call short = answer c bound rest t call short
