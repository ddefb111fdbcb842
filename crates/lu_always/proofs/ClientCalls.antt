-- Open operations and their picks, in the client and after a call.
use Rattle.std.proofs.Common.{◌≡◌, ℕ, Option, None, Some, slice_get, refl, sym, ◌∙◌, ap, subst, inl, inr}
use Rattle.std.specs.Option.{option_map}
use Rattle.std.proofs.lemmas.Bool.{cases_eq}
use Rattle.lu_test.specs.declared.schedule.Move.{Move}
use Rattle.lu_test.specs.Matrix.{Matrix}
use Rattle.lu_machine.specs.declared.event.Event.{Event}
use Rattle.lu_machine.specs.declared.thread.Activity.TheVariants.{Idle}
use Rattle.lu_machine.specs.declared.thread.Thread.{Thread}
use Rattle.lu_machine.specs.Changes.{IsAtWork, at_work, idle}
use Rattle.lu_machine.specs.States.{State}
use Rattle.lu_machine.specs.Steps.{picks_of}
use Rattle.lu_horizon.proofs.OwnLaws.{other_stands}
use Rattle.lu_serial.specs.Serial.{HasOpen}
use Rattle.lu_serial.proofs.Moves.{the_thread}
use Rattle.lu_late.specs.Steps.{IsIdle}
use Rattle.lu_late.proofs.Blocked.{picks_on}
use Rattle.lu_client.specs.Rounds.{Way}
use Rattle.lu_client.specs.Clients.{AllBlocked, ClientStep, around, client_matrix, client_of, stand_in}
use Rattle.lu_client.proofs.Carried.{picks_over}
use Rattle.lu_client.proofs.Turning.{stand_at, turn}

-- an operation that is at work is open
pub work_open : (s : State) (t k : ℕ) → IsAtWork s t k → HasOpen s t
work_open s t k (f, is) = (at_work k f, is, λ e. cc)

-- a thread with an open operation is not idle
pub open_not_idle : (s : State) (t : ℕ) → HasOpen s t → IsIdle s t → ⊥
open_not_idle s t busy is = busy.2 (ap (λ (x : Thread). x.activity) (the_thread s t busy.0 (idle is.0) busy.1 is.1))

-- an open operation has as many picks in the client
pub client_picks : (way : Way) (matrix : Matrix) (s : State) (t : ℕ) → HasOpen s t → picks_of (client_of way matrix s) t ≡ picks_of s t
client_picks way matrix s t busy =
    let rows = (client_matrix way matrix).threads in
    picks_over (client_matrix way matrix) (stand_in way rows s.threads) s t busy.0 (turn way rows t busy.0) busy.0.activity busy.1
    (stand_at way rows s.threads t ∙ ap (option_map (turn way rows t)) busy.1) refl refl busy.2

module _ (way : Way) (a : State) (m : Move) (b : State) (event : Option Event) (step : ClientStep way a m b event) (t : ℕ) (others : slice_get step.2.0.threads t ≡ slice_get a.threads t) (picks : picks_of step.2.0 t ≡ picks_of (record a { matrix = step.0 }) t) where
  abbrev next : State
  next = step.2.0

  abbrev whole : State
  whole = record next { matrix = a.matrix }

  by_thread : (o : Option Thread) → slice_get next.threads t ≡ o → HasOpen (around way whole) t → HasOpen a t × (picks_of (around way whole) t ≡ picks_of a t)
  by_thread None is busy = absurd (let none : slice_get (around way whole).threads t ≡ None = stand_at way a.matrix.threads next.threads t ∙ ap (option_map (turn way a.matrix.threads t)) is in let some = busy.1 in cc)
  by_thread (Some was) is busy =
      let rows = a.matrix.threads in
      let there : slice_get (around way whole).threads t ≡ Some (turn way rows t was) = stand_at way rows next.threads t ∙ ap (option_map (turn way rows t)) is in
      let same = the_thread (around way whole) t (turn way rows t was) busy.0 there busy.1 in
      let begun : was.activity ≡ Idle → ⊥ = λ idle. busy.2 (ap (λ (x : Thread). x.activity) (sym same) ∙ idle) in
      let here : slice_get a.threads t ≡ Some was = sym others ∙ is in (
        (was, here, begun),
        picks_over a.matrix (stand_in way rows next.threads) next t was (turn way rows t was) was.activity is there refl refl begun
            ∙ (picks ∙ picks_over step.0 a.threads a t was was was.activity here here refl refl begun),
      )

  pub call_picks : HasOpen b t → HasOpen a t × (picks_of b t ≡ picks_of a t)
  call_picks busy =
      let it = by_thread (slice_get next.threads t) refl (subst (λ x. HasOpen x t) step.2.2 busy) in
      (it.0, ap (λ x. picks_of x t) step.2.2 ∙ it.1)

-- where all open operations are blocked, and the call is blocked at once, all are blocked after it
pub call_blocked : (way : Way) (a : State) (m : Move) (b : State) (event : Option Event) → ClientStep way a m b event → IsIdle a m.thread → AllBlocked a → picks_of b m.thread ≡ 0 → AllBlocked b
call_blocked way a m b event step is all none t busy = elim (cases_eq m.thread t) as (λ _. picks_of b t ≡ 0) [
  | inl same ↦ subst (λ v. picks_of b v ≡ 0) same none
  | inr differ ↦
      (let on : State = record a { matrix = step.0 } in
      let it = call_picks way a m b event step t (other_stands on m step.2.0 event t differ step.2.1) (picks_on on m step.2.0 event t differ is step.2.1) busy in
      it.1 ∙ all t it.0)
]
