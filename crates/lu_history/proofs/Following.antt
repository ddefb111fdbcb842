-- A history follows a machine: its events fit, move after move.
use Rattle.std.proofs.Common.{◌≡◌, ℕ, zero, suc, ◌<◌, false, List, [], ◌∷◌, ◌++◌, Option, Some, map, length, replicate, slice_set, get_or, refl, sym, subst, ◌∙◌, ap}
use Rattle.std.proofs.lemmas.List.{append-nil, set-get_or}
use Rattle.std.proofs.lemmas.Option.{none-some, same_Some}
use Rattle.lu_component.specs.Component.{Component}
use Rattle.lu_test.specs.declared.schedule.Move.{Move}
use Rattle.lu_test.specs.Matrix.{Matrix}
use Rattle.lu_machine.specs.declared.event.Event.{Event}
use Rattle.lu_machine.specs.declared.event.Event.TheVariants.{Call, Return}
use Rattle.lu_machine.specs.declared.thread.Activity.TheVariants.{Idle}
use Rattle.lu_machine.specs.declared.thread.Thread.{Thread}
use Rattle.lu_machine.specs.Events.{IsEventInRange}
use Rattle.lu_machine.specs.Runs.{with_event}
use Rattle.lu_machine.specs.Starts.{IsStart}
use Rattle.lu_machine.specs.States.{State, progress, progress_of}
use Rattle.lu_machine.specs.Steps.{Step}
use Rattle.lu_machine.proofs.Starting.{start_threads}
use Rattle.lu_machine.proofs.Progress.{Way, opens, goes_on, ends, step_goes}
use Rattle.lu_history.specs.Histories.{Fits}
use Rattle.lu_history.specs.Standing.{Standing, Agree}
use Rattle.lu_history.proofs.Agreement.{agree_start, agree_call, agree_return, call_fits, return_fits}

-- at the start nothing has happened
pub start_agrees : (c : Component) (matrix : Matrix) (s : State) → IsStart c matrix s → Agree (progress s) []
start_agrees c matrix s is =
    let n = length matrix.threads in
    subst (λ (threads : List Thread). Agree (map progress_of threads) []) (sym (start_threads c matrix s is)) (rw (idle_progress n) (agree_start n))
  where
    idle_progress : (n : ℕ) → map progress_of (replicate n (record { done = 0; activity = Idle })) ≡ replicate n (0, false)
    idle_progress zero = refl
    idle_progress (suc n) = ap (λ (x : List Standing). (0, false) ∷ x) (idle_progress n)

way_agrees : (threads : List Standing) (t : ℕ) (now : Standing) (event : Option Event) (h : List Event) → Agree threads h → t < length threads → Way t (get_or threads t (0, false)) now event → Agree (slice_set threads t now) (h ++ with_event event [])
way_agrees threads t now event h agree within (opens k was is then) = rw (is, then) (agree_call threads h agree t k within was)
way_agrees threads t now event h agree within (goes_on k was is then) =
    rw (then, append-nil, is, ← was, set-get_or) agree
way_agrees threads t now event h agree within (ends k outcome was is then) =
    rw (is, then) (agree_return threads h agree t k within outcome was)

-- the history goes on as the machine does
pub step_agrees : (s : State) (m : Move) (new : State) (event : Option Event) (h : List Event) → Agree (progress s) h → Step s m new event → Agree (progress new) (h ++ with_event event [])
step_agrees s m new event h agree step =
    let goes = step_goes s m new event step in
    rw goes.progress_is (way_agrees (progress s) m.thread goes.now event h agree goes.within goes.way)

way_fits : (threads : List Standing) (t : ℕ) (now : Standing) (event : Option Event) (e : Event) (h : List Event) → event ≡ Some e → Agree threads h → IsEventInRange e → Way t (get_or threads t (0, false)) now event → Fits h e
way_fits threads t now event e h is agree small (opens k was now_is then) =
    let same : e ≡ Call t k = same_Some e (Call t k) (sym is ∙ then) in
    let few = rw same at small in
    rw same (call_fits threads h agree t k was few.0 few.1)
way_fits threads t now event e h is agree small (goes_on k was now_is then) = absurd (none-some e (sym then ∙ is))
way_fits threads t now event e h is agree small (ends k outcome was now_is then) =
    let same : e ≡ Return t k outcome = same_Some e (Return t k outcome) (sym is ∙ then) in
    let few = rw same at small in
    rw same (return_fits threads h agree t k outcome was few.0 few.1)

-- and the move's event fits
pub step_fits : (s : State) (m : Move) (new : State) (e : Event) (h : List Event) → Agree (progress s) h → Step s m new (Some e) → IsEventInRange e → Fits h e
step_fits s m new e h agree step small =
    let goes = step_goes s m new (Some e) step in
    way_fits (progress s) m.thread goes.now (Some e) e h refl agree small goes.way
