-- Runs, event by event.
use Rattle.std.proofs.Common.{◌≡◌, ℕ, Bool, List, [], ◌∷◌, ◌++◌, Some, slice_get, sym, ◌∙◌, subst, inl, inr, append_assoc}
use Rattle.lu_test.specs.declared.matrix.Call.{Call as ACall}
use Rattle.lu_history.proofs.Events.{at_push}
use Rattle.lu_linearization.specs.Linearizations.{HasSequentialThreads}
use Rattle.lu_linearization.proofs.Sequential.{last}
use Rattle.lu_run.specs.declared.run.RunEvent.{RunEvent}
use Rattle.lu_run.specs.Checking.{MayComeNext, TellsPending}
use Rattle.lu_run.specs.Runs.{IsEventOf, IsRun, history_of, next_event}
use Rattle.lu_run.proofs.Completed.{sequential_push}
use Rattle.lu_run.proofs.Histories.{history_push, sequential_front}

pub ran_more : (table : List ACall) (done : List RunEvent) (e : RunEvent) → IsRun table done → MayComeNext table (history_of done) e → IsRun table (done ++ e ∷ [])
ran_more table done e run may = record {
  events_of = λ i x at. elim (at_push done e x i at) as (λ _. IsEventOf table x) [ inl old ↦ run.events_of i x old.1 | inr new ↦ subst (IsEventOf table) (sym new.1) may.0 ];
  sequential = subst HasSequentialThreads (sym (history_push [] done e)) (sequential_push (history_of done) (next_event (history_of done) e) run.sequential may.1);
}

pub tells_more : (pending : List Bool) (done : List RunEvent) (e : RunEvent) → TellsPending pending (history_of done ++ next_event (history_of done) e ∷ []) → TellsPending pending (history_of (done ++ e ∷ []))
tells_more pending done e tells = subst (TellsPending pending) (sym (history_push [] done e)) tells

pub may_come : (table : List ACall) (events done more : List RunEvent) (e : RunEvent) (i : ℕ) → IsRun table events → slice_get events i ≡ Some e → events ≡ done ++ e ∷ more → MayComeNext table (history_of done) e
may_come table events done more e i run at is =
    let front = sequential_front (done ++ e ∷ []) more (subst (λ x. HasSequentialThreads (history_of x)) (is ∙ sym (append_assoc done (e ∷ []) more)) run.sequential) in
    (run.events_of i e at, last (history_of done) [] (next_event (history_of done) e) (subst HasSequentialThreads (history_push [] done e) front))
