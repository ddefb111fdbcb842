use Rattle.std.proofs.Common.{◌≡◌, ◌+◌, suc, List, [], ◌∷◌, ◌++◌, Some, None, get_or, slice_get, take, drop, sym, ◌∙◌, ap, subst, add-one}
use Rattle.std.proofs.lemmas.Option.{slice_get-get_or}
use Rattle.lu_test.specs.declared.matrix.Call.{Call as ACall}
use Rattle.lu_history.proofs.Events.{split_at, take_next}
use Rattle.lu_run.specs.declared.run.RunEvent.{RunEvent}
use Rattle.lu_run.specs.declared.run.RunEvent.TheVariants.{Call as Calls}
use Rattle.lu_run.specs.Checking.{Accepts}
use Rattle.lu_run.specs.Runs.{history_of}
use Rattle.lu_run.proofs.Ran.{may_come, ran_more, tells_more}
use Rattle.lu_run.proofs.checking.is_run.Goals as goal

pub returns-in-None : goal.returns-in-None
returns-in-None c =
    let events = c.args.run.now.events.items in
    let items = c.deref-event-items.result.now in
    let i = c.loop-event.event-index in
    let e : RunEvent = get_or items i (Calls 0 0) in
    let at : slice_get events i ≡ Some e = ap (λ xs. slice_get xs i) (sym c.deref-event-items.ensures.value) ∙ slice_get-get_or items i (Calls 0 0) c.loop-event-test.true in
    let refuses : Accepts c.args.run.now.calls.items c.loop-event.pending e None = subst (λ (x : List ACall). Accepts x c.loop-event.pending e None) c.deref.ensures.value (rw c.in-None.is at c.accept.ensures) in (
      (λ is. absurd cc),
      (λ run. absurd (refuses (history_of (take i events)) c.loop-event.invariant.tells (may_come c.args.run.now.calls.items events (take i events) (drop (suc i) events) e i run at (split_at events e i at)))),
    )

pub loop-event-preserved : goal.loop-event-preserved
loop-event-preserved c =
    let events = c.args.run.now.events.items in
    let items = c.deref-event-items.result.now in
    let i = c.loop-event.event-index in
    let e : RunEvent = get_or items i (Calls 0 0) in
    let at : slice_get events i ≡ Some e = ap (λ xs. slice_get xs i) (sym c.deref-event-items.ensures.value) ∙ slice_get-get_or items i (Calls 0 0) c.loop-event-test.true in
    let accepts : Accepts c.args.run.now.calls.items c.loop-event.pending e (Some c.in-Some.next) = subst (λ (x : List ACall). Accepts x c.loop-event.pending e (Some c.in-Some.next)) c.deref.ensures.value (rw c.in-Some.is at c.accept.ensures) in
    let both = accepts (history_of (take i events)) c.loop-event.invariant.tells in
    let taken : take (i + 1) events ≡ take i events ++ e ∷ [] = rw (add-one i) (take_next events e i at) in
    record {
      run = rw taken (ran_more c.args.run.now.calls.items (take i events) e c.loop-event.invariant.run both.0);
      tells = rw taken (tells_more c.in-Some.next (take i events) e both.1);
    }
