use Rattle.std.proofs.Common.{arith, ◌≡◌, ◌<◌, ◌++◌, List, Some, refl, sym, ◌∙◌, ap, subst, inl, inr, length, take, drop, slice_get}
use Rattle.std.specs.Prelude.{◌⊎◌, []}
use Rattle.std.proofs.lemmas.List.{length-take-le, take-append-drop}
use Rattle.std.proofs.lemmas.Option.{slice_get_within}
use Rattle.lu_test.specs.declared.matrix.Call.{Call as ACall}
use Rattle.lu_run.specs.declared.run.RunEvent.{RunEvent}
use Rattle.lu_run.specs.Judging.{OfRun, StartsAt, thread_of}
use Rattle.lu_run.specs.Ordering.{IsKnownOrder, IsOrderFor, IsOrderWith}
use Rattle.lu_run.specs.Runs.{IsEventOf, matrix_of}
use Rattle.lu_run.proofs.Beginning.{first_starts, first_state}
use Rattle.lu_run.proofs.Replayed.{event_seat, taken_at}
use Rattle.lu_run.proofs.ordering.find_order_before.Goals as goal

pub find_order-requires-clause-start : goal.find_order-requires-clause-start
find_order-requires-clause-start c = first_state c.args.component.now c.args.run.now.calls.items c.in_ok-start.start c.in_ok-table.table c.in_ok-table.ensures c.in_ok-start.ensures.at_rest

pub find_order-requires-clause-calls : goal.find_order-requires-clause-calls
find_order-requires-clause-calls c = rw c.deref-2.ensures.value c.requires.calls

pub find_order-requires-clause-events : goal.find_order-requires-clause-events
find_order-requires-clause-events c = λ i e at.
    let n = c.in-FailsAt.failure.event in
    let there = subst (λ (x : List RunEvent). slice_get (take n x) i ≡ Some e) c.deref-3.ensures.value at in
    subst (λ (x : List ACall). IsEventOf x e) (sym c.deref-2.ensures.value) (c.requires.run.events_of i e (taken_at n c.args.run.now.events.items i e there))

pub find_order-requires-clause-thread : goal.find_order-requires-clause-thread
find_order-requires-clause-thread c =
    let events = c.args.run.now.events.items in
    let n = c.in-FailsAt.failure.event in
    let e = c.in-Some.event in
    let at : slice_get events n ≡ Some e = ap (λ (x : List RunEvent). slice_get x n) (sym c.deref.ensures.value) ∙ (sym c.event_at.ensures ∙ c.in-Some.is) in
    subst (λ t. t < 8) (sym c.thread_of.ensures) (event_seat c.args.run.now.calls.items e (c.requires.run.events_of n e at))

pub returns-in-Ok : goal.returns-in-Ok
returns-in-Ok c = λ s start.
    let component = c.args.component.now in
    let setup = c.args.matrix.now.setup in
    let calls = c.args.run.now.calls.items in
    let events = c.args.run.now.events.items in
    let table = c.in_ok-table.table in
    let p = c.in_ok-start.start in
    let n = c.in-FailsAt.failure.event in
    let expected = c.in-FailsAt.failure.expected in
    let e = c.in-Some.event in
    let order = c.in-Ok.order.items in
    let at : slice_get events n ≡ Some e = ap (λ (x : List RunEvent). slice_get x n) (sym c.deref.ensures.value) ∙ (sym c.event_at.ensures ∙ c.in-Some.is) in
    let same = c.in_ok-start.ensures.rest (matrix_of setup calls events) s refl start in
    let starts : StartsAt table s = first_starts component calls p table c.in_ok-table.ensures c.in_ok-start.ensures.at_rest s same in
    let few = length-take-le n events (let within = slice_get_within events n e at in omega (arith, within)) in
    let finds = subst (λ (x : List RunEvent). (all rest : List RunEvent) → all ≡ take n x ++ rest → OfRun component c.deref-2.result.now table all (λ t. IsKnownOrder t c.deref-2.result.now all (length (take n x)) c.thread_of.result expected order)) c.deref-3.ensures.value c.in-Ok.ensures.order in
    let known = subst (λ (x : List ACall). OfRun component x table events (λ t. IsKnownOrder t x events (length (take n events)) c.thread_of.result expected order)) c.deref-2.ensures.value (finds events (drop n events) (sym (take-append-drop n events))) in
    let got : IsKnownOrder s calls events (length (take n events)) c.thread_of.result expected order = known setup s start starts c.requires.run in
    let is : IsKnownOrder s calls events n (thread_of e) expected order = subst (λ m. IsKnownOrder s calls events m (thread_of e) expected order) few (subst (λ t. IsKnownOrder s calls events (length (take n events)) t expected order) c.thread_of.ensures got) in
    subst (λ x. IsOrderFor s c.args.run.now x order) (sym c.in-FailsAt.is) (elim is as (λ _. (order ≡ []) ⊎ ((x : RunEvent) × (slice_get events n ≡ Some x) × IsOrderWith s calls events n (thread_of x) expected order)) [
      | inl none ↦ inl none
      | inr has ↦ inr (e, at, has)
    ])
