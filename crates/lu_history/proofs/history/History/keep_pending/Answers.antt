use Rattle.std.proofs.Common.{slice_get, get_or, ap, sym, ◌∙◌, subst, arith}
use Rattle.std.proofs.lemmas.Option.{slice_get-get_or}
use Rattle.lu_machine.specs.declared.event.Event.TheVariants.{Call}
use Rattle.lu_history.specs.Histories.{Fits}
use Rattle.lu_history.proofs.Filtered.{filtered_fits, few_threads, left_out}
use Rattle.lu_history.proofs.history.History.keep_pending.Goals as goal

pub is_kept-requires : goal.is_kept-requires
is_kept-requires c =
    let items = c.events-event-items.result.now in
    let at = slice_get-get_or items c.loop-event.event-index (Call 0 0) (omega arith) in
    few_threads c.args.t c.args.self.now c.events-event-items.ensures.well_formed c.loop-event.event-index (get_or items c.loop-event.event-index (Call 0 0)) (ap (λ x. slice_get x c.loop-event.event-index) (sym c.events-event-items.ensures.events) ∙ at)

pub push-requires : goal.push-requires
push-requires c =
    let items = c.events-event-items.result.now in
    let at = slice_get-get_or items c.loop-event.event-index (Call 0 0) (omega arith) in
    subst (λ g. Fits g (get_or items c.loop-event.event-index (Call 0 0))) (sym c.loop-event.invariant)
    (filtered_fits c.args.t c.args.self.now c.events-event-items.ensures.well_formed c.loop-event.event-index (get_or items c.loop-event.event-index (Call 0 0)) (ap (λ x. slice_get x c.loop-event.event-index) (sym c.events-event-items.ensures.events) ∙ at))

pub returns-in_err-push-clause-left_out : goal.returns-in_err-push-clause-left_out
returns-in_err-push-clause-left_out c = left_out c.args.t c.args.self.now c.events-event-items.ensures.well_formed

pub returns-clause-left_out : goal.returns-clause-left_out
returns-clause-left_out c = left_out c.args.t c.args.self.now c.events-event-items.ensures.well_formed
