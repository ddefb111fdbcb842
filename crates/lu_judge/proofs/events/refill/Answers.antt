use Rattle.std.proofs.Common.{◌≤◌, ◌∙◌, refl, length, get_or, sym, subst, arith}
use Rattle.lu_machine.specs.declared.event.Event.TheVariants.{Call}
use Rattle.lu_history.specs.Histories.{Fits}
use Rattle.lu_judge.proofs.Refilling.{all_there, behind, first_kept, next_fits}
use Rattle.lu_judge.proofs.events.refill.Goals as goal

pub push-requires : goal.push-requires
push-requires c =
    let events = c.args.events.now in
    let kept = c.common_count-kept.result in
    let short : length c.loop-history.history ≤ kept = subst (λ h. length h ≤ kept) c.events-in-loop-history.ensures.events c.loop-history-test.false in
    let old = first_kept events c.loop-history.history kept short c.loop-history.invariant.alike in
    let fits = next_fits events events c.loop-history.history kept c.loop-event.event-index (Call 0 0) refl c.requires old c.loop-event-test.true in
    let next = get_or (behind events kept) c.loop-event.event-index (Call 0 0) in
    subst (λ h. Fits h next) (sym c.loop-event.invariant) fits

pub returns : goal.returns
returns c =
    let events = c.args.events.now in
    let kept = c.common_count-kept.result in
    let short : length c.loop-history.history ≤ kept = subst (λ h. length h ≤ kept) c.events-in-loop-history.ensures.events c.loop-history-test.false in
    let old = first_kept events c.loop-history.history kept short c.loop-history.invariant.alike in
    c.loop-event.invariant
    ∙ all_there events events c.loop-history.history kept c.loop-event.event-index refl old (omega arith)
