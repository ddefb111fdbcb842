use Rattle.std.proofs.Common.{◌≡◌, ◌<◌, Some, sym, ◌∙◌, ap, subst, slice_get}
use Rattle.std.proofs.lemmas.Option.{slice_get-get_or}
use Rattle.lu_history.specs.Parts.{as_serial}
use Rattle.lu_linearization.specs.Monitors.{by_thread}
use Rattle.lu_run.specs.declared.run.RunEvent.TheVariants.{Call as Calls, Return as Back}
use Rattle.lu_run.specs.Finding.{AreSound}
use Rattle.lu_run.proofs.Found.{sound_alike, sound_call, sound_pushed, sound_return}
use Rattle.lu_run.proofs.finding.go_on.Goals as goal

pub after_call-to-requires-clause-thread : goal.after_call-to-requires-clause-thread
after_call-to-requires-clause-thread c =
    let events = c.args.events.now in
    let i = c.args.from.now.events in
    let at : slice_get events i ≡ Some (Calls c.in-Call.thread c.in-Call.call) = slice_get-get_or events i _ c.requires.next ∙ ap Some c.in-Call.is in
    (c.requires.events i (Calls c.in-Call.thread c.in-Call.call) at).0

pub bounds-in-Return : goal.bounds-in-Return
bounds-in-Return c =
    let events = c.args.events.now in
    let i = c.args.from.now.events in
    let at : slice_get events i ≡ Some (Back c.in-Return.thread c.in-Return.outcome) = slice_get-get_or events i _ c.requires.next ∙ ap Some c.in-Return.is in
    subst (λ x. x < 8) (sym c.from.ensures) (c.requires.events i (Back c.in-Return.thread c.in-Return.outcome) at)

pub returns-in_ok-add-in-Call-clause-opens : goal.returns-in_ok-add-in-Call-clause-opens
returns-in_ok-add-in-Call-clause-opens c = λ first is all.
    let component = c.args.runs.component.now in
    let calls = c.args.runs.calls.now in
    let events = c.args.events.now in
    let table = c.args.table.now in
    let i = c.args.from.now.events in
    let t = c.in-Call.thread in
    let n = c.in-Call.call in
    let at : slice_get events i ≡ Some (Calls t n) = slice_get-get_or events i _ c.requires.next ∙ ap Some c.in-Call.is in
    let seat = c.requires.events i (Calls t n) at in
    subst (AreSound component calls events first table) (sym c.in_ok-add-in-Call.ensures)
    (sound_pushed component calls events first table c.args.open.now.items c.with_likely.result all
    (sound_alike component calls events first table c.after_call-to.result c.with_likely.result c.with_likely.ensures
    (sound_call component calls events first table c.args.from.now c.after_call-to.result is t n at seat.0 seat.1 c.after_call-to.ensures)))

pub returns-in_ok-open_effects-in-None-clause-opens : goal.returns-in_ok-open_effects-in-None-clause-opens
returns-in_ok-open_effects-in-None-clause-opens c = c.in_ok-open_effects-in-None.ensures.opens c.args.events.now

pub returns-in_ok-add-in-Some-clause-opens : goal.returns-in_ok-add-in-Some-clause-opens
returns-in_ok-add-in-Some-clause-opens c = λ first is all.
    let component = c.args.runs.component.now in
    let calls = c.args.runs.calls.now in
    let events = c.args.events.now in
    let table = c.args.table.now in
    let from = c.args.from.now in
    let i = from.events in
    let t = c.in-Return.thread in
    let outcome = c.in-Return.outcome in
    let at : slice_get events i ≡ Some (Back t outcome) = slice_get-get_or events i _ c.requires.next ∙ ap Some c.in-Return.is in
    let seat : t < 8 = c.requires.events i (Back t outcome) at in
    let had : by_thread from.configuration.effects t ≡ Some (as_serial outcome) = ap (by_thread from.configuration.effects) (sym c.from.ensures) ∙ (c.in-Some.is ∙ ap Some (c.is_outcome.ensures.0 c.if-is_outcome.true)) in
    subst (AreSound component calls events first table) (sym c.in_ok-add-in-Some.ensures)
    (sound_pushed component calls events first table c.args.open.now.items c.after_return.result all
    (sound_return component calls events first table from c.after_return.result is t outcome at seat had c.after_return.ensures))
