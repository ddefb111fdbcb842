use Rattle.std.proofs.Common.{sym, ◌∙◌, ap, Ok}
use Rattle.std.proofs.lemmas.Result.{err_from_is_err_and}
use Rattle.lu_text.proofs.Reading.{line_ok}
use Rattle.lu_text.specs.Lines.{texts}
use Rattle.lu_text.specs.Faults.{on_line}
use Rattle.lu_run.specs.Reading.{seen}
use Rattle.lu_run.specs.RunText.{event_of, then_event}
use Rattle.lu_run.proofs.Saying.{no_event}
use Rattle.lu_run.proofs.reading.event_line.Goals as goal

pub returns-in_err-event-clause-said : goal.returns-in_err-event-clause-said
returns-in_err-event-clause-said c =
    let p = err_from_is_err_and c.from_residual.result c.from_residual.ensures.1 in
    rw (p.1, p.2) (no_event c.args.line (seen c.args.draft) c.in_err-event.field-0.0 (event_of c.args.component.now c.args.draft.pending c.args.word.now (texts c.args.words.now)) c.in_err-event.ensures.event)

pub returns-clause-said : goal.returns-clause-said
returns-clause-said c =
    let meant = event_of c.args.component.now c.args.draft.pending c.args.word.now (texts c.args.words.now) in
    let is = line_ok c.args.line meant c.in_ok-event.event c.in_ok-event.ensures.event in
    let follows = c.in_ok-with_event.ensures c.args.component.now c.requires c.in_ok-event.ensures.of in
    ap (λ r. on_line c.args.line (then_event (seen c.args.draft) r)) is ∙ ap Ok (sym follows.0)

pub returns-clause-sound : goal.returns-clause-sound
returns-clause-sound c = (c.in_ok-with_event.ensures c.args.component.now c.requires c.in_ok-event.ensures.of).1
