use Rattle.std.proofs.Common.{◌≡◌, ◌+◌, ◌<◌, ◌++◌, ◌∷◌, [], List, length, take, get_or, ap, sym, subst, ◌∙◌, arith}
use Rattle.std.proofs.lemmas.List.{length-take, take_more}
use Rattle.lu_test.specs.declared.schedule.Move.{Move}
use Rattle.lu_machine.specs.Runs.{Leads, with_event}
use Rattle.lu_machine.proofs.Paths.{goes_on_feasible, child_leads}
use Rattle.lu_explain.specs.EventMoves.{with_number}
use Rattle.lu_explain.proofs.MoveNumbers.{numbered_more}
use Rattle.lu_explain.proofs.moves.event_moves.Goals as goal

abbrev none : Move
none = record { thread = 0; pick = 0 }

pub step-event-requires : goal.step-event-requires
step-event-requires c =
    let start = c.in_ok-machine.machine in
    let u = c.moves-next-items.result.now in
    let all = c.requires.leads start c.in_ok-machine.ensures.starts in
    let leads = subst (λ (v : List Move). Leads start v all.end all.history) (sym c.moves-next-items.ensures.moves) all.leads in
    let now = c.loop-number.invariant.leads in
    goes_on_feasible start u all.end all.history leads c.loop-number.number none (omega (arith, c.loop-number-test.true)) c.loop-number.machine now.0 now.1

pub loop-number-preserved : goal.loop-number-preserved
loop-number-preserved c =
    let start = c.in_ok-machine.machine in
    let u = c.moves-next-items.result.now in
    let i = c.loop-number.number in
    let within : i < length u = omega (arith, c.loop-number-test.true) in
    let m : Move = get_or u i none in
    let more : take (i + 1) u ≡ take i u ++ m ∷ [] = take_more u i none within in
    let event = c.step-event.result in
    let now = c.loop-number.invariant.leads in
    let count : 0 + length (take i u) ≡ i = rw length-take (omega arith) in
    let grown = numbered_more start 0 (take i u) c.loop-number.machine c.loop-number.numbers.items c.loop-number.invariant.numbered m c.step-event.new.self event c.step-event.ensures.step in
    let numbers : c.note.new.numbers.items ≡ c.loop-number.numbers.items ++ with_number event (0 + length (take i u)) [] = c.in_ok-note.ensures ∙ ap (λ n. c.loop-number.numbers.items ++ with_number event n []) (sym count) in
    record {
      numbered = rw (more, numbers) grown;
      leads = (now.0 ++ with_event event [], rw more (child_leads start (take i u) c.loop-number.machine now.0 now.1 m c.step-event.new.self event c.step-event.ensures.step));
    }
