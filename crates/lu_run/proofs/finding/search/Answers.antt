use Rattle.std.proofs.Common.{◌++◌, ◌∷◌, [], sym, subst}
use Rattle.std.proofs.lemmas.Result.{err_from_is_err_and}
use Rattle.lu_run.specs.Finding.{AreSound}
use Rattle.lu_run.specs.Offending.{Learns}
use Rattle.lu_run.proofs.Found.{sound_dropped, sound_first, sound_last, sound_last_event, sound_nothing, sound_pushed, sound_rest}
use Rattle.lu_run.proofs.Learning.{fault_earlier, learns_none, learns_on}
use Rattle.lu_run.proofs.finding.search.Goals as goal
use Rattle.lu_run.proofs.finding.search.Goals.{then-branch+in_ok-go_on+in_ok-forget_earlier, else-branch}

pub loop-attempt-init : goal.loop-attempt-init
loop-attempt-init c =
    let component = c.args.runs.component.now in
    let calls = c.args.runs.calls.now in
    let events = c.args.events.now in
    let table = c.args.table.now in
    let first = c.first_attempt.ensures in
    record {
      learns = learns_none component calls table c.requires.table;
      sound = subst (AreSound component calls events table table) (sym c.in_ok-add.ensures)
          (sound_pushed component calls events table table c.new-open.result.items c.first_attempt.result (subst (AreSound component calls events table table) (sym c.new-open.ensures.items) (sound_nothing component calls events table table))
          (sound_first component calls events table c.first_attempt.result c.requires.start first.events first.state first.pending first.effects));
    }

pub returns-then-attempt-events-clause-finds : goal.returns-then-attempt-events-clause-finds
returns-then-attempt-events-clause-finds c = λ found setup s start starts run.
    let component = c.args.runs.component.now in
    let calls = c.args.runs.calls.now in
    let events = c.args.events.now in
    let first = c.args.table.now in
    let table = c.loop-attempt.table in
    let inv = c.loop-attempt.invariant in
    let all : AreSound component calls events first table (c.pop.new.self.items ++ c.in-Some.attempt ∷ []) = subst (AreSound component calls events first table) c.in-Some.ensures.items inv.sound in
    sound_last_event component calls events first table c.in-Some.attempt inv.learns.right (sound_last component calls events first table c.pop.new.self.items c.in-Some.attempt all) c.if-attempt-events.true setup s start starts run

pub go_on-requires-clause-from : goal.go_on-requires-clause-from
go_on-requires-clause-from c =
    let component = c.args.runs.component.now in
    let calls = c.args.runs.calls.now in
    let events = c.args.events.now in
    let first = c.args.table.now in
    let table = c.loop-attempt.table in
    let all : AreSound component calls events first table (c.pop.new.self.items ++ c.in-Some.attempt ∷ []) = subst (AreSound component calls events first table) c.in-Some.ensures.items c.loop-attempt.invariant.sound in
    (sound_last component calls events first table c.pop.new.self.items c.in-Some.attempt all).is

pub returns-in_err-go_on-clause-offends : goal.returns-in_err-go_on-clause-offends
returns-in_err-go_on-clause-offends c =
    let p = err_from_is_err_and c.from_residual-in_err-go_on.result c.from_residual-in_err-go_on.ensures.1 in
    rw (p.1, p.2) (fault_earlier c.args.runs.component.now c.args.runs.calls.now c.args.runs.bound c.args.table.now c.loop-attempt.table c.in_err-go_on.field-0.0 c.loop-attempt.invariant.learns c.in_err-go_on.ensures.offends)

pub loop-attempt-preserved : goal.loop-attempt-preserved
loop-attempt-preserved c =
    let component = c.args.runs.component.now in
    let calls = c.args.runs.calls.now in
    let events = c.args.events.now in
    let first = c.args.table.now in
    let table = c.loop-attempt.table in
    let inv = c.loop-attempt.invariant in
    let attempt = c.in-Some.attempt in
    let rest = c.pop.new.self.items in
    let all : AreSound component calls events first table (rest ++ attempt ∷ []) = subst (AreSound component calls events first table) c.in-Some.ensures.items inv.sound in
    let others = sound_rest component calls events first table rest attempt all in
    elim c.if-branch.branch [
      | then-branch+in_ok-go_on+in_ok-forget_earlier w ↦ record {
        learns = subst (Learns component calls first) (sym w.table-is) (learns_on component calls first table w.go_on.new.table inv.learns w.in_ok-go_on.ensures.learns);
        sound =
            (let opened = w.in_ok-go_on.ensures.opens first (sound_last component calls events first table rest attempt all) others in
            let later = w.in_ok-forget_earlier.ensures in
            rw (w.table-is, w.open-is) (subst (AreSound component calls events first w.go_on.new.table) (sym later.1) (sound_dropped component calls events first w.go_on.new.table later.0 w.go_on.new.open.items opened)));
      }
      | else-branch w ↦ record {
        learns = subst (Learns component calls first) (sym w.table-is) inv.learns;
        sound = rw (w.table-is, w.open-is) others;
      }
    ]
