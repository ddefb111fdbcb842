use Rattle.std.proofs.Common.{arith, ◌≡◌, ◌+◌, ◌-◌, replicate, Some, None, refl, sym, ◌∙◌, ap, subst, [], ◌++◌, ◌∷◌, length, take, drop, get_or, slice_get, add-one}
use Rattle.std.proofs.lemmas.List.{drop_all, drop_more, length-drop, take_all}
use Rattle.std.proofs.lemmas.Option.{slice_get-get_or}
use Rattle.std.proofs.lemmas.Result.{err_from_is_err_and}
use Rattle.lu_history.proofs.Events.{split_at, take_next}
use Rattle.lu_run.specs.declared.run.RunEvent.{RunEvent}
use Rattle.lu_run.specs.declared.run.RunEvent.TheVariants.{Call as Calls}
use Rattle.lu_run.specs.Judging.{IsForeseen}
use Rattle.lu_run.specs.Runs.{history_of, matrix_of}
use Rattle.lu_run.proofs.Beginning.{no_pending, start_foreseen, start_states}
use Rattle.lu_run.proofs.Failing.{LostSoFar, lost_next, lost_told, not_empty}
use Rattle.lu_run.proofs.Followed.{all_followed}
use Rattle.lu_run.proofs.Learning.{fault_earlier, learns_none, learns_on}
use Rattle.lu_run.proofs.judging.follow_all.Goals as goal

pub loop-number-init : goal.loop-number-init
loop-number-init c =
    let component = c.args.runs.component.now in
    let calls = c.args.runs.calls.now in
    let table = c.args.table.now in
    let events = c.args.events.now in
    let list = c.in_ok-new.field-0 in
    record {
      ready = record {
        right = c.requires.table;
        states = start_states component calls table c.requires.table c.requires.start list c.in_ok-new.ensures;
        seated = λ t call is. absurd (let e = no_pending t in cc);
        eight = (refl, refl);
      };
      learns = learns_none component calls table c.requires.table;
      foreseen = λ setup all rest s start starts run cut. start_foreseen component calls table c.requires.table c.requires.start s all (matrix_of setup calls all) (replicate 8 None) (replicate 8 None) list events start starts no_pending c.in_ok-new.ensures;
      lost = λ setup all rest s start starts run cut. not_empty list c.in_ok-new.ensures;
    }

pub advance-requires-clause-event : goal.advance-requires-clause-event
advance-requires-clause-event c =
    let events = c.args.events.now in
    let i = c.loop-number.number in
    c.requires.events i (get_or events i (Calls 0 0)) (slice_get-get_or events i (Calls 0 0) c.loop-number-test.true)

pub returns-in_err-follower-clause-offends : goal.returns-in_err-follower-clause-offends
returns-in_err-follower-clause-offends c =
    let p = err_from_is_err_and c.from_residual-in_err-follower.result c.from_residual-in_err-follower.ensures.1 in
    rw (p.1, p.2) (fault_earlier c.args.runs.component.now c.args.runs.calls.now c.args.runs.bound c.args.table.now c.loop-number.table c.in_err-follower.field-0.0 c.loop-number.invariant.learns c.in_err-follower.ensures.offends)

pub loop-number-preserved : goal.loop-number-preserved
loop-number-preserved c =
    let component = c.args.runs.component.now in
    let calls = c.args.runs.calls.now in
    let events = c.args.events.now in
    let i = c.loop-number.number in
    let inv = c.loop-number.invariant in
    let e : RunEvent = get_or events i (Calls 0 0) in
    let at : slice_get events i ≡ Some e = slice_get-get_or events i (Calls 0 0) c.loop-number-test.true in
    let taken : take (i + 1) events ≡ take i events ++ e ∷ [] = rw (add-one i) (take_next events e i at) in
    let whole : events ≡ take i events ++ e ∷ drop (i + 1) events = rw (add-one i) (split_at events e i at) in
    let seen = take (length events - (i + 1)) (drop (i + 1) events) in
    let same : seen ≡ drop (i + 1) events = take_all (length events - (i + 1)) (drop (i + 1) events) (let long = length-drop (i + 1) events in omega (arith, long)) in
    let left : drop i events ≡ e ∷ seen = drop_more events i (Calls 0 0) c.loop-number-test.true ∙ ap (λ x. e ∷ x) (sym same) in
    let cut_here : events ≡ take i events ++ e ∷ seen = whole ∙ ap (λ x. take i events ++ e ∷ x) (sym same) in
    let next = c.in_ok-follower.ensures in
    record {
      ready = next.ready;
      learns = learns_on component calls c.args.table.now c.loop-number.table c.advance.new.table inv.learns next.learns;
      foreseen = λ setup all rest s start starts run cut.
          (let was = subst (λ x. IsForeseen component s calls all c.loop-number.table c.loop-number.follower.pending c.loop-number.follower.returns c.loop-number.follower.monitor (history_of (take i events)) x) left (inv.foreseen setup all rest s start starts run cut) in
          subst (λ x. IsForeseen component s calls all c.advance.new.table c.in_ok-follower.follower.pending c.in_ok-follower.follower.returns c.in_ok-follower.follower.monitor (history_of x) (drop (i + 1) events)) (sym taken)
          (subst (λ x. IsForeseen component s calls all c.advance.new.table c.in_ok-follower.follower.pending c.in_ok-follower.follower.returns c.in_ok-follower.follower.monitor (history_of (take i events ++ e ∷ [])) x) same
          (next.advances setup all (take i events) rest s start run (cut ∙ ap (λ x. x ++ rest) cut_here) was)));
      lost = λ setup all rest s start starts run cut.
          lost_next component s calls all events i c.loop-number.table c.loop-number.follower.pending c.loop-number.follower.returns c.loop-number.follower.monitor c.in_ok-follower.follower.monitor (drop i events) c.loop-number.lost c.note_lost-lost.result
          (inv.foreseen setup all rest s start starts run cut) c.note_lost-lost.ensures (inv.lost setup all rest s start starts run cut);
    }

pub returns-clause-follows : goal.returns-clause-follows
returns-clause-follows c = λ setup all rest s start starts run cut.
    let events = c.args.events.now in
    let i = c.loop-number.number in
    let le = c.loop-number-test.false in
    let f = c.loop-number.follower in
    let none : drop i events ≡ [] = drop_all i events le in
    let every : take i events ≡ events = take_all i events le in
    let was = c.loop-number.invariant.foreseen setup all rest s start starts run cut in
    let at_end = subst (λ x. IsForeseen c.args.runs.component.now s c.args.runs.calls.now all c.loop-number.table f.pending f.returns f.monitor (history_of x) []) every (subst (λ x. IsForeseen c.args.runs.component.now s c.args.runs.calls.now all c.loop-number.table f.pending f.returns f.monitor (history_of (take i events)) x) none was) in
    all_followed c.args.runs.component.now s c.args.runs.calls.now all c.loop-number.table f.pending f.returns f.monitor (history_of events) at_end

pub returns-clause-tells : goal.returns-clause-tells
returns-clause-tells c = λ setup all rest s start starts run cut.
    let events = c.args.events.now in
    let i = c.loop-number.number in
    let f = c.loop-number.follower in
    let past = c.loop-number-test.false in
    let last = c.loop-number.auto in
    let same : i ≡ length events = omega (arith, past, last.number-end) in
    let follows = returns-clause-follows c setup all rest s start starts run cut in
    lost_told c.args.runs.component.now s c.args.runs.calls.now all events c.loop-number.table f.pending f.monitor c.loop-number.lost c.lost_at_end-lost.result follows
    (subst (λ x. LostSoFar s events x c.loop-number.lost f.monitor) same (c.loop-number.invariant.lost setup all rest s start starts run cut)) c.lost_at_end-lost.ensures
