use Rattle.std.proofs.Common.{◌≡◌, ◌<◌, Some, None, refl, sym, ◌∙◌, ap, subst, [], ◌++◌, ◌∷◌, set}
use Rattle.std.proofs.lemmas.List.{length-set}
use Rattle.lu_history.specs.Parts.{as_serial}
use Rattle.lu_linearization.specs.Monitors.{by_thread}
use Rattle.lu_run.specs.declared.automaton.ThreadCall.{ThreadCall}
use Rattle.lu_run.specs.declared.run.RunEvent.{RunEvent}
use Rattle.lu_run.specs.Following.{AreSeated}
use Rattle.lu_run.specs.Foreseeing.{next_return}
use Rattle.lu_run.specs.Judging.{IsForeseen}
use Rattle.lu_run.specs.Runs.{history_of}
use Rattle.lu_run.proofs.Advanced.{advanced_call, advanced_return, seats, seats_fewer, states_back}
use Rattle.lu_run.proofs.Known.{states_closed}
use Rattle.lu_run.proofs.judging.advance.Goals as goal

pub returns-in_ok-next-in-Call-clause-ready : goal.returns-in_ok-next-in-Call-clause-ready
returns-in_ok-next-in-Call-clause-ready c =
    let t = c.in-Call.thread in
    let n = c.in-Call.call in
    let seat = rw c.in-Call.is at c.requires.event in
    let before = c.args.follower.pending in
    let were = c.args.follower.returns in
    let calls = c.args.runs.calls.now in
    let call : ThreadCall = record { thread = t; call = n } in
    let makes = ap (λ i. set before i (Some call)) c.from.ensures in
    let next = c.in_ok-next-in-Call.ensures in
    record {
      right = next.learns.right;
      states = states_closed c.args.runs.component.now calls c.args.table.now c.follow.new.table (by_thread (set before c.from.result (Some call))) (set were c.from-in-Call.result c.next_return.result) t c.args.follower.monitor c.in_ok-next-in-Call.field-0 c.requires.ready.states next.learns.grows next.learns.right next.closed;
      seated = subst (AreSeated calls) (sym makes) (seats before t c.requires.ready.eight.0 seat.0 calls n seat.1 c.requires.ready.seated);
      eight = (length-set before c.from.result (Some call) ∙ c.requires.ready.eight.0, length-set were c.from-in-Call.result c.next_return.result ∙ c.requires.ready.eight.1);
    }

pub returns-in_ok-next-in-Call-clause-advances : goal.returns-in_ok-next-in-Call-clause-advances
returns-in_ok-next-in-Call-clause-advances c = λ setup events done rest s start run cut was.
    let t = c.in-Call.thread in
    let n = c.in-Call.call in
    let seat = rw c.in-Call.is at c.requires.event in
    let before = c.args.follower.pending in
    let were = c.args.follower.returns in
    let calls = c.args.runs.calls.now in
    let seen = c.args.more.now in
    let call : ThreadCall = record { thread = t; call = n } in
    let next = c.in_ok-next-in-Call.ensures in
    let pending = set before c.from.result (Some call) in
    let returns = set were c.from-in-Call.result c.next_return.result in
    let tells : returns ≡ set were t (next_return t seen) = ap (λ i. set were i c.next_return.result) c.from-in-Call.ensures ∙ ap (λ x. set were t x) c.next_return.ensures in
    subst (λ (e : RunEvent). IsForeseen c.args.runs.component.now s calls events c.follow.new.table pending returns c.in_ok-next-in-Call.field-0 (history_of (done ++ e ∷ [])) seen) (sym c.in-Call.is)
    (advanced_call c.args.runs.component.now setup calls events done (seen ++ rest) s start run t n seen rest c.args.table.now c.follow.new.table before pending were returns c.args.follower.monitor c.in_ok-next-in-Call.field-0
    (cut ∙ ap (λ (e : RunEvent). (done ++ e ∷ seen) ++ rest) c.in-Call.is) refl
    (subst (λ (e : RunEvent). IsForeseen c.args.runs.component.now s calls events c.args.table.now before were c.args.follower.monitor (history_of done) (e ∷ seen)) c.in-Call.is was)
    next.learns.right next.learns.grows (ap (λ i. set before i (Some call)) c.from.ensures) tells c.requires.ready.eight.0 c.requires.ready.eight.1 seat.0 seat.1 next.closed next.known)

pub returns-in_ok-next-in-Return-clause-ready : goal.returns-in_ok-next-in-Return-clause-ready
returns-in_ok-next-in-Return-clause-ready c =
    let t = c.in-Return.thread in
    let seat : t < 8 = rw c.in-Return.is at c.requires.event in
    let before = c.args.follower.pending in
    let makes = ap (λ i. set before i None) c.from-in-Return.ensures in
    record {
      right = c.requires.ready.right;
      states = states_back c.args.table.now t (as_serial c.in-Return.outcome) c.args.follower.monitor c.in_ok-next-in-Return.field-0 c.requires.ready.states c.in_ok-next-in-Return.ensures;
      seated = subst (AreSeated c.args.runs.calls.now) (sym makes) (seats_fewer before t c.requires.ready.eight.0 seat c.args.runs.calls.now c.requires.ready.seated);
      eight = (length-set before c.from-in-Return.result None ∙ c.requires.ready.eight.0, c.requires.ready.eight.1);
    }

pub returns-in_ok-next-in-Return-clause-advances : goal.returns-in_ok-next-in-Return-clause-advances
returns-in_ok-next-in-Return-clause-advances c = λ setup events done rest s start run cut was.
    let t = c.in-Return.thread in
    let o = c.in-Return.outcome in
    let seat : t < 8 = rw c.in-Return.is at c.requires.event in
    let before = c.args.follower.pending in
    let returns = c.args.follower.returns in
    let calls = c.args.runs.calls.now in
    let seen = c.args.more.now in
    let pending = set before c.from-in-Return.result None in
    subst (λ (e : RunEvent). IsForeseen c.args.runs.component.now s calls events c.args.table.now pending returns c.in_ok-next-in-Return.field-0 (history_of (done ++ e ∷ [])) seen) (sym c.in-Return.is)
    (advanced_return c.args.runs.component.now setup calls events done (seen ++ rest) s start run t o seen rest c.args.table.now before pending returns c.args.follower.monitor c.in_ok-next-in-Return.field-0
    (cut ∙ ap (λ (e : RunEvent). (done ++ e ∷ seen) ++ rest) c.in-Return.is) refl
    (subst (λ (e : RunEvent). IsForeseen c.args.runs.component.now s calls events c.args.table.now before returns c.args.follower.monitor (history_of done) (e ∷ seen)) c.in-Return.is was)
    (ap (λ i. set before i None) c.from-in-Return.ensures) c.requires.ready.eight.0 seat c.in_ok-next-in-Return.ensures)
