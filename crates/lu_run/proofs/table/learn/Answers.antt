use Rattle.std.proofs.Common.{◌≡◌, Some, None, refl, sym, ◌∙◌, ap, subst, List, slice_get}
use Rattle.std.proofs.lemmas.Option.{slice_get-get_or}
use Rattle.lu_machine.specs.declared.position.Position.{Position}
use Rattle.lu_run.specs.declared.automaton.ThreadCall.{ThreadCall}
use Rattle.lu_run.specs.declared.table.Rests.{Rests}
use Rattle.lu_run.specs.declared.table.Table.{Table}
use Rattle.lu_run.specs.Asking.{BlocksSo, EndsSo, IsReply}
use Rattle.lu_run.specs.Tables.{Grows, IsRightFor, IsTable, recorded}
use Rattle.lu_run.proofs.Learning.{ends_stored, grows_answers, grows_on, grows_states, none_known, offends, reached_more, reached_next, table_grown, table_recorded}
use Rattle.lu_run.proofs.table.learn.Goals as goal

pub ask_call-requires-clause-arguments : goal.ask_call-requires-clause-arguments
ask_call-requires-clause-arguments c =
    let at = c.index-calls-question in
    (c.requires.calls c.args.question.call at.result (slice_get-get_or c.args.calls.now c.args.question.call _ c.requires.call ∙ ap Some (sym at.is))).1

pub returns-in_default-2-clause-offends : goal.returns-in_default-2-clause-offends
returns-in_default-2-clause-offends c =
    let at = c.index-calls-question in
    let called : slice_get c.args.calls.now c.args.question.call ≡ Some at.result = slice_get-get_or c.args.calls.now c.args.question.call _ c.requires.call ∙ ap Some (sym at.is) in
    let call : ThreadCall = record { thread = c.args.question.thread; call = c.args.question.call } in
    let is = rw c.in_default-2.is at c.in_ok-reply.ensures in
    offends c.args.component.now c.args.calls.now c.args.bound c.args.table.now call c.in-Some.state.now c.args.question.state at.result (sym c.in-Some.ensures.key) called
    (subst (λ (x : List Position). IsReply c.args.component.now x c.args.question.thread at.result c.args.bound None) c.deref.ensures.value is)

pub returns-in_ok-record-in-Blocked-clause-learns :
    goal.returns-in_ok-record-in-Blocked-clause-learns
returns-in_ok-record-in-Blocked-clause-learns c =
    let at = c.index-calls-question in
    let called : slice_get c.args.calls.now c.args.question.call ≡ Some at.result = slice_get-get_or c.args.calls.now c.args.question.call _ c.requires.call ∙ ap Some (sym at.is) in
    let blocks = rw c.in-Blocked.is at (rw c.in-Some-2.is at c.in_ok-reply.ensures) in
    let right : IsRightFor c.args.component.now c.args.calls.now c.args.table.now.states.keys c.args.question None = record {
      from = c.in-Some.state.now;
      state = sym c.in-Some.ensures.key;
      call = at.result;
      called = called;
      right = subst (λ (x : List Position). BlocksSo c.args.component.now x c.args.question.thread at.result) c.deref.ensures.value blocks;
    } in
    let none : recorded c.args.table.now c.args.question ≡ None = none_known c.recall.result (recorded c.args.table.now c.args.question) c.recall.ensures (sym c.is_some.ensures ∙ c.if-is_some.false) in
    record {
      right = table_recorded c.args.component.now c.args.calls.now c.args.table.now _ c.args.question None c.requires.table refl c.in_ok-record-in-Blocked.ensures right;
      grows = grows_answers c.args.table.now _ c.args.question None refl c.in_ok-record-in-Blocked.ensures none;
      reached = λ start all. all;
    }

pub returns-in_ok-record-in-Ends-clause-learns :
    goal.returns-in_ok-record-in-Ends-clause-learns
returns-in_ok-record-in-Ends-clause-learns c =
    let component = c.args.component.now in
    let calls = c.args.calls.now in
    let at = c.index-calls-question in
    let call : ThreadCall = record { thread = c.args.question.thread; call = c.args.question.call } in
    let called : slice_get calls c.args.question.call ≡ Some at.result = slice_get-get_or calls c.args.question.call _ c.requires.call ∙ ap Some (sym at.is) in
    let ends = rw c.in-Ends.is at (rw c.in-Some-2.is at c.in_ok-reply.ensures) in
    let rests : Rests = record { positions = c.in-Ends.positions } in
    let mid : Table = record { states = c.number_of.new.states; answers = c.args.table.now.answers } in
    let is_mid : IsTable component calls mid = table_grown component calls c.args.table.now mid rests c.requires.table c.in_ok-number-in-Ends.ensures.grows ends.rests (λ q. refl) in
    let grows : Grows c.args.table.now mid = grows_states c.args.table.now mid rests c.in_ok-number-in-Ends.ensures.grows (λ q. refl) in
    let number = c.in_ok-number-in-Ends.ensures.number in
    let n = c.in_ok-number-in-Ends.number in
    let from : EndsSo component c.in-Some.state.now.positions.items c.args.question.thread at.result c.in-Ends.outcome c.in-Ends.positions.items = subst (λ (x : List Position). EndsSo component x c.args.question.thread at.result c.in-Ends.outcome c.in-Ends.positions.items) c.deref.ensures.value ends in
    let right : IsRightFor component calls mid.states.keys c.args.question (Some (c.in-Ends.outcome, n)) = record {
      from = c.in-Some.state.now;
      state = grows.states c.args.question.state c.in-Some.state.now (sym c.in-Some.ensures.key);
      call = at.result;
      called = called;
      right = (number.0, number.1, ends_stored component c.in-Some.state.now.positions.items c.args.question.thread at.result c.in-Ends.outcome c.in-Ends.positions.items number.0.positions.items from number.2 (is_mid.states n number.0 number.1));
    } in
    let none : recorded c.args.table.now c.args.question ≡ None = none_known c.recall.result (recorded c.args.table.now c.args.question) c.recall.ensures (sym c.is_some.ensures ∙ c.if-is_some.false) in
    record {
      right = table_recorded component calls mid _ c.args.question (Some (c.in-Ends.outcome, n)) is_mid refl c.in_ok-record-in-Ends.ensures right;
      grows = grows_on c.args.table.now mid _ grows (grows_answers mid _ c.args.question (Some (c.in-Ends.outcome, n)) refl c.in_ok-record-in-Ends.ensures none);
      reached = λ start all.
          reached_more component calls start c.args.table.now mid rests c.in_ok-number-in-Ends.ensures.grows
          (reached_next component calls start c.in-Some.state.now.positions.items c.in-Ends.positions.items call at.result c.in-Ends.outcome called from (all c.args.question.state c.in-Some.state.now (sym c.in-Some.ensures.key))) all;
    }
