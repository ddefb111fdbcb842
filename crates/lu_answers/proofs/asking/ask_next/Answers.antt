use Rattle.std.proofs.Common.{arith, rules, ◌≡◌, ◌<◌, ◌+◌, ◌⊎◌, List, length, map, Some, None, sym, ◌∙◌, ap, subst}
use Rattle.std.specs.Prelude.{IsTrue}
use Rattle.lu_machine.specs.declared.position.Position.{Position}
use Rattle.lu_serial_graph.specs.Answers.{Asks, IsAnswer, LastsSomewhere, MayCall, TwoOutcomes}
use Rattle.lu_component.specs.Component.{Component}
use Rattle.lu_test.specs.Matrix.{Matrix}
use Rattle.lu_answers.specs.Stored.{HasNextCall, IsStored, places_after, rest_at}
use Rattle.lu_answers.proofs.Replied.{always_blocks, may_call, offends, returns_to, some_next}
use Rattle.lu_answers.proofs.asking.ask_next.Goals as goal

pub ask-requires-clause-calls : goal.ask-requires-clause-calls
ask-requires-clause-calls c =
    let m = c.args.machine.now in
    let stage = c.args.stage.now in
    let seats = c.requires.stored.seats in
    let there : c.args.thread < length stage.places.items = omega (arith, seats, c.requires.thread) in
    let sure : IsTrue c.has_next.result = search rules in
    let has : HasNextCall m.matrix stage.places.items c.args.thread = subst (λ xs. HasNextCall m.matrix xs c.args.thread) c.deref.ensures.value (c.has_next.ensures.0 sure) in
    let calls : MayCall m.component m.matrix stage.rests.items c.args.thread = may_call m.component c.args.rounds m.matrix stage c.requires.stored c.args.thread there has in
    subst (λ (x : List Position). MayCall m.component m.matrix x c.args.thread) (sym c.deref-2.ensures.value) calls

pub returns-in_default-clause-stop : goal.returns-in_default-clause-stop
returns-in_default-clause-stop c =
    let m = c.args.machine.now in
    let stage = c.args.stage.now in
    let seats = c.requires.stored.seats in
    let there : c.args.thread < length stage.places.items = omega (arith, seats, c.requires.thread) in
    let sure : IsTrue c.has_next.result = search rules in
    let has : HasNextCall m.matrix stage.places.items c.args.thread = subst (λ xs. HasNextCall m.matrix xs c.args.thread) c.deref.ensures.value (c.has_next.ensures.0 sure) in
    let next = some_next m.component c.args.rounds m.matrix stage c.requires.stored c.args.thread there has in
    let asks : Asks m.component m.matrix c.deref-2.result.now c.args.thread (c.args.bound + 1) None = rw c.in_default.is at c.in_ok-answer.ensures.answer in
    offends m.component c.args.rounds m.matrix stage c.requires.stored c.args.thread next.0 next.1 next.2 c.args.bound
    (subst (λ (x : List Position). LastsSomewhere m.component m.matrix x c.args.thread (c.args.bound + 1) ⊎ TwoOutcomes m.component m.matrix x c.args.thread) c.deref-2.ensures.value asks)

pub returns-in-Stuck-clause-reply : goal.returns-in-Stuck-clause-reply
returns-in-Stuck-clause-reply c =
    let m = c.args.machine.now in
    let stage = c.args.stage.now in
    let asks : Asks m.component m.matrix c.deref-2.result.now c.args.thread (c.args.bound + 1) (Some c.in-Some.answer) = rw c.in-Some.is at c.in_ok-answer.ensures.answer in
    always_blocks m.component c.args.rounds m.matrix stage c.requires.stored c.args.thread c.args.bound c.in-Some.answer
    (subst (λ (x : List Position). IsAnswer m.component m.matrix x c.args.thread (c.args.bound + 1) c.in-Some.answer) c.deref-2.ensures.value asks)
    c.in-Stuck.is

pub returns : goal.returns
returns c =
    let m = c.args.machine.now in
    let stage = c.args.stage.now in
    let seats = c.requires.stored.seats in
    let there : c.args.thread < length stage.places.items = omega (arith, seats, c.requires.thread) in
    let sure : IsTrue c.has_next.result = search rules in
    let has : HasNextCall m.matrix stage.places.items c.args.thread = subst (λ xs. HasNextCall m.matrix xs c.args.thread) c.deref.ensures.value (c.has_next.ensures.0 sure) in
    let next = some_next m.component c.args.rounds m.matrix stage c.requires.stored c.args.thread there has in
    let asks : Asks m.component m.matrix c.deref-2.result.now c.args.thread (c.args.bound + 1) (Some c.in-Some.answer) = rw c.in-Some.is at c.in_ok-answer.ensures.answer in
    let answers : IsAnswer m.component m.matrix stage.rests.items c.args.thread (c.args.bound + 1) c.in-Some.answer = subst (λ (x : List Position). IsAnswer m.component m.matrix x c.args.thread (c.args.bound + 1) c.in-Some.answer) c.deref-2.ensures.value asks in
    let component : c.ask.new.machine.component ≡ m.component = rw c.in-Some.is at c.in_ok-answer.ensures.component in
    let matrix : c.ask.new.machine.matrix ≡ m.matrix = rw c.in-Some.is at c.in_ok-answer.ensures.matrix in
    let new = c.in_ok-next-in_default-outcome.next in
    let made = c.in_ok-next-in_default-outcome.ensures in
    let places : new.places.items ≡ places_after c.args.rounds m.matrix stage.places.items c.args.thread = made.places ∙ (ap (λ (x : Matrix). places_after c.args.rounds x c.deref-in_default-outcome.result.now c.args.thread) matrix ∙ ap (λ xs. places_after c.args.rounds m.matrix xs c.args.thread) c.deref-in_default-outcome.ensures.value) in
    let rests : map rest_at new.rests.items ≡ map rest_at c.in-Some.answer.rests.items = made.rests ∙ ap (map rest_at) c.deref-in_default-outcome-2.ensures.value in
    record {
      component = made.component ∙ component;
      matrix = made.matrix ∙ matrix;
      reply = returns_to m.component c.args.rounds m.matrix stage c.requires.stored c.args.thread next.0 next.1 next.2 c.args.bound c.in-Some.answer answers c.in_default-outcome.not-Stuck new places rests;
      stored = subst (λ (x : Component). IsStored x m.matrix new) component (subst (λ (x : Matrix). IsStored c.ask.new.machine.component x new) matrix made.stored);
      stop = tt;
    }
