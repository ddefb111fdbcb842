use Rattle.std.proofs.Common.{◌≡◌, ◌+◌, Some, None, List, ◌∙◌, ap, subst}
use Rattle.lu_component.specs.Component.{Component}
use Rattle.lu_test.specs.Matrix.{Matrix, thread_count}
use Rattle.lu_machine.specs.declared.position.Position.{Position}
use Rattle.lu_machine.specs.States.{State}
use Rattle.lu_serial_graph.specs.Answers.{Asks, IsAnswer, MayCall}
use Rattle.lu_run.specs.Asking.{AreRests, HasSameRests, menu_of}
use Rattle.lu_run.proofs.Resting.{among_some}
use Rattle.lu_run.proofs.Menus.{may_call}
use Rattle.lu_run.proofs.Asked.{blocked, ended, none_asked}
use Rattle.lu_run.proofs.asking.ask_call.Goals as goal

pub ask-requires-clause-stand : goal.ask-requires-clause-stand
ask-requires-clause-stand c =
    let made = rw c.in-Some.is at c.in_ok-menu.ensures.menu in
    let component : c.in_ok-machine.machine.component ≡ c.args.component.now = ap (λ (x : State). x.component) c.in_ok-machine.ensures.starts.is in
    let matrix : c.in_ok-machine.machine.matrix ≡ menu_of c.args.call.now = ap (λ (x : State). x.matrix) c.in_ok-machine.ensures.starts.is ∙ made in
    rw (component, matrix) (λ p at. (c.requires.rests.each p at).stands c.args.call.now)

pub ask-requires-clause-calls : goal.ask-requires-clause-calls
ask-requires-clause-calls c =
    let made = rw c.in-Some.is at c.in_ok-menu.ensures.menu in
    let component : c.in_ok-machine.machine.component ≡ c.args.component.now = ap (λ (x : State). x.component) c.in_ok-machine.ensures.starts.is in
    let matrix : c.in_ok-machine.machine.matrix ≡ menu_of c.args.call.now = ap (λ (x : State). x.matrix) c.in_ok-machine.ensures.starts.is ∙ made in
    let all : MayCall c.args.component.now (menu_of c.args.call.now) c.args.rests.now c.args.thread = λ p at. may_call c.args.component.now c.args.call.now p (c.requires.rests.each p at).threads c.args.thread c.requires.thread in
    rw (component, matrix) all

pub returns-in_default-2 : goal.returns-in_default-2
returns-in_default-2 c =
    let made = rw c.in-Some.is at c.in_ok-menu.ensures.menu in
    let component : c.in_ok-machine.machine.component ≡ c.args.component.now = ap (λ (x : State). x.component) c.in_ok-machine.ensures.starts.is in
    let matrix : c.in_ok-machine.machine.matrix ≡ menu_of c.args.call.now = ap (λ (x : State). x.matrix) c.in_ok-machine.ensures.starts.is ∙ made in
    let asks : Asks c.in_ok-machine.machine.component c.in_ok-machine.machine.matrix c.args.rests.now c.args.thread (c.args.bound + 1) None = rw c.in_default-2.is at c.in_ok-answer.ensures.answer in
    none_asked c.args.component.now c.args.call.now c.args.rests.now c.args.thread c.args.bound c.requires.thread c.requires.rests
    (subst (λ (x : Component). Asks x (menu_of c.args.call.now) c.args.rests.now c.args.thread (c.args.bound + 1) None) component (subst (λ (x : Matrix). Asks c.in_ok-machine.machine.component x c.args.rests.now c.args.thread (c.args.bound + 1) None) matrix asks))

pub returns-in-Stuck : goal.returns-in-Stuck
returns-in-Stuck c =
    let made = rw c.in-Some.is at c.in_ok-menu.ensures.menu in
    let component : c.in_ok-machine.machine.component ≡ c.args.component.now = ap (λ (x : State). x.component) c.in_ok-machine.ensures.starts.is in
    let matrix : c.in_ok-machine.machine.matrix ≡ menu_of c.args.call.now = ap (λ (x : State). x.matrix) c.in_ok-machine.ensures.starts.is ∙ made in
    let asks : Asks c.in_ok-machine.machine.component c.in_ok-machine.machine.matrix c.args.rests.now c.args.thread (c.args.bound + 1) (Some c.in-Some-2.answer) = rw c.in-Some-2.is at c.in_ok-answer.ensures.answer in
    blocked c.args.component.now c.args.call.now c.args.rests.now c.args.thread c.args.bound c.requires.thread c.requires.rests c.in-Some-2.answer
    (subst (λ (x : Component). IsAnswer x (menu_of c.args.call.now) c.args.rests.now c.args.thread (c.args.bound + 1) c.in-Some-2.answer) component (subst (λ (x : Matrix). IsAnswer c.in_ok-machine.machine.component x c.args.rests.now c.args.thread (c.args.bound + 1) c.in-Some-2.answer) matrix asks))
    c.in-Stuck.is

pub all_at_rest-requires : goal.all_at_rest-requires
all_at_rest-requires c =
    let made = rw c.in-Some.is at c.in_ok-menu.ensures.menu in
    let asks : IsAnswer c.in_ok-machine.machine.component c.in_ok-machine.machine.matrix c.args.rests.now c.args.thread (c.args.bound + 1) c.in-Some-2.answer = rw c.in-Some-2.is at c.in_ok-answer.ensures.answer in
    let component : c.ask.new.machine.component ≡ c.in_ok-machine.machine.component = rw c.in-Some-2.is at c.in_ok-answer.ensures.component in
    let same : c.ask.new.machine.matrix ≡ c.in_ok-machine.machine.matrix = rw c.in-Some-2.is at c.in_ok-answer.ensures.matrix in
    let matrix : c.in_ok-machine.machine.matrix ≡ menu_of c.args.call.now = ap (λ (x : State). x.matrix) c.in_ok-machine.ensures.starts.is ∙ made in
    record {
      stand = rw (component, same, c.deref.ensures.value) asks.stand;
      eight = ap thread_count (same ∙ matrix);
      some = rw c.deref.ensures.value (among_some c.in-Some-2.answer.rests.items asks.some.0 asks.some.1);
    }

pub returns : goal.returns
returns c =
    let made = rw c.in-Some.is at c.in_ok-menu.ensures.menu in
    let component : c.in_ok-machine.machine.component ≡ c.args.component.now = ap (λ (x : State). x.component) c.in_ok-machine.ensures.starts.is in
    let kept : c.ask.new.machine.component ≡ c.in_ok-machine.machine.component = rw c.in-Some-2.is at c.in_ok-answer.ensures.component in
    let matrix : c.in_ok-machine.machine.matrix ≡ menu_of c.args.call.now = ap (λ (x : State). x.matrix) c.in_ok-machine.ensures.starts.is ∙ made in
    let asks : Asks c.in_ok-machine.machine.component c.in_ok-machine.machine.matrix c.args.rests.now c.args.thread (c.args.bound + 1) (Some c.in-Some-2.answer) = rw c.in-Some-2.is at c.in_ok-answer.ensures.answer in
    let after = c.in_ok-after-in_default-outcome.after.items in
    let same : HasSameRests c.in-Some-2.answer.rests.items after = subst (λ (x : List Position). HasSameRests x after) c.deref.ensures.value c.in_ok-after-in_default-outcome.ensures.same in
    let rests : AreRests c.args.component.now after = subst (λ (x : Component). AreRests x after) (kept ∙ component) c.in_ok-after-in_default-outcome.ensures.rests in
    ended c.args.component.now c.args.call.now c.args.rests.now c.args.thread c.args.bound c.requires.thread c.requires.rests c.in-Some-2.answer
    (subst (λ (x : Component). IsAnswer x (menu_of c.args.call.now) c.args.rests.now c.args.thread (c.args.bound + 1) c.in-Some-2.answer) component (subst (λ (x : Matrix). IsAnswer c.in_ok-machine.machine.component x c.args.rests.now c.args.thread (c.args.bound + 1) c.in-Some-2.answer) matrix asks))
    c.in_default-outcome.not-Stuck after same rests
