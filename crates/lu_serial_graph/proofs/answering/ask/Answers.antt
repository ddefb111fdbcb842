use Rattle.std.proofs.Common.{rules, arith, ◌≡◌, ◌+◌, ◌++◌, ◌∷◌, [], List, length, take, None, refl, sym, ◌∙◌, ap, subst, inl, inr}
use Rattle.std.proofs.Math.Seq.{take-length}
use Rattle.lu_machine.specs.declared.position.Position.{Position}
use Rattle.lu_machine.specs.States.{State}
use Rattle.lu_serial_graph.specs.Playing.{AddsEndings, IsAmong, Lasts, MayGoOn, state_at}
use Rattle.lu_serial_graph.specs.Answers.{AreEndings, IsAnswer}
use Rattle.lu_serial_graph.proofs.Sifting.{among_at, answer_ordered, answers_all, endings_more, none_asked, stands_here, taken_more}
use Rattle.lu_serial_graph.proofs.answering.ask.Goals as goal

pub stand_at-requires : goal.stand_at-requires
stand_at-requires c =
    let p : Position = c.rest-item.result in
    let here : IsAmong p c.args.rests.now = among_at c.args.rests.now c.loop-rest.rest-index p p (search rules) (search rules) in
    rw (c.loop-rest.invariant.component, c.loop-rest.invariant.matrix) (c.requires.stand p here)

pub run_alone-requires : goal.run_alone-requires
run_alone-requires c =
    let p : Position = c.rest-item.result in
    let here : IsAmong p c.args.rests.now = among_at c.args.rests.now c.loop-rest.rest-index p p (search rules) (search rules) in
    let is : c.stand_at.new.self ≡ state_at c.args.machine.now.component c.args.machine.now.matrix p = c.stand_at.ensures ∙ stands_here c.loop-rest.machine c.args.machine.now.component c.args.machine.now.matrix p c.loop-rest.invariant.component c.loop-rest.invariant.matrix in
    let may = c.requires.calls p here in
    subst (λ x. MayGoOn x c.args.t None (c.args.bound + 1)) (sym is) (may.0, inr (may.1, omega arith))

pub loop-rest-preserved : goal.loop-rest-preserved
loop-rest-preserved c =
    let p : Position = c.rest-item.result in
    let is : c.stand_at.new.self ≡ state_at c.args.machine.now.component c.args.machine.now.matrix p = c.stand_at.ensures ∙ stands_here c.loop-rest.machine c.args.machine.now.component c.args.machine.now.matrix p c.loop-rest.invariant.component c.loop-rest.invariant.matrix in
    let home = c.in_ok-run_alone.ensures.home (search rules) ∙ is in
    let adds = c.in_ok-run_alone.ensures.adds (search rules) in
    let adds_here : AddsEndings (state_at c.args.machine.now.component c.args.machine.now.matrix p) c.args.t None (c.args.bound + 1) c.loop-rest.endings.items c.run_alone.new.endings.items = subst (λ x. AddsEndings x c.args.t None (c.args.bound + 1) c.loop-rest.endings.items c.run_alone.new.endings.items) is adds in
    let more : take (c.loop-rest.rest-index + 1) c.args.rests.now ≡ take c.loop-rest.rest-index c.args.rests.now ++ p ∷ [] = taken_more c.args.rests.now c.loop-rest.rest-index p (search rules) (search rules) in
    record {
      component = ap (λ (x : State). x.component) home;
      matrix = ap (λ (x : State). x.matrix) home;
      endings = rw more (endings_more c.args.machine.now.component c.args.machine.now.matrix (take c.loop-rest.rest-index c.args.rests.now) p c.args.t (c.args.bound + 1) c.loop-rest.endings.items c.run_alone.new.endings.items c.loop-rest.invariant.endings adds_here);
    }

pub in_order-requires : goal.in_order-requires
in_order-requires c =
    let component = c.args.machine.now.component in
    let matrix = c.args.machine.now.matrix in
    let index : c.loop-rest.rest-index ≡ length c.args.rests.now = search rules in
    let all : take c.loop-rest.rest-index c.args.rests.now ≡ c.args.rests.now = ap (λ k. take k c.args.rests.now) index ∙ take-length c.args.rests.now in
    let are : AreEndings component matrix c.args.rests.now c.args.t (c.args.bound + 1) c.loop-rest.endings.items = subst (λ (x : List Position). AreEndings component matrix x c.args.t (c.args.bound + 1) c.loop-rest.endings.items) all c.loop-rest.invariant.endings in
    let answer : IsAnswer component matrix c.args.rests.now c.args.t (c.args.bound + 1) c.in-Some.answer = answers_all component matrix c.args.rests.now c.args.t (c.args.bound + 1) c.loop-rest.endings.items c.in-Some.answer are (rw c.in-Some.is at c.in_ok-answer.ensures) in
    rw (c.loop-rest.invariant.component, c.loop-rest.invariant.matrix) answer.stand

pub returns-clause-answer : goal.returns-clause-answer
returns-clause-answer c =
    let component = c.args.machine.now.component in
    let matrix = c.args.machine.now.matrix in
    let index : c.loop-rest.rest-index ≡ length c.args.rests.now = search rules in
    let all : take c.loop-rest.rest-index c.args.rests.now ≡ c.args.rests.now = ap (λ k. take k c.args.rests.now) index ∙ take-length c.args.rests.now in
    let are : AreEndings component matrix c.args.rests.now c.args.t (c.args.bound + 1) c.loop-rest.endings.items = subst (λ (x : List Position). AreEndings component matrix x c.args.t (c.args.bound + 1) c.loop-rest.endings.items) all c.loop-rest.invariant.endings in
    let answer : IsAnswer component matrix c.args.rests.now c.args.t (c.args.bound + 1) c.in-Some.answer = answers_all component matrix c.args.rests.now c.args.t (c.args.bound + 1) c.loop-rest.endings.items c.in-Some.answer are (rw c.in-Some.is at c.in_ok-answer.ensures) in
    answer_ordered component matrix c.args.rests.now c.args.t (c.args.bound + 1) c.in-Some.answer _ refl c.in_ok-rests.ensures.same answer

pub returns-in_default-clause-answer : goal.returns-in_default-clause-answer
returns-in_default-clause-answer c =
    let component = c.args.machine.now.component in
    let matrix = c.args.machine.now.matrix in
    let index : c.loop-rest.rest-index ≡ length c.args.rests.now = search rules in
    let all : take c.loop-rest.rest-index c.args.rests.now ≡ c.args.rests.now = ap (λ k. take k c.args.rests.now) index ∙ take-length c.args.rests.now in
    let are : AreEndings component matrix c.args.rests.now c.args.t (c.args.bound + 1) c.loop-rest.endings.items = subst (λ (x : List Position). AreEndings component matrix x c.args.t (c.args.bound + 1) c.loop-rest.endings.items) all c.loop-rest.invariant.endings in
    none_asked component matrix c.args.rests.now c.args.t (c.args.bound + 1) c.loop-rest.endings.items c.requires.some are (rw c.in_default.is at c.in_ok-answer.ensures)

pub returns-then-not-branch-clause-answer : goal.returns-then-not-branch-clause-answer
returns-then-not-branch-clause-answer c =
    let p : Position = c.rest-item.result in
    let here : IsAmong p c.args.rests.now = among_at c.args.rests.now c.loop-rest.rest-index p p (search rules) (search rules) in
    let is : c.stand_at.new.self ≡ state_at c.args.machine.now.component c.args.machine.now.matrix p = c.stand_at.ensures ∙ stands_here c.loop-rest.machine c.args.machine.now.component c.args.machine.now.matrix p c.loop-rest.invariant.component c.loop-rest.invariant.matrix in
    inl (p, here, subst (λ x. Lasts x c.args.t (c.args.bound + 1)) is (c.in_ok-run_alone.ensures.long (search rules)))
