use Rattle.std.proofs.Common.{rules, arith, ◌≡◌, ◌≤◌, ◌++◌, [], ◌∷◌, length, ◌∙◌, ap}
use Rattle.lu_test.specs.declared.schedule.Move.{Move}
use Rattle.lu_test.specs.Schedule.{IsMove}
use Rattle.lu_machine.specs.Steps.{IsFeasible, picks_of}
use Rattle.lu_pieces.proofs.Kids.{kids_none, kids_push, kids_turn, kids_itself, kids_each}
use Rattle.lu_machine.proofs.Moves.{feasible_is_move}
use Rattle.lu_pieces.proofs.pieces.add_kids.Goals as goal

pub loop-thread-init : goal.loop-thread-init
loop-thread-init c = kids_none c.args.machine.now c.args.piece.now c.args.next.now.items

pub extend-requires-clause-sound : goal.extend-requires-clause-sound
extend-requires-clause-sound c =
    let next : Move = record { thread = c.loop-thread.thread; pick = c.loop-pick.pick } in
    let able : IsFeasible c.args.machine.now next = rw (← c.picks-pick-end.ensures) (c.loop-pick-test.true) in
    let is : IsMove next = feasible_is_move c.args.machine.now c.requires.sound c.threads-thread-end.ensures.few next able in
    is

pub loop-pick-preserved : goal.loop-pick-preserved
loop-pick-preserved c =
    let next : Move = record { thread = c.loop-thread.thread; pick = c.loop-pick.pick } in
    let able : IsFeasible c.args.machine.now next = rw (← c.picks-pick-end.ensures) (c.loop-pick-test.true) in
    let pushed : c.push.new.self.items ≡ c.loop-pick.next.items ++ (c.args.piece.now ++ next ∷ []) ∷ [] = c.in_ok-push.ensures.items ∙ ap (λ x. c.loop-pick.next.items ++ x ∷ []) c.in_ok-extend.ensures in
    kids_push c.args.machine.now c.args.piece.now c.args.next.now.items c.loop-pick.next.items c.push.new.self.items c.loop-thread.thread c.loop-pick.pick able pushed c.loop-pick.invariant

pub loop-thread-preserved : goal.loop-thread-preserved
loop-thread-preserved c =
    let all : picks_of c.args.machine.now c.loop-thread.thread ≤ c.loop-pick.pick = rw (← c.picks-pick-end.ensures) (omega arith) in
    kids_turn c.args.machine.now c.args.piece.now c.args.next.now.items c.loop-pick.next.items c.loop-thread.thread c.loop-pick.pick all c.loop-pick.invariant

pub returns-in_ok-push-2 : goal.returns-in_ok-push-2
returns-in_ok-push-2 c =
    let past : length c.args.machine.now.threads ≤ c.loop-thread.thread = omega (arith, c.threads-thread-end.ensures.value) in
    let none : length c.loop-thread.next.items ≡ length c.args.next.now.items = search rules in
    let copied : c.new.result ≡ c.args.piece.now = c.new.ensures ∙ (c.in_ok-from_slice.ensures.items ∙ c.moves.ensures.moves) in
    let pushed : c.push-then-len-before.new.self.items ≡ c.loop-thread.next.items ++ c.args.piece.now ∷ [] = c.in_ok-push-2.ensures.items ∙ ap (λ x. c.loop-thread.next.items ++ x ∷ []) copied in
    kids_itself c.args.machine.now c.args.piece.now c.args.next.now.items c.loop-thread.next.items c.push-then-len-before.new.self.items c.loop-thread.thread past none pushed c.loop-thread.invariant

pub returns-else-len-before : goal.returns-else-len-before
returns-else-len-before c =
    let past : length c.args.machine.now.threads ≤ c.loop-thread.thread = omega (arith, c.threads-thread-end.ensures.value) in
    let some : length c.loop-thread.next.items ≡ length c.args.next.now.items → ⊥ = search rules in
    kids_each c.args.machine.now c.args.piece.now c.args.next.now.items c.loop-thread.next.items c.loop-thread.thread past some c.loop-thread.invariant
