use Rattle.std.proofs.Common.{rules, arith, ◌-◌, ◌∙◌, IsTrue, ap, subst}
use Rattle.std.proofs.lemmas.Option.{IfSome_then}
use Rattle.std.proofs.lemmas.Result.{IfOk-weaker}
use Rattle.lu_machine.specs.Undoes.{restored}
use Rattle.lu_witness.specs.Witnesses.{IsMember}
use Rattle.lu_tree.specs.Tails.{IsRest}
use Rattle.lu_tree.proofs.Finishing.{few_moves, rest_move, rest_turn}
use Rattle.lu_tree.proofs.Leaving.{same_node}
use Rattle.lu_tree.proofs.tail.+finish.Goals as goal

pub returns-then-t-threads-clause-rest : goal.returns-then-t-threads-clause-rest
returns-then-t-threads-clause-rest g t c =
    let Set = IsMember (g.T.SerialTree.members c.args.node.now.trail.tree) in
    let s = c.args.node.now.machine in
    let h = c.args.node.now.trail.history in
    IfOk-weaker c.no_moves.result _ _
    (λ found none.
    IfSome_then found {Q = λ ns. IsRest Set c.args.question s h c.args.t c.args.left ns.items} none
    (λ ns rest. rest c.args.t c.args.left (omega (arith, c.threads-threads.ensures.value))))
    c.no_moves.ensures.rest

pub returns-then-is_over-clause-rest : goal.returns-then-is_over-clause-rest
returns-then-is_over-clause-rest g t c =
    let Set = IsMember (g.T.SerialTree.members c.args.node.now.trail.tree) in
    let s = c.args.node.now.machine in
    let h = c.args.node.now.trail.history in
    let yes : IsTrue c.is_over.result = search rules in
    IfOk-weaker c.finish.result _ _
    (λ found others.
    IfSome_then found {Q = λ ns. IsRest Set c.args.question s h c.args.t c.args.left ns.items} others
    (λ ns rest. rest_turn Set c.args.question s h c.args.t c.args.left ns.items (c.is_over.ensures yes) rest))
    c.finish.ensures.rest

pub one_more-requires-clause-few : goal.one_more-requires-clause-few
one_more-requires-clause-few g t c =
    let rest = rw (c.in-Ok-Some.is, c.in-Ok-Some.field-0-is) at c.finish-found.ensures.rest in
    let short = rest.short in
    let few = few_moves c.in-Ok-Some.lengths.items c.args.t in
    omega (arith, c.if-left-eq0.false)

pub returns-in-Ok-Some-clause-rest : goal.returns-in-Ok-Some-clause-rest
returns-in-Ok-Some-clause-rest g t c =
    let Set = IsMember (g.T.SerialTree.members c.args.node.now.trail.tree) in
    let s = c.args.node.now.machine in
    let lengths = c.in-Ok-Some.lengths.items in
    let after = c.enter-undo.new.self.machine in
    let last = c.enter-undo.new.self.trail.history in
    let entered = rw (c.in-Ok-Some.is, c.in-Ok-Some.field-0-is) at c.finish-found.ensures.rest in
    let rest : IsRest Set c.args.question after last c.args.t (c.args.left - 1) lengths = subst (λ x. IsRest (IsMember (g.T.SerialTree.members x)) c.args.question after last c.args.t (c.args.left - 1) lengths) c.enter-undo.ensures.tree entered in
    let yes : IsTrue c.may_move.result = search rules in
    rw c.one_more.ensures (rest_move Set c.args.question s c.args.node.now.trail.history c.args.t after c.enter-undo.result.event c.enter-undo.ensures.step (c.may_move.ensures yes) c.args.left lengths last (omega (arith, c.if-left-eq0.false)) (omega (arith, c.threads-threads.ensures.value, c.requires.within, c.if-t-threads.false)) c.enter-undo.ensures.history rest)

pub returns-in-Ok-None-clause-same : goal.returns-in-Ok-None-clause-same
returns-in-Ok-None-clause-same g t c =
    let same = c.finish-found.ensures.same in
    same_node c.leave.new.self c.args.node.now
    (c.leave.ensures.machine ∙ (ap (λ n. restored c.enter-undo.result n.machine) same ∙ c.enter-undo.ensures.back))
    (c.leave.ensures.tree ∙ (ap (λ n. n.trail.tree) same ∙ c.enter-undo.ensures.tree))
    (c.leave.ensures.history c.args.node.now.trail.history (ap (λ n. n.trail.history) same ∙ c.enter-undo.ensures.history))

pub returns-in-Ok-Some-clause-same : goal.returns-in-Ok-Some-clause-same
returns-in-Ok-Some-clause-same g t c =
    let same = c.finish-found.ensures.same in
    same_node c.leave.new.self c.args.node.now
    (c.leave.ensures.machine ∙ (ap (λ n. restored c.enter-undo.result n.machine) same ∙ c.enter-undo.ensures.back))
    (c.leave.ensures.tree ∙ (ap (λ n. n.trail.tree) same ∙ c.enter-undo.ensures.tree))
    (c.leave.ensures.history c.args.node.now.trail.history (ap (λ n. n.trail.history) same ∙ c.enter-undo.ensures.history))

pub returns-in-Err-clause-same : goal.returns-in-Err-clause-same
returns-in-Err-clause-same g t c =
    let same = c.finish-found.ensures.same in
    same_node c.leave.new.self c.args.node.now
    (c.leave.ensures.machine ∙ (ap (λ n. restored c.enter-undo.result n.machine) same ∙ c.enter-undo.ensures.back))
    (c.leave.ensures.tree ∙ (ap (λ n. n.trail.tree) same ∙ c.enter-undo.ensures.tree))
    (c.leave.ensures.history c.args.node.now.trail.history (ap (λ n. n.trail.history) same ∙ c.enter-undo.ensures.history))
