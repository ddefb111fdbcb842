use Rattle.std.proofs.Common.{rules, ◌≡◌, IsTrue, length}
use Rattle.lu_witness.specs.Witnesses.{IsMember}
use Rattle.lu_tree.proofs.Finishing.{rest_end, zeros}
use Rattle.lu_tree.proofs.tail.no_moves.Goals as goal

pub returns-clause-rest : goal.returns-clause-rest
returns-clause-rest g c = λ t left past.
    (let Set = IsMember (g.T.SerialTree.members c.args.node.now.trail.tree) in
    let s = c.args.node.now.machine in
    let yes : IsTrue c.is_judged_end.result = search rules in
    let ends = c.is_judged_end.ensures.judged yes in
    let is : c.in_ok-lengths.lengths.items ≡ zeros (length s.threads) = search rules in
    rest_end Set c.args.question s c.args.node.now.trail.history t left c.in_ok-lengths.lengths.items is past ends.0 ends.1)
