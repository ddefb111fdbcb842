use Rattle.std.proofs.Common.{arith, ◌<◌, ◌≤◌, length, take, slice_index_or, refl, ◌∙◌, subst}
use Rattle.std.proofs.lemmas.List.{take_more, take_all}
use Rattle.lu_test.specs.declared.schedule.Move.{Move}
use Rattle.lu_machine.specs.Runs.{Leads}
use Rattle.lu_machine.proofs.Paths.{goes_on_feasible, child_leads}
use Rattle.lu_tree.proofs.searching.follow.Goals as goal

pub enter-requires-clause-feasible : goal.enter-requires-clause-feasible
enter-requires-clause-feasible g c =
    let within : c.loop-next.next-index < length c.args.schedule.now = omega arith in
    let zero_move : Move = record { thread = 0; pick = 0 } in
    let all = c.requires.feasible in
    goes_on_feasible c.args.node.now.machine c.args.schedule.now all.end all.history all.leads c.loop-next.next-index zero_move within c.loop-next.node.machine c.loop-next.node.trail.history c.loop-next.invariant.leads

pub loop-next-init : goal.loop-next-init
loop-next-init g c = record {
  leads = (refl, c.requires.silent);
  agree = rw c.requires.silent c.requires.agree;
  tree = refl;
}

pub loop-next-preserved : goal.loop-next-preserved
loop-next-preserved g c = record {
  leads =
      (let within : c.loop-next.next-index < length c.args.schedule.now = omega arith in
      let zero_move : Move = record { thread = 0; pick = 0 } in
      rw (take_more c.args.schedule.now c.loop-next.next-index zero_move within, c.enter.ensures.history) (child_leads c.args.node.now.machine (take c.loop-next.next-index c.args.schedule.now) c.loop-next.node.machine c.loop-next.node.trail.history c.loop-next.invariant.leads (slice_index_or c.args.schedule.now c.loop-next.next-index zero_move) c.enter.new.self.machine c.enter.result.event c.enter.ensures.step));
  agree = c.enter.ensures.agree;
  tree = c.enter.ensures.tree ∙ c.loop-next.invariant.tree;
}

pub returns-clause-leads : goal.returns-clause-leads
returns-clause-leads g c =
    let past : length c.args.schedule.now ≤ c.loop-next.next-index = omega arith in
    subst (λ u. Leads c.args.node.now.machine u c.loop-next.node.machine c.loop-next.node.trail.history) (take_all c.loop-next.next-index c.args.schedule.now past) c.loop-next.invariant.leads
