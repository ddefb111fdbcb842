use Rattle.std.proofs.Common.{ap, sym, subst, ◌∙◌}
use Rattle.lu_report.specs.declared.report.Finding.{Finding}
use Rattle.lu_report.specs.Parts.{Report}
use Rattle.lu_replay.specs.Reports.{IsFindingAgainst}
use Rattle.lu_replay.proofs.Limits.{against_within}
use Rattle.lu_witness.specs.Witnesses.{IsMember}
use Rattle.lu_machine.proofs.Starting.{start_there}
use Rattle.lu_parallel.proofs.one_thread.check_one_against.Goals as goal

pub against-requires-clause-within : goal.against-requires-clause-within
against-requires-clause-within g c =
    let there = start_there c.args.component.now c.args.matrix.now c.requires.of.settles in
    let start = there.0 in
    (against_within c.args.component.now c.args.matrix.now start c.in_ok-finding.ensures.limits there.1 (IsMember (g.T.SerialTree.members c.args.tree.now)) c.args.bound c.in_ok-finding.finding (c.in_ok-finding.ensures.found start there.1)).0

pub against-requires-clause-judged : goal.against-requires-clause-judged
against-requires-clause-judged g c =
    let there = start_there c.args.component.now c.args.matrix.now c.requires.of.settles in
    let start = there.0 in
    (against_within c.args.component.now c.args.matrix.now start c.in_ok-finding.ensures.limits there.1 (IsMember (g.T.SerialTree.members c.args.tree.now)) c.args.bound c.in_ok-finding.finding (c.in_ok-finding.ensures.found start there.1)).1

pub returns : goal.returns
returns g c = (
  ap (λ (r : Report). r.bound) c.against.ensures,
  ap (λ (r : Report). r.serial) c.against.ensures,
  ap (λ (r : Report). r.local) c.against.ensures ∙ c.local.ensures.local,
  λ s is. subst (λ (f : Finding). IsFindingAgainst (IsMember (g.T.SerialTree.members c.args.tree.now)) s c.args.bound f) (sym (ap (λ (r : Report). r.finding) c.against.ensures)) (c.in_ok-finding.ensures.found s is),
)
