use Rattle.std.proofs.Common.{◌∙◌, ap, sym, subst}
use Rattle.lu_report.specs.declared.report.Finding.{Finding}
use Rattle.lu_report.specs.Parts.{Report}
use Rattle.lu_replay.specs.Reports.{IsFinding}
use Rattle.lu_replay.proofs.Limits.{finding_within}
use Rattle.lu_machine.proofs.Starting.{start_there}
use Rattle.lu_parallel.proofs.one_thread.check_one.Goals as goal

pub new-requires-clause-within : goal.new-requires-clause-within
new-requires-clause-within g c =
    let there = start_there c.args.component.now c.args.matrix.now c.requires.of.settles in
    let start = there.0 in
    finding_within c.args.component.now c.args.matrix.now start c.in_ok-finding.ensures.limits there.1 c.args.bound c.args.serial c.in_ok-finding.finding (c.in_ok-finding.ensures.found start there.1)

pub returns : goal.returns
returns g c = (
  ap (λ (r : Report). r.bound) c.new.ensures,
  ap (λ (r : Report). r.serial) c.new.ensures,
  ap (λ (r : Report). r.local) c.new.ensures ∙ c.local.ensures.local,
  λ s is. subst (λ (f : Finding). IsFinding s c.args.bound c.args.serial f) (sym (ap (λ (r : Report). r.finding) c.new.ensures)) (c.in_ok-finding.ensures.found s is),
)
