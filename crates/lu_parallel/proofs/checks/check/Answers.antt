use Rattle.std.proofs.Common.{◌∙◌, ℕ, Some, ap, sym, subst}
use Rattle.lu_report.specs.declared.report.Finding.{Finding}
use Rattle.lu_report.specs.Parts.{Report}
use Rattle.lu_replay.specs.Reports.{IsFinding}
use Rattle.lu_replay.proofs.Limits.{finding_within}
use Rattle.lu_machine.proofs.Starting.{start_there}
use Rattle.lu_parallel.proofs.checks.check.Goals as goal

pub new-requires-clause-within : goal.new-requires-clause-within
new-requires-clause-within g c =
    let there = start_there c.args.component.now c.args.matrix.now c.requires.of.settles in
    let start = there.0 in
    finding_within c.args.component.now c.args.matrix.now start c.in_ok-finding.ensures.limits there.1 c.bound-bound.result c.args.options.serial c.in_ok-finding.finding (c.in_ok-finding.ensures.found start there.1)

pub returns-clause-report : goal.returns-clause-report
returns-clause-report g c = (
  ap (λ (r : Report). r.bound) c.new.ensures ∙ c.bound-bound.ensures.bound,
  ap (λ (r : Report). r.serial) c.new.ensures ∙ ap (λ (n : ℕ). Some n) c.serial.ensures.serial,
  ap (λ (r : Report). r.local) c.new.ensures ∙ c.local.ensures.local,
  λ s is.
      (let found = subst (λ n. IsFinding s n c.args.options.serial c.in_ok-finding.finding) c.bound-bound.ensures.bound (c.in_ok-finding.ensures.found s is) in
      subst (λ (f : Finding). IsFinding s c.args.options.bound c.args.options.serial f) (sym (ap (λ (r : Report). r.finding) c.new.ensures)) found),
)
