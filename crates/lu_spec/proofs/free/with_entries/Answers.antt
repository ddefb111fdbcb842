use Rattle.std.proofs.Common.{◌∙◌, List, subst}
use Rattle.lu_history.specs.declared.serial.SerialOp.{SerialOp}
use Rattle.lu_spec.specs.Beginnings.{AddsBeginnings}
use Rattle.lu_spec.proofs.free.with_entries.Goals as goal

pub returns-clause-adds : goal.returns-clause-adds
returns-clause-adds c = record {
  set = subst (λ (h : List SerialOp). AddsBeginnings c.args.draft.set c.add_with_beginnings.new.set h) (c.deref.ensures.value ∙ c.in_ok-history.ensures) c.in_ok-add_with_beginnings.ensures;
  kept = c.in_ok-kept.ensures;
}
