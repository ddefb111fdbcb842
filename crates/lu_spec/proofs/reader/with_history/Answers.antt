use Rattle.std.proofs.Common.{List, sym, subst}
use Rattle.lu_history.specs.declared.serial.SerialOp.{SerialOp}
use Rattle.lu_history.specs.Serial.{IsSerial}
use Rattle.lu_spec.specs.Beginnings.{AddsBeginnings}
use Rattle.lu_spec.proofs.reader.with_history.Goals as goal

pub add_beginnings-requires : goal.add_beginnings-requires
add_beginnings-requires c = subst IsSerial (sym c.deref.ensures.value) c.requires

pub returns-clause-set : goal.returns-clause-set
returns-clause-set c = subst (λ (h : List SerialOp). AddsBeginnings c.args.draft.set c.add_beginnings.new.set h) c.deref.ensures.value c.in_ok-add_beginnings.ensures
