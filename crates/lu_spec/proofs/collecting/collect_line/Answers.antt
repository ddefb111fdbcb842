use Rattle.std.proofs.Common.{List, sym, subst}
use Rattle.lu_history.specs.declared.serial.SerialOp.{SerialOp}
use Rattle.lu_history.specs.Serial.{IsSerial}
use Rattle.lu_spec.specs.Beginnings.{AddsBeginnings}
use Rattle.lu_spec.proofs.Collected.{adds_line}
use Rattle.lu_spec.proofs.collecting.collect_line.Goals as goal

pub add_beginnings-requires : goal.add_beginnings-requires
add_beginnings-requires c = subst IsSerial (sym c.deref.ensures.value) c.in_ok-history.ensures.said.said.0.serial

pub returns-clause-next : goal.returns-clause-next
returns-clause-next c =
    let added = subst (λ (h : List SerialOp). AddsBeginnings c.args.draft.set c.add_beginnings.new.set h) c.deref.ensures.value c.in_ok-add_beginnings.ensures in
    adds_line c.args.matrix.now c.args.draft.begun c.args.draft.set c.add_beginnings.new.set _ c.lists.result c.in_ok-history.history.items c.lists.ensures c.if-not-lists.false c.in_ok-history.ensures.said added
