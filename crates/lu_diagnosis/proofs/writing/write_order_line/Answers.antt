use Rattle.std.proofs.Common.{[], take, sym, subst}
use Rattle.std.specs.Option.{option_map_or}
use Rattle.std.proofs.lemmas.Option.{slice_get-get_or}
use Rattle.lu_text.specs.Writing.{Writes}
use Rattle.lu_history.specs.declared.serial.SerialOp.{SerialOp}
use Rattle.lu_history.specs.declared.serial.SerialOutcome.TheVariants.{Ret}
use Rattle.lu_explain.specs.Lines.{entry_line}
use Rattle.lu_diagnosis.proofs.writing.write_order_line.Goals as goal

pub returns : goal.returns
returns c =
    let component = c.args.component.now in
    let matrix = c.args.matrix.now in
    let order = c.args.order.now in
    let i = c.args.i in
    let none : SerialOp = record { thread = 0; outcome = Ret 0 } in
    subst (λ o. Writes c.write_entry.result c.args.text.now c.write_entry.new.text (option_map_or (entry_line component matrix (take i order)) o [])) (sym (slice_get-get_or order i none c.requires)) c.write_entry.ensures
