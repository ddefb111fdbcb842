use Rattle.std.proofs.Common.{◌≡◌, ◌++◌, codes, string_bytes, subst, rules}
use Rattle.std.proofs.lemmas.Result.{on_ok_weaker}
use Rattle.lu_text.specs.Writing.{Writes}
use Rattle.lu_explain.specs.Lines.{operation_words}
use Rattle.lu_diagnosis.specs.SerialRuns.{after_words, ends_words}
use Rattle.lu_diagnosis.proofs.Joined.{seven_pieces, on_pushed}
use Rattle.lu_diagnosis.proofs.serial_runs.write_difference.Goals as goal

pub returns : goal.returns
returns c =
    let component = c.args.component.now in
    let matrix = c.args.matrix.now in
    let after = after_words component matrix c.args.before.now in
    let ends = ends_words c.args.op.outcome in
    let other = ends_words c.args.other in
    let call = operation_words component matrix c.args.op.thread in
    let r = c.push_str-2.result in
    let six = string_bytes c.write_end-2.new.text in
    let new = string_bytes c.push_str-2.new.self in
    let last = codes " in another\n" in
    let blank : string_bytes c.push.new.self ≡ string_bytes c.write_operation.new.text ++ codes " " = search rules in
    let pushed = on_pushed r new (six ++ last) six c.push_str-2.ensures.bytes in
    subst (λ k. Writes r c.args.text.now c.push_str-2.new.self (after ++ call k ++ codes " " ++ ends ++ codes " in this serial run and " ++ other ++ last)) c.count.ensures
    (on_ok_weaker r (λ more. seven_pieces after (call c.count.result) (codes " ") ends (codes " in this serial run and ") other last (string_bytes c.args.text.now) (string_bytes c.write_after.new.text) (string_bytes c.write_operation.new.text) (string_bytes c.push.new.self) (string_bytes c.write_end.new.text) (string_bytes c.push_str.new.self) six new c.in_ok-write_after.ensures c.in_ok-write_operation.ensures blank c.in_ok-write_end.ensures c.in_ok-push_str.ensures.bytes c.in_ok-write_end-2.ensures more) pushed)
