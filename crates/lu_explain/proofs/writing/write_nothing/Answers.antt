use Rattle.std.proofs.Common.{◌++◌, codes, string_bytes, sym, subst}
use Rattle.std.proofs.lemmas.Result.{on_ok_weaker}
use Rattle.lu_text.specs.Writing.{Writes}
use Rattle.lu_explain.specs.Lines.{nothing_words, operation_words}
use Rattle.lu_explain.proofs.Joined.{on_pushed, three_pieces}
use Rattle.lu_explain.proofs.writing.write_nothing.Goals as goal

pub returns-in_ok-write_operation-in-Some : goal.returns-in_ok-write_operation-in-Some
returns-in_ok-write_operation-in-Some c =
    let old = string_bytes c.args.text.now in
    let one = string_bytes c.push_str-in-Some.new.self in
    let two = string_bytes c.write_operation.new.text in
    let new = string_bytes c.push_str-in-Some-2.new.self in
    let words = operation_words c.args.component.now c.args.matrix.now c.in-Some.t c.in-Some.k in
    let pushed = on_pushed c.push_str-in-Some-2.result new (two ++ codes ", which is stuck") two c.push_str-in-Some-2.ensures.bytes in
    subst (λ s. Writes c.push_str-in-Some-2.result c.args.text.now c.push_str-in-Some-2.new.self (nothing_words c.args.component.now c.args.matrix.now s)) (sym c.in-Some.is)
    (on_ok_weaker c.push_str-in-Some-2.result (λ more. three_pieces (codes ", but nothing can follow ") words (codes ", which is stuck") old one two new c.in_ok-push_str-in-Some.ensures.bytes c.in_ok-write_operation-in-Some.ensures more) pushed)
