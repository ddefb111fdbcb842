use Rattle.std.proofs.Common.{◌++◌, codes, string_bytes, subst}
use Rattle.std.proofs.lemmas.Result.{on_ok_weaker}
use Rattle.lu_text.specs.Writing.{Writes}
use Rattle.lu_explain.specs.Lines.{operation_words}
use Rattle.lu_diagnosis.specs.Sentences.{happened}
use Rattle.lu_diagnosis.proofs.Joined.{four_pieces, on_pushed}
use Rattle.lu_diagnosis.proofs.sentences.write_late.Goals as goal

pub returns : goal.returns
returns c =
    let component = c.args.component.now in
    let matrix = c.args.matrix.now in
    let history = c.args.history.now in
    let late = c.args.broken.second.t in
    let early = c.args.broken.first.t in
    let r = c.push_str-2.result in
    let old = string_bytes c.args.text.now in
    let one = string_bytes c.write_happened.new.text in
    let two = string_bytes c.push_str.new.self in
    let three = string_bytes c.write_operation.new.text in
    let new = string_bytes c.push_str-2.new.self in
    let last = codes " had returned before it was called\n" in
    let pushed = on_pushed r new (three ++ last) three c.push_str-2.ensures.bytes in
    subst (λ k. Writes r c.args.text.now c.push_str-2.new.self (happened component matrix history late k ++ codes ", although " ++ operation_words component matrix early c.args.broken.first.k ++ last)) c.from.ensures
    (subst (λ k. Writes r c.args.text.now c.push_str-2.new.self (happened component matrix history late c.from.result ++ codes ", although " ++ operation_words component matrix early k ++ last)) c.from-2.ensures
    (on_ok_weaker r (λ more. four_pieces (happened component matrix history late c.from.result) (codes ", although ") (operation_words component matrix early c.from-2.result) last old one two three new c.in_ok-write_happened.ensures c.in_ok-push_str.ensures.bytes c.in_ok-write_operation.ensures more) pushed))
