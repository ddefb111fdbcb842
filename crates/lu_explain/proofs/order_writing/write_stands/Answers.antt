use Rattle.std.proofs.Common.{◌≡◌, ◌++◌, codes, string_bytes, subst}
use Rattle.std.proofs.lemmas.Result.{on_ok_weaker}
use Rattle.lu_explain.specs.Lines.{operation_words}
use Rattle.lu_explain.proofs.Joined.{three_pieces}
use Rattle.lu_explain.proofs.order_writing.write_stands.Goals as goal

pub returns : goal.returns
returns c =
    let component = c.args.component.now in
    let matrix = c.args.matrix.now in
    let first = c.args.broken.first in
    let second = c.args.broken.second in
    let old = string_bytes c.args.text.now in
    let one = string_bytes c.write_operation.new.text in
    let two = string_bytes c.push_str.new.self in
    let new = string_bytes c.write_operation-2.new.text in
    let wrote = subst (λ k. one ≡ old ++ operation_words component matrix second.t k) c.from.ensures c.in_ok-write_operation.ensures in
    on_ok_weaker c.write_operation-2.result
    (λ more. three_pieces (operation_words component matrix second.t second.k) (codes " comes before ") (operation_words component matrix first.t first.k) old one two new wrote c.in_ok-push_str.ensures.bytes (subst (λ k. new ≡ two ++ operation_words component matrix first.t k) c.from-2.ensures more))
    c.write_operation-2.ensures
