use Rattle.std.proofs.Common.{◌≡◌, ◌++◌, codes, string_bytes, rules, subst}
use Rattle.std.specs.Prelude.{OnOk}
use Rattle.std.specs.Fmt.{decimal}
use Rattle.std.proofs.lemmas.Result.{on_ok_weaker}
use Rattle.lu_explain.specs.Lines.{operation_words}
use Rattle.lu_explain.proofs.Joined.{three_pieces}
use Rattle.lu_explain.proofs.order_writing.write_returned.Goals as goal

pub returns : goal.returns
returns c =
    let component = c.args.component.now in
    let matrix = c.args.matrix.now in
    let old = string_bytes c.args.text.now in
    let one = string_bytes c.push_str.new.self in
    let two = string_bytes c.write_operation.new.text in
    let new = string_bytes c.write.new.self in
    let last = codes " returned (move " ++ (decimal c.args.at ++ codes ")") in
    let named = subst (λ k. two ≡ one ++ operation_words component matrix c.args.a.t k) c.from.ensures c.in_ok-write_operation.ensures in
    let wrote : OnOk c.write.result (new ≡ two ++ last) = search rules in
    on_ok_weaker c.write.result (λ more. three_pieces (codes " here, but ") (operation_words component matrix c.args.a.t c.args.a.k) last old one two new c.in_ok-push_str.ensures.bytes named more) wrote
