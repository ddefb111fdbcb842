use Rattle.std.proofs.Common.{◌≡◌, ◌++◌, codes, rules, string_bytes}
use Rattle.lu_picture.specs.Shapes as spec
use Rattle.lu_picture.proofs.Joined.{three_pieces}
use Rattle.lu_picture.proofs.waiting.write_titled.Goals as goal

pub returns : goal.returns
returns c =
    let title = codes "<g><title>" ++ c.args.lines.now ++ codes "</title>" in
    let shown = spec.in_column (codes "w") c.args.t c.args.edge c.args.label.now in
    let old = string_bytes c.args.text.now in
    let one = string_bytes c.write.new.self in
    let two = string_bytes c.write_in_column.new.text in
    let first : one ≡ old ++ title = search rules in
    let second : two ≡ one ++ shown = search rules in
    three_pieces title shown (codes "</g>\n") old one two (string_bytes c.push_str.new.self) first second c.in_ok-push_str.ensures.bytes
