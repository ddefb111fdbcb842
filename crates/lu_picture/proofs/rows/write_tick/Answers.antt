use Rattle.std.proofs.Common.{◌≡◌, ◌++◌, codes, rules, string_bytes}
use Rattle.lu_picture.specs.Shapes as spec
use Rattle.lu_picture.proofs.Joined.{three_pieces}
use Rattle.lu_picture.proofs.rows.write_tick.Goals as goal

pub returns : goal.returns
returns c =
    let row = c.args.row in
    let line = spec.tick_line (spec.column row.next.thread) row.top in
    let title = spec.move_title row c.args.words.now c.args.below.now in
    let old = string_bytes c.args.text.now in
    let one = string_bytes c.write_tick_line.new.text in
    let two = string_bytes c.write_move_title.new.text in
    let first : one ≡ old ++ line = search rules in
    let second : two ≡ one ++ title = search rules in
    three_pieces line title (codes "</path>\n") old one two (string_bytes c.push_str.new.self) first second c.in_ok-push_str.ensures.bytes
