use Rattle.std.proofs.Common.{◌≡◌, ◌++◌, if◌then◌else◌, codes, rules, string_bytes}
use Rattle.lu_picture.specs.Shapes as spec
use Rattle.lu_picture.proofs.Joined.{five_pieces}
use Rattle.lu_picture.proofs.rows.write_text_row.Goals as goal

pub returns : goal.returns
returns c =
    let row = c.args.row in
    let title = spec.move_title row c.args.words.now c.args.below.now in
    let number = spec.move_number row in
    let label = spec.in_column (if c.args.has_event then codes "e" else codes "f") row.next.thread row.top c.args.label.now in
    let old = string_bytes c.args.text.now in
    let one = string_bytes c.push_str.new.self in
    let two = string_bytes c.write_move_title.new.text in
    let three = string_bytes c.write_move_number.new.text in
    let four = string_bytes c.write_in_column.new.text in
    let first : one ≡ old ++ codes "<g>" = search rules in
    let second : two ≡ one ++ title = search rules in
    let third : three ≡ two ++ number = search rules in
    let fourth : four ≡ three ++ label = search rules in
    five_pieces (codes "<g>") title number label (codes "</g>\n") old one two three four (string_bytes c.push_str-2.new.self) first second third fourth c.in_ok-push_str-2.ensures.bytes
