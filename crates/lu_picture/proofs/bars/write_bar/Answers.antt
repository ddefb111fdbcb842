use Rattle.std.proofs.Common.{◌≡◌, ◌++◌, length, rules, string_bytes}
use Rattle.std.specs.Option.{option_copied}
use Rattle.std.proofs.lemmas.Result.{on_ok_weaker}
use Rattle.lu_picture.specs.Reasons.{is_left, explained_number}
use Rattle.lu_picture.specs.Shapes as spec
use Rattle.lu_picture.proofs.Joined.{four_pieces}
use Rattle.lu_picture.proofs.bars.write_bar.Goals as goal

pub returns : goal.returns
returns c =
    let s = c.args.machine.now in
    let d = c.args.drawing.now in
    let b = c.args.bar in
    let why = option_copied c.args.explanation in
    let end = spec.end_of b.t b.k d.marks (length d.marks) in
    let said = spec.why_of s d.marks why b.t b.k in
    let old = string_bytes c.args.text.now in
    let one = string_bytes c.write_outline.new.text in
    let two = string_bytes c.write_bar_end.new.text in
    let three = string_bytes c.write_number_in_bar.new.text in
    let four = string_bytes c.write_foot_line.new.text in
    let outline = spec.bar_outline (is_left why b.t b.k) d.edge b end in
    let title = spec.bar_end said in
    let numbered = spec.number_in_bar b (explained_number why b.t b.k) in
    let line = spec.foot_line d.edge (spec.lines_before why b.t) (spec.reason_line s b.t b.k said) in
    let first : one ≡ old ++ outline = search rules in
    let second : two ≡ one ++ title = search rules in
    let third : three ≡ two ++ numbered = search rules in
    on_ok_weaker c.write_foot_line.result (λ (fourth : four ≡ three ++ line). four_pieces outline title numbered line old one two three four first second third fourth) (search rules)
