use Rattle.std.proofs.Common.{◌≡◌, ◌++◌, codes, rules, string_bytes}
use Rattle.std.specs.Fmt.{decimal}
use Rattle.lu_picture.specs.Shapes as spec
use Rattle.lu_picture.proofs.Joined.{three_pieces}
use Rattle.lu_picture.proofs.rules.write_returned.Goals as goal

pub returns : goal.returns
returns c =
    let thread = codes "T" ++ decimal c.args.op.t ++ codes " " in
    let call = spec.machine_call c.args.machine.now c.args.op.t c.args.op.k in
    let old = string_bytes c.args.text.now in
    let one = string_bytes c.write.new.self in
    let two = string_bytes c.write_call.new.text in
    let first : one ≡ old ++ thread = search rules in
    let second : two ≡ one ++ call = search rules in
    three_pieces thread call (codes " had returned") old one two (string_bytes c.push_str.new.self) first second c.in_ok-push_str.ensures.bytes
