use Rattle.std.proofs.Common.{◌≡◌, ◌++◌, rules, string_bytes}
use Rattle.std.proofs.lemmas.Result.{on_ok_weaker}
use Rattle.lu_picture.specs.Shown.{ending, first_letters}
use Rattle.lu_picture.proofs.Labelled.{label_joined}
use Rattle.lu_picture.proofs.escape.write_label.Goals as goal

pub returns : goal.returns
returns c =
    let words = c.args.words.now in
    let old = string_bytes c.args.text.now in
    let one = string_bytes c.write_first.new.text in
    let two = string_bytes c.write_ellipsis.new.text in
    let first : one ≡ old ++ first_letters words = search rules in
    on_ok_weaker c.write_ellipsis.result (λ (second : two ≡ one ++ ending c.letters.result). label_joined words c.letters.result old one two first c.letters.ensures second) (search rules)
