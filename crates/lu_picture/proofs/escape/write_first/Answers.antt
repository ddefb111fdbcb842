use Rattle.std.proofs.Common.{◌++◌, flat_map, sym, ap, ◌∙◌, map-id, string_bytes}
use Rattle.std.proofs.lemmas.Iterator.{YieldsList-from_chars, YieldsList-from_take}
use Rattle.std.proofs.lemmas.Iterator.Consumers.{YieldsList-end}
use Rattle.lu_picture.specs.Shown.{letter_shown}
use Rattle.lu_picture.proofs.escape.write_first.Goals as goal

pub returns : goal.returns
returns c =
    let first = YieldsList-from_take 48 (YieldsList-from_chars c.args.words.now c.utf8.words cc) cc in
    let end = YieldsList-end first c.loop-letter.yielded _ c.loop-letter.yielded_by _ _ c.in-None.is c.next.ensures.steps in
    c.loop-letter.invariant ∙ ap (λ x. string_bytes c.args.text.now ++ flat_map letter_shown x) (sym (map-id c.loop-letter.yielded) ∙ end.0)
