use Rattle.std.proofs.Common.{◌≡◌, Some, slice_get, sym, ◌∙◌, ap}
use Rattle.std.proofs.lemmas.Option.{slice_get-get_or}
use Rattle.lu_tree.proofs.KnownLaws.{hint_there}
use Rattle.lu_tree.proofs.known.Hints.after.Goals as goal

pub returns-in-Some : goal.returns-in-Some
returns-in-Some c =
    let slots = c.args.self.now.by_thread in
    let hint = c.in-Some.hint.now in
    let there = c.in-Some.ensures.lookup in
    let is : slice_get slots c.from.result ≡ Some hint = slice_get-get_or slots c.from.result hint there.3.0 ∙ ap Some (sym there.1) in
    hint_there c.args.self.now c.args.thread c.from.result hint c.from.ensures is
