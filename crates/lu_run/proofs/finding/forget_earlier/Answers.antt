use Rattle.std.proofs.Common.{arith, length, drop, ◌∙◌, ◌-◌, ap}
use Rattle.std.proofs.lemmas.List.{length-drop, take_all}
use Rattle.lu_run.proofs.finding.forget_earlier.Goals as goal

pub returns-in_ok-later : goal.returns-in_ok-later
returns-in_ok-later c =
    let list = c.deref.result.now in
    let less = length-drop 65536 list in
    (65536, c.in_ok-later.ensures.items ∙ (take_all (length list - 65536) (drop 65536 list) (omega (arith, less)) ∙ ap (drop 65536) c.deref.ensures.value))
