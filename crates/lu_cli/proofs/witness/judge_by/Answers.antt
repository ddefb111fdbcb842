use Rattle.std.proofs.Common.{◌≡◌, Some, slice_get, sym, ap, ◌∙◌}
use Rattle.std.proofs.lemmas.Option.{get_or_from_slice_get}
use Rattle.std.proofs.lemmas.Result.{IfOk-weaker}
use Rattle.lu_cli.specs.Witness.{IsJudgedByMembers, IsShown}
use Rattle.lu_cli.proofs.witness.judge_by.Goals as goal

pub returns-in-Some : goal.returns-in-Some
returns-in-Some g c =
    let members = g.T.SerialTree.members c.args.tree.now in
    let n = c.in-Some.number in
    let recorded = c.index-all-number.result in
    let first = c.in-Some.ensures in
    let same : recorded ≡ first.is.0 = c.index-all-number.is ∙ get_or_from_slice_get c.args.all.now n first.is.0 _ first.is.1 in
    let at : slice_get c.args.all.now n ≡ Some recorded = first.is.1 ∙ ap Some (sym same) in
    IfOk-weaker c.show_first.result (IsShown members c.args.test.component.now c.args.test.matrix.now n recorded) (IsJudgedByMembers members c.args.test.component.now c.args.test.matrix.now c.args.all.now)
    (λ a is. (Some n, first, (recorded, at, is))) c.show_first.ensures
