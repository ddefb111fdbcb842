use Rattle.std.proofs.Common.{Some, refl}
use Rattle.std.proofs.lemmas.Result.{IfOk-weaker}
use Rattle.lu_picture.specs.Pictures.{Why}
use Rattle.lu_cli.specs.Pictures.{IsDrawnWhy}
use Rattle.lu_cli.specs.Explanation.{IsPicturedHistory, IsShownWhy}
use Rattle.lu_cli.proofs.explanation.picture_by.Goals as goal

pub returns : goal.returns
returns g c =
    let component = c.args.test.component.now in
    let matrix = c.args.test.matrix.now in
    let schedule = c.args.run.schedule.now in
    let history = c.args.run.shown.now.history in
    let members = g.T.SerialTree.members c.args.tree.now in
    let e = c.explain-explanation.result in
    let why : Why = record { explanation = Some e; broken = c.broken_shown.result } in
    let shown : IsShownWhy members history why = record { part = c.in_ok-part.part; shown = c.in_ok-part.ensures; explanation = e; explains = c.explain-explanation.ensures; breaks = c.broken_shown.ensures; is = refl } in
    IfOk-weaker c.draw_why.result (IsDrawnWhy c.args.how why component matrix schedule) (IsPicturedHistory c.args.how members component matrix schedule history)
    (λ answer is. (why, shown, is)) c.draw_why.ensures
