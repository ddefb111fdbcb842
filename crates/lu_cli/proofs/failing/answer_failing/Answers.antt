use Rattle.std.proofs.Common.{Ok}
use Rattle.lu_cli.specs.Failing.{IsShownAlone}
use Rattle.lu_cli.proofs.WordedTexts.{worded_answered}
use Rattle.lu_cli.proofs.failing.answer_failing.Goals as goal

pub returns : goal.returns
returns c =
    worded_answered c.args.component.now c.args.matrix.now c.in_ok-worded.worded c.wording.result (IsShownAlone c.args.view)
    c.in_ok-worded.ensures.read c.wording.ensures (Ok c.in_ok-show_alone.field-0) c.in_ok-show_alone.ensures
