use Rattle.lu_text.specs.Lines.{texts}
use Rattle.lu_cli.specs.Runs.{AreJudgedTexts}
use Rattle.lu_cli.proofs.RunAnswers.{setup_answered}
use Rattle.lu_cli.proofs.runs.answer_runs.Goals as goal

pub returns : goal.returns
returns c =
    let read = c.in_ok-case in
    setup_answered c.args.component.now c.args.setup.now read.case.component read.case.matrix (λ d m. AreJudgedTexts d m c.args.bounds (texts c.args.runs.now)) read.ensures.read c.judge_run_texts.result c.judge_run_texts.ensures
