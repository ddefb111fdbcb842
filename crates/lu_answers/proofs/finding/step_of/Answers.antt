use Rattle.std.proofs.Common.{rules, ◌≡◌, Some, slice_get}
use Rattle.lu_answers.specs.Asking.{ReturnsTo}
use Rattle.lu_answers.specs.Stored.{IsNumbered, IsStored, stage_of}
use Rattle.lu_answers.proofs.Filled.{adds_one, keeps_grows, step_blocks, step_leads, step_returns, stored_more}
use Rattle.lu_answers.proofs.finding.step_of.Goals as goal

pub returns-in_default-clause-step : goal.returns-in_default-clause-step
returns-in_default-clause-step c =
    let m = c.args.machine.now in
    let at : slice_get c.args.stages.now.keys c.args.index ≡ Some c.unwrap-stage.result.now = search rules in
    step_blocks m.component c.args.rounds m.matrix c.args.bound c.args.stages.now.keys c.args.index c.args.thread c.unwrap-stage.result.now at (rw c.in_default.is at c.in_ok-outcome.ensures.reply)

pub returns-in-Some-2-clause-stored : goal.returns-in-Some-2-clause-stored
returns-in-Some-2-clause-stored c =
    let m = c.args.machine.now in
    let stored : IsStored m.component m.matrix c.in-Some.next = rw c.in-Some.is at c.in_ok-outcome.ensures.stored in
    stored_more m.component m.matrix c.args.stages.now.keys c.number_of.new.stages.keys c.in-Some.next c.in_ok-number_of.ensures.keeps c.requires.stored stored

pub returns-in-Some-2-clause-adds : goal.returns-in-Some-2-clause-adds
returns-in-Some-2-clause-adds c =
    let m = c.args.machine.now in
    let at : slice_get c.args.stages.now.keys c.args.index ≡ Some c.unwrap-stage.result.now = search rules in
    let returns : ReturnsTo m.component c.args.rounds m.matrix c.args.bound (stage_of c.unwrap-stage.result.now) c.args.thread c.in-Some.outcome (stage_of c.in-Some.next) = rw c.in-Some.is at c.in_ok-outcome.ensures.reply in
    adds_one m.component c.args.rounds m.matrix c.args.stages.now.keys c.number_of.new.stages.keys c.in-Some.next c.args.index c.in_ok-number_of.ensures.keeps
    (step_leads m.component c.args.rounds m.matrix c.args.bound c.args.stages.now.keys c.args.index c.args.thread c.unwrap-stage.result.now at c.in-Some.outcome c.in-Some.next returns)

pub returns-in-Some-2-clause-step : goal.returns-in-Some-2-clause-step
returns-in-Some-2-clause-step c =
    let m = c.args.machine.now in
    let at : slice_get c.args.stages.now.keys c.args.index ≡ Some c.unwrap-stage.result.now = search rules in
    let returns : ReturnsTo m.component c.args.rounds m.matrix c.args.bound (stage_of c.unwrap-stage.result.now) c.args.thread c.in-Some.outcome (stage_of c.in-Some.next) = rw c.in-Some.is at c.in_ok-outcome.ensures.reply in
    let number : IsNumbered c.number_of.new.stages.keys c.in-Some.next c.in-Some-2.number = rw c.in-Some-2.is at c.in_ok-number_of.ensures.number in
    step_returns m.component c.args.rounds m.matrix c.args.bound c.args.stages.now.keys c.args.index c.args.thread c.unwrap-stage.result.now at c.in-Some.outcome c.in-Some.next returns c.number_of.new.stages.keys
    (keeps_grows c.args.stages.now.keys c.number_of.new.stages.keys c.in-Some.next c.in_ok-number_of.ensures.keeps) c.in-Some-2.number number
