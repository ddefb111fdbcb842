use Rattle.std.proofs.Common.{arith, ◌≡◌, slice_get, Some, sym}
use Rattle.std.proofs.lemmas.Option.{slice_get_within}
use Rattle.lu_machine.proofs.RowLists.{can_step, steps_so}
use Rattle.lu_machine.proofs.machine.Machine.one_step.Goals as goal

pub act-act-requires-clause-sound : goal.act-act-requires-clause-sound
act-act-requires-clause-sound g c =
    let stands : slice_get c.args.self.now.threads c.args.next.thread ≡ Some c.unwrap-standing.result.now = sym (rw c.unwrap-standing.ensures at c.standing.ensures.value) in
    (can_step c.args.self.now c.args.next c.unwrap-standing.result.now c.in-Open.frame c.task-task.result.now stands c.in-Open.is c.task-task.ensures.sound c.task-task.ensures.value c.requires).sound

pub act-act-requires-clause-feasible : goal.act-act-requires-clause-feasible
act-act-requires-clause-feasible g c =
    let stands : slice_get c.args.self.now.threads c.args.next.thread ≡ Some c.unwrap-standing.result.now = sym (rw c.unwrap-standing.ensures at c.standing.ensures.value) in
    (can_step c.args.self.now c.args.next c.unwrap-standing.result.now c.in-Open.frame c.task-task.result.now stands c.in-Open.is c.task-task.ensures.sound c.task-task.ensures.value c.requires).feasible

pub go_on-requires-clause-few : goal.go_on-requires-clause-few
go_on-requires-clause-few g c =
    let stands : slice_get c.args.self.now.threads c.args.next.thread ≡ Some c.unwrap-standing.result.now = sym (rw c.unwrap-standing.ensures at c.standing.ensures.value) in
    let within = slice_get_within c.args.self.now.threads c.args.next.thread c.unwrap-standing.result.now stands in
    omega (arith, within, c.standing.ensures.few)

pub returns-in-Open-clause-step : goal.returns-in-Open-clause-step
returns-in-Open-clause-step g c =
    let stands : slice_get c.args.self.now.threads c.args.next.thread ≡ Some c.unwrap-standing.result.now = sym (rw c.unwrap-standing.ensures at c.standing.ensures.value) in
    steps_so c.args.self.now c.go_on.new.self c.args.next c.unwrap-standing.result.now c.in-Open.frame c.task-task.result.now.instr c.act-act.result.change c.act-act.result.shared c.go_on.result.event
    stands c.in-Open.is
    (can_step c.args.self.now c.args.next c.unwrap-standing.result.now c.in-Open.frame c.task-task.result.now stands c.in-Open.is c.task-task.ensures.sound c.task-task.ensures.value c.requires)
    c.act-act.ensures.carries c.go_on.ensures.after c.go_on.ensures.event
