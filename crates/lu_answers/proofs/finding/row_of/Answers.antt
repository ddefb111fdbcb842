use Rattle.std.proofs.Common.{arith, ◌≡◌, ◌<◌, ◌+◌, slice_set, sym, ◌∙◌, ap, subst}
use Rattle.std.proofs.lemmas.Result.{err_from_is_err_and}
use Rattle.lu_test.specs.Matrix.{IsMatrix, thread_count}
use Rattle.lu_answers.proofs.Filled.{IsRowBefore, offence_was, row_all, row_more}
use Rattle.lu_answers.proofs.finding.row_of.Goals as goal

pub returns-in_err-step-clause-stop : goal.returns-in_err-step-clause-stop
returns-in_err-step-clause-stop c =
    let m = c.args.machine.now in
    let p = err_from_is_err_and c.from_residual.result c.from_residual.ensures.1 in
    let stop = rw (c.loop-thread.invariant.component, c.loop-thread.invariant.matrix) at c.in_err-step.ensures.stop in
    rw (p.1, p.2)
    (offence_was m.component c.args.rounds m.matrix c.args.bound c.args.stages.now.keys c.loop-thread.stages.keys c.args.index c.requires.there c.loop-thread.invariant.row.grows c.in_err-step.field-0.0 stop)

pub loop-thread-preserved : goal.loop-thread-preserved
loop-thread-preserved c =
    let m = c.args.machine.now in
    let row = c.loop-thread.invariant.row in
    let made = c.in_ok-step.ensures in
    let new = c.step_of.new.stages.keys in
    let of : IsMatrix m.matrix = subst IsMatrix c.matrix.ensures c.threads-thread-end.ensures.sound in
    let many : c.threads-thread-end.result ≡ thread_count m.matrix = c.threads-thread-end.ensures.threads ∙ ap thread_count c.matrix.ensures in
    let eight = of.limits.few in
    let less = c.loop-thread-test.true in
    let few : c.loop-thread.thread < 8 = omega (arith, many, eight, less) in
    let stored = rw (c.loop-thread.invariant.component, c.loop-thread.invariant.matrix) at made.stored in
    let adds = rw (c.loop-thread.invariant.component, c.loop-thread.invariant.matrix) at made.adds in
    let step = rw (c.loop-thread.invariant.component, c.loop-thread.invariant.matrix) at made.step in
    let grown : IsRowBefore m.component c.args.rounds m.matrix c.args.bound c.args.stages.now.keys c.args.index new (slice_set c.loop-thread.row c.loop-thread.thread c.in_ok-step.step) (c.loop-thread.thread + 1) =
    row_more m.component c.args.rounds m.matrix c.args.bound c.args.stages.now.keys c.loop-thread.stages.keys new c.args.index c.loop-thread.row c.loop-thread.thread c.in_ok-step.step c.requires.there few row made.grows stored adds step in
    record {
      component = made.component ∙ c.loop-thread.invariant.component;
      matrix = made.matrix ∙ c.loop-thread.invariant.matrix;
      row = subst (λ n. IsRowBefore m.component c.args.rounds m.matrix c.args.bound c.args.stages.now.keys c.args.index new (slice_set c.loop-thread.row n c.in_ok-step.step) (c.loop-thread.thread + 1)) (sym c.from.ensures) grown;
    }

pub returns-clause-row : goal.returns-clause-row
returns-clause-row c =
    let m = c.args.machine.now in
    let many : c.threads-thread-end.result ≡ thread_count m.matrix = c.threads-thread-end.ensures.threads ∙ ap thread_count c.matrix.ensures in
    row_all m.component c.args.rounds m.matrix c.args.bound c.args.stages.now.keys c.args.index c.loop-thread.stages.keys c.loop-thread.row c.loop-thread.thread
    (let more = c.loop-thread-test.false in omega (arith, many, more)) c.loop-thread.invariant.row
