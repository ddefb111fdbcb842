use Rattle.std.proofs.Common.{arith, ◌<◌, length, sym, ◌∙◌, ap}
use Rattle.lu_machine.specs.declared.thread.Thread.{Thread}
use Rattle.lu_conform.proofs.Among.{some_at}
use Rattle.lu_conform.proofs.Unpacking.{all_more, all_there, one_more}
use Rattle.lu_conform.proofs.packing.add_threads.Goals.{in-Some+in_ok-add_thread, in_default}
use Rattle.lu_conform.proofs.packing.add_threads.Goals as goal

pub loop-thread-preserved : goal.loop-thread-preserved
loop-thread-preserved c =
    let threads = c.args.machine.now.threads in
    let n = c.loop-thread.thread in
    let within : n < length threads = omega (arith, c.loop-thread-test.true, c.threads-thread-end.ensures.value) in
    elim c.match-standing.branch [
      | in-Some+in_ok-add_thread w ↦
          (let t : Thread = w.in-Some.standing.now in
          let at = sym w.in-Some.ensures.value in
          record {
            added = one_more c.args.numbers.now.items c.loop-thread.numbers.items c.match-standing.numbers.items threads n t at c.loop-thread.invariant.added
                (ap (λ x. x.items) w.numbers-is ∙ w.in_ok-add_thread.ensures.added);
            back = all_more threads n t at c.loop-thread.invariant.back w.in_ok-add_thread.ensures.back;
          })
      | in_default w ↦ absurd (let one = some_at threads n within in let wrong = w.in_default.ensures.value ∙ one.1 in cc)
    ]

pub returns-clause-back : goal.returns-clause-back
returns-clause-back c =
    all_there c.args.machine.now.threads c.loop-thread.thread (omega (arith, c.loop-thread-test.false, c.threads-thread-end.ensures.value)) c.loop-thread.invariant.back
