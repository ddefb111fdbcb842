use Rattle.std.proofs.Common.{arith}
use Rattle.lu_run.proofs.judging.first_not_stuck.Goals as goal

pub returns : goal.returns
returns c = λ t lt. c.loop-thread.invariant t (let le = c.loop-thread-test.false in omega (arith, le, lt))
