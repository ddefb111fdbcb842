use Rattle.std.proofs.Common.{refl, arith}
use Rattle.lu_cli.proofs.Known.{all_came, consumes_then, more_were, passes}
use Rattle.lu_cli.proofs.input.read_input.Goals as goal

pub returns-then-taken-eq0-clause-all : goal.returns-then-taken-eq0-clause-all
returns-then-taken-eq0-clause-all g c =
    let read = c.in-Ok.ensures.bytes in
    all_came _ _ _ c.loop.bytes.items _ c.loop.invariant.taken read.0 (rw c.if-taken-eq0.true refl) (read.1 c.if-taken-eq0.true (omega arith))

pub returns-then-taken-len-clause-long : goal.returns-then-taken-len-clause-long
returns-then-taken-len-clause-long g c = λ _.
    more_were _ _ _ 1048576 (consumes_then _ _ _ c.loop.bytes.items _ c.loop.invariant.taken c.in-Ok.ensures.bytes.0)
    (passes c.loop.bytes.items _ c.in-Ok.taken 1048576 c.in-Ok.ensures.bound.0 (omega (arith, c.loop.bytes.ok.0)))

pub returns-clause-long : goal.returns-clause-long
returns-clause-long g c = absurd (let a = c.loop-test.false in let b = c.loop.invariant.turns in let d = c.loop.invariant.few in omega arith)
