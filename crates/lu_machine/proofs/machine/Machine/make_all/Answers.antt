use Rattle.std.proofs.Common.{◌≡◌, length, ap, arith}
use Rattle.lu_test.specs.Matrix.{Matrix, calls_of}
use Rattle.lu_machine.specs.States.{State, call_count}
use Rattle.lu_machine.proofs.Starting.{after}
use Rattle.lu_machine.proofs.machine.Machine.make_all.Goals as goal

pub make-requires-clause-stands : goal.make-requires-clause-stands
make-requires-clause-stands c = (after c.args.self.now.component (calls_of c.args.self.now.matrix 0) c.loop-k.k c.loop-k.self c.loop-k.invariant).progress_is

pub make-requires-clause-left : goal.make-requires-clause-left
make-requires-clause-left c =
    let calls = calls_of c.args.self.now.matrix 0 in
    let is = after c.args.self.now.component calls c.loop-k.k c.loop-k.self c.loop-k.invariant in
    let same : call_count c.loop-k.self 0 ≡ length calls = ap (λ (m : Matrix). length (calls_of m 0)) is.matrix in
    let seen : length (calls_of c.self.inside.matrix.now 0) ≡ length calls = ap (λ (s : State). length (calls_of s.matrix 0)) c.self.view_is in
    omega (arith, c.loop-k-test.true, c.calls-k-end.ensures, same, seen)
