use Rattle.std.proofs.lemmas.Result.{IfOk-weaker}
use Rattle.lu_certify.specs.Looking.{IsFound, IsFoundAt}
use Rattle.lu_certify.proofs.Looks.{found_at}
use Rattle.lu_certify.proofs.Rounds.{cut_runs}
use Rattle.lu_certify.proofs.looking.find_at.Goals as goal

pub invariant_of-cut-clause-can_run : goal.invariant_of-cut-clause-can_run
invariant_of-cut-clause-can_run g c = cut_runs c.args.test.component.now c.args.test.matrix.now c.args.task.number c.in_ok-matrix.matrix c.args.test.can_run c.in_ok-matrix.ensures

pub returns : goal.returns
returns g c =
    IfOk-weaker c.find_part.result (IsFound c.args.test.component.now c.args.test.limits c.in_ok-matrix.matrix) (IsFoundAt c.args.test.component.now c.args.test.matrix.now c.args.test.limits c.args.task.number)
    (λ found is. found_at c.args.test.component.now c.args.test.matrix.now c.args.test.limits c.args.task.number c.in_ok-matrix.matrix found c.in_ok-matrix.ensures is) c.find_part.ensures
