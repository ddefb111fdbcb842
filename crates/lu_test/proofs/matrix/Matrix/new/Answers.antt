use Rattle.std.proofs.Common.{rules}
use Rattle.lu_test.specs.Matrix.{IsOf, matrix_with}
use Rattle.lu_test.proofs.SomeComponent.{of_this}
use Rattle.lu_test.proofs.matrix.Matrix.new.Goals as goal

pub of_calls-requires : goal.of_calls-requires
of_calls-requires c =
    let of : IsOf (matrix_with c.args.setup c.args.threads.items) c.args.component.now = search rules in
    record {
      some = c.requires.some;
      limits = c.requires.limits;
      before = c.requires.before;
      of_some = of_this c.args.component.now _ c.are_of.ensures.sound of;
    }
