use Rattle.std.proofs.Common.{ap, arith, ◌∷◌, [], length, length-append}
use Rattle.lu_graph.proofs.Sectioned.{told_all, told_push}
use Rattle.lu_graph.proofs.guards.Guards.new.Goals as goal

pub loop-array-preserved : goal.loop-array-preserved
loop-array-preserved c =
    let arrays = c.loop-array.arrays.items in
    let guarded = c.in_ok-is_guarded.field-0 in
    record {
      many = rw c.in_ok-push.ensures.items (omega (arith, c.loop-array.invariant.many, length-append arrays (guarded ∷ [])));
      told = rw c.in_ok-push.ensures.items (told_push c.args.component.now arrays c.loop-array.array guarded c.loop-array.invariant.many c.in_ok-is_guarded.ensures c.loop-array.invariant.told);
    }

pub returns : goal.returns
returns c =
    let many = ap length c.arrays.ensures.arrays in
    told_all c.args.component.now c.loop-array.arrays.items (omega (arith, c.loop-array-test.false, c.loop-array.invariant.many, many)) c.loop-array.invariant.told
