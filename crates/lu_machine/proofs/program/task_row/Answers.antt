use Rattle.std.proofs.Common.{arith, ◌≡◌, ◌-◌, ◌++◌, map, take, replicate, refl}
use Rattle.lu_machine.specs.Tasks.{no_task, task_of}
use Rattle.lu_machine.proofs.RowLists.{row_more}
use Rattle.lu_machine.proofs.program.task_row.Goals as goal

pub loop-place-preserved : goal.loop-place-preserved
loop-place-preserved c =
    let so_far : c.loop-place.row ≡ map task_of (take c.loop-place.place c.args.instrs.now) ++ replicate (65 - c.loop-place.place) no_task = c.loop-place.invariant in
    rw (c.task_of.ensures, so_far)
    (row_more task_of 65 no_task c.args.instrs.now c.loop-place.place _ _ c.loop-place-test.true (omega (arith, c.requires, c.loop-place-test.true)) refl)
