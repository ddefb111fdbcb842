use Rattle.std.proofs.Common.{arith, ◌≡◌, ◌-◌, ◌++◌, map, take, replicate}
use Rattle.lu_machine.specs.Steps.{opened}
use Rattle.lu_machine.specs.Tasks.{no_frame}
use Rattle.lu_machine.proofs.RowLists.{row_more}
use Rattle.lu_machine.proofs.program.agenda_of.Goals as goal

pub loop-k-preserved : goal.loop-k-preserved
loop-k-preserved c =
    let so_far : c.loop-k.frames ≡ map opened (take c.loop-k.k c.args.calls.now) ++ replicate (8 - c.loop-k.k) no_frame = c.loop-k.invariant in
    rw (c.opened.ensures, so_far)
    (row_more opened 8 no_frame c.args.calls.now c.loop-k.k c.index-calls-k.result c.index-calls-k.result c.loop-k-test.true (omega (arith, c.requires.few, c.loop-k-test.true)) c.index-calls-k.is)
