use Rattle.std.proofs.Common.{◌≡◌, false, sym, arith}
use borrow.Author.Count.{below_more}
use Rattle.lu_diagnosis.specs.SerialRuns.{is_open}
use Rattle.lu_diagnosis.proofs.SerialRun.{none_open, open_true}
use Rattle.lu_diagnosis.proofs.serial_runs.open_thread.Goals as goal

pub loop-t-preserved : goal.loop-t-preserved
loop-t-preserved c =
    below_more (λ u. is_open c.args.machine.now u ≡ false) c.loop-t.t c.loop-t.invariant (sym c.if-is_open.ensures)

pub returns-then-is_open : goal.returns-then-is_open
returns-then-is_open c = open_true c.args.machine.now c.loop-t.t (sym c.if-is_open.ensures)

pub returns : goal.returns
returns c = none_open c.args.machine.now c.loop-t.t (omega arith) c.loop-t.invariant
