use Rattle.lu_diagnosis.proofs.SerialRun.{NoneBelow}
use Rattle.lu_diagnosis.proofs.serial_runs.open_thread.Given as goal

abbrev pub invariant-loop-t : goal.invariant-loop-t
invariant-loop-t l = NoneBelow l.machine l.t
