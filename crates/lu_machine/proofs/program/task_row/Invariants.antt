use Rattle.std.proofs.Common.{◌≡◌, ◌-◌, ◌++◌, map, replicate, take}
use Rattle.lu_machine.specs.Tasks.{no_task, task_of}
use Rattle.lu_machine.proofs.program.task_row.Given as goal

abbrev pub invariant-loop-place : goal.invariant-loop-place
invariant-loop-place l = l.row ≡ map task_of (take l.place l.instrs) ++ replicate (65 - l.place) no_task
