use Rattle.std.proofs.Common.{◌≡◌, map, take}
use Rattle.lu_machine.specs.Tasks.{task_row}
use Rattle.lu_machine.proofs.program.rows.Given as goal

abbrev pub invariant-loop-op : goal.invariant-loop-op
invariant-loop-op l = l.rows.items ≡ map (λ o. task_row o.code) (take l.op-index l.op-items)
