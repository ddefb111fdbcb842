use Rattle.std.proofs.Common.{◌≡◌, ◌-◌, length, map}
use Rattle.lu_source_text.specs.Origins.{entry_of, filled}
use Rattle.lu_source_text.proofs.origins.fill.Given as goal

abbrev pub invariant-loop-alloc : goal.invariant-loop-alloc
invariant-loop-alloc l = filled l.line (l.len, l.locals) (map entry_of l.row.items) ≡ filled l.line (l.len, l.locals) (map entry_of l.fn.row.items)

abbrev pub decreases-loop-alloc : goal.decreases-loop-alloc
decreases-loop-alloc l = l.len - length l.row.items
