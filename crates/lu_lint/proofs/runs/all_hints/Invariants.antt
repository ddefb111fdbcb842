use Rattle.std.proofs.Common.{◌≡◌, ◌++◌, map}
use Rattle.lu_lint.specs.declared.remark.RunHint.TheVariants.{Serial}
use Rattle.lu_lint.proofs.runs.all_hints.Given as goal

abbrev pub invariant-loop-hint : goal.invariant-loop-hint
invariant-loop-hint l = l.setup.items ≡ l.fn.setup.items ++ map Serial l.yielded
