use Rattle.std.proofs.Common.{◌≡◌, ◌++◌, map}
use Rattle.lu_lint.specs.Runs.{said_of_hint}
use Rattle.lu_lint.specs.Said.{said_of}
use Rattle.lu_lint.proofs.runs.with_hints.Given as goal

abbrev pub invariant-loop-hint : goal.invariant-loop-hint
invariant-loop-hint over l = said_of l.all.items ≡ said_of l.fn.all.items ++ map (said_of_hint l.fn.above l.setup.items l.threads.items) l.yielded
