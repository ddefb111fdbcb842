use Rattle.std.proofs.Common.{◌≡◌, ◌++◌, map, take}
use Rattle.lu_lint.specs.Warnings.{found_at, without_words}
use Rattle.lu_lint.proofs.warning.with_found.Given as goal

abbrev pub invariant-loop-found : goal.invariant-loop-found
invariant-loop-found over l = map without_words l.warnings.items ≡ map without_words l.initial.warnings.items ++ map (found_at l.at) (take l.found-index l.hints)
