use Rattle.std.proofs.Common.{◌≡◌, ◌++◌, length}
use Rattle.lu_text.specs.Lines.{texts}
use Rattle.lu_source_text.specs.Grammar as spec
use Rattle.lu_source_text.proofs.words.source_words.Given as goal

abbrev pub invariant-loop-rest : goal.invariant-loop-rest
invariant-loop-rest l = texts l.words.items ++ spec.source_words l.rest ≡ spec.source_words l.fn.line

abbrev pub decreases-loop-rest : goal.decreases-loop-rest
decreases-loop-rest l = length l.rest
