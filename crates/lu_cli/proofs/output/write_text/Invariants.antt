use Rattle.std.proofs.Common.{◌≡◌, length, ℕ, ◌++◌, List}
use Rattle.std.specs.Io.KnownBytes.{Appends}
use Rattle.lu_cli.proofs.output.write_text.Given as goal

abbrev pub invariant-loop-rest : goal.invariant-loop-rest
invariant-loop-rest g l = record {
  unfailed : l.output.failures ≡ l.fn.output.failures;
  sent : (front : List ℕ) × (l.text ≡ front ++ l.rest) × Appends (g.W.Write.contents l.fn.output.inner) (g.W.Write.contents l.output.inner) front;
}

abbrev pub decreases-loop-rest : goal.decreases-loop-rest
decreases-loop-rest g l = length l.rest
