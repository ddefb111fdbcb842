use Rattle.std.proofs.Common.{◌≡◌, ◌≤◌, length}
use Rattle.std.specs.Io.KnownBytes.{Consumes}
use Rattle.lu_cli.proofs.input.read_input.Given as goal

abbrev pub invariant-loop : goal.invariant-loop
invariant-loop g l = record {
  unfailed : l.input.failures ≡ l.fn.input.failures;
  turns : l.counter ≤ length l.bytes.items;
  few : length l.bytes.items ≤ 1048576;
  taken : Consumes (g.R.Read.remaining l.fn.input.inner) (g.R.Read.remaining l.input.inner) l.bytes.items;
}
