use Rattle.std.specs.Prelude.{All, take}
use Rattle.lu_text.specs.Lines.{texts}
use Rattle.lu_run.specs.Bundled.{AreRead, IsRunOf}
use Rattle.lu_run.proofs.bundled.read_runs.Given as goal

abbrev pub invariant-loop-number : goal.invariant-loop-number
invariant-loop-number l = record {
  read : AreRead l.component (take l.number (texts l.parts)) l.runs.items;
  runs : All (IsRunOf l.component) l.runs.items;
}
