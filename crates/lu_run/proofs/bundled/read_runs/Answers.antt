use Rattle.std.proofs.Common.{◌+◌, List, take, sym, subst, arith}
use Rattle.std.specs.Prelude.{All}
use Rattle.std.proofs.lemmas.List.Elements.{All-push}
use Rattle.lu_text.specs.Lines.{texts}
use Rattle.lu_run.specs.declared.run.Run.{Run}
use Rattle.lu_run.specs.Bundled.{AreRead, IsRunOf}
use Rattle.lu_run.proofs.ReadRuns.{read_at, refused_at}
use Rattle.lu_run.proofs.bundled.read_runs.Goals as goal

pub returns-in-Err-push-clause-refused : goal.returns-in-Err-push-clause-refused
returns-in-Err-push-clause-refused c = refused_at c.args.component.now c.args.parts.now c.loop-number.runs.items c.loop-number.number c.loop-number.invariant.read (omega arith)

pub loop-number-preserved : goal.loop-number-preserved
loop-number-preserved c =
    let i = c.loop-number.number in
    let component = c.args.component.now in
    record {
      read = subst (λ (runs : List Run). AreRead component (take (i + 1) (texts c.args.parts.now)) runs) (sym c.in-Ok-push.ensures.items)
          (read_at component c.args.parts.now c.loop-number.runs.items i _ c.in-Ok.run' c.loop-number.invariant.read (omega arith) c.in-Ok.ensures.exact);
      runs = subst (λ (runs : List Run). All (IsRunOf component) runs) (sym c.in-Ok-push.ensures.items)
          (All-push (IsRunOf component) c.loop-number.runs.items c.in-Ok.run' c.loop-number.invariant.runs (c.in-Ok.ensures.calls, c.in-Ok.ensures.run));
    }
