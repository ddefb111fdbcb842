use Rattle.std.proofs.Common.{◌++◌, ◌∙◌, take}
use Rattle.lu_cli.proofs.Known.{appends_then, cut_again, took_some}
use Rattle.lu_cli.proofs.output.write_text.Goals as goal

pub loop-rest-preserved : goal.loop-rest-preserved
loop-rest-preserved g c =
    let front = c.loop-rest.invariant.sent.0 in
    let rest = c.loop-rest.rest.now in
    let n = c.in-Ok.taken in
    record {
      unfailed = c.in-Ok.ensures.counted ∙ (took_some n _ _ c.if-taken-gt0.true ∙ c.loop-rest.invariant.unfailed);
      sent = (front ++ take n rest, c.loop-rest.invariant.sent.1 ∙ cut_again front rest n, appends_then _ _ _ front (take n rest) c.loop-rest.invariant.sent.2 c.in-Ok.ensures.bytes);
    }
