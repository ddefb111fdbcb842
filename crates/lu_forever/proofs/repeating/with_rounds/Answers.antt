use Rattle.std.proofs.Common.{◌≡◌, ◌∙◌, ◌≤◌, List, arith, ap, sym, subst, length, map}
use Rattle.std.specs.Prelude.{All, sum_by}
use Rattle.std.proofs.lemmas.List.{length-map}
use Rattle.lu_test.specs.declared.matrix.Call.{Call}
use Rattle.lu_test.specs.Matrix.{AreThreads}
use Rattle.lu_client.specs.Rounds.{repeated}
use Rattle.lu_forever.proofs.UnrolledRows.{times_limits}
use Rattle.lu_forever.proofs.repeating.with_rounds.Goals as goal

pub fit-requires : goal.fit-requires
fit-requires c =
    let rows = c.deref.ensures.value ∙ c.in_ok-rows.ensures in
    let same = ap length rows in
    let long = length-map c.as_slice-2.result.now (repeated c.args.rounds) in
    omega (arith, same, long, ap length c.as_slice-2.ensures.calls, c.as_slice-2.ensures.sound.limits.few)

pub new-requires-clause-limits : goal.new-requires-clause-limits
new-requires-clause-limits c =
    let matrix = c.args.matrix.now in
    let n = c.args.rounds in
    let rows : c.in_ok-rows.rows.items ≡ map (repeated n) matrix.threads = c.in_ok-rows.ensures ∙ ap (λ (x : List (List Call)). map (repeated n) x) c.as_slice-2.ensures.calls in
    let lent = c.deref.ensures.value ∙ rows in
    let short = subst (λ (x : List (List Call)). All (λ (row : List Call). length row ≤ 8) x) lent (c.fit.ensures.short c.if-not-fit.false) in
    let few = subst (λ (x : List (List Call)). sum_by length x ≤ 16) lent (c.fit.ensures.few c.if-not-fit.false) in
    subst AreThreads (sym rows) (times_limits matrix n c.as_slice-2.ensures.sound short few)
