use Rattle.std.proofs.Common.{◌≡◌, ◌∙◌, ◌≤◌, List, arith, ap, sym, subst, length}
use Rattle.std.specs.Prelude.{All, sum_by}
use Rattle.lu_test.specs.declared.matrix.Call.{Call}
use Rattle.lu_test.specs.Matrix.{AreThreads, Matrix, matrix_with}
use Rattle.lu_client.specs.Rounds.{IsUnrolledFrom}
use Rattle.lu_answers.specs.Ways.{way_of}
use Rattle.lu_spec.proofs.HistoryLines.{some_weaker}
use Rattle.lu_forever.specs.Unrolled.{rows_from}
use Rattle.lu_forever.proofs.UnrolledRows.{is_unrolled, rows_length, unrolled_limits}
use Rattle.lu_forever.proofs.unrolling.unroll.Goals as goal

pub fit-requires : goal.fit-requires
fit-requires c =
    let rows = c.deref.ensures.value ∙ c.in_ok-rows.ensures in
    let same = ap length rows in
    let long = rows_length c.args.counts.now c.as_slice.result.now 0 in
    omega (arith, same, long, ap length c.as_slice.ensures.calls, c.as_slice.ensures.sound.limits.few)

pub new-requires-clause-limits : goal.new-requires-clause-limits
new-requires-clause-limits c =
    let matrix = c.args.matrix.now in
    let counts = c.args.counts.now in
    let rows : c.in_ok-rows.rows.items ≡ rows_from counts matrix.threads 0 = c.in_ok-rows.ensures ∙ ap (λ (x : List (List Call)). rows_from counts x 0) c.as_slice.ensures.calls in
    let lent = c.deref.ensures.value ∙ rows in
    let short = subst (λ (x : List (List Call)). All (λ (row : List Call). length row ≤ 8) x) lent (c.fit.ensures.short c.if-not-fit.false) in
    let few = subst (λ (x : List (List Call)). sum_by length x ≤ 16) lent (c.fit.ensures.few c.if-not-fit.false) in
    subst AreThreads (sym rows) (unrolled_limits matrix counts c.as_slice.ensures.sound short few)

pub returns-clause-unrolled : goal.returns-clause-unrolled
returns-clause-unrolled c =
    let matrix = c.args.matrix.now in
    let counts = c.args.counts.now in
    let rows : c.in_ok-rows.rows.items ≡ rows_from counts matrix.threads 0 = c.in_ok-rows.ensures ∙ ap (λ (x : List (List Call)). rows_from counts x 0) c.as_slice.ensures.calls in
    let setup = c.in_ok-setup.ensures ∙ (c.as_slice-2.ensures ∙ c.setup.ensures.calls) in
    let made : (big : Matrix) → big ≡ matrix_with c.in_ok-setup.setup c.in_ok-rows.rows.items → IsUnrolledFrom (way_of c.args.rounds) matrix big =
    λ big is. subst (λ (x : Matrix). IsUnrolledFrom (way_of c.args.rounds) matrix x) (sym (is ∙ (ap (λ (x : List (List Call)). matrix_with c.in_ok-setup.setup x) rows ∙ ap (λ (x : List Call). matrix_with x (rows_from counts matrix.threads 0)) setup))) (is_unrolled c.args.rounds matrix counts c.requires.within) in
    some_weaker c.new.result (λ big. big ≡ matrix_with c.in_ok-setup.setup c.in_ok-rows.rows.items) (λ big. IsUnrolledFrom (way_of c.args.rounds) matrix big) made c.new.ensures.calls
