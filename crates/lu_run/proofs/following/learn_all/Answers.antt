use Rattle.std.proofs.Common.{arith, ◌∙◌}
use Rattle.std.proofs.lemmas.Option.{slice_get-get_or, slice_get_within}
use Rattle.std.proofs.lemmas.Result.{err_from_is_err_and}
use Rattle.lu_run.proofs.Known.{all_next, has_later, holds_at, known_later, neither}
use Rattle.lu_run.proofs.Learning.{fault_earlier, learns_on}
use Rattle.lu_run.proofs.following.learn_all.Goals as goal

pub learn_at-requires-clause-state : goal.learn_at-requires-clause-state
learn_at-requires-clause-state c =
    let i = c.loop-one.one-index in
    let list = c.args.configurations.now in
    let at = slice_get-get_or list i _ c.loop-one-test.true in
    has_later c.args.table.now c.loop-one.table c.loop-one.invariant.learns.grows _ (c.requires.states _ (holds_at list i _ at))

pub returns-in_err-new-clause-offends : goal.returns-in_err-new-clause-offends
returns-in_err-new-clause-offends c =
    let p = err_from_is_err_and c.from_residual.result c.from_residual.ensures.1 in
    rw (p.1, p.2) (fault_earlier c.args.runs.component.now c.args.runs.calls.now c.args.runs.bound c.args.table.now c.loop-one.table c.in_err-new.field-0.0 c.loop-one.invariant.learns c.in_err-new.ensures.offends)

pub loop-one-preserved : goal.loop-one-preserved
loop-one-preserved c =
    let learns = c.in_ok-new.ensures.learns in
    let inv = c.loop-one.invariant in
    let i = c.loop-one.one-index in
    let list = c.args.configurations.now in
    let new = c.learn_at.new.table in
    let pending = c.args.pending.now in
    record {
      learns = learns_on c.args.runs.component.now c.args.runs.calls.now c.args.table.now c.loop-one.table new inv.learns learns;
      known = all_next new pending list i (λ j one lt at. known_later c.loop-one.table new learns.grows pending one (inv.known j one lt at)) _ (slice_get-get_or list i _ c.loop-one-test.true) c.in_ok-new.ensures.known;
      same = λ e.
          (let both = neither c.loop-one.new c.in_ok-new.field-0 e in
          c.in_ok-new.ensures.same both.1 ∙ inv.same both.0);
    }

pub returns-clause-known : goal.returns-clause-known
returns-clause-known c = λ i one at.
    c.loop-one.invariant.known i one (let within = slice_get_within c.args.configurations.now i one at in let le = c.loop-one-test.false in omega (arith, within, le)) at
