use Rattle.std.proofs.Common.{sym, subst}
use Rattle.std.proofs.lemmas.Result.{err_from_is_err_and}
use Rattle.lu_run.specs.Offending.{Learns}
use Rattle.lu_run.proofs.Found.{attempt_later, opens_none, opens_on}
use Rattle.lu_run.proofs.Learning.{fault_earlier, learns_none, learns_on}
use Rattle.lu_run.proofs.finding.open_each_effect.Goals as goal
use Rattle.lu_run.proofs.finding.open_each_effect.Goals.{then-thread-lt8+in_ok-open_effect, else-thread-lt8}

pub loop-place-init : goal.loop-place-init
loop-place-init c = record {
  learns = learns_none c.args.runs.component.now c.args.runs.calls.now c.args.table.now c.requires.table;
  opens = opens_none c.args.runs c.args.from.now c.args.table.now c.args.open.now;
}

pub open_effect-requires-clause-from : goal.open_effect-requires-clause-from
open_effect-requires-clause-from c = attempt_later c.args.runs.calls.now c.args.table.now c.loop-place.table c.args.from.now c.loop-place.invariant.learns.grows c.requires.from

pub returns-in_err-open_effect-clause-offends : goal.returns-in_err-open_effect-clause-offends
returns-in_err-open_effect-clause-offends c =
    let p = err_from_is_err_and c.from_residual.result c.from_residual.ensures.1 in
    rw (p.1, p.2) (fault_earlier c.args.runs.component.now c.args.runs.calls.now c.args.runs.bound c.args.table.now c.loop-place.table c.in_err-open_effect.field-0.0 c.loop-place.invariant.learns c.in_err-open_effect.ensures.offends)

pub loop-place-preserved : goal.loop-place-preserved
loop-place-preserved c =
    let runs = c.args.runs in
    let old = c.args.table.now in
    let mid = c.loop-place.table in
    let inv = c.loop-place.invariant in
    elim c.if-thread-lt8.branch [
      | then-thread-lt8+in_ok-open_effect w ↦ record {
        learns = subst (Learns runs.component.now runs.calls.now old) (sym w.table-is) (learns_on runs.component.now runs.calls.now old mid _ inv.learns w.in_ok-open_effect.ensures.learns);
        opens = rw (w.table-is, w.open-is) (opens_on runs c.args.from.now old mid w.open_effect.new.table c.args.open.now c.loop-place.open w.open_effect.new.open inv.learns.grows inv.opens w.in_ok-open_effect.ensures.opens);
      }
      | else-thread-lt8 w ↦ record {
        learns = subst (Learns runs.component.now runs.calls.now old) (sym w.table-is) inv.learns;
        opens = rw (w.table-is, w.open-is) inv.opens;
      }
    ]
