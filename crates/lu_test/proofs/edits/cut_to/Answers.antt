use Rattle.std.proofs.Common.{◌∙◌, length, sym, subst, ap, arith}
use Rattle.std.proofs.lemmas.List.{length-take-le}
use Rattle.lu_test.specs.Matrix.{IsMatrix}
use Rattle.lu_test.proofs.Cutting.{lengths_all, cut_limits, cut_made, cut_whole, enough_calls, grows}
use Rattle.lu_test.proofs.edits.cut_to.Goals as goal

pub bounds-lengths-t : goal.bounds-lengths-t
bounds-lengths-t c = omega (arith, lengths_all c.args.matrix.now.threads c.args.lengths.now c.requires, ap length c.as_slice-calls-items.ensures.calls)

pub slice_bounds-copy_calls-end : goal.slice_bounds-copy_calls-end
slice_bounds-copy_calls-end c =
    sym (length-take-le c.from.result c.as_slice-in-loop-t.result.now (enough_calls c.args.matrix.now.threads _ c.args.lengths.now c.loop-t.t _ _ c.from.result _ c.requires (omega (arith, ap length c.as_slice-calls-items.ensures.calls)) c.as_slice-calls-items.ensures.calls c.from.ensures c.calls-item.is c.as_slice-in-loop-t.ensures))

pub loop-t-preserved : goal.loop-t-preserved
loop-t-preserved c =
    rw (c.in_ok-push.ensures.items, c.loop-t.invariant)
    (grows c.args.matrix.now.threads _ c.args.lengths.now c.loop-t.t _ _ _ c.from.result _ c.requires (omega (arith, ap length c.as_slice-calls-items.ensures.calls)) c.as_slice-calls-items.ensures.calls c.from.ensures c.calls-item.is c.as_slice-in-loop-t.ensures c.in_ok-copy_calls.ensures)

pub of_calls-requires : goal.of_calls-requires
of_calls-requires c =
    let m = c.args.matrix.now in
    let whole = cut_whole m.threads c.args.lengths.now c.requires c.loop-t.t (omega (arith, ap length c.as_slice-calls-items.ensures.calls)) in
    let setup = c.in_ok-setup.ensures ∙ (c.as_slice.ensures ∙ c.setup.ensures.calls) in
    subst IsMatrix (sym (cut_made m c.args.lengths.now _ _ setup (c.loop-t.invariant ∙ whole))) (cut_limits m c.args.lengths.now c.requires c.as_slice-calls-items.ensures.sound)

pub returns : goal.returns
returns c =
    let m = c.args.matrix.now in
    let whole = cut_whole m.threads c.args.lengths.now c.requires c.loop-t.t (omega (arith, ap length c.as_slice-calls-items.ensures.calls)) in
    let setup = c.in_ok-setup.ensures ∙ (c.as_slice.ensures ∙ c.setup.ensures.calls) in
    c.of_calls.ensures ∙ cut_made m c.args.lengths.now _ _ setup (c.loop-t.invariant ∙ whole)
