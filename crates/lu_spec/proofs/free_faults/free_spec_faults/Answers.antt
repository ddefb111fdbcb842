use Rattle.std.proofs.Common.{◌≤◌, rules, length}
use Rattle.lu_spec.proofs.FreeFaultLines.{all_told, line_judged, none_told}
use Rattle.lu_spec.proofs.free_faults.free_spec_faults.Goals as goal

pub loop-index-init : goal.loop-index-init
loop-index-init c =
    let draft = c.in_ok-draft.draft in
    let none = none_told c.args.matrix.now c.args.text.now draft c.new-faults.result.items c.in_ok-draft.ensures.ends c.in_ok-draft.ensures.asked c.in_ok-draft.ensures.begun c.new-faults.ensures.items in
    rw (c.deref-line-items.ensures.value, c.in_ok-lines.ensures) none

pub loop-index-preserved : goal.loop-index-preserved
loop-index-preserved c =
    let draft = c.loop-index.draft in
    let judged = rw c.deref.ensures.value at c.in_ok-next.ensures in
    line_judged c.args.matrix.now c.args.text.now draft c.loop-index.faults.items c.deref-line-items.result.now c.loop-index.index c.loop-index.invariant _ _ (c.in_ok-next.next, c.in_ok-next.fault) c.in_ok-faults.faults.items (search rules) c.in_ok-words.ensures judged c.in_ok-faults.ensures

pub returns : goal.returns
returns c =
    let draft = c.loop-index.draft in
    let past : length c.deref-line-items.result.now ≤ c.loop-index.index = search rules in
    all_told c.args.matrix.now c.args.text.now draft c.loop-index.faults.items c.deref-line-items.result.now c.loop-index.index c.loop-index.invariant past
