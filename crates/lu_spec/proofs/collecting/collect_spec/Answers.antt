use Rattle.std.proofs.Common.{rules, ◌+◌, Bool, ◌≤◌, length, sym, subst}
use Rattle.std.proofs.lemmas.Result.{err_from_is_err_and}
use Rattle.lu_text.specs.Lines.{lines_of}
use Rattle.lu_spec.specs.Specs.{AreOf}
use Rattle.lu_spec.specs.Collecting.{IsCollectedAs}
use Rattle.lu_spec.proofs.Collected.{AreCollectedTo, all_collected, line_collected, line_refused, none_collected, so_far_deterministic}
use Rattle.lu_spec.proofs.collecting.collect_spec.Goals as goal

pub loop-index-init : goal.loop-index-init
loop-index-init c =
    let draft = c.in_ok-draft.draft in
    let none = none_collected c.args.matrix.now c.args.text.now draft.set c.in_ok-draft.ensures.empty in
    let begun = subst (λ (b : Bool). AreCollectedTo c.args.matrix.now c.args.text.now draft.set b 1 (lines_of c.args.text.now)) (sym c.in_ok-draft.ensures.begun) none in
    rw (c.deref-line-items.ensures.value, c.in_ok-lines.ensures) begun

pub collect_line-requires : goal.collect_line-requires
collect_line-requires c =
    let draft = c.loop-index.draft in
    (so_far_deterministic c.args.matrix.now c.args.text.now draft.set draft.begun (c.loop-index.index + 1) _ c.loop-index.invariant).0.deterministic

pub returns-in_err-draft-2-clause-fault : goal.returns-in_err-draft-2-clause-fault
returns-in_err-draft-2-clause-fault c =
    let p = err_from_is_err_and c.from_residual-in_err-draft-2.result c.from_residual-in_err-draft-2.ensures.1 in
    let draft = c.loop-index.draft in
    let refused = rw c.deref.ensures.value at c.in_err-draft-2.ensures.fault in
    rw (p.1, p.2) (line_refused c.args.matrix.now c.args.text.now draft.set draft.begun c.deref-line-items.result.now c.loop-index.index c.loop-index.invariant _ _ (search rules) c.in_ok-words.ensures _ refused)

pub loop-index-preserved : goal.loop-index-preserved
loop-index-preserved c =
    let draft = c.loop-index.draft in
    let next = rw c.deref.ensures.value at c.in_ok-draft-2.ensures.next in
    let begun = rw c.deref.ensures.value at c.in_ok-draft-2.ensures.begun in
    line_collected c.args.matrix.now c.args.text.now draft.set draft.begun c.deref-line-items.result.now c.loop-index.index c.loop-index.invariant _ _ (search rules) c.in_ok-words.ensures c.in_ok-draft-2.draft.set c.in_ok-draft-2.draft.begun begun next

pub of_closed-requires : goal.of_closed-requires
of_closed-requires c =
    let draft = c.loop-index.draft in
    (so_far_deterministic c.args.matrix.now c.args.text.now draft.set draft.begun (c.loop-index.index + 1) _ c.loop-index.invariant).0

pub returns-clause-read : goal.returns-clause-read
returns-clause-read c =
    let draft = c.loop-index.draft in
    let past : length c.deref-line-items.result.now ≤ c.loop-index.index = search rules in
    subst (IsCollectedAs c.args.matrix.now c.args.text.now) (sym c.of_closed.ensures)
    (all_collected c.args.matrix.now c.args.text.now draft.set draft.begun c.deref-line-items.result.now c.loop-index.index c.loop-index.invariant past)

pub returns-clause-of : goal.returns-clause-of
returns-clause-of c =
    let draft = c.loop-index.draft in
    subst (AreOf c.args.matrix.now) (sym c.of_closed.ensures)
    (so_far_deterministic c.args.matrix.now c.args.text.now draft.set draft.begun (c.loop-index.index + 1) _ c.loop-index.invariant).1
