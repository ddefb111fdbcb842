use Rattle.std.proofs.Common.{◌+◌, ◌≤◌, rules, length, sym, subst}
use Rattle.std.proofs.lemmas.Result.{err_from_is_err_and}
use Rattle.lu_spec.specs.FreeSpecs.{IsListedFreely}
use Rattle.lu_spec.specs.Specs.{AreOf}
use Rattle.lu_spec.proofs.FreeLines.{all_collected, free_spec, line_collected, line_refused, none_collected}
use Rattle.lu_spec.proofs.HistoryKeys.{same_listed, same_matrix, same_spec}
use Rattle.lu_spec.proofs.free.collect_free_spec.Goals as goal

pub loop-index-init : goal.loop-index-init
loop-index-init c =
    let draft = c.in_ok-draft.draft in
    let none = none_collected c.args.matrix.now c.args.text.now draft c.in_ok-draft.ensures.empty c.in_ok-draft.ensures.ends c.in_ok-draft.ensures.asked c.in_ok-draft.ensures.begun in
    rw (c.deref-line-items.ensures.value, c.in_ok-lines.ensures) none

pub returns-in_err-draft-2-clause-fault : goal.returns-in_err-draft-2-clause-fault
returns-in_err-draft-2-clause-fault c =
    let p = err_from_is_err_and c.from_residual-in_err-draft-2.result c.from_residual-in_err-draft-2.ensures.1 in
    let draft = c.loop-index.draft in
    let refused = rw c.deref.ensures.value at c.in_err-draft-2.ensures.fault in
    rw (p.1, p.2) (line_refused c.args.matrix.now c.args.text.now draft c.deref-line-items.result.now c.loop-index.index c.loop-index.invariant _ _ (search rules) c.in_ok-words.ensures _ refused)

pub loop-index-preserved : goal.loop-index-preserved
loop-index-preserved c =
    let draft = c.loop-index.draft in
    let next = rw c.deref.ensures.value at c.in_ok-draft-2.ensures.next in
    let begun = rw c.deref.ensures.value at c.in_ok-draft-2.ensures.begun in
    line_collected c.args.matrix.now c.args.text.now draft c.deref-line-items.result.now c.loop-index.index c.loop-index.invariant _ _ (search rules) c.in_ok-words.ensures c.in_ok-draft-2.draft begun next

pub into_trie-requires : goal.into_trie-requires
into_trie-requires c =
    let draft = c.loop-index.draft in
    let spec = (free_spec c.args.matrix.now c.args.text.now draft (c.loop-index.index + 1) _ c.loop-index.invariant).0 in
    spec.serial

pub of_closed-requires : goal.of_closed-requires
of_closed-requires c =
    let draft = c.loop-index.draft in
    same_spec draft.set c.in_ok-set.set c.in_ok-set.ensures
    (free_spec c.args.matrix.now c.args.text.now draft (c.loop-index.index + 1) _ c.loop-index.invariant).0

pub returns-clause-read : goal.returns-clause-read
returns-clause-read c =
    let draft = c.loop-index.draft in
    let past : length c.deref-line-items.result.now ≤ c.loop-index.index = search rules in
    subst (IsListedFreely c.args.matrix.now c.args.text.now) (sym c.of_closed.ensures)
    (same_listed draft.set c.in_ok-set.set c.in_ok-set.ensures c.args.matrix.now c.args.text.now
    (all_collected c.args.matrix.now c.args.text.now draft c.deref-line-items.result.now c.loop-index.index c.loop-index.invariant past))

pub returns-clause-of : goal.returns-clause-of
returns-clause-of c =
    let draft = c.loop-index.draft in
    subst (AreOf c.args.matrix.now) (sym c.of_closed.ensures)
    (same_matrix draft.set c.in_ok-set.set c.in_ok-set.ensures c.args.matrix.now
    (free_spec c.args.matrix.now c.args.text.now draft (c.loop-index.index + 1) _ c.loop-index.invariant).1)
