use Rattle.std.proofs.Common.{◌≡◌, length, None, Some, get_or, slice_get, ap, sym, subst, ◌∙◌}
use Rattle.lu_history.specs.Parts.{part}
use Rattle.lu_trie.proofs.Ops.{entry}
use Rattle.lu_witness.specs.Witnesses.{IsMember, entries}
use Rattle.lu_explain.specs.Explanations.{IsBlocker, IsFree, IsReasonOrDone}
use Rattle.lu_explain.proofs.Blocking.{called, is_left}
use Rattle.lu_explain.proofs.Reasons.{left_none}
use Rattle.lu_explain.proofs.left_calls.reason_not_next.Goals as goal

pub returns-in_err-ended : goal.returns-in_err-ended
returns-in_err-ended g c p are begun =
    let h = c.args.history.now in
    let t = c.args.t in
    let number = ap (λ x. get_or c.args.taken.now x 0) c.from.ensures ∙ are t in
    let none : slice_get (part t h) (length (entries t p)) ≡ None = ap (slice_get (part t h)) (sym number) ∙ sym c.ended.ensures.ended ∙ c.in_err-ended.was in
    subst (IsReasonOrDone (IsMember (g.T.SerialTree.below c.args.tree.now c.args.place)) h p t) (sym c.from_residual.ensures) (left_none h p begun t none)

pub returns-in-Some : goal.returns-in-Some
returns-in-Some g c p are begun =
    let h = c.args.history.now in
    let t = c.args.t in
    let k = get_or c.args.taken.now c.from.result 0 in
    let op = entry t c.in_ok-ended.field-0 in
    let number : k ≡ length (entries t p) = ap (λ x. get_or c.args.taken.now x 0) c.from.ensures ∙ are t in
    let here : slice_get (part t h) k ≡ Some c.in_ok-ended.field-0 = sym c.ended.ensures.ended ∙ c.in_ok-ended.was in
    let call = called h c.requires.history p op k number here in
    (is_left h c.requires.history p op k number here, subst (λ x. IsBlocker h p (record { t = t; k = x }) c.in-Some.a) number (c.in-Some.ensures p call.0 are call.1))

pub returns-in-Some-outcome_of : goal.returns-in-Some-outcome_of
returns-in-Some-outcome_of g c p are begun =
    let h = c.args.history.now in
    let t = c.args.t in
    let k = get_or c.args.taken.now c.from.result 0 in
    let op = entry t c.in_ok-ended.field-0 in
    let number : k ≡ length (entries t p) = ap (λ x. get_or c.args.taken.now x 0) c.from.ensures ∙ are t in
    let here : slice_get (part t h) k ≡ Some c.in_ok-ended.field-0 = sym c.ended.ensures.ended ∙ c.in_ok-ended.was in
    let call = called h c.requires.history p op k number here in
    (is_left h c.requires.history p op k number here, (subst (λ x. IsFree h p (record { t = t; k = x })) number (c.in-None.ensures p call.0 are call.1), c.in-Some-outcome_of.ensures))

pub returns-in-None-outcome_of : goal.returns-in-None-outcome_of
returns-in-None-outcome_of g c p are begun =
    let h = c.args.history.now in
    let t = c.args.t in
    let k = get_or c.args.taken.now c.from.result 0 in
    let op = entry t c.in_ok-ended.field-0 in
    let number : k ≡ length (entries t p) = ap (λ x. get_or c.args.taken.now x 0) c.from.ensures ∙ are t in
    let here : slice_get (part t h) k ≡ Some c.in_ok-ended.field-0 = sym c.ended.ensures.ended ∙ c.in_ok-ended.was in
    let call = called h c.requires.history p op k number here in
    (is_left h c.requires.history p op k number here, (subst (λ x. IsFree h p (record { t = t; k = x })) number (c.in-None.ensures p call.0 are call.1), c.in-None-outcome_of.ensures))
