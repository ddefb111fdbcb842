use Rattle.std.proofs.Common.{arith, ◌≡◌, Some, slice_get, refl, sym, ◌∙◌, ap, subst, inl, inr}
use Rattle.std.proofs.lemmas.Bool.{cases_lt}
use Rattle.std.proofs.lemmas.Option.{same_Some, slice_get-get_or, slice_get_within}
use Rattle.lu_test.specs.declared.matrix.Call.{Call}
use Rattle.lu_run.specs.Tables.{IsCallFor}
use Rattle.lu_run.proofs.checking.are_calls_of.Goals as goal

pub loop-call-preserved : goal.loop-call-preserved
loop-call-preserved c = λ n call below at.
    elim (cases_lt n c.loop-call.call-index) as (λ _. IsCallFor c.args.component.now call) [
      | inl less ↦ c.loop-call.invariant n call less at
      | inr ge ↦
          (let item : Call = c.call-item.result in
          let here : n ≡ c.loop-call.call-index = omega (arith, below, ge) in
          let there : slice_get c.args.calls.now c.loop-call.call-index ≡ Some item = slice_get-get_or c.args.calls.now c.loop-call.call-index item c.loop-call-test.true ∙ ap Some (sym c.call-item.is) in
          let same : item ≡ call = same_Some item call (sym there ∙ (ap (slice_get c.args.calls.now) (sym here) ∙ at)) in
          subst (IsCallFor c.args.component.now) same (c.is_call_for.ensures.0 c.if-not-is_call_for.false))
    ]

pub returns : goal.returns
returns c = (
  (λ _ n call at. c.loop-call.invariant n call (let le = c.loop-call-test.false in let within = slice_get_within c.args.calls.now n call at in omega (arith, le, within)) at),
  (λ _. refl),
)
