use Rattle.std.proofs.Common.{List, ◌∷◌, ◌++◌, [], ◌∙◌, ap, sym}
use Rattle.lu_test.specs.declared.matrix.Call.{Call}
use Rattle.lu_test.proofs.CallsSaid.{no_call, one_call}
use Rattle.lu_test.proofs.matrix_text.calls_said.Goals.{in-None, in-Some+in_ok-arguments_of-in-Some+in_ok-push-in-Some}
use Rattle.lu_test.proofs.matrix_text.calls_said.Goals as goal

pub loop-part-preserved : goal.loop-part-preserved
loop-part-preserved c =
    let signatures = c.args.signatures.now in
    let parts = c.args.parts.now in
    let i = c.loop-part.part-index in
    let words = c.part-item.result in
    elim c.match-named_operation.branch [
      | in-None w ↦
          ap (λ v. v.items) w.calls-is
          ∙ (c.loop-part.invariant ∙ sym (no_call signatures parts i words c.loop-part-test.true c.part-item.is (sym c.named_operation.ensures ∙ w.in-None.is)))
      | in-Some+in_ok-arguments_of-in-Some+in_ok-push-in-Some w ↦
          let made : Call = record { op = w.in-Some.number; args = w.in_ok-arguments_of-in-Some.field-0 } in
          let one = one_call signatures parts i words c.loop-part-test.true c.part-item.is w.in-Some.number _ (sym c.named_operation.ensures ∙ w.in-Some.is) w.in_ok-arguments_of-in-Some.ensures in
          ap (λ v. v.items) w.calls-is
          ∙ (w.in_ok-push-in-Some.ensures.items ∙ (ap (λ (calls : List Call). calls ++ made ∷ []) c.loop-part.invariant ∙ sym one))
    ]
