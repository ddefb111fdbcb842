use Rattle.std.proofs.Common.{◌≡◌, ◌≤◌, Option, Some, true, slice_get, sym, ◌∙◌, ap, subst, length}
use Rattle.std.specs.Prelude.{IsSomeAnd, if◌then◌else◌, None, ◌==◌}
use Rattle.std.proofs.lemmas.Bool.{eqb-true}
use Rattle.std.proofs.lemmas.Option.{slice_get-get_or}
use Rattle.lu_component.specs.declared.component.Op.{Op}
use Rattle.lu_component.specs.Component.{IsOp}
use Rattle.lu_machine.proofs.Moves.{all_at}
use Rattle.lu_test.specs.declared.matrix.Call.{Call as ACall}
use Rattle.lu_test.specs.Matrix.{AreArguments}
use Rattle.lu_run.specs.RunText.{call_of_number, call_of_op}
use Rattle.lu_run.proofs.words.named_call.Goals as goal

pub returns-clause-call : goal.returns-clause-call
returns-clause-call c =
    let operations = c.args.component.now.operations in
    let numbers = c.args.numbers.items in
    let n = c.in_ok-number.number in
    let op = c.in_ok-op.op.now in
    let l = c.in_ok-op.ensures.lookup in
    let first = slice_get-get_or c.operations.result.now c.from.result op l.3.0 ∙ ap Some (sym l.1) in
    let there : slice_get operations n ≡ Some op = ap (λ xs. slice_get xs n) (sym c.operations.ensures.operations) ∙ (ap (slice_get c.operations.result.now) (sym c.from.ensures) ∙ first) in
    let test : (op.args == length numbers) ≡ true = ap (λ xs. op.args == length xs) (sym c.deref.ensures.value) ∙ (sym c.takes.ensures.takes ∙ c.if-not-takes.false) in
    let call : ACall = record { op = n; args = numbers } in
    let made : call_of_op n numbers (Some op) ≡ Some call = ap (λ b. if b then Some call else None) test in
    ap (λ x. let call : ACall = record { op = n; args = x } in Some call) c.new.ensures
    ∙ sym (ap (call_of_number operations numbers) (sym c.in_ok-number.ensures) ∙ (ap (call_of_op n numbers) there ∙ made))

pub returns-clause-of : goal.returns-clause-of
returns-clause-of c =
    let operations = c.args.component.now.operations in
    let n = c.in_ok-number.number in
    let op = c.in_ok-op.op.now in
    let l = c.in_ok-op.ensures.lookup in
    let first = slice_get-get_or c.operations.result.now c.from.result op l.3.0 ∙ ap Some (sym l.1) in
    let there : slice_get operations n ≡ Some op = ap (λ xs. slice_get xs n) (sym c.operations.ensures.operations) ∙ (ap (slice_get c.operations.result.now) (sym c.from.ensures) ∙ first) in
    let fits : c.takes.result ≡ true = c.if-not-takes.false in
    let few : op.args ≤ 4 = (all_at (IsOp (length c.args.component.now.arrays) (length c.args.component.now.locks)) operations n op c.operations.ensures.sound.operations there).args in
    let test : (op.args == length c.deref.result.now) ≡ true = sym c.takes.ensures.takes ∙ fits in
    let same : c.deref.result.now ≡ c.new.result = c.deref.ensures.value ∙ sym c.new.ensures in
    let many : length c.new.result ≡ op.args = sym (ap length same) ∙ sym (eqb-true op.args (length c.deref.result.now) test) in
    (subst (λ (o : Option Op). IsSomeAnd o (λ op. length c.new.result ≡ op.args)) (sym there) many, subst AreArguments same (c.takes.ensures.few fits few))
