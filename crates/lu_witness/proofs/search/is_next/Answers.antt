use Rattle.std.proofs.Common.{◌≡◌, true, Option, None, Some, get_or, ap, sym, ◌∙◌, arith}
use Rattle.std.specs.Option.{option_eq}
use Rattle.lu_history.specs.declared.serial.SerialOutcome.{SerialOutcome}
use Rattle.lu_history.specs.contracts.serial.SerialOutcomePartialEq.TheImpl as equal
use Rattle.lu_history.proofs.Derived.{outcomes_alike}
use Rattle.lu_witness.proofs.Nexts.{next_tells, no_next}
use Rattle.lu_witness.proofs.search.is_next.Goals as goal

same_option : (o : Option SerialOutcome) (x : SerialOutcome) → option_eq (equal.eq-value).it o (Some x) ≡ true → o ≡ Some x
same_option None x h = cc
same_option (Some y) x h = ap Some (outcomes_alike y x h)

pub returns-then-op-ge8-clause-next : goal.returns-then-op-ge8-clause-next
returns-then-op-ge8-clause-next c p are = (λ e. cc, λ next. absurd (no_next c.args.history.now c.requires p c.args.op (omega arith) next))

pub returns-then-eq-clause-next : goal.returns-then-eq-clause-next
returns-then-eq-clause-next c p are =
    let ended : c.ended.result ≡ Some c.args.op.outcome = same_option c.ended.result c.args.op.outcome (sym c.eq.ensures ∙ c.if-eq.true) in
    next_tells c.args.history.now c.requires p c.args.op (get_or c.args.taken.now c.from.result 0) c.before-then-eq.result.now c.args.taken.now c.are_at_most.result
    (ap (λ x. get_or c.args.taken.now x 0) c.from.ensures ∙ are c.args.op.thread)
    (sym c.ended.ensures.ended ∙ ended)
    c.before-then-eq.ensures are c.are_at_most.ensures
