use Rattle.std.proofs.Common.{◌≡◌, ℕ, sym, ◌∙◌, ap, subst}
use Rattle.std.proofs.lemmas.Option.{same_Some}
use Rattle.lu_history.specs.declared.serial.SerialOutcome.{SerialOutcome}
use Rattle.lu_linearization.specs.Monitors.{by_thread}
use Rattle.lu_run.specs.Foreseeing.{Allows}
use Rattle.lu_run.proofs.automaton.ForeseenAutomaton.step.Goals as goal

pub returns-in-None : goal.returns-in-None
returns-in-None c = λ outcome next. (
  (λ leads. absurd (let e = (c.step.ensures outcome next).0 leads.0 in let none = c.in-None.is in cc)),
  (λ e. absurd cc),
)

pub returns-then-is_allowed : goal.returns-then-is_allowed
returns-then-is_allowed c = λ outcome next. (
  (λ leads. sym c.in-Some.is ∙ (c.step.ensures outcome next).0 leads.0),
  (λ e.
      let same : c.in-Some.outcome ≡ outcome = ap (λ (x : SerialOutcome × ℕ). x.0) (same_Some (c.in-Some.outcome, c.in-Some.next) (outcome, next) e) in
      let allows = c.is_allowed.ensures.0 c.if-is_allowed.true in
      ((c.step.ensures outcome next).1 (c.in-Some.is ∙ e), subst (Allows (by_thread c.args.self.now.returns.now c.args.call.thread)) same allows)),
)

pub returns-else-is_allowed : goal.returns-else-is_allowed
returns-else-is_allowed c = λ outcome next. (
  (λ leads. absurd
      (let e = sym c.in-Some.is ∙ (c.step.ensures outcome next).0 leads.0 in
      let same : c.in-Some.outcome ≡ outcome = ap (λ (x : SerialOutcome × ℕ). x.0) (same_Some (c.in-Some.outcome, c.in-Some.next) (outcome, next) e) in
      let yes = c.is_allowed.ensures.1 (subst (Allows (by_thread c.args.self.now.returns.now c.args.call.thread)) (sym same) leads.1) in
      let no = c.if-is_allowed.false in
      cc)),
  (λ e. absurd cc),
)
