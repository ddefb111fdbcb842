use Rattle.std.proofs.Common.{sym}
use Rattle.lu_spec.proofs.Entries.{if_none, no_outcome, value_says}
use Rattle.lu_spec.proofs.history_line.outcome_in.Goals as goal

pub returns-in_err-number-clause-none : goal.returns-in_err-number-clause-none
returns-in_err-number-clause-none c =
    if_none c.from_residual.result _
    (no_outcome c.args.word.now
    (λ e. let t = c.is_word.ensures.1 e in let f = c.if-is_word.false in absurd cc)
    (λ e. let t = c.is_word-2.ensures.1 e in let f = c.if-is_word-2.false in absurd cc)
    (sym c.in_err-number.ensures))

pub returns-clause-some : goal.returns-clause-some
returns-clause-some c = value_says c.args.word.now c.in_ok-number.number (sym c.in_ok-number.ensures)
