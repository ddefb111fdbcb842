use Rattle.lu_report.proofs.Outcomes.{no_outcome}
use Rattle.lu_report.proofs.line.earlier_in.Goals as goal

pub returns-in_err-number : goal.returns-in_err-number
returns-in_err-number c =
    rw c.from_residual.ensures
    (no_outcome c.args.line.now
    (λ e. let t = c.is_line.ensures.1 e in let f = c.if-is_line.false in absurd cc)
    (λ e. let t = c.is_line-2.ensures.1 e in let f = c.if-is_line-2.false in absurd cc)
    (λ n le e. c.in_err-number.ensures.none n le e))
