use Rattle.std.proofs.Common.{rules, arith, get_or, refl}
use Rattle.lu_spec.proofs.Entries.{if_none, is_spelled, spells}
use Rattle.lu_spec.proofs.history_line.entry_in.Goals.{then-digit-lt48-via-then-digit-lt48, then-digit-lt48-via-else-digit-lt48+then-digit-gt55, then-digit-lt48-via-else-digit-lt48+else-digit-gt55+then-equals-ne61}
use Rattle.lu_spec.proofs.history_line.entry_in.Goals as goal

pub returns-then-digit-lt48-clause-none : goal.returns-then-digit-lt48-clause-none
returns-then-digit-lt48-clause-none c = λ op is e.
    let s = is_spelled c.args.word.now op is e in
    elim c.then-digit-lt48.branch [
      | then-digit-lt48-via-then-digit-lt48 w ↦ absurd (omega (arith, s.digit 0, w.if-digit-lt48.true))
      | then-digit-lt48-via-else-digit-lt48+then-digit-gt55 w ↦ absurd (omega (arith, s.digit 0, is.0, w.if-digit-gt55.true))
      | then-digit-lt48-via-else-digit-lt48+else-digit-gt55+then-equals-ne61 w ↦ absurd (w.if-equals-ne61.true (s.equals 0))
    ]

pub returns-in_err-outcome-in-len2-up-clause-none : goal.returns-in_err-outcome-in-len2-up-clause-none
returns-in_err-outcome-in-len2-up-clause-none c =
    if_none c.from_residual.result _ (λ op is e.
    let s = is_spelled c.args.word.now op is e in
    c.in_err-outcome-in-len2-up.ensures.none op.outcome is.1 s.outcome)

pub returns-in_default-clause-none : goal.returns-in_default-clause-none
returns-in_default-clause-none c = λ op is e.
    let s = is_spelled c.args.word.now op is e in
    absurd (omega (arith, s.long))

pub returns-in_ok-outcome-in-len2-up-clause-some : goal.returns-in_ok-outcome-in-len2-up-clause-some
returns-in_ok-outcome-in-len2-up-clause-some c =
    let said = c.in_ok-outcome-in-len2-up.ensures.some in
    spells c.args.word.now (get_or c.args.word.now 0 0) (get_or c.args.word.now 1 0) c.in_ok-outcome-in-len2-up.outcome 0 0 c.in-len2-up.len_at_least refl refl (omega arith) (omega arith) (search rules) said.0 said.1
