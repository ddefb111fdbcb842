use Rattle.lu_report.proofs.writer.put_earlier.Goals as goal

pub returns-in_ok-put_number-in-Ret-clause-text : goal.returns-in_ok-put_number-in-Ret-clause-text
returns-in_ok-put_number-in-Ret-clause-text c = rw (c.in-Ret.is, ← c.from.ensures) c.in_ok-put_number-in-Ret.ensures.text

pub returns-in_ok-push_str-in-Stuck-clause-text : goal.returns-in_ok-push_str-in-Stuck-clause-text
returns-in_ok-push_str-in-Stuck-clause-text c = rw c.in-Stuck.is c.in_ok-push_str-in-Stuck.ensures.bytes
