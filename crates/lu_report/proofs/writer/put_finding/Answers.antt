use Rattle.lu_report.proofs.Texts.{two_lines, four_lines}
use Rattle.lu_report.proofs.writer.put_finding.Goals as goal

pub returns-in_ok-put_schedule-in-SerialCut-clause-text : goal.returns-in_ok-put_schedule-in-SerialCut-clause-text
returns-in_ok-put_schedule-in-SerialCut-clause-text c =
    rw c.in-SerialCut.is (two_lines _ _ _ _ _ c.in_ok-push_str-in-SerialCut.ensures.bytes c.in_ok-put_schedule-in-SerialCut.ensures.text)

pub returns-in_ok-put_earlier-in-Nondeterministic-clause-text : goal.returns-in_ok-put_earlier-in-Nondeterministic-clause-text
returns-in_ok-put_earlier-in-Nondeterministic-clause-text c =
    rw c.in-Nondeterministic.is
    (four_lines _ _ _ _ _ _ _ _ _ c.in_ok-push_str-in-Nondeterministic.ensures.bytes c.in_ok-put_schedule-in-Nondeterministic.ensures.text c.in_ok-put_number-in-Nondeterministic.ensures.text c.in_ok-put_earlier-in-Nondeterministic.ensures.text)

pub returns-in_ok-put_number-in-Pass-3-clause-text : goal.returns-in_ok-put_number-in-Pass-3-clause-text
returns-in_ok-put_number-in-Pass-3-clause-text c =
    rw c.in-Pass.is
    (four_lines _ _ _ _ _ _ _ _ _ c.in_ok-push_str-in-Pass.ensures.bytes c.in_ok-put_number-in-Pass.ensures.text c.in_ok-put_number-in-Pass-2.ensures.text c.in_ok-put_number-in-Pass-3.ensures.text)

pub returns-in_ok-put_number-in-Pass-3-clause-parts : goal.returns-in_ok-put_number-in-Pass-3-clause-parts
returns-in_ok-put_number-in-Pass-3-clause-parts c =
    rw c.in-Pass.is (record { complete = c.put_number-in-Pass.ensures.range; stuck = c.put_number-in-Pass-2.ensures.range; cut = c.put_number-in-Pass-3.ensures.range })
