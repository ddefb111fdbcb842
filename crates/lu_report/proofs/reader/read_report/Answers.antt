use Rattle.std.proofs.Common.{◌≡◌, Err, ◌∙◌, ap}
use Rattle.lu_text.specs.Lines.{kept_lines, texts}
use Rattle.lu_text.specs.declared.fault.Fault.TheVariants.{At}
use Rattle.lu_report.specs.declared.fault.ReportFaultKind.TheVariants.{Form}
use Rattle.lu_report.proofs.OneText.{one_spelt, text_read}
use Rattle.lu_report.proofs.Reading.{no_report, spells_lines}
use Rattle.lu_report.proofs.reader.read_report.Goals as goal

pub returns-in-Some-clause-found : goal.returns-in-Some-clause-found
returns-in-Some-clause-found c =
    let kept : texts c.deref.result.now ≡ kept_lines c.args.text.now = ap texts c.deref.ensures.value ∙ c.in_ok-lines.ensures in
    spells_lines c.args.text.now (texts c.deref.result.now) c.in-Some.report kept (rw c.in-Some.is at c.in_ok-report.ensures)

pub returns-in-Some-clause-only : goal.returns-in-Some-clause-only
returns-in-Some-clause-only c = λ r is. one_spelt c.args.text.now c.in-Some.report r (returns-in-Some-clause-found c) is

pub returns-clause-fault : goal.returns-clause-fault
returns-clause-fault c =
    let kept : texts c.deref.result.now ≡ kept_lines c.args.text.now = ap texts c.deref.ensures.value ∙ c.in_ok-lines.ensures in
    let also : texts c.deref-in-None.result.now ≡ kept_lines c.args.text.now = ap texts c.deref-in-None.ensures.value ∙ c.in_ok-lines.ensures in
    no_report (texts c.deref.result.now) (texts c.deref-in-None.result.now) (kept_lines c.args.text.now) c.in_ok-line-in-None.line kept also (rw c.in-None.is at c.in_ok-report.ensures) c.in_ok-line-in-None.ensures

pub returns-clause-only : goal.returns-clause-only
returns-clause-only c = λ r is. text_read c.args.text.now (Err (At Form c.in_ok-line-in-None.line)) tt (returns-clause-fault c) r is
