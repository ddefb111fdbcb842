use Rattle.std.proofs.Common.{◌≡◌, ◌∷◌, ap}
use Rattle.lu_text.specs.Lines.{texts}
use Rattle.lu_report.specs.Forms.{IsAfterBound, IsReportOf}
use Rattle.lu_report.proofs.Reading.{after_of, reads_as, report_of}
use Rattle.lu_report.proofs.reader.report_in.Goals as goal

pub returns : goal.returns
returns c =
    let v = c.in-Some-version_in in
    let b = c.in-Some-first_number in
    let lines : texts c.args.lines.now ≡ c.in-Some.first.now.now ∷ texts c.in-Some.rest.now = ap texts c.in-Some.ensures.cases.0 in
    reads_as c.report_after_bound.result (IsAfterBound v.version b.bound (texts b.rest.now)) (IsReportOf (texts c.args.lines.now))
    (report_of _ _ _ lines v.version v.ensures b.bound (texts b.rest.now) b.ensures)
    (after_of _ _ _ lines v.version v.ensures b.bound (texts b.rest.now) b.ensures)
    c.report_after_bound.ensures
