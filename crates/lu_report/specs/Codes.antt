-- The code of refused reports.
use Rattle.std.specs.Prelude.{ℕ, List, codes}
use Rattle.lu_report.specs.declared.fault.ReportFaultKind.{ReportFaultKind}
use Rattle.lu_report.specs.declared.fault.ReportFaultKind.TheVariants.{Form}

abbrev pub report_code_of : ReportFaultKind → List ℕ
report_code_of Form = codes "E1"
