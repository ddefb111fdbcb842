-- The lines in which lint says what it says.
use Rattle.std.specs.Prelude.{ℕ, ◌==◌, List, ◌++◌, codes, string_bytes, if◌then◌else◌}
use Rattle.std.specs.List.{flat_map}
use Rattle.std.specs.Fmt.{decimal}
use Rattle.lu_lang.specs.Kinds.{code_of}
use Rattle.lu_test.specs.Codes.{matrix_code_of, schedule_code_of}
use Rattle.lu_report.specs.Codes.{report_code_of}
use Rattle.lu_spec.specs.Codes.{spec_code_of}
use Rattle.lu_recorded.specs.Codes.{recorded_code_of}
use Rattle.lu_lint.specs.declared.remark.Remark.{Remark}
use Rattle.lu_lint.specs.declared.remark.FaultKind.{FaultKind}
use Rattle.lu_lint.specs.declared.remark.FaultKind.TheVariants as part
use Rattle.lu_lint.specs.declared.remark.Cause.{Cause}
use Rattle.lu_lint.specs.declared.remark.Cause.TheVariants.{Fault, FifthPart, Separator, Warning, Run}

-- the code of the refusal
abbrev pub refusal_code : FaultKind → List ℕ
refusal_code (part.Component kind) = code_of kind
refusal_code (part.Matrix kind) = matrix_code_of kind
refusal_code (part.Schedule kind) = schedule_code_of kind
refusal_code (part.Report kind) = report_code_of kind
refusal_code (part.Specification kind) = spec_code_of kind
refusal_code (part.History kind) = recorded_code_of kind

-- the part that it is a fault of
abbrev pub fault_part : FaultKind → List ℕ
fault_part (part.Component kind) = codes "component"
fault_part (part.Matrix kind) = codes "matrix"
fault_part (part.Schedule kind) = codes "schedule"
fault_part (part.Report kind) = codes "report"
fault_part (part.Specification kind) = codes "specification"
fault_part (part.History kind) = codes "history"

-- a warning says that it is one
abbrev pub remark_word : Cause → List ℕ
remark_word (Fault kind n) = codes ""
remark_word Separator = codes ""
remark_word FifthPart = codes ""
remark_word (Warning hint) = codes "warning: "
remark_word (Run hint) = codes "warning: "

-- the line of the bundle, and the words
abbrev pub remark_head : ℕ → List ℕ → List ℕ → List ℕ
remark_head line word words =
    codes "line " ++ decimal line ++ codes ": " ++ word ++ words

-- What stands before the line of the part, n. A component begins its bundle, so that line is that of
-- the bundle, but for a jump, which other commands refuse at the end of its operation.
abbrev pub line_word : FaultKind → ℕ → ℕ → List ℕ
line_word (part.Component kind) line n = if line == n then codes "line" else codes "reported at line"
line_word kind line n = codes "line"

-- of a fault its code and its line in the part, as the other commands name them
abbrev pub remark_tail : ℕ → Cause → List ℕ
remark_tail line (Fault kind n) =
    codes " (" ++ refusal_code kind ++ codes ", " ++ line_word kind line n ++ codes " "
    ++ decimal n
    ++ codes " of the "
    ++ fault_part kind
    ++ codes ")\n"
remark_tail line Separator = codes "\n"
remark_tail line FifthPart = codes " (B1)\n"
remark_tail line (Warning hint) = codes "\n"
remark_tail line (Run hint) = codes "\n"

-- a line for one remark
abbrev pub remark_text : Remark → List ℕ
remark_text r =
    remark_head r.said.line (remark_word r.said.cause) (string_bytes r.words)
    ++ remark_tail r.said.line r.said.cause

abbrev pub remarks_text : List Remark → List ℕ
remarks_text remarks = flat_map remark_text remarks
