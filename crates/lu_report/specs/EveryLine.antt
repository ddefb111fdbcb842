-- Every fault of a text that is to be a report.
use Rattle.std.specs.Prelude.{◌≡◌, ◌⊎◌, ◌==◌, ℕ, ◌+◌, ◌-◌, ◌^◌, Bool, false, List, [], ◌∷◌, ◌++◌, codes, slice_get, Option, Some, None, if◌then◌else◌}
use Rattle.std.specs.Option.{option_map_or, option_to_list}
use Rattle.std.specs.List.{starts_with}
use Rattle.lu_report.specs.declared.form.LineForm.{LineForm}
use Rattle.lu_report.specs.declared.form.LineForm.TheVariants as form
use Rattle.lu_report.specs.declared.faults.ReportLineFault.{ReportLineFault}
use Rattle.lu_report.specs.declared.version.Version.{Version}
use Rattle.lu_report.specs.declared.version.Version.TheVariants.{One, Two, Three}
use Rattle.lu_report.specs.Parts.{most_moves}
use Rattle.lu_report.specs.Forms.{IsEarlierLine, IsFailLine, IsNumberLine, IsScheduleLine, IsVersionLine}

-- ---- what a line is to be

abbrev pub IsJudgementLine : List ℕ → Type 0
IsJudgementLine line = (line ≡ codes "pass\n") ⊎ IsFailLine line

abbrev pub IsFindingLine : List ℕ → Type 0
IsFindingLine line =
    (line ≡ codes "serial-cut\n") ⊎ ((line ≡ codes "nondeterministic\n") ⊎ IsJudgementLine line)

-- a line of this form; none stands after the end
abbrev pub IsLineOf : LineForm → List ℕ → Type 0
IsLineOf form.Version line = IsVersionLine line
IsLineOf form.Bound line = IsNumberLine (codes "bound ") 0 most_moves line
IsLineOf form.Serial line = IsNumberLine (codes "serial ") 1 most_moves line
IsLineOf form.Local line = IsNumberLine (codes "local ") 1 16 line
IsLineOf form.AnyLocal line = IsNumberLine (codes "local ") 0 16 line
IsLineOf form.Finding line = IsFindingLine line
IsLineOf form.Judgement line = IsJudgementLine line
IsLineOf form.Schedule line = IsScheduleLine line
IsLineOf form.ConflictSchedule line = IsScheduleLine line
IsLineOf form.Before line = IsNumberLine (codes "before ") 0 15 line
IsLineOf form.Earlier line = IsEarlierLine line
IsLineOf form.Complete line = IsNumberLine (codes "complete ") 0 (2 ^ 64 - 1) line
IsLineOf form.Stuck line = IsNumberLine (codes "stuck ") 0 (2 ^ 64 - 1) line
IsLineOf form.Cut line = IsNumberLine (codes "cut ") 0 (2 ^ 64 - 1) line
IsLineOf form.End line = ⊥

-- ---- the form of the next line

-- the line begins with these bytes
abbrev pub begins : List ℕ → List ℕ → Bool
begins front line = starts_with (λ a b. a == b) line front

-- after a finding, as its first word says; of another word the next line is not known
abbrev pub after_finding : List ℕ → Option LineForm
after_finding line =
    if begins (codes "pass") line then Some form.Complete
    else (if begins (codes "fail") line then Some form.Schedule
    else (if begins (codes "serial-cut") line then Some form.Schedule
    else (if begins (codes "nondeterministic") line then Some form.ConflictSchedule else None)))

abbrev pub after_bound : Version → LineForm
after_bound One = form.Serial
after_bound Two = form.Serial
after_bound Three = form.AnyLocal

abbrev pub after_serial : Version → LineForm
after_serial One = form.Finding
after_serial Two = form.Local
after_serial Three = form.Local

-- after a line that is to be of this form, be it so or not
abbrev pub next_form : Version → LineForm → List ℕ → Option LineForm
next_form version form.Version line = Some form.Bound
next_form version form.Bound line = Some (after_bound version)
next_form version form.Serial line = Some (after_serial version)
next_form version form.Local line = Some form.Finding
next_form version form.AnyLocal line = Some form.Judgement
next_form version form.Finding line = after_finding line
next_form version form.Judgement line = after_finding line
next_form version form.Schedule line = Some form.End
next_form version form.ConflictSchedule line = Some form.Before
next_form version form.Before line = Some form.Earlier
next_form version form.Earlier line = Some form.End
next_form version form.Complete line = Some form.Stuck
next_form version form.Stuck line = Some form.Cut
next_form version form.Cut line = Some form.End
next_form version form.End line = None

abbrev pub next_wanted : Version → Option LineForm → List ℕ → Option LineForm
next_wanted version None line = None
next_wanted version (Some wanted) line = next_form version wanted line

-- this many lines before it, a line is there and begins with these bytes
abbrev pub has_at : ℕ → List ℕ → List (List ℕ) → Bool
has_at position front lines = option_map_or (begins front) (slice_get lines position) false

-- the version that the first line says; else the one that the lines `local` show
abbrev pub version_by : List (List ℕ) → Version
version_by lines =
    if has_at 0 (codes "lineup report 1") lines then One
    else (if has_at 0 (codes "lineup report 2") lines then Two
    else (if has_at 0 (codes "lineup report 3") lines then Three
    else (if has_at 2 (codes "local ") lines then Three
    else (if has_at 3 (codes "local ") lines then Two else One))))

-- ---- faults

abbrev pub fault_on : ℕ → LineForm → ReportLineFault
fault_on n wanted = record { form = wanted; line = n }

-- line n, which is to be of this form, has no fault where it is; where nothing is known of it, it
-- has none
abbrev pub IsJudgedAs : ℕ → Option LineForm → List ℕ → Option ReportLineFault → Type 0
IsJudgedAs n None line fault = fault ≡ None
IsJudgedAs n (Some wanted) line None = IsLineOf wanted line
IsJudgedAs n (Some wanted) line (Some fault) =
    (IsLineOf wanted line → ⊥) × (fault ≡ fault_on n wanted)

-- no line n is left, which is to be of this form
abbrev pub missing : ℕ → Option LineForm → List ReportLineFault
missing n None = []
missing n (Some form.End) = []
missing n (Some wanted) = fault_on n wanted ∷ []

-- these are the faults of the lines, of which the first is line n and to be of this form, in a
-- report of this version; nothing is known after a line that stands after the end
abbrev pub AreFaultsFrom : Version → ℕ → List (List ℕ) → Option LineForm → List ReportLineFault
    → Type 0
AreFaultsFrom version n [] wanted faults = faults ≡ missing n wanted
AreFaultsFrom version n (line ∷ lines) wanted faults =
    (fault : Option ReportLineFault) × (others : List ReportLineFault)
    × IsJudgedAs n wanted line fault
    × AreFaultsFrom version (n + 1) lines (next_wanted version wanted line) others
    × (faults ≡ option_to_list fault ++ others)

-- these are the faults of the lines of a text
abbrev pub AreReportFaults : List (List ℕ) → List ReportLineFault → Type 0
AreReportFaults lines faults =
    AreFaultsFrom (version_by lines) 1 lines (Some form.Version) faults
