-- The lines of a report's parts.
use Rattle.std.proofs.Common.{◌≡◌, ℕ, zero, suc, subst, Option, Some, None, ◌<◌, ◌≤◌, ◌^◌, List, [], ◌∷◌, ◌++◌, get_or, refl, sym, ◌∙◌, ap, false, arith}
use Rattle.std.specs.Prelude.{codes, ◌==◌, IfSome, IfNone}
use Rattle.std.specs.Fmt.{decimal}
use Rattle.std.proofs.lemmas.Fmt.{decimal_injective}
use Rattle.std.proofs.lemmas.List.{append_assoc, append_cancel_left, append_cancel_right}
use Rattle.std.proofs.lemmas.Bool.{eq-eqb}
use Rattle.lu_test.specs.declared.schedule.Move.{Move}
use Rattle.lu_test.specs.Schedule.{AreMoves}
use Rattle.lu_test.specs.ScheduleText.{schedule_text}
use Rattle.lu_machine.specs.declared.counts.Counts.{Counts}
use Rattle.lu_history.specs.declared.serial.SerialOutcome.{SerialOutcome}
use Rattle.lu_history.specs.declared.serial.SerialOutcome.TheVariants as serial
use Rattle.lu_history.specs.Serial.{IsOutcome}
use Rattle.lu_witness.specs.declared.judgement.Why.{Why}
use Rattle.lu_witness.specs.declared.judgement.Why.TheVariants.{Complete, Stuck}
use Rattle.lu_report.specs.declared.report.Finding.{Finding}
use Rattle.lu_report.specs.declared.report.Finding.TheVariants.{SerialCut, Nondeterministic, Fail, Pass}
use Rattle.lu_report.specs.declared.report.Report.{Report}
use Rattle.lu_report.specs.declared.form.LineForm.TheVariants as form
use Rattle.lu_report.specs.declared.version.Version.{Version}
use Rattle.lu_report.specs.declared.version.Version.TheVariants.{One, Two, Three}
use Rattle.lu_report.specs.Parts.{AreLimits, IsJudgement, IsSerialBound, parts_of}
use Rattle.lu_report.specs.Text.{number_line, earlier_line, fail_line, finding_lines, version_of, version_line, serial_lines, local_lines}
use Rattle.lu_report.specs.EveryLine.{IsLineOf}
use Rattle.lu_report.specs.Forms.{AreCounts, AreReport, IsEarlierLine, IsFindingOf, IsJudgementOf, IsNumberLine, IsScheduleLine, IsSoundFinding}

-- ---- parts of reports

-- these are the lines of a finding
abbrev pub AreFinding : List (List ℕ) → Type 0
AreFinding lines = (f : Finding) × IsFindingOf lines f

-- no lines
abbrev pub AreNone : List (List ℕ) → Type 0
AreNone lines = lines ≡ []

-- one of these lines, and such lines after it
abbrev pub IsLineThen : (List ℕ → Type 0) → (List (List ℕ) → Type 0) → List (List ℕ) → Type 0
IsLineThen IsHead AreTail [] = ⊥
IsLineThen IsHead AreTail (line ∷ lines) = IsHead line × AreTail lines

-- the line of a schedule alone
abbrev pub AreRun : List (List ℕ) → Type 0
AreRun lines = IsLineThen (IsLineOf form.Schedule) AreNone lines

-- the lines of a conflict: the schedule, where it is, and the earlier outcome
abbrev pub AreEarlier : List (List ℕ) → Type 0
AreEarlier lines = IsLineThen (IsLineOf form.Earlier) AreNone lines

abbrev pub AreBeforeLines : List (List ℕ) → Type 0
AreBeforeLines lines = IsLineThen (IsLineOf form.Before) AreEarlier lines

abbrev pub AreConflict : List (List ℕ) → Type 0
AreConflict lines = IsLineThen (IsLineOf form.ConflictSchedule) AreBeforeLines lines

-- the lines of the counts
abbrev pub AreCut : List (List ℕ) → Type 0
AreCut lines = IsLineThen (IsLineOf form.Cut) AreNone lines

abbrev pub AreStuck : List (List ℕ) → Type 0
AreStuck lines = IsLineThen (IsLineOf form.Stuck) AreCut lines

abbrev pub AreCountLines : List (List ℕ) → Type 0
AreCountLines lines = IsLineThen (IsLineOf form.Complete) AreStuck lines

-- the lines of a failure or a pass
abbrev pub AreJudgement : List (List ℕ) → Type 0
AreJudgement lines = (f : Finding) × IsJudgementOf lines f

-- the lines after that of the bound in a report of this version
abbrev pub AreLocal : List (List ℕ) → Type 0
AreLocal lines = IsLineThen (IsLineOf form.Local) AreFinding lines

abbrev pub AreAfter : Version → List (List ℕ) → Type 0
AreAfter One lines = IsLineThen (IsLineOf form.Serial) AreFinding lines
AreAfter Two lines = IsLineThen (IsLineOf form.Serial) AreLocal lines
AreAfter Three lines = IsLineThen (IsLineOf form.AnyLocal) AreJudgement lines

-- the lines after the first in a report of this version
abbrev pub AreBounded : Version → List (List ℕ) → Type 0
AreBounded version lines = IsLineThen (IsLineOf form.Bound) (AreAfter version) lines

-- ---- numbers

-- a line says one number
pub same_number : (front : List ℕ) (m n : ℕ) → m < 2 ^ 64 → n < 2 ^ 64 → number_line front m ≡ number_line front n → m ≡ n
same_number front m n small few e =
    let digits : decimal m ++ codes "\n" ≡ decimal n ++ codes "\n" = append_cancel_left front (decimal m ++ codes "\n") (decimal n ++ codes "\n") (sym (append_assoc front (decimal m) (codes "\n")) ∙ (e ∙ append_assoc front (decimal n) (codes "\n"))) in
    decimal_injective m n small few (append_cancel_right (decimal m) (decimal n) (codes "\n") digits)

-- ---- some lines of each part

no_moves : AreMoves []
no_moves = (omega arith, λ k d h. absurd (omega arith))

pub nothing : (t : List (List ℕ)) × AreNone t
nothing = ([], refl)

pub no_schedule : (line : List ℕ) × IsScheduleLine line
no_schedule = (schedule_text [], ([], (no_moves, refl)))

pub an_outcome : (line : List ℕ) × IsEarlierLine line
an_outcome = (earlier_line serial.Trap, (serial.Trap, (tt, refl)))

pub a_cut : (t : List (List ℕ)) × AreCut t
a_cut = (number_line (codes "cut ") 0 ∷ [], ((0, (omega arith, omega arith, refl)), refl))

pub a_stuck : (t : List (List ℕ)) × AreStuck t
a_stuck = (number_line (codes "stuck ") 0 ∷ a_cut.0, ((0, (omega arith, omega arith, refl)), a_cut.1))

pub an_earlier : (t : List (List ℕ)) × AreEarlier t
an_earlier = (an_outcome.0 ∷ [], (an_outcome.1, refl))

pub a_before : (t : List (List ℕ)) × AreBeforeLines t
a_before = (number_line (codes "before ") 0 ∷ an_earlier.0, ((0, (omega arith, omega arith, refl)), an_earlier.1))

-- ---- what was found

-- byte k of the first line
abbrev pub byte_at : ℕ → List (List ℕ) → ℕ
byte_at k lines = get_or (get_or lines 0 []) k 0

pub clash : (m n : ℕ) → (m == n) ≡ false → m ≡ n → ⊥
clash m n other same = ne m n other same
  where
    ne : (m n : ℕ) → (m == n) ≡ false → m ≡ n → ⊥
    ne m n other same = let e = eq-eqb m n same in cc

-- the lines of a run, of counts and of a conflict
run_form : (u : List Move) (t : List (List ℕ)) → AreMoves u → t ≡ schedule_text u ∷ [] → AreRun t
run_form u t moves e = subst AreRun (sym e) ((u, (moves, refl)), refl)

counts_form : (counts : Counts) (t : List (List ℕ)) → AreCounts counts → t ≡ number_line (codes "complete ") counts.complete ∷ number_line (codes "stuck ") counts.stuck ∷ number_line (codes "cut ") counts.cut ∷ [] → AreCountLines t
counts_form counts t is e =
    let complete = is.complete in
    let stuck = is.stuck in
    let cut = is.cut in
    subst AreCountLines (sym e)
    ((counts.complete, (omega arith, omega arith, refl)), ((counts.stuck, (omega arith, omega arith, refl)), ((counts.cut, (omega arith, omega arith, refl)), refl)))

conflict_form : (u : List Move) (before : ℕ) (earlier : SerialOutcome) (t : List (List ℕ)) → AreMoves u → before ≤ 15 → IsOutcome earlier → t ≡ schedule_text u ∷ number_line (codes "before ") before ∷ earlier_line earlier ∷ [] → AreConflict t
conflict_form u before earlier t moves few is e = subst AreConflict (sym e) ((u, (moves, refl)), ((before, (omega arith, few, refl)), ((earlier, (is, refl)), refl)))

pub run_found : (t : List (List ℕ)) → AreRun t → (u : List Move) × AreMoves u × (t ≡ schedule_text u ∷ [])
run_found [] are = absurd are
run_found (line ∷ t) are = (are.0.0, are.0.1.0, rw (are.0.1.1, are.1) refl)

pub counts_found : (t : List (List ℕ)) → AreCountLines t → (counts : Counts) × AreCounts counts × (t ≡ number_line (codes "complete ") counts.complete ∷ number_line (codes "stuck ") counts.stuck ∷ number_line (codes "cut ") counts.cut ∷ [])
counts_found [] are = absurd are
counts_found (x ∷ []) are = absurd are.1
counts_found (x ∷ y ∷ []) are = absurd are.1.1
counts_found (x ∷ y ∷ z ∷ t) are =
    let complete = are.0.1.1 in
    let stuck = are.1.0.1.1 in
    let cut = are.1.1.0.1.1 in
    let counts : Counts = record { complete = are.0.0; stuck = are.1.0.0; cut = are.1.1.0.0 } in
    (counts, record { complete = omega arith; stuck = omega arith; cut = omega arith }, rw (are.0.1.2, are.1.0.1.2, are.1.1.0.1.2, are.1.1.1) refl)

pub conflict_found : (t : List (List ℕ)) → AreConflict t → (u : List Move) × (before : ℕ) × (earlier : SerialOutcome)
    × AreMoves u × (before ≤ 15) × IsOutcome earlier × (t ≡ schedule_text u ∷ number_line (codes "before ") before ∷ earlier_line earlier ∷ [])
conflict_found [] are = absurd are
conflict_found (x ∷ []) are = absurd are.1
conflict_found (x ∷ y ∷ []) are = absurd are.1.1
conflict_found (x ∷ y ∷ z ∷ t) are =
    (are.0.0, are.1.0.0, are.1.1.0.0, are.0.1.0, are.1.0.1.1, are.1.1.0.1.0, rw (are.0.1.1, are.1.0.1.2, are.1.1.0.1.1, are.1.1.1) refl)

pub pass_only : (t : List (List ℕ)) (f : Finding) → IsSoundFinding f → codes "pass\n" ∷ t ≡ finding_lines f → AreCountLines t
pass_only t (SerialCut u) is e = absurd (clash 112 115 refl (ap (byte_at 0) e))
pass_only t (Nondeterministic u before earlier) is e = absurd (clash 112 110 refl (ap (byte_at 0) e))
pass_only t (Fail u Complete) is e = absurd (clash 112 102 refl (ap (byte_at 0) e))
pass_only t (Fail u (Stuck w)) is e = absurd (clash 112 102 refl (ap (byte_at 0) e))
pass_only t (Pass counts) is e = counts_form counts t is.1 (cc)

pub conflict_only : (t : List (List ℕ)) (f : Finding) → IsSoundFinding f → codes "nondeterministic\n" ∷ t ≡ finding_lines f → AreConflict t
conflict_only t (SerialCut u) is e = absurd (clash 110 115 refl (ap (byte_at 0) e))
conflict_only t (Nondeterministic u before earlier) is e = conflict_form u before earlier t is.1.0 is.0 is.1.1 (cc)
conflict_only t (Fail u Complete) is e = absurd (clash 110 102 refl (ap (byte_at 0) e))
conflict_only t (Fail u (Stuck w)) is e = absurd (clash 110 102 refl (ap (byte_at 0) e))
conflict_only t (Pass counts) is e = absurd (clash 110 112 refl (ap (byte_at 0) e))

pub cut_only : (t : List (List ℕ)) (f : Finding) → IsSoundFinding f → codes "serial-cut\n" ∷ t ≡ finding_lines f → AreRun t
cut_only t (SerialCut u) is e = run_form u t is.1 (cc)
cut_only t (Nondeterministic u before earlier) is e = absurd (clash 115 110 refl (ap (byte_at 0) e))
cut_only t (Fail u Complete) is e = absurd (clash 115 102 refl (ap (byte_at 0) e))
cut_only t (Fail u (Stuck w)) is e = absurd (clash 115 102 refl (ap (byte_at 0) e))
cut_only t (Pass counts) is e = absurd (clash 115 112 refl (ap (byte_at 0) e))

pub fail_byte : (why : Why) (t : List (List ℕ)) → byte_at 0 (fail_line why ∷ t) ≡ 102
fail_byte Complete t = refl
fail_byte (Stuck w) t = refl

pub fail_only : (why : Why) (t : List (List ℕ)) (f : Finding) → IsSoundFinding f → fail_line why ∷ t ≡ finding_lines f → AreRun t
fail_only why t (SerialCut u) is e = absurd (clash 102 115 refl (sym (fail_byte why t) ∙ ap (byte_at 0) e))
fail_only why t (Nondeterministic u before earlier) is e = absurd (clash 102 110 refl (sym (fail_byte why t) ∙ ap (byte_at 0) e))
fail_only why t (Fail u other) is e = run_form u t is.1 (cc)
fail_only why t (Pass counts) is e = absurd (clash 102 112 refl (sym (fail_byte why t) ∙ ap (byte_at 0) e))

-- a finding that any report may have
abbrev some_finding : Finding
some_finding = Fail [] Complete

pub a_judgement : (t : List (List ℕ)) × AreJudgement t
a_judgement = (finding_lines some_finding, (some_finding, (((tt, no_moves), tt), refl)))

pub a_finding : (t : List (List ℕ)) × AreFinding t
a_finding = (finding_lines some_finding, (some_finding, ((tt, no_moves), refl)))

-- ---- versions

-- a first line says one version
pub version_same : (a b : Version) → version_line a ≡ version_line b → a ≡ b
version_same One One e = refl
version_same One Two e = absurd (clash 49 50 refl (ap (λ x. get_or x 14 0) e))
version_same One Three e = absurd (clash 49 51 refl (ap (λ x. get_or x 14 0) e))
version_same Two One e = absurd (clash 50 49 refl (ap (λ x. get_or x 14 0) e))
version_same Two Two e = refl
version_same Two Three e = absurd (clash 50 51 refl (ap (λ x. get_or x 14 0) e))
version_same Three One e = absurd (clash 51 49 refl (ap (λ x. get_or x 14 0) e))
version_same Three Two e = absurd (clash 51 50 refl (ap (λ x. get_or x 14 0) e))
version_same Three Three e = refl

-- ---- a report

abbrev pub bound_line : ℕ → List ℕ
bound_line n = number_line (codes "bound ") n

-- the lines after the bound
abbrev pub behind : Version → Option ℕ → ℕ → Finding → List (List ℕ)
behind version serial local f = serial_lines serial ++ (local_lines version local ++ finding_lines f)

-- a report's lines after the first
record AreRest (version : Version) (t : List (List ℕ)) : Type 0 where
  report : Report
  limits : AreLimits report
  sound : IsSoundFinding report.finding
  is : version ≡ version_of report.serial report.local
  lines : t ≡ bound_line report.bound ∷ behind version report.serial report.local report.finding

rest_of : (version : Version) (t : List (List ℕ)) → AreReport (version_line version ∷ t) → AreRest version t
rest_of version t are =
    let said : Version = version_of are.0.serial are.0.local in
    let first : version_line version ≡ version_line said = let f = are.1.2 in cc in
    let is : version ≡ said = version_same version said first in
    record {
      report = are.0;
      limits = are.1.0;
      sound = are.1.1;
      is = is;
      lines = subst (λ (v : Version). t ≡ bound_line are.0.bound ∷ behind v are.0.serial are.0.local are.0.finding) (sym is) (let f = are.1.2 in cc);
    }

after_back : (version : Version) (serial : Option ℕ) (local : ℕ) (f : Finding) → version ≡ version_of serial local → IfSome serial IsSerialBound → local ≤ 16 → IsSoundFinding f → IfNone serial (IsJudgement f)
    → AreAfter version (behind version serial local f)
after_back One (Some n) zero f e some low is judged = ((n, (some.0, some.1, refl)), (f, (is, refl)))
after_back Two (Some n) (suc k) f e some low is judged = ((n, (some.0, some.1, refl)), ((suc k, (omega arith, low, refl)), (f, (is, refl))))
after_back Three None local f e some low is judged = ((local, (omega arith, low, refl)), (f, ((is, judged), refl)))
after_back One None local f e some low is judged = absurd cc
after_back One (Some n) (suc k) f e some low is judged = absurd cc
after_back Two None local f e some low is judged = absurd cc
after_back Two (Some n) zero f e some low is judged = absurd cc
after_back Three (Some n) zero f e some low is judged = absurd cc
after_back Three (Some n) (suc k) f e some low is judged = absurd cc

pub bounded_back : (version : Version) (t : List (List ℕ)) → AreReport (version_line version ∷ t) → AreBounded version t
bounded_back version t are =
    let rest = rest_of version t are in
    let r = rest.report in
    subst (AreBounded version) (sym rest.lines)
    ((r.bound, (omega arith, rest.limits.most, refl)), after_back version r.serial r.local r.finding rest.is rest.limits.serial rest.limits.local_few rest.sound rest.limits.judged)

limits_of : (bound : ℕ) (serial : Option ℕ) (local : ℕ) (f : Finding) → bound ≤ 256 → IfSome serial IsSerialBound → local ≤ 16 → IsSoundFinding f → IfNone serial (IsJudgement f) → AreLimits (parts_of bound serial local f)
limits_of bound serial local f most some low is judged = record { most = most; serial = some; local_few = low; within = is.0; judged = judged }

pub bounded_into : (version : Version) (t : List (List ℕ)) → AreBounded version t → AreReport (version_line version ∷ t)
bounded_into version [] are = absurd are
bounded_into One (b ∷ []) are = absurd are.1
bounded_into Two (b ∷ []) are = absurd are.1
bounded_into Two (b ∷ s ∷ []) are = absurd are.1.1
bounded_into Three (b ∷ []) are = absurd are.1
bounded_into One (b ∷ s ∷ t) are =
    let bound = are.0 in
    let serial = are.1.0 in
    let f = are.1.1 in
    (parts_of bound.0 (Some serial.0) 0 f.0, (limits_of bound.0 (Some serial.0) 0 f.0 bound.1.1 (serial.1.0, serial.1.1) (omega arith) f.1.0 tt, f.1.0, rw (bound.1.2, serial.1.2, f.1.1) refl))
bounded_into Two (b ∷ s ∷ l ∷ t) are = two are.0 are.1.0 are.1.1.0 are.1.1.1
  where
    two : IsNumberLine (codes "bound ") 0 256 b → IsNumberLine (codes "serial ") 1 256 s → IsNumberLine (codes "local ") 1 16 l → AreFinding t → AreReport (version_line Two ∷ b ∷ s ∷ l ∷ t)
    two bound serial (zero, (some, few, is)) f = absurd (omega arith)
    two bound serial (suc k, (some, few, is)) f =
        (parts_of bound.0 (Some serial.0) (suc k) f.0, (limits_of bound.0 (Some serial.0) (suc k) f.0 bound.1.1 (serial.1.0, serial.1.1) few f.1.0 tt, f.1.0, rw (bound.1.2, serial.1.2, is, f.1.1) refl))
bounded_into Three (b ∷ l ∷ t) are =
    let bound = are.0 in
    let local = are.1.0 in
    let f = are.1.1 in
    (parts_of bound.0 None local.0 f.0, (limits_of bound.0 None local.0 f.0 bound.1.1 tt local.1.1 f.1.0.0 f.1.0.1, f.1.0.0, rw (bound.1.2, local.1.2, f.1.1) refl))

pub a_local : (t : List (List ℕ)) × AreLocal t
a_local = (number_line (codes "local ") 1 ∷ a_finding.0, ((1, (omega arith, omega arith, refl)), a_finding.1))

pub some_after : (version : Version) → (t : List (List ℕ)) × AreAfter version t
some_after One = (number_line (codes "serial ") 1 ∷ a_finding.0, ((1, (omega arith, omega arith, refl)), a_finding.1))
some_after Two = (number_line (codes "serial ") 1 ∷ a_local.0, ((1, (omega arith, omega arith, refl)), a_local.1))
some_after Three = (number_line (codes "local ") 0 ∷ a_judgement.0, ((0, (omega arith, omega arith, refl)), a_judgement.1))
