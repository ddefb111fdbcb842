-- What is read of the lines of a report.
use Rattle.std.proofs.Common.{◌≡◌, ℕ, List, [], ◌∷◌, Option, Some, None, Result, Ok, Err, sym, ◌∙◌, ap, subst, arith}
use Rattle.std.specs.Prelude.{codes, IfOk}
use Rattle.std.specs.List.{concat}
use Rattle.lu_text.specs.Lines.{kept_lines}
use Rattle.lu_text.proofs.KeptLines.{joined_lines}
use Rattle.lu_text.specs.Words.{exactly_three}
use Rattle.lu_test.specs.declared.schedule.Move.{Move}
use Rattle.lu_test.specs.ScheduleText.{schedule_text}
use Rattle.lu_history.specs.declared.serial.SerialOutcome.{SerialOutcome}
use Rattle.lu_report.specs.declared.report.Finding.{Finding}
use Rattle.lu_report.specs.declared.report.Report.{Report}
use Rattle.lu_report.specs.declared.version.Version.{Version}
use Rattle.lu_report.specs.Text.{earlier_line, number_line, version_line, version_of}
use Rattle.lu_report.specs.Forms.{AreReport, BeginsWith, IsAfterBound, IsConflictOf, IsFaultLine, IsReportOf, Reads, SaysEarlier, SaysNumber, SaysSchedule, SaysVersion, Spells}
use Rattle.lu_report.proofs.PartLines.{behind, bound_line, conflict_found, conflict_only, same_number, version_same}

-- what a reader of a part gives is what a reader of the whole gives
pub reads_as : {A E : Type 0} (r : Result (Option A) E) (P Q : A → Type 0) → ((x : A) → P x → Q x) → ((x : A) → Q x → P x) → IfOk r (Reads P) → IfOk r (Reads Q)
reads_as (Ok (Some x)) P Q to back is = to x is
reads_as (Ok None) P Q to back none = λ x is. none x (back x is)
reads_as (Err e) P Q to back is = is

-- ---- three lines, and no more

three_lines : (lines : List (List ℕ)) (a b d : List ℕ) → Some (a, b, d) ≡ exactly_three lines → lines ≡ a ∷ b ∷ d ∷ []
three_lines [] a b d e = absurd cc
three_lines (x ∷ []) a b d e = absurd cc
three_lines (x ∷ y ∷ []) a b d e = absurd cc
three_lines (x ∷ y ∷ z ∷ []) a b d e =
    let same : ◌≡◌ {A = List ℕ × List ℕ × List ℕ} (a, b, d) (x, y, z) = cc in
    let first : a ≡ x = ap (λ (t : List ℕ × List ℕ × List ℕ). t.0) same in
    let second : b ≡ y = ap (λ (t : List ℕ × List ℕ × List ℕ). t.1) same in
    let third : d ≡ z = ap (λ (t : List ℕ × List ℕ × List ℕ). t.2) same in
    cc
three_lines (x ∷ y ∷ z ∷ w ∷ lines) a b d e = absurd cc

-- what the three lines of a conflict say
pub same_conflict : (lines : List (List ℕ)) (a b d : List ℕ) → Some (a, b, d) ≡ exactly_three lines → (f : Finding) → IsConflictOf lines f → (u : List Move) × (before : ℕ) × (earlier : SerialOutcome) × SaysSchedule a u × SaysNumber (codes "before ") 0 15 b before × SaysEarlier d earlier
same_conflict lines a b d is f are =
    let c = conflict_found lines (conflict_only lines f are.0 are.1) in
    let e = sym (three_lines lines a b d is) ∙ c.6 in
    (c.0, c.1, c.2, (c.3, cc), (omega arith, c.4, cc), (c.5, cc))

pub no_conflict : (lines : List (List ℕ)) → None ≡ exactly_three lines → (f : Finding) → IsConflictOf lines f → ⊥
no_conflict lines none f are =
    let c = conflict_found lines (conflict_only lines f are.0 are.1) in
    let e : None ≡ exactly_three (schedule_text c.0 ∷ number_line (codes "before ") c.1 ∷ earlier_line c.2 ∷ []) = none ∙ ap exactly_three c.6 in
    absurd cc

-- ---- the lines of a report, and those after that of its bound

module _ (lines others : List (List ℕ)) (first : List ℕ) (are : lines ≡ first ∷ others) (version : Version) (said : SaysVersion first version) (bound : ℕ) (rest : List (List ℕ)) (begins : BeginsWith (codes "bound ") 0 256 others bound rest) where
  whole : lines ≡ version_line version ∷ bound_line bound ∷ rest
  whole = are ∙ (ap (λ (x : List ℕ). x ∷ others) said ∙ ap (λ (x : List (List ℕ)). version_line version ∷ x) begins.2)

  pub report_of : (r : Report) → IsAfterBound version bound rest r → IsReportOf lines r
  report_of r is =
      let e : lines ≡ version_line version ∷ bound_line r.bound ∷ behind version r.serial r.local r.finding =
      whole ∙ (ap (λ (n : ℕ). version_line version ∷ bound_line n ∷ rest) (sym is.bounded) ∙ ap (λ (x : List (List ℕ)). version_line version ∷ bound_line r.bound ∷ x) is.lines) in
      (is.limits, is.sound, subst (λ (v : Version). lines ≡ version_line v ∷ bound_line r.bound ∷ behind v r.serial r.local r.finding) is.of e)

  pub after_of : (r : Report) → IsReportOf lines r → IsAfterBound version bound rest r
  after_of r is =
      let most = is.0.most in
      let few = begins.1 in
      let e = sym whole ∙ is.2 in
      let of : version ≡ version_of r.serial r.local = version_same version (version_of r.serial r.local) cc in
      let lines : rest ≡ behind (version_of r.serial r.local) r.serial r.local r.finding = cc in
      record {
        bounded = same_number (codes "bound ") r.bound bound (omega arith) (omega arith) cc;
        of = of;
        limits = is.0;
        sound = is.1;
        lines = subst (λ (v : Version). rest ≡ behind v r.serial r.local r.finding) (sym of) lines;
      }

-- ---- a text

pub spells_lines : (text : List ℕ) (lines : List (List ℕ)) (r : Report) → lines ≡ kept_lines text → IsReportOf lines r → Spells text r
spells_lines text lines r kept is = (is.0, is.1, sym (joined_lines text) ∙ ap concat (sym kept ∙ is.2))

-- lines of which none are read as a report
pub no_report : (lines same kept : List (List ℕ)) (line : ℕ) → lines ≡ kept → same ≡ kept → ((r : Report) → IsReportOf lines r → ⊥) → ((AreReport same → ⊥) → IsFaultLine same line) → IsFaultLine kept line
no_report lines same kept line are also none told =
    subst (λ (x : List (List ℕ)). IsFaultLine x line) also (told (λ is. none is.0 (subst (λ (x : List (List ℕ)). IsReportOf x is.0) (also ∙ sym are) is.1)))
