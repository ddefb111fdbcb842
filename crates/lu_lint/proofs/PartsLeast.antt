-- Whatever is said of a bundle, of each of its parts the least fault is the reader's.
use Rattle.std.proofs.Common.{◌≡◌, ℕ, ◌+◌, ◌<◌, ◌≤◌, inl, inr, true, false, Bool, cond, List, [], ◌∷◌, ◌++◌, append-nil, append_assoc, filter, map, Option, Some, None, Result, Ok, Err, refl, sym, ap, subst, ◌∙◌, arith}
use Rattle.std.specs.Prelude.{All, IsPermutation, MatchBool, length, nat_le}
use Rattle.std.specs.List.{filter_map}
use Rattle.std.specs.List.Sorted.{IsStableByKey}
use Rattle.std.specs.Ordering.{nat_cmp}
use Rattle.std.specs.Option.{option_to_list}
use Rattle.std.proofs.lemmas.List.Elements.{All-append, All-cons, All-map, All-nil, All-weaker, filter_map-append}
use Rattle.std.proofs.lemmas.List.Sorted.{All-permutation}
use Rattle.lu_text.specs.declared.fault.Fault.{Fault as Refused}
use Rattle.lu_text.specs.declared.fault.Fault.TheVariants.{At, Memory}
use Rattle.lu_text.specs.Faults.{meaning_of}
use Rattle.lu_text.specs.Lines.{kept_lines, lines_of, words_of}
use Rattle.lu_component.specs.Component.{Component}
use Rattle.lu_lang.proofs.Understood.{faulty_meaning}
use Rattle.lu_lang.specs.declared.fault.LangFaultKind.{LangFaultKind}
use Rattle.lu_lang.specs.Grammar.{component_grammar}
use Rattle.lu_test.specs.declared.schedule_fault.ScheduleFault.{ScheduleFault}
use Rattle.lu_test.specs.Matrix.{Matrix}
use Rattle.lu_test.specs.MatrixText.{matrix_grammar}
use Rattle.lu_history.specs.declared.serial.SerialOp.{SerialOp}
use Rattle.lu_report.specs.declared.fault.ReportFaultKind.TheVariants.{Form}
use Rattle.lu_report.specs.declared.faults.ReportLineFault.{ReportLineFault}
use Rattle.lu_report.specs.declared.form.LineForm.{LineForm}
use Rattle.lu_report.specs.declared.form.LineForm.TheVariants as form
use Rattle.lu_report.specs.EveryLine as report
use Rattle.lu_report.specs.Laws as reports
use Rattle.lu_report.proofs.FormLines as form_lines
use Rattle.lu_spec.specs.declared.fault.SpecLineFault.{SpecLineFault}
use Rattle.lu_spec.specs.EveryFault as specification
use Rattle.lu_spec.specs.Collecting.{has_begun, listing_from, lists}
use Rattle.lu_spec.specs.EveryFreeFault as free
use Rattle.lu_spec.specs.FreeSpecs.{is_marked}
use Rattle.lu_spec.specs.declared.marked_line.MarkedOp.{MarkedOp}
use Rattle.lu_spec.proofs.FreeFaultLines.{given_told}
use Rattle.lu_recorded.specs.declared.fault.RecordedFaultKind.{RecordedFaultKind}
use Rattle.lu_recorded.specs.RecordedText.{recorded_grammar}
use Rattle.lu_lint.specs.declared.linting.LintOptions.{LintOptions}
use Rattle.lu_spec.specs.declared.given.Marks.{Marks}
use Rattle.lu_lint.specs.declared.remark.Said.{Said}
use Rattle.lu_lint.specs.declared.remark.FaultKind.{FaultKind}
use Rattle.lu_lint.specs.declared.remark.FaultKind.TheVariants as part
use Rattle.lu_lint.specs.declared.remark.Cause.{Cause}
use Rattle.lu_lint.specs.declared.remark.Cause.TheVariants.{Fault, FifthPart, Separator, Warning, Run}
use Rattle.lu_lint.specs.declared.part_kind.PartKind.{PartKind}
use Rattle.lu_lint.specs.declared.part_kind.PartKind.TheVariants.{Specification, Report, History, Schedule}
use Rattle.lu_lint.specs.declared.component.ReadComponent.{ReadComponent}
use Rattle.lu_lint.specs.declared.component.ReadComponent.TheVariants as read
use Rattle.lu_text.specs.Bundle.{meant_parts}
use Rattle.lu_lint.specs.Bundle.{PartsSaid, component_read, component_said, is_blurred, matrix_read, matrix_said, separator_said, separators_from, warnings_said}
use Rattle.lu_lint.specs.Component.{component_lint, jumps}
use Rattle.lu_lint.specs.Further.{AfterMatrix, AfterThird, FourthSaid, fifth_said}
use Rattle.lu_lint.specs.Least.{ComponentLeast, FourthLeast, FurtherLeast, LeastIsReaders, MatrixLeast, NoneSaid, PartsLeast, ReadersAreLeast, ReadsOrLeast, ReportLeast, Same, SameOrJump, ScheduleFirst, SpecificationLeast, ThirdLeast, component_fault, matrix_fault, report_fault, schedule_fault, specification_fault}
use Rattle.lu_lint.specs.Lint.{Message, faults_in, message_here}
use Rattle.lu_lint.specs.Matrix.{lint_of, matrix_lint}
use Rattle.lu_lint.specs.Signatures.{signatures_meant}
use Rattle.lu_lint.specs.Runs.{RunsSaid}
use Rattle.lu_lint.specs.Said.{SaysFurther, above_next, line_below, said_faults, said_of_text, message_said}
use Rattle.lu_lint.specs.Schedule.{AgreeOn, schedule_faults, schedule_said}
use Rattle.lu_lint.specs.Parts.{ReportSaid, SaidOfSome, SpecificationSaid, PartSaid, histories_of, histories_said, history_said, report_said, specification_said, kind_of}
use Rattle.lu_lint.specs.Warnings.{holds, possible_of_lines, warned}
use Rattle.lu_lint.proofs.Going.{component_agrees, matrix_agrees}
use Rattle.lu_lint.proofs.KeptOrder.{IsOfKey, none_picked, picked_alike}
use Rattle.lu_lint.proofs.LeastLines.{AreBeside, Rise, all_after, least_left, least_moved, least_of_rising, least_right, readers_left, readers_moved, readers_right, readers_said, rise_sooner}
use Rattle.lu_lint.proofs.Moves.{schedule_agrees}

-- ---- of which part a fault is

-- by a number; 0 for what is no fault of a part
abbrev pub part_of : Cause → ℕ
part_of (Fault (part.Component kind) n) = 1
part_of (Fault (part.Matrix kind) n) = 2
part_of (Fault (part.Schedule kind) n) = 3
part_of (Fault (part.Report kind) n) = 4
part_of (Fault (part.Specification kind) n) = 5
part_of (Fault (part.History kind) n) = 6
part_of Separator = 0
part_of FifthPart = 0
part_of (Warning hint) = 0
part_of (Run hint) = 0

abbrev AreOf : ℕ → List Said → Type 0
AreOf p said = All (λ s. part_of s.cause ≡ p) said

abbrev AreNot : ℕ → List Said → Type 0
AreNot p said = All (λ s. part_of s.cause ≡ p → ⊥) said

of_none : (p : ℕ) (said : List Said) → said ≡ [] → AreOf p said
of_none p said e = subst (AreOf p) (sym e) (All-nil (λ s. part_of s.cause ≡ p))

of_both : (p : ℕ) (xs ys : List Said) → AreOf p xs → AreOf p ys → AreOf p (xs ++ ys)
of_both p xs ys = All-append (λ s. part_of s.cause ≡ p) xs ys

not_none : (p : ℕ) (said : List Said) → said ≡ [] → AreNot p said
not_none p said e = subst (AreNot p) (sym e) (All-nil (λ s. part_of s.cause ≡ p → ⊥))

not_both : (p : ℕ) (xs ys : List Said) → AreNot p xs → AreNot p ys → AreNot p (xs ++ ys)
not_both p xs ys = All-append (λ s. part_of s.cause ≡ p → ⊥) xs ys

not_other : (p q : ℕ) (said : List Said) → (q ≡ p → ⊥) → AreOf q said → AreNot p said
not_other p q said other are = All-weaker (λ s. part_of s.cause ≡ q) (λ s. part_of s.cause ≡ p → ⊥) (λ s is e. other (sym is ∙ e)) said are

no_component : (c : Cause) → (part_of c ≡ 1 → ⊥) → component_fault c ≡ None
no_component (Fault (part.Component kind) n) h = absurd (h refl)
no_component _ h = refl

no_matrix : (c : Cause) → (part_of c ≡ 2 → ⊥) → matrix_fault c ≡ None
no_matrix (Fault (part.Matrix kind) n) h = absurd (h refl)
no_matrix _ h = refl

no_schedule : (c : Cause) → (part_of c ≡ 3 → ⊥) → schedule_fault c ≡ None
no_schedule (Fault (part.Schedule kind) n) h = absurd (h refl)
no_schedule _ h = refl

no_report : (c : Cause) → (part_of c ≡ 4 → ⊥) → report_fault c ≡ None
no_report (Fault (part.Report kind) n) h = absurd (h refl)
no_report _ h = refl

no_specification : (c : Cause) → (part_of c ≡ 5 → ⊥) → specification_fault c ≡ None
no_specification (Fault (part.Specification kind) n) h = absurd (h refl)
no_specification _ h = refl

none_of : {Kind : Type 0} (fault_of : Cause → Option (Kind × ℕ)) (p : ℕ) → ((c : Cause) → (part_of c ≡ p → ⊥) → fault_of c ≡ None) → (said : List Said) → AreNot p said → NoneSaid fault_of said
none_of fault_of p law said are = All-weaker (λ s. part_of s.cause ≡ p → ⊥) (λ s. fault_of s.cause ≡ None) (λ s h. law s.cause h) said are

faults_of : {Kind : Type 0} (of : Kind → FaultKind) (p : ℕ) → ((kind : Kind) (n : ℕ) → part_of (Fault (of kind) n) ≡ p) → (above : ℕ) (faults : List (Message Kind)) → AreOf p (said_faults of above faults)
faults_of of p is above faults = All-map (λ s. part_of s.cause ≡ p) (message_said of above) faults (λ k d h. is _ _)

-- ---- what is said of the first two parts, of the lines between the parts, and by runs

separators_are : (n : ℕ) (lines : List (List ℕ)) → AreOf 0 (separators_from n lines)
separators_are n [] = All-nil (λ s. part_of s.cause ≡ 0)
separators_are n (line ∷ lines) = of_both 0 (separator_said n line) (separators_from (n + 1) lines) (go (is_blurred line)) (separators_are (n + 1) lines)
  where
    go : (b : Bool) → AreOf 0 (cond b (record { line = n; cause = Separator } ∷ []) [])
    go true = All-cons (λ s. part_of s.cause ≡ 0) (record { line = n; cause = Separator }) [] refl (All-nil (λ s. part_of s.cause ≡ 0))
    go false = All-nil (λ s. part_of s.cause ≡ 0)

warnings_are : (c : ReadComponent) (lines : List (List ℕ)) → AreOf 0 (warnings_said c lines)
warnings_are (read.Faulty f) lines = All-nil (λ s. part_of s.cause ≡ 0)
warnings_are (read.Sound c) lines =
    All-map (λ s. part_of s.cause ≡ 0) warned (filter (λ w. holds c w.unless_named) (possible_of_lines lines)) (λ k d h. refl)

matrix_are : (c : ReadComponent) (above : ℕ) (text : List ℕ) → AreOf 2 (matrix_said c above text)
matrix_are (read.Faulty f) above text = go (nat_le (length (signatures_meant f)) 16)
  where
    go : (few : Bool) → AreOf 2 (cond few (said_of_text (matrix_lint (signatures_meant f)) above text) [])
    go true = faults_of part.Matrix 2 (λ k n. refl) above (faults_in (matrix_lint (signatures_meant f)) text)
    go false = All-nil (λ s. part_of s.cause ≡ 2)
matrix_are (read.Sound c) above text = faults_of part.Matrix 2 (λ k n. refl) above (faults_in (lint_of c) text)

runs_are : (bound : ℕ) (c : ReadComponent) (m : Option Matrix) (above : ℕ) (text : List ℕ) (said : List Said) → RunsSaid bound c m above text said → AreOf 0 said
runs_are bound (read.Faulty f) m above text said h = of_none 0 said h
runs_are bound (read.Sound c) None above text said h = of_none 0 said h
runs_are bound (read.Sound c) (Some m) above text said h = subst (AreOf 0) (sym h.2) (All-map (λ s. part_of s.cause ≡ 0) _ h.0 (λ k d within. refl))

-- ---- what is said of the parts after the matrix

specification_are : (marks : Marks) (m : Option Matrix) (above : ℕ) (text : List ℕ) (said : List Said) → SaidOfSome marks m above text said → AreOf 5 said
specification_are marks None above text said h = of_none 5 said h
specification_are marks (Some m) above text said h = subst (AreOf 5) (sym h.2) (All-map (λ s. part_of s.cause ≡ 5) (specification_said above) h.0 (λ k d within. refl))

report_are : (above : ℕ) (text : List ℕ) (said : List Said) → ReportSaid above text said → AreOf 4 said
report_are above text said h = subst (AreOf 4) (sym h.2) (All-map (λ s. part_of s.cause ≡ 4) (report_said above) h.0 (λ k d within. refl))

schedule_are : (above : ℕ) (text : List ℕ) (said : List Said) → said ≡ schedule_said above (schedule_faults text) → AreOf 3 said
schedule_are above text said h = subst (AreOf 3) (sym h) (faults_of part.Schedule 3 (λ k n. refl) above (map (message_here 1) (schedule_faults text)))

history_are : {A : Type 0} (above : ℕ) (r : Result A (Refused RecordedFaultKind)) → AreOf 6 (history_said above r)
history_are above (Ok x) = All-nil (λ s. part_of s.cause ≡ 6)
history_are above (Err Memory) = All-nil (λ s. part_of s.cause ≡ 6)
history_are above (Err (At kind n)) = All-cons (λ s. part_of s.cause ≡ 6) (message_said part.History above (message_here n kind)) [] refl (All-nil (λ s. part_of s.cause ≡ 6))

histories_are : (m : Matrix) (above : ℕ) (texts : List (List ℕ)) → AreOf 6 (histories_said m above texts)
histories_are m above [] = All-nil (λ s. part_of s.cause ≡ 6)
histories_are m above (text ∷ texts) = of_both 6 (history_said above (meaning_of (recorded_grammar m) text)) (histories_said m (above_next above text) texts) (history_are above (meaning_of (recorded_grammar m) text)) (histories_are m (above_next above text) texts)

histories_of_are : (m : Option Matrix) (above : ℕ) (texts : List (List ℕ)) → AreOf 6 (histories_of m above texts)
histories_of_are None above texts = All-nil (λ s. part_of s.cause ≡ 6)
histories_of_are (Some m) above texts = histories_are m above texts

-- what is said of a third part
third_not : (marks : Marks) (p : ℕ) → p < 3 → (third : PartKind) (m : Option Matrix) (above : ℕ) (text : List ℕ) (said : List Said) → PartSaid marks third m above text said → AreNot p said
third_not marks p low Specification m above text said h = not_other p 5 said (λ e. omega arith) (specification_are marks m above text said h)
third_not marks p low Report m above text said h = not_other p 4 said (λ e. omega arith) (report_are above text said h)
third_not marks p low History m above text said h = not_other p 6 said (λ e. omega arith) (subst (AreOf 6) (sym h) (histories_of_are m above (text ∷ [])))
third_not marks p low Schedule m above text said h = not_other p 3 said (λ e. omega arith) (schedule_are above text said h)

fifth_are : (above : ℕ) (texts : List (List ℕ)) → AreOf 0 (fifth_said above texts)
fifth_are above [] = All-nil (λ s. part_of s.cause ≡ 0)
fifth_are above (text ∷ texts) = All-cons (λ s. part_of s.cause ≡ 0) (record { line = above; cause = FifthPart }) [] refl (All-nil (λ s. part_of s.cause ≡ 0))

-- of the parts after a schedule or a report only a specification's faults
fourth_not : (marks : Marks) (p : ℕ) → (5 ≡ p → ⊥) → (0 ≡ p → ⊥) → (m : Option Matrix) (above : ℕ) (texts : List (List ℕ)) (said : List Said) → FourthSaid marks m above texts said → AreNot p said
fourth_not marks p five zero m above [] said h = not_none p said h
fourth_not marks p five zero m above (text ∷ texts) said h =
    subst (AreNot p) (sym h.2) (not_both p h.0 (fifth_said (above_next above text) texts) (not_other p 5 h.0 five (specification_are marks m above text h.0 h.1)) (not_other p 0 _ zero (fifth_are (above_next above text) texts)))

-- of those after a third part
after_third_not : (marks : Marks) (p : ℕ) → (5 ≡ p → ⊥) → (0 ≡ p → ⊥) → (6 ≡ p → ⊥) → (third : PartKind) (m : Option Matrix) (above : ℕ) (texts : List (List ℕ)) (said : List Said) → AfterThird marks third m above texts said → AreNot p said
after_third_not marks p five zero six Specification m above texts said h = not_other p 6 said six (subst (AreOf 6) (sym h) (histories_of_are m above texts))
after_third_not marks p five zero six Report m above texts said h = fourth_not marks p five zero m above texts said h
after_third_not marks p five zero six History m above texts said h = not_other p 6 said six (subst (AreOf 6) (sym h) (histories_of_are m above texts))
after_third_not marks p five zero six Schedule m above texts said h = fourth_not marks p five zero m above texts said h

-- of the parts after the matrix no fault of the component or the matrix is said
further_not : (marks : Marks) (p : ℕ) → 0 < p → p < 3 → (m : Option Matrix) (above : ℕ) (parts : List (List ℕ)) (said : List Said) → AfterMatrix marks m above parts said → AreNot p said
further_not marks p some low m above [] said h = not_none p said h
further_not marks p some low m above (text ∷ texts) said h =
    subst (AreNot p) (sym h.2.2) (not_both p h.0 h.2.0 (third_not marks p low (kind_of text) m above text h.0 h.1) (after_third_not marks p (λ e. omega arith) (λ e. omega arith) (λ e. omega arith) (kind_of text) m (above_next above text) texts h.2.0 h.2.1))

-- ---- a specification and a report: their faults rise

spec_rises : (m : Matrix) (n : ℕ) (gathered : List (List SerialOp)) (lines : List (List ℕ)) (faults : List SpecLineFault) → specification.AreFaultsFrom m n gathered lines faults → Rise n (map (λ f. f.line) faults)
spec_rises m n gathered [] faults h = subst (λ (fs : List SpecLineFault). Rise n (map (λ f. f.line) fs)) (sym h) tt
spec_rises m n gathered (line ∷ lines) faults h = subst (λ (fs : List SpecLineFault). Rise n (map (λ f. f.line) fs)) (sym h.6) (go h.0 h.3 (spec_rises m (n + 1) h.1 lines h.2 h.5))
  where
    go : (fault : Option SpecLineFault) → specification.IsJudgedAs m gathered n line fault → Rise (n + 1) (map (λ f. f.line) h.2) → Rise n (map (λ f. f.line) (option_to_list fault ++ h.2))
    go None judged later = rise_sooner n (n + 1) _ (omega arith) later
    go (Some f) judged later = (omega (arith, judged.0), subst (λ (k : ℕ). Rise (k + 1) (map (λ f. f.line) h.2)) (sym judged.0) later)

specs_rise : (m : Matrix) (lines : List (List ℕ)) (faults : List SpecLineFault) → specification.AreFaultsOfLines m lines faults → Rise 1 (map (λ f. f.line) faults)
specs_rise m [] faults h = subst (λ (fs : List SpecLineFault). Rise 1 (map (λ f. f.line) fs)) (sym h) (omega arith, tt)
specs_rise m (first ∷ lines) faults h = subst (λ (fs : List SpecLineFault). Rise 1 (map (λ f. f.line) fs)) (sym h.4) (go h.0 h.2 (spec_rises m 2 [] lines h.1 h.3))
  where
    go : (fault : Option SpecLineFault) → specification.IsFirstLineFault first fault → Rise 2 (map (λ f. f.line) h.1) → Rise 1 (map (λ f. f.line) (option_to_list fault ++ h.1))
    go None judged later = rise_sooner 1 2 _ (omega arith) later
    go (Some f) judged later =
        let one : f.line ≡ 1 = ap (λ (x : SpecLineFault). x.line) judged.1 in
        (omega arith, subst (λ (k : ℕ). Rise (k + 1) (map (λ f. f.line) h.1)) (sym one) later)

-- of a text with marks
free_rises : (m : Matrix) (begun : Bool) (n : ℕ) (gathered : List (List MarkedOp)) (lines : List (List ℕ)) (faults : List SpecLineFault) → free.AreFreeFaultsFrom m gathered (listing_from begun n lines) faults → Rise n (map (λ f. f.line) faults)
free_rises m begun n gathered [] faults h = subst (λ (fs : List SpecLineFault). Rise n (map (λ f. f.line) fs)) (sym h) tt
free_rises m begun n gathered (line ∷ lines) faults h = go (lists begun (words_of line)) (λ g fs listed. free_rises m (has_begun begun (words_of line)) (n + 1) g lines fs listed) h
  where
    one : (fault : Option SpecLineFault) (after : List (List MarkedOp)) (others : List SpecLineFault) → free.IsFreelyJudged m gathered (n, words_of line) fault after → Rise (n + 1) (map (λ f. f.line) others) → Rise n (map (λ f. f.line) (option_to_list fault ++ others))
    one None after others judged later = rise_sooner n (n + 1) _ (omega arith) later
    one (Some f) after others judged later = (omega (arith, judged.0), subst (λ (k : ℕ). Rise (k + 1) (map (λ f. f.line) others)) (sym judged.0) later)

    go : (b : Bool) → ((g : List (List MarkedOp)) (fs : List SpecLineFault) → free.AreFreeFaultsFrom m g (listing_from (has_begun begun (words_of line)) (n + 1) lines) fs → Rise (n + 1) (map (λ f. f.line) fs)) → free.AreFreeFaultsFrom m gathered ((cond b ((n, words_of line) ∷ []) []) ++ listing_from (has_begun begun (words_of line)) (n + 1) lines) faults → Rise n (map (λ f. f.line) faults)
    go false later listed = rise_sooner n (n + 1) _ (omega arith) (later gathered faults listed)
    go true later listed = subst (λ (fs : List SpecLineFault). Rise n (map (λ f. f.line) fs)) (sym listed.5) (one listed.0 listed.1 listed.2 listed.3 (later listed.1 listed.2 listed.4))

given_rise : (marks : Marks) (m : Matrix) (text : List ℕ) (faults : List SpecLineFault) → free.AreGivenFaults marks m text faults → Rise 1 (map (λ f. f.line) faults)
given_rise marks m text faults are = go (is_marked marks text) are
  where
    go : (b : Bool) → MatchBool b (free.AreFreeFaults m text faults) (specification.AreSpecFaults m text faults) → Rise 1 (map (λ f. f.line) faults)
    go true listed = free_rises m false 1 [] (lines_of text) faults listed
    go false listed = specs_rise m (kept_lines text) faults listed

missing_rises : (n : ℕ) (wanted : Option LineForm) → Rise n (map (λ (f : ReportLineFault). f.line) (report.missing n wanted))
missing_rises n None = tt
missing_rises n (Some form.End) = tt
missing_rises n (Some _) = (omega arith, tt)

reports_rise : (version : _) (n : ℕ) (lines : List (List ℕ)) (wanted : Option LineForm) (faults : List ReportLineFault) → report.AreFaultsFrom version n lines wanted faults → Rise n (map (λ f. f.line) faults)
reports_rise version n [] wanted faults h = subst (λ (fs : List ReportLineFault). Rise n (map (λ f. f.line) fs)) (sym h) (missing_rises n wanted)
reports_rise version n (line ∷ lines) wanted faults h = subst (λ (fs : List ReportLineFault). Rise n (map (λ f. f.line) fs)) (sym h.4) (go wanted h.0 h.2 (reports_rise version (n + 1) lines _ h.1 h.3))
  where
    go : (wanted : Option LineForm) (fault : Option ReportLineFault) → report.IsJudgedAs n wanted line fault → Rise (n + 1) (map (λ f. f.line) h.1) → Rise n (map (λ f. f.line) (option_to_list fault ++ h.1))
    go None None judged later = rise_sooner n (n + 1) _ (omega arith) later
    go None (Some f) judged later = absurd cc
    go (Some form) None judged later = rise_sooner n (n + 1) _ (omega arith) later
    go (Some form) (Some f) judged later =
        let here : f.line ≡ n = ap (λ (x : ReportLineFault). x.line) judged.1 in
        (omega arith, subst (λ (k : ℕ). Rise (k + 1) (map (λ f. f.line) h.1)) (sym here) later)

-- ---- each part by itself

component_beside : AreBeside component_lint SameOrJump
component_beside = record {
  itself = λ kind. inl refl;
  others = λ d line lines kind. jumps_are kind _;
  at_end = λ d kind. jumps_are kind _;
}
  where
    jumps_are : (kind : LangFaultKind) (backs : List ℕ) → All (λ other. SameOrJump kind other.0) (jumps backs)
    jumps_are kind backs = All-map (λ other. SameOrJump kind other.0) _ backs (λ k d h. inr refl)

component_here : (text : List ℕ) → ComponentLeast text (said_of_text component_lint 0 text)
component_here text =
    readers_said component_fault part.Component (λ k n. refl) SameOrJump 0 (meaning_of component_grammar text) (faults_in component_lint text) (component_agrees text)
    (λ kind n e. all_after component_lint SameOrJump component_beside [] 1 component_lint.grammar.nothing (lines_of text) kind n (faulty_meaning text ∙ e))

matrix_beside : (c : Component) → AreBeside (lint_of c) Same
matrix_beside c = record {
  itself = λ kind. refl;
  others = λ d line lines kind. All-nil (λ other. Same kind other.0);
  at_end = λ d kind. All-nil (λ other. Same kind other.0);
}

matrix_here : (c : Component) (above : ℕ) (text : List ℕ) → LeastIsReaders matrix_fault Same (meaning_of (matrix_grammar c) text) (said_of_text (lint_of c) above text)
matrix_here c above text =
    readers_said matrix_fault part.Matrix (λ k n. refl) Same above (meaning_of (matrix_grammar c) text) (faults_in (lint_of c) text) (matrix_agrees c text)
    (λ kind n e. all_after (lint_of c) Same (matrix_beside c) [] 1 (lint_of c).grammar.nothing (lines_of text) kind n e)

specification_here : (marks : Marks) (m : Matrix) (above : ℕ) (text : List ℕ) (said : List Said) → SpecificationSaid marks m above text said → SpecificationLeast marks (Some m) text said
specification_here marks m above text said h = subst (SpecificationLeast marks (Some m) text) (sym h.2) (go h.0 (given_told marks m text h.0 h.1) (given_rise marks m text h.0 h.1))
  where
    go : (faults : List SpecLineFault) → free.IsGivenListedAsRead marks m text faults → Rise 1 (map (λ f. f.line) faults) → SpecificationLeast marks (Some m) text (map (specification_said above) faults)
    go [] listed rise = inl (listed, All-nil (λ s. specification_fault s.cause ≡ None))
    go (first ∷ others) listed rise = inr (first.kind, first.line, listed, least_of_rising (λ (f : SpecLineFault). f.line) (λ (f : SpecLineFault). f.kind) specification_fault part.Specification (λ k n. refl) above 1 first others rise)

report_here : (above : ℕ) (text : List ℕ) (said : List Said) → ReportSaid above text said → ReportLeast text said
report_here above text said h = subst (ReportLeast text) (sym h.2) (go h.0 (form_lines.listed_as_read text h.0 h.1) (reports_rise _ 1 (kept_lines text) _ h.0 h.1))
  where
    go : (faults : List ReportLineFault) → reports.IsListedAsRead text faults → Rise 1 (map (λ f. f.line) faults) → ReportLeast text (map (report_said above) faults)
    go [] listed rise = inl (listed, All-nil (λ s. report_fault s.cause ≡ None))
    go (first ∷ others) listed rise = inr (Form, first.line, listed, least_of_rising (λ (f : ReportLineFault). f.line) (λ (f : ReportLineFault). Form) report_fault part.Report (λ k n. refl) above 1 first others rise)

-- ---- among what is said of all parts

module _ {Kind : Type 0} (fault_of : Cause → Option (Kind × ℕ)) (reads : Type 0) (refuses : Kind → ℕ → Type 0) where
  either_left : (xs ys : List Said) → NoneSaid fault_of ys → ReadsOrLeast fault_of reads refuses xs → ReadsOrLeast fault_of reads refuses (xs ++ ys)
  either_left xs ys none (inl (read, others)) = inl (read, All-append (λ s. fault_of s.cause ≡ None) xs ys others none)
  either_left xs ys none (inr (kind, n, refused, least)) = inr (kind, n, refused, least_left fault_of (Same kind) xs ys kind n none least)

  either_right : (xs ys : List Said) → NoneSaid fault_of xs → ReadsOrLeast fault_of reads refuses ys → ReadsOrLeast fault_of reads refuses (xs ++ ys)
  either_right xs ys none (inl (read, others)) = inl (read, All-append (λ s. fault_of s.cause ≡ None) xs ys none others)
  either_right xs ys none (inr (kind, n, refused, least)) = inr (kind, n, refused, least_right fault_of (Same kind) xs ys kind n none least)

  either_moved : (xs ys : List Said) → IsPermutation xs ys → ReadsOrLeast fault_of reads refuses xs → ReadsOrLeast fault_of reads refuses ys
  either_moved xs ys moved (inl (read, others)) = inl (read, All-permutation (λ s. fault_of s.cause ≡ None) xs ys moved others)
  either_moved xs ys moved (inr (kind, n, refused, least)) = inr (kind, n, refused, least_moved fault_of (Same kind) xs ys kind n moved least)

-- a part's segment, between what is said before it and after it
module _ {Kind : Type 0} (fault_of : Cause → Option (Kind × ℕ)) (reads : Type 0) (refuses : Kind → ℕ → Type 0) (first third behind runs found said : List Said) (parts : found ≡ (first ++ (third ++ behind)) ++ runs) (moved : IsPermutation found said) where
  of_third : NoneSaid fault_of first → NoneSaid fault_of behind → NoneSaid fault_of runs → ReadsOrLeast fault_of reads refuses third → ReadsOrLeast fault_of reads refuses said
  of_third none_first none_after none_runs h =
      either_moved fault_of reads refuses found said moved
      (subst (ReadsOrLeast fault_of reads refuses) (sym parts)
      (either_left fault_of reads refuses (first ++ (third ++ behind)) runs none_runs
      (either_right fault_of reads refuses first (third ++ behind) none_first
      (either_left fault_of reads refuses third behind none_after h))))

  of_after : NoneSaid fault_of first → NoneSaid fault_of third → NoneSaid fault_of runs → ReadsOrLeast fault_of reads refuses behind → ReadsOrLeast fault_of reads refuses said
  of_after none_first none_third none_runs h =
      either_moved fault_of reads refuses found said moved
      (subst (ReadsOrLeast fault_of reads refuses) (sym parts)
      (either_left fault_of reads refuses (first ++ (third ++ behind)) runs none_runs
      (either_right fault_of reads refuses first (third ++ behind) none_first
      (either_right fault_of reads refuses third behind none_third h))))

-- where a matrix is read
some_here : (marks : Marks) (m : Option Matrix) (above : ℕ) (text : List ℕ) (said : List Said) → SaidOfSome marks m above text said → SpecificationLeast marks m text said
some_here marks None above text said h = tt
some_here marks (Some m) above text said h = specification_here marks m above text said h

with_fifth : (marks : Marks) (m : Option Matrix) (text : List ℕ) (said fifth : List Said) → AreOf 0 fifth → SpecificationLeast marks m text said → SpecificationLeast marks m text (said ++ fifth)
with_fifth marks None text said fifth are h = tt
with_fifth marks (Some m) text said fifth are h = either_left specification_fault _ _ said fifth (none_of specification_fault 5 no_specification fifth (not_other 5 0 fifth (λ e. omega arith) are)) h

fourth_here : (marks : Marks) (m : Option Matrix) (above : ℕ) (text : List ℕ) (texts : List (List ℕ)) (said : List Said) → FourthSaid marks m above (text ∷ texts) said → SpecificationLeast marks m text said
fourth_here marks m above text texts said h = subst (SpecificationLeast marks m text) (sym h.2) (with_fifth marks m text h.0 (fifth_said (above_next above text) texts) (fifth_are (above_next above text) texts) (some_here marks m above text h.0 h.1))

no_fourth_after_specification : (marks : Marks) (m : Option Matrix) (texts : List (List ℕ)) (said : List Said) → FourthLeast marks Specification m texts said
no_fourth_after_specification marks m [] said = tt
no_fourth_after_specification marks m (text ∷ texts) said = tt

no_fourth_after_history : (marks : Marks) (m : Option Matrix) (texts : List (List ℕ)) (said : List Said) → FourthLeast marks History m texts said
no_fourth_after_history marks m [] said = tt
no_fourth_after_history marks m (text ∷ texts) said = tt

abbrev of_schedule : Said → Option ScheduleFault
of_schedule s = schedule_fault s.cause

messages_on_first : (above : ℕ) (faults : List ScheduleFault) → All (λ t. IsOfKey (λ (s : Said). s.line) of_schedule (line_below above 1) (message_said part.Schedule above t)) (map (message_here 1) faults)
messages_on_first above faults = All-map (λ t. IsOfKey (λ (s : Said). s.line) of_schedule (line_below above 1) (message_said part.Schedule above t)) (message_here 1) faults (λ k d h. inr refl)

no_schedule_in : (said : List Said) → AreNot 3 said → All (λ s. of_schedule s ≡ None) said
no_schedule_in said are = All-weaker (λ s. part_of s.cause ≡ 3 → ⊥) (λ s. of_schedule s ≡ None) (λ s h. no_schedule s.cause h) said are

picked_all : (above : ℕ) (faults : List ScheduleFault) → filter_map of_schedule (schedule_said above faults) ≡ faults
picked_all above [] = refl
picked_all above (fault ∷ faults) = ap (λ (fs : List ScheduleFault). fault ∷ fs) (picked_all above faults)

module _ (first third behind runs found said : List Said) (parts : found ≡ (first ++ (third ++ behind)) ++ runs) (moved : IsPermutation found said) (stable : IsStableByKey (λ s. s.line) nat_cmp found said) (not_first : (p : ℕ) → 3 ≤ p → AreNot p first) (are_runs : AreOf 0 runs) where
  specification_third : (marks : Marks) (m : Option Matrix) (text : List ℕ) → AreNot 5 behind → SpecificationLeast marks m text third → SpecificationLeast marks m text said
  specification_third marks None text not_after h = tt
  specification_third marks (Some m) text not_after h =
      of_third specification_fault _ _ first third behind runs found said parts moved
      (none_of specification_fault 5 no_specification first (not_first 5 (omega arith)))
      (none_of specification_fault 5 no_specification behind not_after)
      (none_of specification_fault 5 no_specification runs (not_other 5 0 runs (λ e. omega arith) are_runs)) h

  specification_fourth : (marks : Marks) (m : Option Matrix) (text : List ℕ) → AreNot 5 third → SpecificationLeast marks m text behind → SpecificationLeast marks m text said
  specification_fourth marks None text not_third h = tt
  specification_fourth marks (Some m) text not_third h =
      of_after specification_fault _ _ first third behind runs found said parts moved
      (none_of specification_fault 5 no_specification first (not_first 5 (omega arith)))
      (none_of specification_fault 5 no_specification third not_third)
      (none_of specification_fault 5 no_specification runs (not_other 5 0 runs (λ e. omega arith) are_runs)) h

  report_third : (text : List ℕ) → AreNot 4 behind → ReportLeast text third → ReportLeast text said
  report_third text not_after h =
      of_third report_fault _ _ first third behind runs found said parts moved
      (none_of report_fault 4 no_report first (not_first 4 (omega arith)))
      (none_of report_fault 4 no_report behind not_after)
      (none_of report_fault 4 no_report runs (not_other 4 0 runs (λ e. omega arith) are_runs)) h

  -- the faults of a schedule stand on one line, so they are said in the order in which they are found
  schedule_third : (above : ℕ) (text : List ℕ) → AreNot 3 behind → third ≡ schedule_said above (schedule_faults text) → ScheduleFirst text said
  schedule_third above text not_after is =
      let key = λ (s : Said). s.line in
      let place = line_below above 1 in
      let one : Said = record { line = place; cause = Separator } in
      let P : Said → Type 0 = IsOfKey key of_schedule place in
      let none_first = no_schedule_in first (not_first 3 (omega arith)) in
      let none_after = no_schedule_in behind not_after in
      let none_runs = no_schedule_in runs (not_other 3 0 runs (λ e. omega arith) are_runs) in
      let left : (xs : List Said) → All (λ s. of_schedule s ≡ None) xs → All P xs = λ xs none. All-weaker (λ s. of_schedule s ≡ None) P (λ s e. inl e) xs none in
      let here : All P third = subst (All P) (sym is) (All-map P _ (map (message_here 1) (schedule_faults text)) (messages_on_first above (schedule_faults text))) in
      let all : All P found = subst (All P) (sym parts) (All-append P (first ++ (third ++ behind)) runs (All-append P first (third ++ behind) (left first none_first) (All-append P third behind here (left behind none_after))) (left runs none_runs)) in
      let same : filter_map of_schedule said ≡ schedule_faults text =
      picked_alike key of_schedule place one found said refl moved stable all
      ∙ (ap (filter_map of_schedule) parts
      ∙ (filter_map-append of_schedule (first ++ (third ++ behind)) runs
      ∙ (ap (λ (xs : List ScheduleFault). filter_map of_schedule (first ++ (third ++ behind)) ++ xs) (none_picked key of_schedule runs none_runs)
      ∙ (append-nil (filter_map of_schedule (first ++ (third ++ behind)))
      ∙ (filter_map-append of_schedule first (third ++ behind)
      ∙ (ap (λ (xs : List ScheduleFault). xs ++ filter_map of_schedule (third ++ behind)) (none_picked key of_schedule first none_first)
      ∙ (filter_map-append of_schedule third behind
      ∙ (ap (λ (xs : List ScheduleFault). filter_map of_schedule third ++ xs) (none_picked key of_schedule behind none_after)
      ∙ (append-nil (filter_map of_schedule third)
      ∙ (ap (filter_map of_schedule) is ∙ picked_all above (schedule_faults text))))))))))) in
      subst (AgreeOn _) (sym same) (schedule_agrees text)

  -- a third part that is this, and the one after it
  third_least : (marks : Marks) (third_is : PartKind) (m : Option Matrix) (above : ℕ) (text : List ℕ) (texts : List (List ℕ)) → PartSaid marks third_is m above text third → AfterThird marks third_is m (above_next above text) texts behind → ThirdLeast marks third_is m text said × FourthLeast marks third_is m texts said
  third_least marks Specification m above text texts t b =
      (specification_third marks m text (not_other 5 6 behind (λ e. omega arith) (subst (AreOf 6) (sym b) (histories_of_are m (above_next above text) texts))) (some_here marks m above text third t), no_fourth_after_specification marks m texts said)
  third_least marks History m above text texts t b = (tt, no_fourth_after_history marks m texts said)
  third_least marks Report m above text texts t b =
      (report_third text (fourth_not marks 4 (λ e. omega arith) (λ e. omega arith) m (above_next above text) texts behind b) (report_here above text third t), fourth texts b)
    where
      fourth : (texts : List (List ℕ)) → FourthSaid marks m (above_next above text) texts behind → FourthLeast marks Report m texts said
      fourth [] b = tt
      fourth (text' ∷ texts) b = specification_fourth marks m text' (not_other 5 4 third (λ e. omega arith) (report_are above text third t)) (fourth_here marks m _ text' texts behind b)
  third_least marks Schedule m above text texts t b =
      (schedule_third above text (fourth_not marks 3 (λ e. omega arith) (λ e. omega arith) m (above_next above text) texts behind b) t, fourth texts b)
    where
      fourth : (texts : List (List ℕ)) → FourthSaid marks m (above_next above text) texts behind → FourthLeast marks Schedule m texts said
      fourth [] b = tt
      fourth (text' ∷ texts) b = specification_fourth marks m text' (not_other 5 3 third (λ e. omega arith) (schedule_are above text third t)) (fourth_here marks m _ text' texts behind b)

-- ---- all parts

lines_not : (p : ℕ) → (0 ≡ p → ⊥) → (1 ≡ p → ⊥) → (2 ≡ p → ⊥) → (n : ℕ) (lines : List (List ℕ)) (component : List ℕ) (behind : List Said) → AreOf 2 behind → AreNot p (separators_from n lines ++ (component_said component ++ behind))
lines_not p zero one two n lines component behind are_after =
    let warned = warnings_said (component_read component) (lines_of component) in
    not_both p (separators_from n lines) (component_said component ++ behind) (not_other p 0 _ zero (separators_are n lines))
    (not_both p (component_said component) behind
    (not_both p (said_of_text component_lint 0 component) warned (not_other p 1 _ one (faults_of part.Component 1 (λ k n. refl) 0 (faults_in component_lint component))) (not_other p 0 _ zero (warnings_are (component_read component) (lines_of component))))
    (not_other p 2 behind two are_after))

matrix_left : (c : ReadComponent) (text : List ℕ) (xs ys : List Said) → AreNot 2 ys → MatrixLeast c text xs → MatrixLeast c text (xs ++ ys)
matrix_left (read.Faulty f) text xs ys are h = tt
matrix_left (read.Sound c) text xs ys are h = readers_left matrix_fault Same (meaning_of (matrix_grammar c) text) xs ys (none_of matrix_fault 2 no_matrix ys are) h

matrix_right : (c : ReadComponent) (text : List ℕ) (xs ys : List Said) → AreNot 2 xs → MatrixLeast c text ys → MatrixLeast c text (xs ++ ys)
matrix_right (read.Faulty f) text xs ys are h = tt
matrix_right (read.Sound c) text xs ys are h = readers_right matrix_fault Same (meaning_of (matrix_grammar c) text) xs ys (none_of matrix_fault 2 no_matrix xs are) h

matrix_moved : (c : ReadComponent) (text : List ℕ) (xs ys : List Said) → IsPermutation xs ys → MatrixLeast c text xs → MatrixLeast c text ys
matrix_moved (read.Faulty f) text xs ys moved h = tt
matrix_moved (read.Sound c) text xs ys moved h = readers_moved matrix_fault Same (meaning_of (matrix_grammar c) text) xs ys moved h

judged_here : (c : ReadComponent) (above : ℕ) (text : List ℕ) → MatrixLeast c text (matrix_said c above text)
judged_here (read.Faulty f) above text = tt
judged_here (read.Sound c) above text = matrix_here c above text

module _ (component : List ℕ) (lines : List (List ℕ)) (behind further runs found said : List Said) (parts : found ≡ ((separators_from 1 lines ++ (component_said component ++ behind)) ++ further) ++ runs) (moved : IsPermutation found said) (are_after : AreOf 2 behind) (are_runs : AreOf 0 runs) where
  component_least : AreNot 1 further → ComponentLeast component said
  component_least not_further =
      let r = meaning_of component_grammar component in
      let reported = said_of_text component_lint 0 component in
      let warned = warnings_said (component_read component) (lines_of component) in
      let separators = separators_from 1 lines in
      let none : (xs : List Said) → AreNot 1 xs → NoneSaid component_fault xs = none_of component_fault 1 no_component in
      readers_moved component_fault SameOrJump r found said moved
      (subst (LeastIsReaders component_fault SameOrJump r) (sym parts)
      (readers_left component_fault SameOrJump r ((separators ++ ((reported ++ warned) ++ behind)) ++ further) runs (none runs (not_other 1 0 runs (λ e. omega arith) are_runs))
      (readers_left component_fault SameOrJump r (separators ++ ((reported ++ warned) ++ behind)) further (none further not_further)
      (readers_right component_fault SameOrJump r separators ((reported ++ warned) ++ behind) (none separators (not_other 1 0 separators (λ e. omega arith) (separators_are 1 lines)))
      (readers_left component_fault SameOrJump r (reported ++ warned) behind (none behind (not_other 1 2 behind (λ e. omega arith) are_after))
      (readers_left component_fault SameOrJump r reported warned (none warned (not_other 1 0 warned (λ e. omega arith) (warnings_are (component_read component) (lines_of component)))) (component_here component)))))))

  matrix_least : (matrix : List ℕ) → behind ≡ matrix_said (component_read component) (above_next 0 component) matrix → AreNot 2 further → MatrixLeast (component_read component) matrix said
  matrix_least matrix is not_further =
      let c = component_read component in
      let reported = said_of_text component_lint 0 component in
      let warned = warnings_said c (lines_of component) in
      let separators = separators_from 1 lines in
      let here : MatrixLeast c matrix behind = subst (MatrixLeast c matrix) (sym is) (judged_here c (above_next 0 component) matrix) in
      matrix_moved c matrix found said moved
      (subst (MatrixLeast c matrix) (sym parts)
      (matrix_left c matrix ((separators ++ ((reported ++ warned) ++ behind)) ++ further) runs (not_other 2 0 runs (λ e. omega arith) are_runs)
      (matrix_left c matrix (separators ++ ((reported ++ warned) ++ behind)) further not_further
      (matrix_right c matrix separators ((reported ++ warned) ++ behind) (not_other 2 0 separators (λ e. omega arith) (separators_are 1 lines))
      (matrix_right c matrix (reported ++ warned) behind (not_both 2 reported warned (not_other 2 1 reported (λ e. omega arith) (faults_of part.Component 1 (λ k n. refl) 0 (faults_in component_lint component))) (not_other 2 0 warned (λ e. omega arith) (warnings_are c (lines_of component)))) here)))))

-- the parts after the matrix
further_least : (marks : Marks) (m : Option Matrix) (above : ℕ) (texts : List (List ℕ)) (first further runs found said : List Said) → found ≡ (first ++ further) ++ runs → IsPermutation found said → IsStableByKey (λ s. s.line) nat_cmp found said → ((p : ℕ) → 3 ≤ p → AreNot p first) → AreOf 0 runs → AfterMatrix marks m above texts further → FurtherLeast marks m texts said
further_least marks m above [] first further runs found said parts moved stable not_first are_runs h = tt
further_least marks m above (text ∷ texts) first further runs found said parts moved stable not_first are_runs h =
    let all : found ≡ (first ++ (h.0 ++ h.2.0)) ++ runs = parts ∙ ap (λ (xs : List Said). (first ++ xs) ++ runs) h.2.2 in
    third_least first h.0 h.2.0 runs found said all moved stable not_first are_runs marks (kind_of text) m above text texts h.1 h.2.1

-- the same, part after part
in_order : (a b m f r : List Said) → a ++ (b ++ (m ++ (f ++ r))) ≡ ((a ++ (b ++ m)) ++ f) ++ r
in_order a b m f r =
    ap (λ (x : List Said). a ++ x) (sym (append_assoc b m (f ++ r)))
    ∙ (sym (append_assoc a (b ++ m) (f ++ r)) ∙ sym (append_assoc (a ++ (b ++ m)) f r))

by_parts : (options : LintOptions) (parts lines : List (List ℕ)) (found said : List Said) → SaysFurther (PartsSaid options parts) (separators_from 1 lines) found → IsPermutation found said → IsStableByKey (λ s. s.line) nat_cmp found said → PartsLeast options.marks parts said
by_parts options [] lines found said h moved stable = tt
by_parts options (component ∷ []) lines found said h moved stable =
    let none : List Said = [] in
    let all : found ≡ ((separators_from 1 lines ++ (component_said component ++ none)) ++ none) ++ none =
    h.2 ∙ (ap (λ (x : List Said). separators_from 1 lines ++ x) (h.1.2 ∙ ap (λ (x : List Said). component_said component ++ x) h.1.1) ∙ in_order (separators_from 1 lines) (component_said component) none none none) in
    component_least component lines none none none found said all moved (of_none 2 none refl) (of_none 0 none refl) (not_none 1 none refl)
by_parts options (component ∷ matrix ∷ rest) lines found said h moved stable =
    let c = component_read component in
    let m = matrix_read c matrix in
    let above = above_next (above_next 0 component) matrix in
    let behind = matrix_said c (above_next 0 component) matrix in
    let on = h.1.1 in
    let further = on.0 in
    let runs = on.1 in
    let first = separators_from 1 lines ++ (component_said component ++ behind) in
    let all : found ≡ (first ++ further) ++ runs =
    h.2 ∙ (ap (λ (x : List Said). separators_from 1 lines ++ x) (h.1.2 ∙ ap (λ (x : List Said). component_said component ++ x) on.4) ∙ in_order (separators_from 1 lines) (component_said component) behind further runs) in
    let are_after = matrix_are c (above_next 0 component) matrix in
    let are_runs = runs_are options.serial c m (above_next 0 component) matrix runs on.3 in (
      component_least component lines behind further runs found said all moved are_after are_runs (further_not options.marks 1 (omega arith) (omega arith) m above rest further on.2),
      matrix_least component lines behind further runs found said all moved are_after are_runs matrix refl (further_not options.marks 2 (omega arith) (omega arith) m above rest further on.2),
      further_least options.marks m above rest first further runs found said all moved stable (λ p le. lines_not p (λ e. omega arith) (λ e. omega arith) (λ e. omega arith) 1 lines component behind are_after) are_runs on.2,
    )

pub readers_are_least : ReadersAreLeast
readers_are_least options bundle said h = by_parts options (meant_parts bundle) (kept_lines bundle) h.0 said h.1 h.2 h.3
