-- The faults of the lines of a report, one line after the other.
use Rattle.std.proofs.Common.{◌≡◌, ℕ, ◌+◌, ◌<◌, List, [], ◌∷◌, ◌++◌, length, take, drop, get_or, Option, Some, None, add-one, suc, refl, sym, ap, subst, ◌∙◌, arith, inl, inr}
use Rattle.std.specs.Prelude.{codes, slice_get}
use Rattle.std.specs.List.{concat}
use Rattle.std.specs.Option.{option_to_list}
use Rattle.std.proofs.lemmas.List.{append_assoc}
use denote.Ref.{Bor}
use Rattle.lu_text.specs.Lines.{kept_lines, texts}
use Rattle.lu_text.proofs.KeptLines.{joined_lines}
use Rattle.lu_text.proofs.Reading.{text_more, texts_end}
use Rattle.lu_witness.specs.declared.judgement.Why.{Why}
use Rattle.lu_witness.specs.declared.judgement.Why.TheVariants as why
use Rattle.lu_report.specs.declared.faults.ReportLineFault.{ReportLineFault}
use Rattle.lu_report.specs.declared.form.LineForm.{LineForm}
use Rattle.lu_report.specs.declared.form.LineForm.TheVariants as form
use Rattle.lu_report.specs.declared.report.Finding.{Finding}
use Rattle.lu_report.specs.declared.report.Finding.TheVariants.{SerialCut, Nondeterministic, Fail, Pass}
use Rattle.lu_report.specs.declared.report.Report.{Report}
use Rattle.lu_report.specs.declared.version.Version.{Version}
use Rattle.lu_report.specs.declared.version.Version.TheVariants.{One, Two, Three}
use Rattle.lu_report.specs.Parts.{IsThreadOf}
use Rattle.lu_report.specs.Text.{fail_line, finding_lines, number_line, version_line, version_of}
use Rattle.lu_report.specs.Forms.{AreReport, DiffersAt, IsFaultLine, IsVersionLine, Spells}
use Rattle.lu_report.specs.EveryLine.{AreFaultsFrom, AreReportFaults, IsFindingLine, IsJudgedAs, IsJudgementLine, IsLineOf, after_finding, fault_on, missing, next_form, next_wanted, version_by}
use Rattle.lu_report.specs.Laws.{IsListedAsRead}
use Rattle.lu_report.proofs.PartLines.{AreBeforeLines, AreBounded, AreConflict, AreCountLines, AreCut, AreEarlier, AreFinding, AreJudgement, AreLocal, AreNone, AreRun, AreStuck, IsLineThen, a_before, a_cut, a_finding, a_judgement, a_local, a_stuck, an_earlier, bounded_back, bounded_into, conflict_found, conflict_only, counts_found, cut_only, fail_only, no_schedule, nothing, pass_only, run_found, some_after}
use Rattle.lu_report.proofs.OneText.{report_again}

-- ---- the lines from one of a form on

abbrev after_serial : Version → List (List ℕ) → Type 0
after_serial One lines = AreFinding lines
after_serial Two lines = AreLocal lines
after_serial Three lines = AreLocal lines

abbrev AreOf : Version → LineForm → List (List ℕ) → Type 0
AreOf v form.Version lines = IsLineThen (IsLineOf form.Version) (AreBounded v) lines
AreOf v form.Bound lines = AreBounded v lines
AreOf v form.Serial lines = IsLineThen (IsLineOf form.Serial) (after_serial v) lines
AreOf v form.Local lines = AreLocal lines
AreOf v form.AnyLocal lines = IsLineThen (IsLineOf form.AnyLocal) AreJudgement lines
AreOf v form.Finding lines = AreFinding lines
AreOf v form.Judgement lines = AreJudgement lines
AreOf v form.Schedule lines = AreRun lines
AreOf v form.ConflictSchedule lines = AreConflict lines
AreOf v form.Before lines = AreBeforeLines lines
AreOf v form.Earlier lines = AreEarlier lines
AreOf v form.Complete lines = AreCountLines lines
AreOf v form.Stuck lines = AreStuck lines
AreOf v form.Cut lines = AreCut lines
AreOf v form.End lines = AreNone lines

-- a line of the form, and the lines after it
record GoesOn (v : Version) (wanted : LineForm) (line : List ℕ) : Type 0 where
  next : LineForm
  is : next_form v wanted line ≡ Some next
  into : (t : List (List ℕ)) → AreOf v next t → AreOf v wanted (line ∷ t)
  back : (t : List (List ℕ)) → AreOf v wanted (line ∷ t) → AreOf v next t

record IsStep (v : Version) (wanted : LineForm) : Type 0 where
  some : (t : List (List ℕ)) × AreOf v wanted t
  head : (line : List ℕ) (t : List (List ℕ)) → AreOf v wanted (line ∷ t) → IsLineOf wanted line
  on : (line : List ℕ) → IsLineOf wanted line → GoesOn v wanted line

-- ---- findings

no_finding : (f : Finding) → [] ≡ finding_lines f → ⊥
no_finding (SerialCut u) e = cc
no_finding (Nondeterministic u before earlier) e = cc
no_finding (Fail u w) e = cc
no_finding (Pass counts) e = cc

judgement_head : (line : List ℕ) (t : List (List ℕ)) → AreJudgement (line ∷ t) → IsJudgementLine line
judgement_head line t (SerialCut u, (is, e)) = absurd is.1
judgement_head line t (Nondeterministic u before earlier, (is, e)) = absurd is.1
judgement_head line t (Fail u w, (is, e)) = inr (w, (is.0.0, cc))
judgement_head line t (Pass counts, (is, e)) = inl cc

finding_head : (line : List ℕ) (t : List (List ℕ)) → AreFinding (line ∷ t) → IsFindingLine line
finding_head line t (SerialCut u, (is, e)) = inl cc
finding_head line t (Nondeterministic u before earlier, (is, e)) = inr (inl cc)
finding_head line t (Fail u w, (is, e)) = inr (inr (inr (w, (is.0, cc))))
finding_head line t (Pass counts, (is, e)) = inr (inr (inl cc))

after_fail : (w : Why) → after_finding (fail_line w) ≡ Some form.Schedule
after_fail why.Complete = refl
after_fail (why.Stuck t) = refl

module _ (v : Version) where
  unfold_pass : GoesOn v form.Judgement (codes "pass\n")
  unfold_pass = record {
    next = form.Complete;
    is = refl;
    into = λ t are. let c = counts_found t are in (Pass c.0, (((tt, c.1), tt), ap (λ (x : List (List ℕ)). codes "pass\n" ∷ x) c.2));
    back = λ t are. pass_only t are.0 are.1.0.0 are.1.1;
  }

  unfold_fail : (w : Why) → IsThreadOf w → GoesOn v form.Judgement (fail_line w)
  unfold_fail w is = record {
    next = form.Schedule;
    is = after_fail w;
    into = λ t are. let c = run_found t are in (Fail c.0 w, (((is, c.1), tt), ap (λ (x : List (List ℕ)). fail_line w ∷ x) c.2));
    back = λ t are. fail_only w t are.0 are.1.0.0 are.1.1;
  }

  judgement_on : (line : List ℕ) → IsJudgementLine line → GoesOn v form.Judgement line
  judgement_on line (inl is) = subst (GoesOn v form.Judgement) (sym is) unfold_pass
  judgement_on line (inr (w, (thread, is))) = subst (GoesOn v form.Judgement) (sym is) (unfold_fail w thread)

  find_cut : GoesOn v form.Finding (codes "serial-cut\n")
  find_cut = record {
    next = form.Schedule;
    is = refl;
    into = λ t are. let c = run_found t are in (SerialCut c.0, ((tt, c.1), ap (λ (x : List (List ℕ)). codes "serial-cut\n" ∷ x) c.2));
    back = λ t are. cut_only t are.0 are.1.0 are.1.1;
  }

  find_conflict : GoesOn v form.Finding (codes "nondeterministic\n")
  find_conflict = record {
    next = form.ConflictSchedule;
    is = refl;
    into = λ t are. let c = conflict_found t are in (Nondeterministic c.0 c.1 c.2, ((c.4, (c.3, c.5)), ap (λ (x : List (List ℕ)). codes "nondeterministic\n" ∷ x) c.6));
    back = λ t are. conflict_only t are.0 are.1.0 are.1.1;
  }

  find_pass : GoesOn v form.Finding (codes "pass\n")
  find_pass = record {
    next = form.Complete;
    is = refl;
    into = λ t are. let c = counts_found t are in (Pass c.0, ((tt, c.1), ap (λ (x : List (List ℕ)). codes "pass\n" ∷ x) c.2));
    back = λ t are. pass_only t are.0 are.1.0 are.1.1;
  }

  find_fail : (w : Why) → IsThreadOf w → GoesOn v form.Finding (fail_line w)
  find_fail w is = record {
    next = form.Schedule;
    is = after_fail w;
    into = λ t are. let c = run_found t are in (Fail c.0 w, ((is, c.1), ap (λ (x : List (List ℕ)). fail_line w ∷ x) c.2));
    back = λ t are. fail_only w t are.0 are.1.0 are.1.1;
  }

  finding_on : (line : List ℕ) → IsFindingLine line → GoesOn v form.Finding line
  finding_on line (inl is) = subst (GoesOn v form.Finding) (sym is) find_cut
  finding_on line (inr (inl is)) = subst (GoesOn v form.Finding) (sym is) find_conflict
  finding_on line (inr (inr (inl is))) = subst (GoesOn v form.Finding) (sym is) find_pass
  finding_on line (inr (inr (inr (w, (thread, is))))) = subst (GoesOn v form.Finding) (sym is) (find_fail w thread)

-- ---- each form

some_serial : (v : Version) → (t : List (List ℕ)) × AreOf v form.Serial t
some_serial One = (number_line (codes "serial ") 1 ∷ a_finding.0, ((1, (omega arith, omega arith, refl)), a_finding.1))
some_serial Two = (number_line (codes "serial ") 1 ∷ a_local.0, ((1, (omega arith, omega arith, refl)), a_local.1))
some_serial Three = (number_line (codes "serial ") 1 ∷ a_local.0, ((1, (omega arith, omega arith, refl)), a_local.1))

bound_on : (v : Version) (line : List ℕ) → IsLineOf form.Bound line → GoesOn v form.Bound line
bound_on One line is = record { next = form.Serial; is = refl; into = λ t are. (is, are); back = λ t are. are.1 }
bound_on Two line is = record { next = form.Serial; is = refl; into = λ t are. (is, are); back = λ t are. are.1 }
bound_on Three line is = record { next = form.AnyLocal; is = refl; into = λ t are. (is, are); back = λ t are. are.1 }

serial_on : (v : Version) (line : List ℕ) → IsLineOf form.Serial line → GoesOn v form.Serial line
serial_on One line is = record { next = form.Finding; is = refl; into = λ t are. (is, are); back = λ t are. are.1 }
serial_on Two line is = record { next = form.Local; is = refl; into = λ t are. (is, are); back = λ t are. are.1 }
serial_on Three line is = record { next = form.Local; is = refl; into = λ t are. (is, are); back = λ t are. are.1 }

some_bounded : (v : Version) → (t : List (List ℕ)) × AreBounded v t
some_bounded v = (number_line (codes "bound ") 0 ∷ (some_after v).0, ((0, (omega arith, omega arith, refl)), (some_after v).1))

step : (v : Version) (wanted : LineForm) → IsStep v wanted
step v form.Version = record {
  some = (version_line v ∷ (some_bounded v).0, ((v, refl), (some_bounded v).1));
  head = λ line t are. are.0;
  on = λ line is. record { next = form.Bound; is = refl; into = λ t are. (is, are); back = λ t are. are.1 };
}
step v form.Bound = record { some = some_bounded v; head = λ line t are. are.0; on = bound_on v }
step v form.Serial = record { some = some_serial v; head = λ line t are. are.0; on = serial_on v }
step v form.Local = record {
  some = a_local;
  head = λ line t are. are.0;
  on = λ line is. record { next = form.Finding; is = refl; into = λ t are. (is, are); back = λ t are. are.1 };
}
step v form.AnyLocal = record {
  some = (number_line (codes "local ") 0 ∷ a_judgement.0, ((0, (omega arith, omega arith, refl)), a_judgement.1));
  head = λ line t are. are.0;
  on = λ line is. record { next = form.Judgement; is = refl; into = λ t are. (is, are); back = λ t are. are.1 };
}
step v form.Finding = record { some = a_finding; head = finding_head; on = finding_on v }
step v form.Judgement = record { some = a_judgement; head = judgement_head; on = judgement_on v }
step v form.Schedule = record {
  some = (no_schedule.0 ∷ [], (no_schedule.1, refl));
  head = λ line t are. are.0;
  on = λ line is. record { next = form.End; is = refl; into = λ t are. (is, are); back = λ t are. are.1 };
}
step v form.ConflictSchedule = record {
  some = (no_schedule.0 ∷ a_before.0, (no_schedule.1, a_before.1));
  head = λ line t are. are.0;
  on = λ line is. record { next = form.Before; is = refl; into = λ t are. (is, are); back = λ t are. are.1 };
}
step v form.Before = record {
  some = a_before;
  head = λ line t are. are.0;
  on = λ line is. record { next = form.Earlier; is = refl; into = λ t are. (is, are); back = λ t are. are.1 };
}
step v form.Earlier = record {
  some = an_earlier;
  head = λ line t are. are.0;
  on = λ line is. record { next = form.End; is = refl; into = λ t are. (is, are); back = λ t are. are.1 };
}
step v form.Complete = record {
  some = (number_line (codes "complete ") 0 ∷ a_stuck.0, ((0, (omega arith, omega arith, refl)), a_stuck.1));
  head = λ line t are. are.0;
  on = λ line is. record { next = form.Stuck; is = refl; into = λ t are. (is, are); back = λ t are. are.1 };
}
step v form.Stuck = record {
  some = a_stuck;
  head = λ line t are. are.0;
  on = λ line is. record { next = form.Cut; is = refl; into = λ t are. (is, are); back = λ t are. are.1 };
}
step v form.Cut = record {
  some = a_cut;
  head = λ line t are. are.0;
  on = λ line is. record { next = form.End; is = refl; into = λ t are. (is, are); back = λ t are. are.1 };
}
step v form.End = record { some = nothing; head = λ line t are. let e = are in cc; on = λ line is. absurd is }

-- ---- the first fault

-- the lines are of these texts where there is no fault; else these texts differ first at the line of the first, where these lines begin with line n
abbrev Told : (List (List ℕ) → Type 0) → ℕ → List (List ℕ) → List ReportLineFault → Type 0
Told Texts n lines [] = Texts lines
Told Texts n lines (first ∷ others) = (k : ℕ) × (first.line ≡ n + k) × DiffersAt Texts lines k

-- no text of these has the first of these lines
here : (Texts : List (List ℕ) → Type 0) (lines : List (List ℕ)) → (t : List (List ℕ)) × Texts t → ((t : List (List ℕ)) → Texts t → take 1 t ≡ take 1 lines → ⊥) → DiffersAt Texts lines 0
here Texts lines some none = record { before = (some.0, some.1, refl); there = none }

no_more : (Texts : List (List ℕ) → Type 0) → (Texts [] → ⊥) → (t : List (List ℕ)) → Texts t → take 1 t ≡ [] → ⊥
no_more Texts ends [] are e = ends are
no_more Texts ends (x ∷ t) are e = cc

other_head : (Texts : List (List ℕ) → Type 0) (line : List ℕ) (lines : List (List ℕ)) → ((t : List (List ℕ)) → Texts (line ∷ t) → ⊥) → (t : List (List ℕ)) → Texts t → take 1 t ≡ take 1 (line ∷ lines) → ⊥
other_head Texts line lines none [] are e = cc
other_head Texts line lines none (x ∷ t) are e = none t (let same : x ≡ line = cc in subst (λ (y : List ℕ). Texts (y ∷ t)) same are)

at_end : (v : Version) (n : ℕ) (wanted : LineForm) → Told (AreOf v wanted) n [] (missing n (Some wanted))
at_end v n form.Version = (0, omega arith, here _ [] (step v form.Version).some (no_more _ (λ are. are)))
at_end v n form.Bound = (0, omega arith, here _ [] (step v form.Bound).some (no_more _ (λ are. are)))
at_end v n form.Serial = (0, omega arith, here _ [] (step v form.Serial).some (no_more _ (λ are. are)))
at_end v n form.Local = (0, omega arith, here _ [] (step v form.Local).some (no_more _ (λ are. are)))
at_end v n form.AnyLocal = (0, omega arith, here _ [] (step v form.AnyLocal).some (no_more _ (λ are. are)))
at_end v n form.Finding = (0, omega arith, here AreFinding [] a_finding (no_more AreFinding (λ are. no_finding are.0 are.1.1)))
at_end v n form.Judgement = (0, omega arith, here AreJudgement [] a_judgement (no_more AreJudgement (λ are. no_finding are.0 are.1.1)))
at_end v n form.Schedule = (0, omega arith, here _ [] (step v form.Schedule).some (no_more _ (λ are. are)))
at_end v n form.ConflictSchedule = (0, omega arith, here _ [] (step v form.ConflictSchedule).some (no_more _ (λ are. are)))
at_end v n form.Before = (0, omega arith, here _ [] (step v form.Before).some (no_more _ (λ are. are)))
at_end v n form.Earlier = (0, omega arith, here _ [] (step v form.Earlier).some (no_more _ (λ are. are)))
at_end v n form.Complete = (0, omega arith, here _ [] (step v form.Complete).some (no_more _ (λ are. are)))
at_end v n form.Stuck = (0, omega arith, here _ [] (step v form.Stuck).some (no_more _ (λ are. are)))
at_end v n form.Cut = (0, omega arith, here _ [] (step v form.Cut).some (no_more _ (λ are. are)))
at_end v n form.End = refl

-- one line further on
deeper : (Texts : List (List ℕ) → Type 0) (line : List ℕ) (lines : List (List ℕ)) (n : ℕ) → DiffersAt (λ t. Texts (line ∷ t)) lines n → DiffersAt Texts (line ∷ lines) (n + 1)
deeper Texts line lines n d = record {
  before = (line ∷ d.before.0, d.before.1, rw (add-one n) (ap (λ (x : List (List ℕ)). line ∷ x) d.before.2));
  there = λ other is e. later other is (rw (add-one (n + 1)) at e);
}
  where
    later : (other : List (List ℕ)) → Texts other → take (suc (n + 1)) other ≡ take (suc (n + 1)) (line ∷ lines) → ⊥
    later [] is e = absurd cc
    later (x ∷ other) is e =
        let same : x ≡ line = cc in
        let rest : take (n + 1) other ≡ take (n + 1) lines = cc in
        d.there other (subst (λ (y : List ℕ). Texts (y ∷ other)) same is) rest

-- after a line that these texts have
after_line : (Texts Tails : List (List ℕ) → Type 0) (n : ℕ) (line : List ℕ) (lines : List (List ℕ)) (faults : List ReportLineFault) → ((t : List (List ℕ)) → Tails t → Texts (line ∷ t)) → ((t : List (List ℕ)) → Texts (line ∷ t) → Tails t)
    → Told Tails (n + 1) lines faults → Told Texts n (line ∷ lines) faults
after_line Texts Tails n line lines [] into back are = into lines are
after_line Texts Tails n line lines (first ∷ others) into back (k, is, differs) =
    let tails : DiffersAt (λ t. Texts (line ∷ t)) lines k = record {
      before = (differs.before.0, into differs.before.0 differs.before.1, differs.before.2);
      there = λ t are e. differs.there t (back t are) e;
    } in
    (k + 1, omega (arith, is), deeper Texts line lines k tails)

told_from : (v : Version) (lines : List (List ℕ)) (n : ℕ) (wanted : LineForm) (faults : List ReportLineFault) → AreFaultsFrom v n lines (Some wanted) faults → Told (AreOf v wanted) n lines faults
told_from v [] n wanted faults is = subst (Told (AreOf v wanted) n []) (sym is) (at_end v n wanted)
told_from v (line ∷ lines) n wanted faults (fault, others, judged, from, is) =
    subst (Told (AreOf v wanted) n (line ∷ lines)) (sym is) (by_fault fault judged from (λ next rest. told_from v lines (n + 1) next others rest))
  where
    by_fault : (fault : Option ReportLineFault) → IsJudgedAs n (Some wanted) line fault → AreFaultsFrom v (n + 1) lines (next_form v wanted line) others
        → ((next : LineForm) → AreFaultsFrom v (n + 1) lines (Some next) others → Told (AreOf v next) (n + 1) lines others)
        → Told (AreOf v wanted) n (line ∷ lines) (option_to_list fault ++ others)
    by_fault None right from again =
        let on = (step v wanted).on line right in
        let rest : AreFaultsFrom v (n + 1) lines (Some on.next) others = subst (λ (x : Option LineForm). AreFaultsFrom v (n + 1) lines x others) on.is from in
        after_line (AreOf v wanted) (AreOf v on.next) n line lines others on.into on.back (again on.next rest)
    by_fault (Some f) (wrong, here_is) from again =
        let number : f.line ≡ n = ap (λ (x : ReportLineFault). x.line) here_is in
        (0, omega (arith, number), here (AreOf v wanted) (line ∷ lines) (step v wanted).some (other_head (AreOf v wanted) line lines (λ t are. wrong ((step v wanted).head line t are))))

-- ---- a whole report

version_says : (w : Version) (lines : List (List ℕ)) → version_by (version_line w ∷ lines) ≡ w
version_says One lines = refl
version_says Two lines = refl
version_says Three lines = refl

a_report : (t : List (List ℕ)) × AreReport t
a_report = (version_line One ∷ (some_bounded One).0, bounded_into One (some_bounded One).0 (some_bounded One).1)

report_head : (line : List ℕ) (t : List (List ℕ)) → AreReport (line ∷ t) → IsVersionLine line
report_head line t (r, (limits, sound, is)) = (version_of r.serial r.local, cc)

told_lines : (lines : List (List ℕ)) (faults : List ReportLineFault) → AreReportFaults lines faults → Told AreReport 1 lines faults
told_lines [] faults is =
    let missed : Told AreReport 1 [] (fault_on 1 form.Version ∷ []) = (0, refl, here AreReport [] a_report (no_more AreReport (λ are. let e = are.1.2 in cc))) in
    subst (Told AreReport 1 []) (sym is) missed
told_lines (first ∷ lines) faults (fault, others, judged, from, is) = subst (Told AreReport 1 (first ∷ lines)) (sym is) (by_fault fault judged)
  where
    by_fault : (fault : Option ReportLineFault) → IsJudgedAs 1 (Some form.Version) first fault → Told AreReport 1 (first ∷ lines) (option_to_list fault ++ others)
    by_fault None (w, line_is) =
        let version : version_by (first ∷ lines) ≡ w = ap (λ (x : List ℕ). version_by (x ∷ lines)) line_is ∙ version_says w lines in
        let rest : AreFaultsFrom w 2 lines (Some form.Bound) others = subst (λ (x : Version). AreFaultsFrom x 2 lines (Some form.Bound) others) version from in
        let told = told_from w lines 2 form.Bound others rest in
        subst (λ (x : List ℕ). Told AreReport 1 (x ∷ lines) others) (sym line_is) (after_line AreReport (AreBounded w) 1 (version_line w) lines others (bounded_into w) (bounded_back w) told)
    by_fault (Some f) (wrong, here_is) =
        let number : f.line ≡ 1 = ap (λ (x : ReportLineFault). x.line) here_is in
        (0, omega (arith, number), here AreReport (first ∷ lines) a_report (other_head AreReport first lines (λ t are. wrong (report_head first t are))))

-- the first of the faults is on the line of the fault
pub first_fault : (lines : List (List ℕ)) (faults : List ReportLineFault) (first : ReportLineFault) → AreReportFaults lines faults → Some first ≡ slice_get faults 0 → IsFaultLine lines first.line
first_fault lines [] first are is = absurd cc
first_fault lines (fault ∷ others) first are is =
    let same : first ≡ fault = cc in
    subst (λ (x : ReportLineFault). IsFaultLine lines x.line) (sym same) (told_lines lines (fault ∷ others) are)

-- where there is none, the lines are a report
pub no_first_fault : (lines : List (List ℕ)) (faults : List ReportLineFault) (line : ℕ) → AreReportFaults lines faults → None ≡ slice_get faults 0 → (AreReport lines → ⊥) → IsFaultLine lines line
no_first_fault lines [] line are is none = absurd (none (told_lines lines [] are))
no_first_fault lines (fault ∷ others) line are is none = absurd cc

pub listed_as_read : (text : List ℕ) (faults : List ReportLineFault) → AreReportFaults (kept_lines text) faults → IsListedAsRead text faults
listed_as_read text faults are = by_faults faults (told_lines (kept_lines text) faults are)
  where
    by_faults : (faults : List ReportLineFault) → Told AreReport 1 (kept_lines text) faults → IsListedAsRead text faults
    by_faults [] (r, (limits, sound, is)) = (r, (limits, sound, sym (joined_lines text) ∙ ap concat is))
    by_faults (first ∷ others) told = told

-- nothing is told of a text that is read
pub none_told : (text : List ℕ) (r : Report) (faults : List ReportLineFault) → Spells text r → AreReportFaults (kept_lines text) faults → faults ≡ []
none_told text r [] spells are = refl
none_told text r (first ∷ others) spells are =
    let fault = listed_as_read text (first ∷ others) are in
    let report : AreReport (kept_lines text) = (r, (spells.0, spells.1, ap kept_lines spells.2 ∙ report_again r spells.0 spells.1)) in
    absurd (fault.2.there (kept_lines text) report refl)

-- ---- line after line

-- the faults of the lines before line number i are found, and those of all lines are these and those of the others
pub record AreJudgedTo (version : Version) (lines : List (Bor (List ℕ))) (wanted : Option LineForm) (i : ℕ) (found : List ReportLineFault) : Type 0 where
  pub behind : (others : List ReportLineFault) → AreFaultsFrom version (i + 1) (drop i (texts lines)) wanted others → AreFaultsFrom version 1 (texts lines) (Some form.Version) (found ++ others)

pub none_judged : (version : Version) (lines : List (Bor (List ℕ))) (found : List ReportLineFault) → found ≡ [] → AreJudgedTo version lines (Some form.Version) 0 found
none_judged version lines found none = record { behind = λ others are. rw none are }

pub one_judged : (version : Version) (lines : List (Bor (List ℕ))) (wanted : Option LineForm) (i : ℕ) (d : Bor (List ℕ)) (fault : Option ReportLineFault) (found after : List ReportLineFault) → i < length lines → AreJudgedTo version lines wanted i found
    → IsJudgedAs (i + 1) wanted (get_or lines i d).now fault → after ≡ found ++ option_to_list fault → AreJudgedTo version lines (next_wanted version wanted (get_or lines i d).now) (i + 1) after
one_judged version lines wanted i d fault found after within to judged is = record {
  behind = λ told are.
      let line = (get_or lines i d).now in
      let one : AreFaultsFrom version (i + 1) (line ∷ drop (i + 1) (texts lines)) wanted (option_to_list fault ++ told) = (fault, told, judged, are, refl) in
      let all = to.behind (option_to_list fault ++ told) (subst (λ (x : List (List ℕ)). AreFaultsFrom version (i + 1) x wanted (option_to_list fault ++ told)) (sym (text_more lines i d within)) one) in
      subst (AreFaultsFrom version 1 (texts lines) (Some form.Version)) (sym (ap (λ (x : List ReportLineFault). x ++ told) is ∙ append_assoc found (option_to_list fault) told)) all;
}

pub all_judged : (version : Version) (lines : List (Bor (List ℕ))) (wanted : Option LineForm) (i : ℕ) (found all : List ReportLineFault) → i ≡ length lines → version ≡ version_by (texts lines) → AreJudgedTo version lines wanted i found → all ≡ found ++ missing (length lines + 1) wanted → AreReportFaults (texts lines) all
all_judged version lines wanted i found all past is to whole =
    let last = missing (i + 1) wanted in
    let at_last : AreFaultsFrom version (i + 1) (drop i (texts lines)) wanted last = subst (λ (x : List (List ℕ)). AreFaultsFrom version (i + 1) x wanted last) (sym (texts_end lines i (omega arith))) refl in
    let here_is : all ≡ found ++ last = whole ∙ ap (λ (n : ℕ). found ++ missing (n + 1) wanted) (sym past) in
    let told = to.behind last at_last in
    subst (λ (x : Version). AreFaultsFrom x 1 (texts lines) (Some form.Version) all) is (subst (AreFaultsFrom version 1 (texts lines) (Some form.Version)) (sym here_is) told)
