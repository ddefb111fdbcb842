-- Answers that go out.
use Rattle.std.specs.Prelude.{if◌then◌else◌, min, ◌-◌, ◌^◌}
use Rattle.std.proofs.Common.{◌≡◌, ◌≢◌, ℕ, suc, ◌<◌, Bool, true, false, List, [], ◌∷◌, ◌++◌, Option, Some, None, length, replicate, Result, Ok, Err, refl, ◌⊎◌, inl, inr, ap, sym, ◌∙◌, arith, subst, get_or, MatchResult}
use Rattle.std.specs.Prelude.{IfSome, MatchBool, MatchOption, codes, nat_lt, ◌||◌}
use Rattle.std.specs.Fmt.{decimal}
use Rattle.std.specs.Io.KnownBytes.{Appends}
use Rattle.std.proofs.lemmas.Bool.{lt-ltb}
use Rattle.std.proofs.lemmas.List.{length-replicate}
use Rattle.lu_text.specs.declared.fault.Fault.{Fault}
use Rattle.lu_text.specs.declared.fault.Fault.TheVariants.{At, Memory}
use Rattle.lu_text.specs.Faults.{meaning_of}
use Rattle.lu_text.specs.Words.{exactly_two, exactly_three, exactly_four}
use Rattle.lu_component.specs.Component.{Component}
use Rattle.lu_lang.specs.Kinds.{code_of}
use Rattle.lu_lang.specs.Grammar.{component_grammar}
use Rattle.lu_test.specs.declared.matrix.Call.{Call}
use Rattle.lu_test.specs.declared.schedule.Move.{Move}
use Rattle.lu_test.specs.declared.schedule_fault.ScheduleFault.{ScheduleFault}
use Rattle.lu_test.specs.Codes.{matrix_code_of}
use Rattle.lu_test.specs.MatrixText.{matrix_grammar}
use Rattle.lu_test.specs.ScheduleText.{schedule_of, schedule_text}
use Rattle.lu_machine.specs.declared.event.Event.{Event}
use Rattle.lu_machine.specs.declared.event.Status.{Status}
use Rattle.lu_machine.specs.declared.event.Status.TheVariants.{Running, Complete, Stuck}
use Rattle.lu_witness.specs.declared.judgement.Verdict.{Verdict}
use Rattle.lu_witness.specs.declared.judgement.Verdict.TheVariants.{Good, NoWitness, NoWitnessFor}
use Rattle.lu_test.specs.Matrix.{Matrix}
use Rattle.lu_history.specs.declared.serial.SerialOp.{SerialOp}
use Rattle.lu_history.specs.declared.serial.SerialOutcome.{SerialOutcome}
use Rattle.lu_report.specs.declared.report.Finding.{Finding}
use Rattle.lu_report.specs.declared.report.Finding.TheVariants.{SerialCut, Nondeterministic, Fail, Pass}
use Rattle.lu_report.specs.Codes.{report_code_of}
use Rattle.lu_report.specs.Parts.{Report, shown_schedule}
use Rattle.lu_parallel.specs.Ranges.{Options}
use Rattle.lu_spec.specs.declared.given.Marks.{Marks}
use Rattle.lu_spec.specs.Codes.{spec_code_of}
use Rattle.lu_refine.specs.declared.campaigns.Campaign.{Campaign}
use Rattle.lu_refine.specs.ByThread.{Asked}
use Rattle.lu_survey.specs.declared.comparison.Comparison.{Comparison}
use Rattle.lu_survey.specs.declared.comparison.Comparison.TheVariants.{AllAgree, First as Differs}
use Rattle.lu_survey.specs.declared.comparison.Difference.TheVariants.{Concurrently, Serially, TrustedConflict, TrustedCut}
use Rattle.lu_survey.specs.declared.survey.Survey.{Survey}
use Rattle.lu_survey.specs.Comparing.{HasSameOperations}
use Rattle.lu_survey.specs.declared.certified_campaign.CertifiedCampaign.{CertifiedCampaign}
use Rattle.lu_survey.specs.declared.certified_campaign.CertifiedCampaign.TheVariants.{AllLinearizable, First as NotAll}
use Rattle.lu_refine.specs.declared.campaigns.Campaign.TheVariants.{AllPass, First}
use Rattle.lu_certify.specs.declared.certificate.Certificate.{Certificate}
use Rattle.lu_certify.specs.declared.certificate.Certificate.TheVariants.{Linearizable, NotLinearizable, Livelock, Undecided}
use Rattle.lu_cli.specs.declared.request.CampaignOptions.{CampaignOptions}
use Rattle.lu_cli.specs.declared.request.CampaignTrial.{CampaignTrial}
use Rattle.lu_cli.specs.declared.request.CampaignTrial.TheVariants.{Checked, Certified, Surveyed}
use Rattle.lu_cli.specs.declared.failing.View.{View}
use Rattle.lu_cli.specs.declared.failing.View.TheVariants as view
use Rattle.lu_cli.specs.Args.{most_long}
use Rattle.lu_cli.specs.Failing.{AloneOr, IsShownAlone, ShowsByView, ShowsFailing, ShowsLivelock, ShowsRun, below, failure, in_words, view_of_failure}
use Rattle.lu_cli.specs.Shown.{IsRunShown, IsAnswerToTraceOrDraw, IsShownAfter, ToShown, or_schedule, shown_parts}
use Rattle.lu_cli.specs.declared.request.CampaignPart.{CampaignPart}
use Rattle.lu_cli.specs.declared.request.CampaignPart.TheVariants.{Whole, Slice, Count}
use Rattle.lu_cli.specs.declared.request.CampaignThreads.{CampaignThreads}
use Rattle.lu_cli.specs.declared.request.CampaignThreads.TheVariants.{Alike, Own}
use Rattle.lu_cli.specs.declared.request.LintRequest.{LintRequest}
use Rattle.lu_cli.specs.declared.request.Request.{Request}
use Rattle.lu_cli.specs.declared.request.Request.TheVariants.{Commands, Lint, Bundle, BundleWithSource}
use Rattle.lu_cli.specs.declared.request.BundleCommand.{BundleCommand}
use Rattle.lu_cli.specs.declared.request.BundleCommand.TheVariants.{Replay, Trace, Draw, DrawExplained, Explain, ExplainAgainst, Serial, Witness, WitnessAgainst, Conform, Spec, Check, CheckAgainst, Certify, CertifyUnrolled, Refute, Shrink, Campaign as Campaigning, CampaignAgainst, Compile}
use Rattle.lu_trace.specs.declared.wording.Wording.{Wording}
use Rattle.lu_source_text.specs.Begins.{is_source}
use Rattle.lu_source_text.specs.declared.fault.SourceFaultKind.{SourceFaultKind}
use Rattle.lu_cli.specs.Lint.{IsFaulted, IsLint, IsLinted, IsLintedAfter, IsLintedBy, IsSourceLinted, below_source}
use Rattle.lu_cli.specs.Worded.{IsWordingOf}
use Rattle.lu_cli.specs.declared.explanation.Presentation.{Presentation}
use Rattle.lu_cli.specs.declared.explanation.Presenting.{Presenting}
use Rattle.lu_cli.specs.declared.explanation.Presentation.TheVariants.{Words, Picture}
use Rattle.lu_picture.specs.Pictures.{Why, nothing_said}
use Rattle.lu_lint.specs.Said.{have_fault}
use Rattle.lu_cli.specs.Pictures.{IsDrawnWhy}
use Rattle.lu_cli.specs.declared.explanation.Target.{Target}
use Rattle.lu_cli.specs.declared.explanation.Target.TheVariants as target
use Rattle.lu_cli.specs.Explain.{IsAnswerToExplainAgainst, IsExplainAfter, IsAnswerToExplain, IsExplainedAgainstText, IsExplainedText, ToTarget, is_report, limits_for, view_of}
use Rattle.lu_diagnosis.specs.SerialRuns.{conflict_text}
use Rattle.lu_cli.specs.Explanation.{difference, IsExplainedTarget, IsExplainedHistory, IsExplainedSchedule, IsExplainedSerially, IsPicturedHistory, IsPresentedAs, IsPresentedHistory, SaysConflict, SaysFound, SaysNext, ToEnded, ToFinding, status_by, unexplained}
use Rattle.lu_recorded.specs.declared.recorded.Recorded.{Recorded}
use Rattle.lu_recorded.specs.Codes.{recorded_code_of}
use Rattle.lu_run.specs.Codes.{run_code_of}
use Rattle.lu_run.specs.Setups.{setup_grammar}
use Rattle.lu_run.specs.declared.judging.RunVerdict.{RunVerdict}
use Rattle.lu_run.specs.declared.judging.RunVerdict.TheVariants.{Passes, FailsAt, CannotBeStuck as NotStuck, Offends}
use Rattle.lu_run.specs.declared.run.Run.{Run}
use Rattle.lu_cli.specs.Runs.{AreJudged, AreJudgedTexts, IsAnswerToRuns, run_parts, run_shown}
use Rattle.lu_cli.specs.Witness.{IsAnswerToHistories, IsAnswerToWitness, IsAnswerToWitnessAgainst, IsJudgedAgainstTexts, IsJudgedByMembers, IsJudgedSerially, IsJudgedTexts, four_parts, three_parts}
use Rattle.lu_cli.specs.Reading.{ToComponent, ToGiven, ToMatrix, ToParts, ToRecorded, ToReport, ToSchedule, ToSettled, ToSpec, ToTexts, ToWorded, ToValue}
use Rattle.lu_source_text.specs.Kinds.{code_of as source_code_of}
use Rattle.lu_source_text.specs.Readers.{component_meant}
use Rattle.lu_cli.specs.Compile.{IsAnswerToCompile, IsCompiledBundle}
use Rattle.lu_cli.specs.Conform.{IsAnswerToConform, IsConformed, IsConformedTexts}
use Rattle.lu_conform.specs.declared.shown.Conformance.TheVariants.{Conforms, NoneShows, Undecided as Undetermined}
use Rattle.lu_cli.specs.declared.request.CertifyOptions.{CertifyOptions}
use Rattle.lu_cli.specs.declared.request.Showing.{Showing}
use Rattle.lu_cli.specs.declared.request.Showing.TheVariants.{Count as CountAlone, Schedules}
use Rattle.lu_text.specs.Bundle.{bundle_parts}
use Rattle.lu_cli.specs.Help.{help_answer}
use Rattle.lu_report.specs.Limits.{Bounds}
use Rattle.lu_cli.specs.declared.failing.RunView.{RunView}
use Rattle.lu_cli.specs.declared.failing.RunView.TheVariants as run
use Rattle.lu_cli.specs.Campaign.{IsCheckedPart, IsAnswerToTrial, IsCheckedWhole, IsCampaignOfMatrix, IsCertifiedPart, IsCertifiedNumbers, IsCountAnswer, IsCheckedNumbers, IsListsAnswer, IsSurveyedNumbers, IsSurveyedPart, ShowsCertified, ToAlike, ToLists, asked_with, found_answer, survey_status}
use Rattle.lu_cli.specs.AtOnce.{IsCertifiedAtOnce, in_one_search}
use Rattle.lu_cli.specs.Certify.{IsCertified, IsCertifiedByCuts}
use Rattle.lu_cli.specs.Unrolled.{IsCertifiedUnrolled, ShowsBySchedule, ShowsVerdict}
use Rattle.lu_cli.specs.declared.request.Repetition.{Repetition}
use Rattle.lu_cli.specs.declared.request.Repetition.TheVariants.{Forever, UpTo}
use Rattle.lu_client.specs.Rounds.{times}
use Rattle.lu_forever.specs.declared.certifying.RoundsVerdict.{RoundsVerdict}
use Rattle.lu_forever.specs.declared.certifying.RoundsVerdict.TheVariants as verdicts
use Rattle.lu_cli.specs.Check.{IsCheckedAgainstText, IsAnswerToCheckAgainst, IsChecked, IsCheckedAgainst}
use Rattle.lu_cli.specs.Commands.{IsAnswerToCommand}
use Rattle.lu_cli.specs.CampaignAgainst.{IsAnswerToCampaignAgainst, IsComparedLists, IsComparedMatrix, IsComparedPart, IsComparedNumbers, ToTrusted, comparison_answer}
use Rattle.lu_cli.specs.Outcomes.{Answer, no_command, no_device, no_memory, refused}
use Rattle.lu_cli.specs.Program.{Answers, IsAnswerToRead, IsAnswerToInput, IsAnswerToBundle, Tells, ToInput}
use Rattle.lu_cli.specs.Refute.{IsAnswerToRefute, IsRefuted, IsRefutedTexts}
use Rattle.lu_cli.specs.Replay.{IsReplayed}
use Rattle.lu_cli.specs.Serial.{IsRunSerially}
use Rattle.lu_cli.specs.Shows.{ShowsCertificate, reported, status_of, two_texts, with_matrix, with_schedule}
use Rattle.lu_cli.specs.Shrink.{ShowsShrunk}
use Rattle.lu_cli.specs.Sources.{IsAnswerWithSource, bundle_meant}
use Rattle.lu_cli.specs.Spec.{IsCollected, IsAnswerToSpec}
use Rattle.lu_cli.specs.Trace.{IsTraced}
use Rattle.lu_cli.specs.declared.request.Tracing.{Tracing}

-- an answer that was made and said
pub said : (IsAnswer : Answer → Type 0) (answer : Answer) (text : List ℕ) (old new : Option (List ℕ)) (status : ℕ) → IsAnswer answer → text ≡ answer.text → Appends old new text × (status ≡ answer.status) → Answers IsAnswer old new status
said IsAnswer answer text old new status is t h = inl (answer, is, (subst (Appends old new) t h.0, h.1))

-- ---- answers to what was read

-- the input was read whole
pub answer_whole : (request : Request) (known : Option (List ℕ)) (input : List ℕ) (answer : Answer) → IfSome known (λ all. input ≡ all) → IsAnswerToInput request input answer → IsAnswerToRead request known answer
answer_whole request known input answer all is = (input, all, is)

too_long : (input : List ℕ) → 1048576 < length input → nat_lt 1048576 (length input) ≡ true
too_long input long = lt-ltb 1048576 (length input) long

refused_as_long : (IsAnswer : List ℕ → Answer → Type 0) (input : List ℕ) (answer : Answer) → 1048576 < length input → answer ≡ refused (codes "B2") → ToInput IsAnswer input answer
refused_as_long IsAnswer input answer long is = rw (too_long input long) is

-- some text has more bytes
longer : (n : ℕ) → (input : List ℕ) × (n < length input)
longer n = (replicate (suc n) n, (let e = length-replicate (suc n) n in omega arith))

some_long : (IsAnswer : List ℕ → Answer → Type 0) (answer : Answer) → ((input : List ℕ) × (1048576 < length input)) → answer ≡ refused (codes "B2") → (input : List ℕ) × IfSome None (λ all. input ≡ all) × ToInput IsAnswer input answer
some_long IsAnswer answer some is = (some.0, tt, refused_as_long IsAnswer some.0 answer some.1 is)

-- more came than is read
answer_long : (IsAnswer : List ℕ → Answer → Type 0) (known : Option (List ℕ)) (answer : Answer) → IfSome known (λ all. 1048576 < length all) → answer ≡ refused (codes "B2") → (input : List ℕ) × IfSome known (λ all. input ≡ all) × ToInput IsAnswer input answer
answer_long IsAnswer (Some all) answer long is = (all, refl, refused_as_long IsAnswer all answer long is)
answer_long IsAnswer None answer long is = some_long IsAnswer answer (longer 1048576) is

-- what is too long for a request that reads
pub request_long : (request : Request) (known : Option (List ℕ)) (answer : Answer) → request ≢ Commands → IfSome known (λ all. 1048576 < length all) → answer ≡ refused (codes "B2") → IsAnswerToRead request known answer
request_long Commands known answer reads long is = absurd (reads refl)
request_long (Lint limits) known answer reads long is = answer_long (IsLint limits) known answer long is
request_long (Bundle command) known answer reads long is = answer_long (IsAnswerToBundle command) known answer long is
request_long (BundleWithSource command) known answer reads long is = answer_long (IsAnswerWithSource command) known answer long is

-- the help, whatever would be read
pub help_from : (known : Option (List ℕ)) (answer : Answer) → answer ≡ help_answer → IsAnswerToRead Commands known answer
help_from (Some all) answer is = (all, refl, is)
help_from None answer is = ([], tt, is)

-- ---- no answer blames a device

-- the answer says that no device failed
abbrev IsElse : Answer → Type 0
IsElse answer = answer ≢ no_device

status_else : (answer : Answer) (n : ℕ) → answer.status ≡ n → (n ≡ 4 → ⊥) → IsElse answer
status_else answer n is other same = other (sym is ∙ ap (λ (a : Answer). a.status) same)

refused_else : (why : List ℕ) (answer : Answer) → answer ≡ refused why → IsElse answer
refused_else why answer is = status_else answer 2 (ap (λ (a : Answer). a.status) is) (λ e. omega arith)

-- the byte of a text at this place
abbrev byte_of : ℕ → Answer → ℕ
byte_of i answer = get_or answer.text i 0

text_else : (answer : Answer) (n : ℕ) → byte_of 8 answer ≡ n → (n ≡ 100 → ⊥) → IsElse answer
text_else answer n is other same = other (sym is ∙ ap (byte_of 8) same)

status_of_else : (f : Finding) → status_of f ≡ 4 → ⊥
status_of_else (SerialCut u) e = omega arith
status_of_else (Nondeterministic u before earlier) e = omega arith
status_of_else (Fail u why) e = omega arith
status_of_else (Pass counts) e = omega arith

reported_else : (r : Report) (answer : Answer) → answer ≡ reported r → IsElse answer
reported_else r answer is = status_else answer (status_of r.finding) (ap (λ (a : Answer). a.status) is) (status_of_else r.finding)

replayed_else : (c : Component) (m : Matrix) (u : List Move) (answer : Answer) → IsReplayed c m u answer → IsElse answer
replayed_else c m u answer (inl is) = status_else answer 0 (ap (λ (a : Answer). a.status) is.3) (λ e. omega arith)
replayed_else c m u answer (inr is) = status_else answer 1 (ap (λ (a : Answer). a.status) is.2) (λ e. omega arith)

traced_else : (start : Tracing) (how : Wording) (c : Component) (m : Matrix) (u : List Move) (answer : Answer) → IsTraced start how c m u answer → IsElse answer
traced_else start how c m u answer (inl is) = status_else answer 0 (ap (λ (a : Answer). a.status) is.2) (λ e. omega arith)
traced_else start how c m u answer (inr is) = status_else answer 1 (ap (λ (a : Answer). a.status) is.2) (λ e. omega arith)

drawn_else : (how : Wording) (why : Why) (c : Component) (m : Matrix) (u : List Move) (answer : Answer) → IsDrawnWhy how why c m u answer → IsElse answer
drawn_else how why c m u answer (inl is) = status_else answer 0 (ap (λ (a : Answer). a.status) is.2) (λ e. omega arith)
drawn_else how why c m u answer (inr is) = status_else answer 1 (ap (λ (a : Answer). a.status) is.2) (λ e. omega arith)

scheduled_else : (r : Result (List Move) ScheduleFault) (IsAnswer : List Move → Answer → Type 0) (answer : Answer) → ((u : List Move) → IsAnswer u answer → IsElse answer) → ToSchedule r IsAnswer answer → IsElse answer
scheduled_else (Ok u) IsAnswer answer h is = h u is
scheduled_else (Err fault) IsAnswer answer h is = refused_else _ answer is

serial_else : (c : Component) (m : Matrix) (limits : Bounds) (answer : Answer) → IsRunSerially c m limits answer → IsElse answer
serial_else c m limits answer (inl is) = status_else answer 0 (ap (λ (a : Answer). a.status) is.lists.4.2) (λ e. omega arith)
serial_else c m limits answer (inr (inl is)) = refused_else (codes "S4 histories " ++ decimal (min is.count (2 ^ 64 - 1))) answer is.says
serial_else c m limits answer (inr (inr is)) = reported_else is.0 answer is.3

checked_else : (c : Component) (m : Matrix) (choice : Options) (answer : Answer) → IsChecked c m choice answer → IsElse answer
checked_else c m choice answer (inl is) = reported_else is.0 answer is.2
checked_else c m choice answer (inr is) = text_else answer 75 (ap (byte_of 8) is.1) (λ e. omega arith)

against_else : (c : Component) (m : Matrix) (choice : Options) (members : List (List SerialOp)) (answer : Answer) → IsCheckedAgainst c m choice members answer → IsElse answer
against_else c m choice members answer (inl is) = reported_else is.0 answer is.2
against_else c m choice members answer (inr is) = text_else answer 75 (ap (byte_of 8) is.1) (λ e. omega arith)

other_status : (answer : Answer) (n : ℕ) → answer.status ≡ n → (n ≡ 4 → ⊥) → answer.status ≡ 4 → ⊥
other_status answer n is other e = other (sym is ∙ e)

certificate_status : (c : Component) (certificate : Certificate) (answer : Answer) → ShowsCertificate c certificate answer → answer.status ≡ 4 → ⊥
certificate_status c (Linearizable members) answer is = other_status answer 0 (ap (λ (a : Answer). a.status) is.2) (λ e. omega arith)
certificate_status c (NotLinearizable smaller r) answer is = other_status answer 1 (ap (λ (a : Answer). a.status) is) (λ e. omega arith)
certificate_status c (Livelock smaller u) answer is = other_status answer 1 (ap (λ (a : Answer). a.status) is) (λ e. omega arith)
certificate_status c (Undecided smaller r) answer is = other_status answer 3 (ap (λ (a : Answer). a.status) is) (λ e. omega arith)

shown_else : (c : Component) (certificate : Certificate) (answer : Answer) → ShowsCertificate c certificate answer → IsElse answer
shown_else c certificate answer is = status_else answer answer.status refl (certificate_status c certificate answer is)

-- what fails is shown with status 1
failure_else : (answer : Answer) (text : List ℕ) → answer ≡ failure text → IsElse answer
failure_else answer text is = status_else answer 1 (ap (λ (a : Answer). a.status) is) (λ e. omega arith)

run_else : (view : View) (how : Wording) (c : Component) (cut : Matrix) (u : List Move) (text : List ℕ) (answer : Answer) → ShowsRun view how c cut u text answer → IsElse answer
run_else view.Explanation how c cut u text answer (steps, made, is) = failure_else answer (below text steps) is
run_else (view.Trace start) how c cut u text answer (steps, made, is) = failure_else answer (below text steps) is
run_else view.Picture how c cut u text answer (picture, made, is) = failure_else answer picture.text is
run_else view.ExplainedPicture how c cut u text answer (picture, made, is) = failure_else answer picture.text is

unexplained_else : (why schedule : List ℕ) (answer : Answer) → answer ≡ unexplained why schedule → IsElse answer
unexplained_else why schedule answer is = status_else answer 1 (ap (λ (a : Answer). a.status) is) (λ e. omega arith)

next_else : (why : List ℕ) (how : Wording) (c : Component) (m : Matrix) (u : List Move) (answer : Answer) → SaysNext why how c m u answer → IsElse answer
next_else why how c m u answer (inl is) = unexplained_else why (codes "next\n" ++ is.0) answer is.2
next_else why how c m u answer (inr is) = status_else answer 1 (ap (λ (a : Answer). a.status) is.2) (λ e. omega arith)

livelock_else : (view : View) (how : Wording) (c : Component) (cut : Matrix) (u : List Move) (text : List ℕ) (answer : Answer) → ShowsLivelock view how c cut u text answer → IsElse answer
livelock_else view.Explanation how c cut u text answer (why, says, is) = run_else view.Explanation how c cut u (below text why) answer is
livelock_else (view.Trace start) how c cut u text answer is = run_else (view.Trace start) how c cut u text answer is
livelock_else view.Picture how c cut u text answer is = run_else view.Picture how c cut u text answer is
livelock_else view.ExplainedPicture how c cut u text answer is = run_else view.ExplainedPicture how c cut u text answer is

failing_else : (view : View) (how : Wording) (c : Component) (cut : Matrix) (r : Report) (u : List Move) (answer : Answer) → ShowsFailing view how c cut r u answer → IsElse answer
failing_else view.Explanation how c cut r u answer (why, explains, is) = run_else view.Explanation how c cut u (below (two_texts c cut r) why) answer is
failing_else view.ExplainedPicture how c cut r u answer (picture, explains, is) = failure_else answer picture.text is
failing_else (view.Trace start) how c cut r u answer is = run_else (view.Trace start) how c cut u (two_texts c cut r) answer is
failing_else view.Picture how c cut r u answer is = run_else view.Picture how c cut u (two_texts c cut r) answer is

by_view_else : (view : View) (how : Wording) (c : Component) (certificate : Certificate) (answer : Answer) → ShowsByView view how c certificate answer → IsElse answer
by_view_else view how c (Linearizable members) answer is = shown_else c (Linearizable members) answer is
by_view_else view how c (Undecided cut r) answer is = shown_else c (Undecided cut r) answer is
by_view_else view how c (Livelock cut u) answer is = livelock_else view how c cut u (with_schedule c (cut, u)).text answer is
by_view_else view how c (NotLinearizable cut r) answer is = go (shown_schedule r.finding) is
  where
    go : (found : Option (List Move)) → MatchOption found (ShowsCertificate c (NotLinearizable cut r) answer) (λ u. ShowsFailing view how c cut r u answer) → IsElse answer
    go None is = shown_else c (NotLinearizable cut r) answer is
    go (Some u) is = failing_else view how c cut r u answer is

by_schedule_else : (c : Component) (m : Matrix) (asked : CertifyOptions) (repetition : Repetition) (words : List ℕ) (u : List Move) (answer : Answer) → ShowsBySchedule c m asked repetition words u answer → IsElse answer
by_schedule_else c m asked repetition words u answer (inl is) = shown_else c is.certificate answer is.shown
by_schedule_else c m asked repetition words u answer (inr (inl is)) = status_else answer 1 (ap (λ (a : Answer). a.status) is) (λ e. omega arith)
by_schedule_else c m asked repetition words u answer (inr (inr is)) = status_else answer 1 (ap (λ (a : Answer). a.status) is) (λ e. omega arith)

verdict_else : (c : Component) (m : Matrix) (asked : CertifyOptions) (repetition : Repetition) (found : RoundsVerdict) (answer : Answer) → ShowsVerdict c m asked repetition found answer → IsElse answer
verdict_else c m asked repetition verdicts.Linearizable answer is = status_else answer 0 (ap (λ (a : Answer). a.status) is) (λ e. omega arith)
verdict_else c m asked repetition (verdicts.NotLinearizable moves) answer is = by_schedule_else c m asked repetition (codes "not linearizable") moves.items answer is
verdict_else c m asked repetition (verdicts.Livelock moves) answer is = by_schedule_else c m asked repetition (codes "livelock") moves.items answer is
verdict_else c m asked repetition verdicts.Offends answer is = status_else answer 3 (ap (λ (a : Answer). a.status) is) (λ e. omega arith)
verdict_else c m asked repetition verdicts.Undecided answer is = status_else answer 3 (ap (λ (a : Answer). a.status) is) (λ e. omega arith)

unrolled_else : (c : Component) (m : Matrix) (asked : CertifyOptions) (repetition : Repetition) (answer : Answer) → IsCertifiedUnrolled c m asked repetition answer → IsElse answer
unrolled_else c m asked Forever answer is = verdict_else c m asked Forever is.0 answer is.2
unrolled_else c m asked (UpTo n) answer (inl is) = verdict_else c (times n m) asked (UpTo n) is.0 answer is.2
unrolled_else c m asked (UpTo n) answer (inr is) = status_else answer 3 (ap (λ (a : Answer). a.status) is) (λ e. omega arith)

at_once_else : (c : Component) (m : Matrix) (asked : CertifyOptions) (answer : Answer) → IsCertifiedAtOnce c m asked answer → IsElse answer
at_once_else c m asked answer (inl is) = shown_else c (Linearizable is.1.0) answer is.1.2
at_once_else c m asked answer (inr is) = verdict_else c m (in_one_search asked) (UpTo 1) is.1.0 answer is.1.2

by_cuts_else : (c : Component) (m : Matrix) (asked : CertifyOptions) (answer : Answer) → IsCertifiedByCuts c m asked answer → IsElse answer
by_cuts_else c m asked answer (inl is) = shown_else c is.0 answer is.2
by_cuts_else c m asked answer (inr is) = text_else answer 75 (ap (byte_of 8) is.1) (λ e. omega arith)

certified_else : (c : Component) (m : Matrix) (asked : CertifyOptions) (answer : Answer) → IsCertified c m asked answer → IsElse answer
certified_else c m asked answer (inl is) = at_once_else c m asked answer is
certified_else c m asked answer (inr is) = by_cuts_else c m asked answer is

value_else : {Kind A : Type 0} (code : Kind → List ℕ) (r : Result A (Fault Kind)) (IsAnswer : A → Answer → Type 0) (answer : Answer) → ((x : A) → IsAnswer x answer → IsElse answer) → ToValue code r IsAnswer answer → IsElse answer
value_else code (Ok x) IsAnswer answer h is = h x is
value_else code (Err (At kind n)) IsAnswer answer h is = refused_else _ answer is
value_else code (Err Memory) IsAnswer answer h is = absurd is

settled_else : (c : Component) (m : Matrix) (IsAnswer : Answer → Type 0) (answer : Answer) → (IsAnswer answer → IsElse answer) → ToSettled c m IsAnswer answer → IsElse answer
settled_else c m IsAnswer answer h (inl is) = h is.1
settled_else c m IsAnswer answer h (inr is) = refused_else (codes "U1 call " ++ decimal is.0) answer is.2

texts_else : (component matrix : List ℕ) (IsAnswer : Component → Matrix → Answer → Type 0) (answer : Answer) → ((c : Component) (m : Matrix) → IsAnswer c m answer → IsElse answer) → ToTexts component matrix IsAnswer answer → IsElse answer
texts_else component matrix IsAnswer answer h is =
    value_else code_of (meaning_of component_grammar component) (λ c. ToMatrix c matrix (λ m. ToSettled c m (IsAnswer c m))) answer
    (λ c more. value_else matrix_code_of (meaning_of (matrix_grammar c) matrix) (λ m. ToSettled c m (IsAnswer c m)) answer
    (λ m last. settled_else c m (IsAnswer c m) answer (h c m) last) more) is

component_else : (text : List ℕ) (IsAnswer : Component → Answer → Type 0) (answer : Answer) → ((c : Component) → IsAnswer c answer → IsElse answer) → ToComponent text IsAnswer answer → IsElse answer
component_else text IsAnswer answer h is = go (is_source text) is
  where
    go : (b : Bool) → MatchBool b (ToValue source_code_of (component_meant text) IsAnswer answer) (ToValue code_of (meaning_of component_grammar text) IsAnswer answer) → IsElse answer
    go true is = value_else source_code_of (component_meant text) IsAnswer answer h is
    go false is = value_else code_of (meaning_of component_grammar text) IsAnswer answer h is

worded_else : (text matrix : List ℕ) (IsAnswer : Wording → Component → Matrix → Answer → Type 0) (answer : Answer) → ((how : Wording) (c : Component) (m : Matrix) → IsAnswer how c m answer → IsElse answer) → ToWorded text matrix IsAnswer answer → IsElse answer
worded_else text matrix IsAnswer answer h is =
    component_else text (λ c. ToMatrix c matrix (λ m. ToSettled c m (λ a. (how : Wording) × IsWordingOf text how × IsAnswer how c m a))) answer
    (λ c more. value_else matrix_code_of (meaning_of (matrix_grammar c) matrix) (λ m. ToSettled c m (λ a. (how : Wording) × IsWordingOf text how × IsAnswer how c m a)) answer
    (λ m last. settled_else c m (λ a. (how : Wording) × IsWordingOf text how × IsAnswer how c m a) answer (λ (how, by, shown). h how c m shown) last) more) is

parts_else : {A : Type 0} (parts : Option A) (IsAnswer : A → Answer → Type 0) (answer : Answer) → ((p : A) → IsAnswer p answer → IsElse answer) → ToParts parts IsAnswer answer → IsElse answer
parts_else None IsAnswer answer h is = refused_else (codes "B1") answer is
parts_else (Some parts) IsAnswer answer h is = h parts is

two_else : (parts : List (List ℕ)) (IsAnswer : Component → Matrix → Answer → Type 0) (answer : Answer) → ((c : Component) (m : Matrix) → IsAnswer c m answer → IsElse answer) → ToParts (exactly_two parts) (λ p. ToTexts p.0 p.1 IsAnswer) answer → IsElse answer
two_else parts IsAnswer answer h is =
    parts_else (exactly_two parts) (λ p. ToTexts p.0 p.1 IsAnswer) answer (λ p more. texts_else p.0 p.1 IsAnswer answer h more) is

three_else : (parts : List (List ℕ)) (IsAnswer : Component → Matrix → List Move → Answer → Type 0) (answer : Answer) → ((c : Component) (m : Matrix) (u : List Move) → IsAnswer c m u answer → IsElse answer) → ToParts (exactly_three parts) (λ p. ToTexts p.0 p.1 (λ c m. ToSchedule (schedule_of p.2) (IsAnswer c m))) answer → IsElse answer
three_else parts IsAnswer answer h is =
    parts_else (exactly_three parts) (λ p. ToTexts p.0 p.1 (λ c m. ToSchedule (schedule_of p.2) (IsAnswer c m))) answer
    (λ p more. texts_else p.0 p.1 (λ c m. ToSchedule (schedule_of p.2) (IsAnswer c m)) answer (λ c m play. scheduled_else (schedule_of p.2) (IsAnswer c m) answer (h c m) play) more) is

shown_text_else : (text : List ℕ) (IsAnswer : List Move → Answer → Type 0) (answer : Answer) → ((u : List Move) → IsAnswer u answer → IsElse answer) → ToShown text IsAnswer answer → IsElse answer
shown_text_else text IsAnswer answer h (found, of, more) = scheduled_else (or_schedule found text) IsAnswer answer h more

after_else : (parts : List (List ℕ)) (IsAnswer : Wording → Component → Matrix → List Move → Answer → Type 0) (answer : Answer) → ((how : Wording) (c : Component) (m : Matrix) (u : List Move) → IsAnswer how c m u answer → IsElse answer) → ToParts (shown_parts parts) (λ p. ToWorded p.0 p.1 (λ how c m. ToShown p.2 (IsAnswer how c m))) answer → IsElse answer
after_else parts IsAnswer answer h is =
    parts_else (shown_parts parts) (λ p. ToWorded p.0 p.1 (λ how c m. ToShown p.2 (IsAnswer how c m))) answer
    (λ p more. worded_else p.0 p.1 (λ how c m. ToShown p.2 (IsAnswer how c m)) answer (λ how c m play. shown_text_else p.2 (IsAnswer how c m) answer (h how c m) play) more) is

alone_or_else : (view : View) (IsShown : List (List ℕ) → Answer → Type 0) (parts : List (List ℕ)) (answer : Answer) → (IsShown parts answer → IsElse answer) → AloneOr view IsShown parts answer → IsElse answer
alone_or_else view IsShown parts answer h is = go (exactly_two parts) is
  where
    go : (found : Option (List ℕ × List ℕ)) → MatchOption found (IsShown parts answer) (λ p. ToWorded p.0 p.1 (IsShownAlone view) answer) → IsElse answer
    go None is = h is
    go (Some p) is = worded_else p.0 p.1 (IsShownAlone view) answer (λ how c m shown. by_view_else view how c shown.0 answer shown.2) is

matrix_else : (c : Component) (m : Matrix) (r : Report) (answer : Answer) → answer ≡ with_matrix c m r → IsElse answer
matrix_else c m r answer is = status_else answer (status_of r.finding) (ap (λ (a : Answer). a.status) is) (status_of_else r.finding)

shrink_else : (c : Component) (m : Matrix) (limits : Bounds) (answer : Answer) → ShowsShrunk c m limits answer → IsElse answer
shrink_else c m limits answer (inl is) = matrix_else c is.0 is.1 answer is.3
shrink_else c m limits answer (inr is) = reported_else is.0 answer is.3

refuted_else : (c : Component) (m : Matrix) (r : Report) (members : List (List SerialOp)) (answer : Answer) → IsRefuted c m r members answer → IsElse answer
refuted_else c m r members answer (inl is) = status_else answer 1 (ap (λ (a : Answer). a.status) is.1.2) (λ e. omega arith)
refuted_else c m r members answer (inr is) = refused_else (codes "F2") answer is.1

report_else : (text : List ℕ) (IsAnswer : Report → Answer → Type 0) (answer : Answer) → ((r : Report) → IsAnswer r answer → IsElse answer) → ToReport text IsAnswer answer → IsElse answer
report_else text IsAnswer answer h (inl is) = h is.0 is.2
report_else text IsAnswer answer h (inr is) = refused_else (report_code_of is.0 ++ codes " line " ++ decimal is.1) answer is.3

spec_else : (m : Matrix) (text : List ℕ) (IsAnswer : List (List SerialOp) → Answer → Type 0) (answer : Answer) → ((members : List (List SerialOp)) → IsAnswer members answer → IsElse answer) → ToSpec m text IsAnswer answer → IsElse answer
spec_else m text IsAnswer answer h (inl is) = h is.0 is.2
spec_else m text IsAnswer answer h (inr is) = refused_else (spec_code_of is.0 ++ codes " line " ++ decimal is.1) answer is.3

given_else : (marks : Marks) (m : Matrix) (text : List ℕ) (IsAnswer : List (List SerialOp) → Answer → Type 0) (answer : Answer) → ((members : List (List SerialOp)) → IsAnswer members answer → IsElse answer) → ToGiven marks m text IsAnswer answer → IsElse answer
given_else marks m text IsAnswer answer h (inl is) = h is.0 is.2
given_else marks m text IsAnswer answer h (inr is) = refused_else (spec_code_of is.0 ++ codes " line " ++ decimal is.1) answer is.3

refute_else : (c : Component) (m : Matrix) (report spec : List ℕ) (answer : Answer) → IsRefutedTexts c m report spec answer → IsElse answer
refute_else c m report spec answer is =
    report_else report (λ r. ToSpec m spec (IsRefuted c m r)) answer
    (λ r more. spec_else m spec (IsRefuted c m r) answer (λ members last. refuted_else c m r members answer last) more) is

spec_parts_else : (choice : Options) (marks : Marks) (parts : List (List ℕ)) (answer : Answer) → IsAnswerToCheckAgainst choice marks parts answer → IsElse answer
spec_parts_else choice marks parts answer is =
    parts_else (exactly_three parts) (λ p. ToTexts p.0 p.1 (λ c m. IsCheckedAgainstText c m choice marks p.2)) answer
    (λ p more. texts_else p.0 p.1 (λ c m. IsCheckedAgainstText c m choice marks p.2) answer
    (λ c m from. given_else marks m p.2 (IsCheckedAgainst c m choice) answer (λ members last. against_else c m choice members answer last) from) more) is

four_else : (parts : List (List ℕ)) (answer : Answer) → IsAnswerToRefute parts answer → IsElse answer
four_else parts answer is =
    parts_else (exactly_four parts) (λ p. ToTexts p.0 p.1 (λ c m. IsRefutedTexts c m p.2 p.3)) answer
    (λ p more. texts_else p.0 p.1 (λ c m. IsRefutedTexts c m p.2 p.3) answer (λ c m from. refute_else c m p.2 p.3 answer from) more) is

status_by_else : (v : Verdict) → status_by v ≡ 4 → ⊥
status_by_else Good e = omega arith
status_by_else NoWitness e = omega arith
status_by_else (NoWitnessFor t) e = omega arith

by_else : (members : List (List SerialOp)) (c : Component) (m : Matrix) (u : List Move) (h : List Event) (answer : Answer) → IsExplainedHistory members c m u h answer → IsElse answer
by_else members c m u h answer is = status_else answer (status_by is.verdict) (ap (λ (a : Answer). a.status) is.is) (status_by_else is.verdict)

conflict_else : (c : Component) (m : Matrix) (u : List Move) (before : ℕ) (earlier : SerialOutcome) (answer : Answer) → SaysConflict c m u before earlier answer → IsElse answer
conflict_else c m u before earlier answer (q, of, is) = unexplained_else (codes "nondeterministic") (schedule_text u ++ conflict_text c m q before earlier) answer is

offence_else : (c : Component) (m : Matrix) (f : Finding) (answer : Answer) → SaysFound c m f answer → IsElse answer
offence_else c m (SerialCut u) answer is = unexplained_else (codes "serial-cut") (schedule_text u) answer is
offence_else c m (Nondeterministic u before earlier) answer is = conflict_else c m u before earlier answer is
offence_else c m (Fail u why) answer is = absurd is
offence_else c m (Pass counts) answer is = absurd is

ended_else : (status : Status) (IsRunning IsEnded : Answer → Type 0) (answer : Answer) → (IsRunning answer → IsElse answer) → (IsEnded answer → IsElse answer) → ToEnded status IsRunning IsEnded answer → IsElse answer
ended_else Running IsRunning IsEnded answer runs ended is = runs is
ended_else Complete IsRunning IsEnded answer runs ended is = ended is
ended_else Stuck IsRunning IsEnded answer runs ended is = ended is

pictured_else : (how : Wording) (members : List (List SerialOp)) (c : Component) (m : Matrix) (u : List Move) (h : List Event) (answer : Answer) → IsPicturedHistory how members c m u h answer → IsElse answer
pictured_else how members c m u h answer (why, shown, is) = drawn_else how why c m u answer is

presented_as_else : (by : Presentation) (how : Wording) (members : List (List SerialOp)) (c : Component) (m : Matrix) (u : List Move) (h : List Event) (answer : Answer) → IsPresentedAs by how members c m u h answer → IsElse answer
presented_as_else Words how members c m u h answer is = by_else members c m u h answer is
presented_as_else Picture how members c m u h answer is = pictured_else how members c m u h answer is

presented_else : (by : Presenting) (members : List (List SerialOp)) (c : Component) (m : Matrix) (u : List Move) (h : List Event) (answer : Answer) → IsPresentedHistory by members c m u h answer → IsElse answer
presented_else by members c m u h answer is = presented_as_else by.by by.how members c m u h answer is

explained_else : (by : Presenting) (members : List (List SerialOp)) (c : Component) (m : Matrix) (u : List Move) (answer : Answer) → IsExplainedSchedule by members c m u answer → IsElse answer
explained_else by members c m u answer (inl is) = ended_else is.1 (SaysNext (codes "running") by.how c m u) (IsPresentedHistory by members c m u is.0) answer (next_else (codes "running") by.how c m u answer) (presented_else by members c m u is.0 answer) is.3
explained_else by members c m u answer (inr is) = status_else answer 1 (ap (λ (a : Answer). a.status) is.2) (λ e. omega arith)

finding_else : (IsAnswer : List Move → Answer → Type 0) (f : Finding) (answer : Answer) → ((u : List Move) → IsAnswer u answer → IsElse answer) → ToFinding IsAnswer f answer → IsElse answer
finding_else IsAnswer (SerialCut u) answer h is = unexplained_else (codes "serial-cut") (schedule_text u) answer is
finding_else IsAnswer (Nondeterministic u before earlier) answer h is = unexplained_else (codes "nondeterministic") (schedule_text u ++ difference before earlier) answer is
finding_else IsAnswer (Fail u why) answer h is = h u is
finding_else IsAnswer (Pass counts) answer h is = unexplained_else (codes "pass") [] answer is

explanation_else : (by : Presenting) (members : List (List SerialOp)) (c : Component) (m : Matrix) (t : Target) (answer : Answer) → IsExplainedTarget by members c m t answer → IsElse answer
explanation_else by members c m (target.Schedule u) answer is = explained_else by members c m u answer is
explanation_else by members c m (target.Report r) answer is = finding_else (IsExplainedSchedule by members c m) r.finding answer (λ u more. explained_else by members c m u answer more) is

serially_else : (by : Presenting) (limits : Bounds) (c : Component) (m : Matrix) (t : Target) (answer : Answer) → IsExplainedSerially by limits c m t answer → IsElse answer
serially_else by limits c m t answer (inl (members, are, is)) = explanation_else by members c m t answer is
serially_else by limits c m t answer (inr is) = offence_else c m is.0 answer is.2

target_else : (text : List ℕ) (IsAnswer : Target → Answer → Type 0) (answer : Answer) → ((t : Target) → IsAnswer t answer → IsElse answer) → ToTarget text IsAnswer answer → IsElse answer
target_else text IsAnswer answer h is = go (is_report text) is
  where
    go : (b : Bool) → MatchBool b (ToReport text (λ r. IsAnswer (target.Report r)) answer) (ToSchedule (schedule_of text) (λ u. IsAnswer (target.Schedule u)) answer) → IsElse answer
    go true is = report_else text (λ r. IsAnswer (target.Report r)) answer (λ r more. h (target.Report r) more) is
    go false is = scheduled_else (schedule_of text) (λ u. IsAnswer (target.Schedule u)) answer (λ u more. h (target.Schedule u) more) is

explain_after_else : (by : Presentation) (limits : Bounds) (parts : List (List ℕ)) (answer : Answer) → IsExplainAfter by limits parts answer → IsElse answer
explain_after_else by limits parts answer is =
    parts_else (shown_parts parts) (λ p. ToWorded p.0 p.1 (λ how c m. IsExplainedText (in_words by how) limits c m p.2)) answer
    (λ p more. worded_else p.0 p.1 (λ how c m. IsExplainedText (in_words by how) limits c m p.2) answer
    (λ how c m from. target_else p.2 (λ t. IsExplainedSerially (in_words by how) (limits_for limits t) c m t) answer (λ t last. serially_else (in_words by how) (limits_for limits t) c m t answer last) from) more) is

explain_else : (by : Presentation) (limits : Bounds) (parts : List (List ℕ)) (answer : Answer) → IsAnswerToExplain by limits parts answer → IsElse answer
explain_else by limits parts answer is = alone_or_else (view_of by) (IsExplainAfter by limits) parts answer (explain_after_else by limits parts answer) is

explain_against_else : (marks : Marks) (parts : List (List ℕ)) (answer : Answer) → IsAnswerToExplainAgainst marks parts answer → IsElse answer
explain_against_else marks parts answer is =
    parts_else (exactly_four parts) (λ p. ToWorded p.0 p.1 (λ how c m. IsExplainedAgainstText how c m p.2 marks p.3)) answer
    (λ p more. worded_else p.0 p.1 (λ how c m. IsExplainedAgainstText how c m p.2 marks p.3) answer
    (λ how c m from. target_else p.2 (λ t. ToGiven marks m p.3 (λ members. IsExplainedTarget (in_words Words how) members c m t)) answer
    (λ t read. given_else marks m p.3 (λ members. IsExplainedTarget (in_words Words how) members c m t) answer (λ members last. explanation_else (in_words Words how) members c m t answer last) read) from) more) is

found_else : (c : Component) (found : Campaign) (answer : Answer) → answer ≡ found_answer c found → IsElse answer
found_else c (AllPass count) answer is = status_else answer 0 (ap (λ (a : Answer). a.status) is) (λ e. omega arith)
found_else c (First m r) answer is = matrix_else c m r answer is

all_else : (asked : Asked) (answer : Answer) → IsCheckedWhole asked answer → IsElse answer
all_else asked answer (inl is) = found_else asked.component is.0 answer is.2
all_else asked answer (inr is) = refused_else _ answer is.3

slice_else : (asked : Asked) (from upto : ℕ) (answer : Answer) → IsCheckedNumbers asked from upto answer → IsElse answer
slice_else asked from upto answer (inl is) = found_else asked.component is.0 answer is.2
slice_else asked from upto answer (inr is) = refused_else _ answer is.3

count_else : (lists : List (List Call)) (calls : ℕ) (answer : Answer) → IsCountAnswer lists calls answer → IsElse answer
count_else lists calls answer (inl is) = status_else answer 0 (ap (λ (a : Answer). a.status) is.1) (λ e. omega arith)
count_else lists calls answer (inr is) = refused_else _ answer is.3

certified_shown_else : (c : Component) (found : CertifiedCampaign) (answer : Answer) → ShowsCertified c found answer → IsElse answer
certified_shown_else c (AllLinearizable count) answer is = status_else answer 0 (ap (λ (a : Answer). a.status) is) (λ e. omega arith)
certified_shown_else c (NotAll matrix certificate) answer (shown, shows, is) = status_else answer shown.status (ap (λ (a : Answer). a.status) is) (certificate_status c certificate shown shows)

certified_reply_else : (asked : Asked) (from upto : ℕ) (answer : Answer) → IsCertifiedNumbers asked from upto answer → IsElse answer
certified_reply_else asked from upto answer (inl is) = certified_shown_else asked.component is.0 answer is.2
certified_reply_else asked from upto answer (inr is) = refused_else _ answer is.3

abbrev status_by_two : Bool → Bool → ℕ
status_by_two fails undecided = if fails then 1 else (if undecided then 3 else 0)

no_fourth : (fails undecided : Bool) → status_by_two fails undecided ≡ 4 → ⊥
no_fourth true undecided e = omega arith
no_fourth false true e = omega arith
no_fourth false false e = omega arith

survey_status_else : (s : Survey) → survey_status s ≡ 4 → ⊥
survey_status_else s = no_fourth (nat_lt 0 s.not_linearizable.count || nat_lt 0 s.livelock.count) (nat_lt 0 s.undecided.count)

survey_reply_else : (asked : Asked) (from upto : ℕ) (answer : Answer) → IsSurveyedNumbers asked from upto answer → IsElse answer
survey_reply_else asked from upto answer (inl (s, surveyed, shows)) = status_else answer (survey_status s) (ap (λ (a : Answer). a.status) shows.6) (survey_status_else s)
survey_reply_else asked from upto answer (inr is) = refused_else _ answer is.3

surveyed_part_else : (part : CampaignPart) (asked : Asked) (answer : Answer) → IsSurveyedPart part asked answer → IsElse answer
surveyed_part_else Whole asked answer is = survey_reply_else asked 0 most_long answer is
surveyed_part_else (Slice from upto) asked answer is = survey_reply_else asked from upto answer is
surveyed_part_else Count asked answer is = count_else asked.candidates asked.calls answer is

comparison_status : (c : Component) (found : Comparison) → (comparison_answer c found).status ≡ 4 → ⊥
comparison_status c (AllAgree count) e = omega arith
comparison_status c (Differs m (TrustedCut u)) e = omega arith
comparison_status c (Differs m (TrustedConflict u before earlier)) e = omega arith
comparison_status c (Differs m (Serially u)) e = omega arith
comparison_status c (Differs m (Concurrently r)) e = omega arith

comparison_else : (trusted : Component) (asked : Asked) (from upto : ℕ) (answer : Answer) → IsComparedNumbers trusted asked from upto answer → IsElse answer
comparison_else trusted asked from upto answer (inl (found, compared, is)) = status_else answer (comparison_answer asked.component found).status (ap (λ (a : Answer). a.status) is) (comparison_status asked.component found)
comparison_else trusted asked from upto answer (inr is) = refused_else _ answer is.3

compared_part_else : (trusted : Component) (part : CampaignPart) (asked : Asked) (answer : Answer) → IsComparedPart trusted part asked answer → IsElse answer
compared_part_else trusted Whole asked answer is = comparison_else trusted asked 0 most_long answer is
compared_part_else trusted (Slice from upto) asked answer is = comparison_else trusted asked from upto answer is
compared_part_else trusted Count asked answer is = count_else asked.candidates asked.calls answer is

alike_else : (threads : ℕ) (lines : List (List Call)) (IsAnswer : List (List Call) → Answer → Type 0) (answer : Answer) → ((lists : List (List Call)) → IsAnswer lists answer → IsElse answer) → ToAlike threads lines IsAnswer answer → IsElse answer
alike_else threads [] IsAnswer answer other is = refused_else (codes "G2") answer is
alike_else threads (candidates ∷ []) IsAnswer answer other is = other (replicate threads candidates) is
alike_else threads (a ∷ b ∷ lines) IsAnswer answer other is = refused_else (codes "G2") answer is

lists_else : (threads : CampaignThreads) (lines : List (List Call)) (IsAnswer : List (List Call) → Answer → Type 0) (answer : Answer) → ((lists : List (List Call)) → IsAnswer lists answer → IsElse answer) → ToLists threads lines IsAnswer answer → IsElse answer
lists_else (Alike threads) lines IsAnswer answer other is = alike_else threads lines IsAnswer answer other is
lists_else Own lines IsAnswer answer other is = other lines is

compared_else : (options : CampaignOptions) (trusted c : Component) (m : Matrix) (answer : Answer) → IsComparedMatrix trusted options c m answer → IsElse answer
compared_else options trusted c m answer is =
    lists_else options.threads m.threads (IsComparedLists trusted options c m.setup) answer
    (λ lists compared. compared_part_else trusted options.part (asked_with c m.setup lists options) answer compared) is

certified_part_else : (part : CampaignPart) (asked : Asked) (answer : Answer) → IsCertifiedPart part asked answer → IsElse answer
certified_part_else Whole asked answer is = certified_reply_else asked 0 most_long answer is
certified_part_else (Slice from upto) asked answer is = certified_reply_else asked from upto answer is
certified_part_else Count asked answer is = count_else asked.candidates asked.calls answer is

part_else : (part : CampaignPart) (asked : Asked) (answer : Answer) → IsCheckedPart part asked answer → IsElse answer
part_else Whole asked answer is = all_else asked answer is
part_else (Slice from upto) asked answer is = slice_else asked from upto answer is
part_else Count asked answer is = count_else asked.candidates asked.calls answer is

trial_else : (trial : CampaignTrial) (part : CampaignPart) (asked : Asked) (answer : Answer) → IsAnswerToTrial trial part asked answer → IsElse answer
trial_else Checked part asked answer is = part_else part asked answer is
trial_else Certified part asked answer is = certified_part_else part asked answer is
trial_else Surveyed part asked answer is = surveyed_part_else part asked answer is

campaign_else : (options : CampaignOptions) (c : Component) (m : Matrix) (answer : Answer) → IsCampaignOfMatrix options c m answer → IsElse answer
campaign_else options c m answer is =
    lists_else options.threads m.threads (IsListsAnswer options c m.setup) answer
    (λ lists tried. trial_else options.trial options.part (asked_with c m.setup lists options) answer tried) is

collected_else : (m : Matrix) (text : List ℕ) (answer : Answer) → IsCollected m text answer → IsElse answer
collected_else m text answer (inl is) = status_else answer 0 (ap (λ (a : Answer). a.status) is.2.2) (λ e. omega arith)
collected_else m text answer (inr is) = refused_else (spec_code_of is.0 ++ codes " line " ++ decimal is.1) answer is.3

collected_parts_else : (parts : List (List ℕ)) (answer : Answer) → IsAnswerToSpec parts answer → IsElse answer
collected_parts_else parts answer is =
    parts_else (exactly_three parts) (λ p. ToTexts p.0 p.1 (λ c m. IsCollected m p.2)) answer
    (λ p more. texts_else p.0 p.1 (λ c m. IsCollected m p.2) answer (λ c m last. collected_else m p.2 answer last) more) is

judged_else : (members : List (List SerialOp)) (c : Component) (m : Matrix) (all : List Recorded) (answer : Answer) → IsJudgedByMembers members c m all answer → IsElse answer
judged_else members c m all answer (None, found, is) = status_else answer 0 (ap (λ (a : Answer). a.status) is) (λ e. omega arith)
judged_else members c m all answer (Some n, found, is) = status_else answer 1 (ap (λ (a : Answer). a.status) is.2.2) (λ e. omega arith)

recorded_else : (m : Matrix) (texts : List (List ℕ)) (IsAnswer : List Recorded → Answer → Type 0) (answer : Answer) → ((all : List Recorded) → IsAnswer all answer → IsElse answer) → ToRecorded m texts IsAnswer answer → IsElse answer
recorded_else m texts IsAnswer answer h (inl is) = h is.0 is.2
recorded_else m texts IsAnswer answer h (inr is) = refused_else (recorded_code_of is.1 ++ codes " history " ++ decimal is.0 ++ codes " line " ++ decimal is.2) answer is.4

judged_serially_else : (c : Component) (m : Matrix) (limits : Bounds) (all : List Recorded) (answer : Answer) → IsJudgedSerially c m limits all answer → IsElse answer
judged_serially_else c m limits all answer (inl is) = judged_else is.2 c m all answer is.7
judged_serially_else c m limits all answer (inr is) = reported_else is.0 answer is.3

histories_else : (limits : Bounds) (parts : List (List ℕ)) (answer : Answer) → IsAnswerToHistories limits parts answer → IsElse answer
histories_else limits parts answer is =
    parts_else (three_parts parts) (λ p. ToTexts p.0 p.1 (λ c m. IsJudgedTexts c m limits p.2)) answer
    (λ p more. texts_else p.0 p.1 (λ c m. IsJudgedTexts c m limits p.2) answer
    (λ c m from. recorded_else m p.2 (IsJudgedSerially c m limits) answer (λ all last. judged_serially_else c m limits all answer last) from) more) is

run_shown_else : (c : Component) (n : ℕ) (run : Run) (verdict : RunVerdict) (reason : List ℕ) (answer : Answer) → answer ≡ run_shown c n run verdict reason → IsElse answer
run_shown_else c n run Passes reason answer is = status_else answer 1 (ap (λ (a : Answer). a.status) is) (λ e. omega arith)
run_shown_else c n run (FailsAt i) reason answer is = status_else answer 1 (ap (λ (a : Answer). a.status) is) (λ e. omega arith)
run_shown_else c n run (NotStuck t) reason answer is = status_else answer 1 (ap (λ (a : Answer). a.status) is) (λ e. omega arith)
run_shown_else c n run (Offends t call) reason answer is = status_else answer 3 (ap (λ (a : Answer). a.status) is) (λ e. omega arith)

runs_judged_else : (c : Component) (m : Matrix) (limits : Bounds) (runs : List Run) (answer : Answer) → AreJudged c m limits runs answer → IsElse answer
runs_judged_else c m limits runs answer (None, found, is) = status_else answer 0 (ap (λ (a : Answer). a.status) is) (λ e. omega arith)
runs_judged_else c m limits runs answer (Some (n, verdict), found, is) = run_shown_else c n is.0 verdict is.2 answer is.4

runs_else : (c : Component) (m : Matrix) (limits : Bounds) (texts : List (List ℕ)) (answer : Answer) → AreJudgedTexts c m limits texts answer → IsElse answer
runs_else c m limits texts answer (inl is) = runs_judged_else c m limits is.0 answer is.2
runs_else c m limits texts answer (inr is) = refused_else (run_code_of is.1 ++ codes " run " ++ decimal is.0 ++ codes " line " ++ decimal is.2) answer is.4

answer_to_runs_else : (limits : Bounds) (component setup : List ℕ) (runs : List (List ℕ)) (answer : Answer) → IsAnswerToRuns limits (component, setup, runs) answer → IsElse answer
answer_to_runs_else limits component setup runs answer is =
    value_else code_of (meaning_of component_grammar component)
    (λ c. ToValue matrix_code_of (meaning_of (setup_grammar c) setup) (λ m. ToSettled c m (AreJudgedTexts c m limits runs))) answer
    (λ c more. value_else matrix_code_of (meaning_of (setup_grammar c) setup) (λ m. ToSettled c m (AreJudgedTexts c m limits runs)) answer
    (λ m last. settled_else c m (AreJudgedTexts c m limits runs) answer (runs_else c m limits runs answer) last) more) is

witness_by : (limits : Bounds) (parts : List (List ℕ)) (found : Option (List ℕ × List ℕ × List (List ℕ))) (answer : Answer) → MatchOption found (IsAnswerToHistories limits parts answer) (λ p. IsAnswerToRuns limits p answer) → IsElse answer
witness_by limits parts None answer is = histories_else limits parts answer is
witness_by limits parts (Some (component, setup, runs)) answer is = answer_to_runs_else limits component setup runs answer is

witness_else : (limits : Bounds) (parts : List (List ℕ)) (answer : Answer) → IsAnswerToWitness limits parts answer → IsElse answer
witness_else limits parts answer is = witness_by limits parts (run_parts parts) answer is

witness_against_else : (marks : Marks) (parts : List (List ℕ)) (answer : Answer) → IsAnswerToWitnessAgainst marks parts answer → IsElse answer
witness_against_else marks parts answer is =
    parts_else (four_parts parts) (λ p. ToTexts p.0 p.1 (λ c m. IsJudgedAgainstTexts c m marks p.2 p.3)) answer
    (λ p more. texts_else p.0 p.1 (λ c m. IsJudgedAgainstTexts c m marks p.2 p.3) answer
    (λ c m from. given_else marks m p.2 (λ members. ToRecorded m p.3 (IsJudgedByMembers members c m)) answer
    (λ members read. recorded_else m p.3 (IsJudgedByMembers members c m) answer (λ all last. judged_else members c m all answer last) read) from) more) is

conformed_else : (c : Component) (m : Matrix) (showing : Showing) (all : List Recorded) (answer : Answer) → IsConformed c m showing all answer → IsElse answer
conformed_else c m CountAlone all answer (Conforms schedules, found, is) = status_else answer 0 (ap (λ (a : Answer). a.status) is) (λ e. omega arith)
conformed_else c m Schedules all answer (Conforms schedules, found, is) = status_else answer 0 (ap (λ (a : Answer). a.status) is) (λ e. omega arith)
conformed_else c m showing all answer (NoneShows n, found, is) = status_else answer 1 (ap (λ (a : Answer). a.status) is.2) (λ e. omega arith)
conformed_else c m showing all answer (Undetermined n, found, is) = status_else answer 3 (ap (λ (a : Answer). a.status) is) (λ e. omega arith)

conform_else : (showing : Showing) (parts : List (List ℕ)) (answer : Answer) → IsAnswerToConform showing parts answer → IsElse answer
conform_else showing parts answer is =
    parts_else (three_parts parts) (λ p. ToTexts p.0 p.1 (λ c m. IsConformedTexts c m showing p.2)) answer
    (λ p more. texts_else p.0 p.1 (λ c m. IsConformedTexts c m showing p.2) answer
    (λ c m from. recorded_else m p.2 (IsConformed c m showing) answer (λ all last. conformed_else c m showing all answer last) from) more) is

trusted_else : (text : List ℕ) (c : Component) (m : Matrix) (IsAnswer : Component → Answer → Type 0) (answer : Answer) → ((trusted : Component) → IsAnswer trusted answer → IsElse answer) → ToTrusted text c m IsAnswer answer → IsElse answer
trusted_else text c m IsAnswer answer h is =
    value_else code_of (meaning_of component_grammar text) (λ trusted a. (HasSameOperations c trusted × ToSettled trusted m (IsAnswer trusted) a) ⊎ ((HasSameOperations c trusted → ⊥) × (a ≡ refused (codes "G4")))) answer
    (λ trusted either. elim either [
      | inl same ↦ settled_else trusted m (IsAnswer trusted) answer (h trusted) same.1
      | inr other ↦ refused_else (codes "G4") answer other.1
    ])
    is

campaign_against_else : (options : CampaignOptions) (parts : List (List ℕ)) (answer : Answer) → IsAnswerToCampaignAgainst options parts answer → IsElse answer
campaign_against_else options parts answer is =
    parts_else (exactly_three parts) (λ p. ToTexts p.0 p.1 (λ c m. ToTrusted p.2 c m (λ trusted. IsComparedMatrix trusted options c m))) answer
    (λ p more. texts_else p.0 p.1 (λ c m. ToTrusted p.2 c m (λ trusted. IsComparedMatrix trusted options c m)) answer
    (λ c m from. trusted_else p.2 c m (λ trusted. IsComparedMatrix trusted options c m) answer (λ trusted last. compared_else options trusted c m answer last) from) more) is

compile_else : (parts : List (List ℕ)) (answer : Answer) → IsAnswerToCompile parts answer → IsElse answer
compile_else [] answer is = refused_else (codes "B1") answer is
compile_else (source ∷ parts) answer is =
    value_else source_code_of (component_meant source) (λ c. IsCompiledBundle c parts) answer
    (λ c either. elim either [
      | inl made ↦ status_else answer 0 (ap (λ (a : Answer). a.status) made) (λ e. omega arith)
      | inr other ↦ refused_else (codes "B3") answer other.1
    ])
    is

-- a run that is shown
run_view_else : (view : RunView) (how : Wording) (c : Component) (m : Matrix) (u : List Move) (answer : Answer) → IsRunShown view how c m u answer → IsElse answer
run_view_else (run.Trace start) how c m u answer is = traced_else start how c m u answer is
run_view_else run.Picture how c m u answer is = drawn_else how nothing_said c m u answer is

view_else : (shown : RunView) (parts : List (List ℕ)) (answer : Answer) → IsAnswerToTraceOrDraw shown parts answer → IsElse answer
view_else shown parts answer is = alone_or_else (view_of_failure shown) (IsShownAfter shown) parts answer (λ after. after_else parts (IsRunShown shown) answer (λ how c m u more. run_view_else shown how c m u answer more) after) is

command_else : (command : BundleCommand) (parts : List (List ℕ)) (answer : Answer) → IsAnswerToCommand command parts answer → IsElse answer
command_else Replay parts answer is = three_else parts IsReplayed answer (λ c m u more. replayed_else c m u answer more) is
command_else (Trace start) parts answer is = view_else (run.Trace start) parts answer is
command_else Draw parts answer is = view_else run.Picture parts answer is
command_else (DrawExplained limits) parts answer is = explain_else Picture limits parts answer is
command_else (Explain limits) parts answer is = explain_else Words limits parts answer is
command_else (ExplainAgainst marks) parts answer is = explain_against_else marks parts answer is
command_else (Serial limits) parts answer is = two_else parts (λ c m. IsRunSerially c m limits) answer (λ c m more. serial_else c m limits answer more) is
command_else (Witness limits) parts answer is = witness_else limits parts answer is
command_else (WitnessAgainst marks) parts answer is = witness_against_else marks parts answer is
command_else (Conform showing) parts answer is = conform_else showing parts answer is
command_else Spec parts answer is = collected_parts_else parts answer is
command_else (Check choice) parts answer is = two_else parts (λ c m. IsChecked c m choice) answer (λ c m more. checked_else c m choice answer more) is
command_else (CheckAgainst choice marks) parts answer is = spec_parts_else choice marks parts answer is
command_else (Certify asked) parts answer is = two_else parts (λ c m. IsCertified c m asked) answer (λ c m more. certified_else c m asked answer more) is
command_else (CertifyUnrolled asked repetition) parts answer is = two_else parts (λ c m a. IsCertifiedUnrolled c m asked repetition a) answer (λ c m more. unrolled_else c m asked repetition answer more) is
command_else Refute parts answer is = four_else parts answer is
command_else (Shrink limits) parts answer is = two_else parts (λ c m. ShowsShrunk c m limits) answer (λ c m more. shrink_else c m limits answer more) is
command_else Compile parts answer is = compile_else parts answer is
command_else (CampaignAgainst options) parts answer is = campaign_against_else options parts answer is
command_else (Campaigning options) parts answer is = two_else parts (IsCampaignOfMatrix options) answer (λ c m more. campaign_else options c m answer more) is

marked_else : (answer : Answer) (b : Bool) → answer.status ≡ (if b then 2 else 0) → IsElse answer
marked_else answer true e = status_else answer 2 e (λ f. omega arith)
marked_else answer false e = status_else answer 0 e (λ f. omega arith)

linted_else : (limits : LintRequest) (bundle : List ℕ) (answer : Answer) → IsLinted limits bundle answer → IsElse answer
linted_else limits bundle answer (remarks, are, e) = marked_else answer (have_fault remarks) (ap (λ (a : Answer). a.status) e)

source_linted_else : (limits : LintRequest) (source : List ℕ) (parts : List (List ℕ)) (answer : Answer) → IsSourceLinted limits source parts answer → IsElse answer
source_linted_else limits source parts answer is = go (component_meant source) is
  where
    go : (meant : Result Component (Fault SourceFaultKind)) → MatchResult meant (λ c. IsLintedAfter limits source parts c answer) (λ fault. IsFaulted source answer) → IsElse answer
    go (Ok c) (said, remarks, tells, are, e) = marked_else answer (have_fault (below_source source c remarks)) (ap (λ (a : Answer). a.status) e)
    go (Err fault) (text, tells, e) = status_else answer 2 (ap (λ (a : Answer). a.status) e) (λ f. omega arith)

lint_else : (limits : LintRequest) (bundle : List ℕ) (answer : Answer) → IsLint limits bundle answer → IsElse answer
lint_else limits bundle answer is = go (bundle_parts bundle) is
  where
    by : (first : List ℕ) (parts : List (List ℕ)) (b : Bool) → MatchBool b (IsSourceLinted limits first parts answer) (IsLinted limits bundle answer) → IsElse answer
    by first parts true is = source_linted_else limits first parts answer is
    by first parts false is = linted_else limits bundle answer is

    go : (parts : List (List ℕ)) → IsLintedBy parts limits bundle answer → IsElse answer
    go [] is = linted_else limits bundle answer is
    go (first ∷ parts) is = by first parts (is_source first) is

bundle_else : (command : BundleCommand) (input : List ℕ) (answer : Answer) → IsAnswerToBundle command input answer → IsElse answer
bundle_else command input answer is = command_else command (bundle_parts input) answer is

source_else : (command : BundleCommand) (input : List ℕ) (answer : Answer) → IsAnswerWithSource command input answer → IsElse answer
source_else command input answer is =
    value_else source_code_of (bundle_meant input) (λ meant. IsAnswerToCommand command (bundle_parts meant)) answer
    (λ meant more. command_else command (bundle_parts meant) answer more) is

input_else : (IsAnswer : List ℕ → Answer → Type 0) (long : Bool) (input : List ℕ) (answer : Answer) → (IsAnswer input answer → IsElse answer) → MatchBool long (answer ≡ refused (codes "B2")) (IsAnswer input answer) → IsElse answer
input_else IsAnswer true input answer other is = refused_else (codes "B2") answer is
input_else IsAnswer false input answer other is = other is

help_else : (answer : Answer) → answer ≡ help_answer → answer ≢ no_device
help_else answer is = status_else answer 0 (ap (λ (a : Answer). a.status) is) (λ e. omega arith)

request_else : (request : Request) (input : List ℕ) (answer : Answer) → IsAnswerToInput request input answer → IsElse answer
request_else Commands input answer is = help_else answer is
request_else (Lint limits) input answer is = input_else (IsLint limits) (nat_lt 1048576 (length input)) input answer (lint_else limits input answer) is
request_else (Bundle command) input answer is = input_else (IsAnswerToBundle command) (nat_lt 1048576 (length input)) input answer (bundle_else command input answer) is
request_else (BundleWithSource command) input answer is = input_else (IsAnswerWithSource command) (nat_lt 1048576 (length input)) input answer (source_else command input answer) is

answer_else : (request : Request) (known : Option (List ℕ)) (answer : Answer) → IsAnswerToRead request known answer → answer ≢ no_device
answer_else request known answer is = request_else request is.0 answer is.2

refused_command_else : (answer : Answer) → answer ≡ no_command → answer ≢ no_device
refused_command_else answer is = status_else answer 2 (ap (λ (a : Answer). a.status) is) (λ e. omega arith)

-- what is answered to words
pub words_else : (said : Option Request) (known : Option (List ℕ)) (answer : Answer) → ((request : Request) → said ≡ Some request → IsAnswerToRead request known answer) → (said ≡ None → answer ≡ no_command) → answer ≢ no_device
words_else (Some request) known answer is refused = answer_else request known answer (is request refl)
words_else None known answer is refused = refused_command_else answer (refused refl)

pub memory_else : no_memory ≢ no_device
memory_else = text_else no_memory 109 refl (λ e. omega arith)

-- what was said was something else
pub said_else : (answer : Answer) (text : List ℕ) (old new : Option (List ℕ)) (status : ℕ) → answer ≢ no_device → text ≡ answer.text → Appends old new text × (status ≡ answer.status) → (a : Answer) × (a ≢ no_device) × Tells a old new status
said_else answer text old new status other t h = (answer, other, (subst (Appends old new) t h.0, h.1))
