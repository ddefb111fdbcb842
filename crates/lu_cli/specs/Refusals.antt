-- What is written of a refusal.
use Rattle.std.specs.Prelude.{◌≡◌, ℕ, ◌++◌, List, Option, Some, None, Result, Ok, Err, IfSome, codes}
use Rattle.std.specs.Fmt.{decimal}
use Rattle.lu_text.specs.declared.fault.Fault.{Fault}
use Rattle.lu_text.specs.declared.fault.Fault.TheVariants.{At, Memory}
use Rattle.lu_lang.specs.Kinds.{code_of}
use Rattle.lu_source_text.specs.Kinds.{code_of as source_code_of}
use Rattle.lu_test.specs.declared.schedule_fault.ScheduleFault.{ScheduleFault}
use Rattle.lu_test.specs.declared.schedule_fault.ScheduleFault.TheVariants as schedule
use Rattle.lu_test.specs.Codes.{matrix_code_of, schedule_code_of}
use Rattle.lu_parallel.specs.declared.fault.CheckFault.{CheckFault}
use Rattle.lu_parallel.specs.declared.fault.CheckFault.TheVariants as check
use Rattle.lu_report.specs.Codes.{report_code_of}
use Rattle.lu_spec.specs.Codes.{spec_code_of}
use Rattle.lu_recorded.specs.Codes.{recorded_code_of}
use Rattle.lu_recorded.specs.declared.fault.RecordedFaultKind.{RecordedFaultKind}
use Rattle.lu_run.specs.Codes.{run_code_of}
use Rattle.lu_run.specs.declared.fault.RunFaultKind.{RunFaultKind}
use Rattle.lu_refute.specs.declared.fault.RefuteFault.{RefuteFault}
use Rattle.lu_refute.specs.declared.fault.RefuteFault.TheVariants as refute
use Rattle.lu_refine.specs.declared.campaigns.CampaignFault.{CampaignFault}
use Rattle.lu_refine.specs.declared.campaigns.CampaignFault.TheVariants as campaign
use Rattle.lu_refine.specs.Codes.{campaign_code_of}
use Rattle.lu_cli.specs.declared.texts.Fault.{Fault as TextsFault}
use Rattle.lu_cli.specs.declared.texts.Fault.TheVariants.{Component, Matrix, Setup, Spec, Check}
use Rattle.lu_cli.specs.declared.refusal.Refusal.{Refusal}
use Rattle.lu_cli.specs.declared.refusal.Refusal.TheVariants as refusal
use Rattle.lu_cli.specs.Outcomes.{Answer, refused, refused_on_line, no_worker, too_many, unsettled}

-- a fault by line; nothing is written for refused memory here
abbrev pub line_answer : {Kind : Type 0} → (Kind → List ℕ) → Fault Kind → Option Answer
line_answer code (At kind n) = Some (refused_on_line (code kind) n)
line_answer code Memory = None

abbrev pub worker_answer : CheckFault → Option Answer
worker_answer check.Worker = Some no_worker
worker_answer check.Memory = None

abbrev pub schedule_answer : ScheduleFault → Option Answer
schedule_answer schedule.Memory = None
schedule_answer fault = Some (refused (schedule_code_of fault))

abbrev pub refute_refusal : RefuteFault → Option Answer
refute_refusal refute.NotShown = Some (refused (codes "F2"))
refute_refusal refute.Memory = None

abbrev pub campaign_refusal : CampaignFault → Option Answer
campaign_refusal campaign.Memory = None
campaign_refusal fault = Some (refused (campaign_code_of fault))

abbrev pub texts_answer : TextsFault → Option Answer
texts_answer (Component fault) = line_answer code_of fault
texts_answer (Matrix fault) = line_answer matrix_code_of fault
texts_answer (Setup k) = Some (unsettled k)
texts_answer (Spec fault) = line_answer spec_code_of fault
texts_answer (Check fault) = worker_answer fault

-- a fault of the text of history number i, from 0, on this line
abbrev pub refused_in_history : List ℕ → ℕ → ℕ → Answer
refused_in_history code i n =
    refused (code ++ codes " history " ++ decimal i ++ codes " line " ++ decimal n)

abbrev pub history_answer : ℕ → Fault RecordedFaultKind → Option Answer
history_answer i (At kind n) = Some (refused_in_history (recorded_code_of kind) i n)
history_answer i Memory = None

-- a fault of the text of run number i, from 0, on this line
abbrev pub refused_in_run : List ℕ → ℕ → ℕ → Answer
refused_in_run code i n =
    refused (code ++ codes " run " ++ decimal i ++ codes " line " ++ decimal n)

abbrev pub run_answer : ℕ → Fault RunFaultKind → Option Answer
run_answer i (At kind n) = Some (refused_in_run (run_code_of kind) i n)
run_answer i Memory = None

-- the line of a refusal, and its status; none for refused memory, of which the program tells in one
-- place
abbrev pub refusal_answer : Refusal → Option Answer
refusal_answer refusal.Parts = Some (refused (codes "B1"))
refusal_answer (refusal.Texts fault) = texts_answer fault
refusal_answer (refusal.Schedule fault) = schedule_answer fault
refusal_answer (refusal.Report fault) = line_answer report_code_of fault
refusal_answer (refusal.Refute fault) = refute_refusal fault
refusal_answer (refusal.Campaign fault) = campaign_refusal fault
refusal_answer (refusal.Source fault) = line_answer source_code_of fault
refusal_answer refusal.Operations = Some (refused (codes "G4"))
refusal_answer (refusal.Histories n) = Some (too_many n)
refusal_answer (refusal.Recorded fault) = history_answer fault.number fault.fault
refusal_answer (refusal.Run fault) = run_answer fault.number fault.fault
refusal_answer refusal.Memory = None

-- an answer of this kind, or a refusal whose line is one
abbrev pub Answered : (Answer → Type 0) → Result Answer Refusal → Type 0
Answered IsAnswer (Ok answer) = IsAnswer answer
Answered IsAnswer (Err refusal) = IfSome (refusal_answer refusal) IsAnswer

-- what is reported of it: the answer, or the refusal's line
abbrev pub SaysResult : Result Answer Refusal → Answer → Type 0
SaysResult (Ok answer) said = said ≡ answer
SaysResult (Err refusal) said = refusal_answer refusal ≡ Some said
