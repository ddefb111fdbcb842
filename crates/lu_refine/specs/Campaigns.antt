-- What campaigns answer.
use Rattle.std.specs.Prelude.{◌≡◌, ℕ, ◌*◌, ◌^◌, ◌≤◌, List, length, All, Result, IfOk}
use Rattle.lu_component.specs.Component.{Component}
use Rattle.lu_test.specs.declared.matrix.Call.{Call}
use Rattle.lu_test.specs.Matrix.{Matrix, AreArguments, IsCallOf, IsOf}
use Rattle.lu_report.specs.declared.report.Report.{Report}
use Rattle.lu_replay.specs.Reports.{IsReport}
use Rattle.lu_report.specs.Parts.{IsPass}
use Rattle.lu_refine.specs.declared.campaigns.Campaign.{Campaign}
use Rattle.lu_refine.specs.declared.campaigns.Campaign.TheVariants.{AllPass, First}
use Rattle.lu_refine.specs.declared.campaigns.CampaignFault.{CampaignFault}
use Rattle.lu_refine.specs.declared.campaigns.CampaignFault.TheVariants.{Candidates, Limit, Memory}
use Rattle.lu_refine.specs.Choices.{AreEnough, IsChoice, IsBefore, filled_matrix}

-- what a campaign is asked for
pub record Campaigned : Type 0 where
  pub component : Component
  pub setup : List Call
  pub candidates : List Call
  pub threads : ℕ
  pub calls : ℕ
  pub bound : ℕ
  pub serial : ℕ

abbrev pub campaigned : Component → List Call → List Call → ℕ → ℕ → ℕ → ℕ → Campaigned
campaigned c setup candidates threads calls bound serial = record {
  component = c;
  setup = setup;
  candidates = candidates;
  threads = threads;
  calls = calls;
  bound = bound;
  serial = serial;
}

-- calls of the component
abbrev pub AreCallsOf : Component → List Call → Type 0
AreCallsOf c candidates = All (IsCallOf c) candidates

-- at most 4 arguments of each, which are numbers of 32 bits
abbrev pub HaveArguments : List Call → Type 0
HaveArguments candidates = All (λ call. AreArguments call.args) candidates

-- 1 to 8 threads of 1 to 8 calls, and at most 16 positions
pub record IsGrid (threads calls : ℕ) : Type 0 where
  pub some_threads : 1 ≤ threads
  pub few_threads : threads ≤ 8
  pub some_calls : 1 ≤ calls
  pub few_calls : calls ≤ 8
  pub positions : threads * calls ≤ 16

-- a candidate's number for each position
abbrev pub IsChoiceOf : Campaigned → List ℕ → Type 0
IsChoiceOf asked choice = IsChoice (length asked.candidates) (asked.threads * asked.calls) choice

-- the matrix that a choice fills, with the setup
abbrev pub matrix_of_choice : Campaigned → List ℕ → Matrix
matrix_of_choice asked choice =
    filled_matrix asked.setup asked.candidates asked.threads asked.calls choice

-- r is the report of the matrix that the choice fills
abbrev pub IsReportAt : Campaigned → List ℕ → Report → Type 0
IsReportAt asked choice r =
    IsReport asked.component (matrix_of_choice asked choice) asked.bound asked.serial r

-- the matrix that the choice fills passes
abbrev pub PassesAt : Campaigned → List ℕ → Type 0
PassesAt asked choice = (r : Report) × IsReportAt asked choice r × IsPass r.finding

-- the choice's matrix, with its report, which is no pass; the matrices of all choices before it
-- pass
pub record IsFirstMatrix (asked : Campaigned) (matrix : Matrix) (r : Report) : Type 0 where
  pub choice : List ℕ
  pub chosen : IsChoiceOf asked choice
  pub is : matrix ≡ matrix_of_choice asked choice
  pub report : IsReportAt asked choice r
  pub no_pass : IsPass r.finding → ⊥
  pub before : (other : List ℕ) → IsChoiceOf asked other → IsBefore other choice
      → PassesAt asked other

-- all matrices pass, and this is their number; or the first one that does not
abbrev pub IsCampaign : Campaigned → Campaign → Type 0
IsCampaign asked (AllPass count) =
    (count ≡ length asked.candidates ^ (asked.threads * asked.calls))
    × ((choice : List ℕ) → IsChoiceOf asked choice → PassesAt asked choice)
IsCampaign asked (First matrix r) = IsFirstMatrix asked matrix r

-- the limits hold, and this is found
abbrev pub IsCampaignAnswer : Campaigned → Campaign → Type 0
IsCampaignAnswer asked found =
    AreEnough (length asked.candidates) × IsGrid asked.threads asked.calls × IsCampaign asked found

-- what a campaign answers that runs with this, but for faults
abbrev pub Runs : Component → List Call → List Call → ℕ → ℕ → ℕ → ℕ
    → Result Campaign CampaignFault → Type 0
Runs c setup candidates threads calls bound serial result =
    IfOk result (IsCampaignAnswer (campaigned c setup candidates threads calls bound serial))

-- not 1 to 8 candidates; else no grid within its limits; or memory was refused
abbrev pub IsLimitFault : ℕ → ℕ → ℕ → CampaignFault → Type 0
IsLimitFault candidates threads calls Candidates = AreEnough candidates → ⊥
IsLimitFault candidates threads calls Limit = AreEnough candidates × (IsGrid threads calls → ⊥)
IsLimitFault candidates threads calls Memory = Unit {0}

-- the matrix that is found is one of the component
abbrev pub IsFoundOf : Component → Campaign → Type 0
IsFoundOf c (AllPass count) = Unit {0}
IsFoundOf c (First matrix r) = IsOf matrix c
