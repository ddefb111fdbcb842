-- What `campaign` answers.
use Rattle.std.specs.Prelude.{ℕ, ◌++◌, codes, List, ◌≡◌, ◌≢◌, ◌⊎◌, Result, IfOk, [], Option, Some, None, String, string_bytes, ◌||◌, nat_lt, if◌then◌else◌, replicate, ◌∷◌}
use Rattle.std.specs.Fmt.{decimal}
use Rattle.lu_text.specs.Words.{exactly_two}
use Rattle.lu_component.specs.Component.{Component}
use Rattle.lu_test.specs.declared.matrix.Call.{Call}
use Rattle.lu_test.specs.MatrixText.{matrix_text}
use Rattle.lu_test.specs.Matrix.{Matrix}
use Rattle.lu_machine.specs.declared.test.Test.{Test}
use Rattle.lu_refine.specs.declared.campaigns.Campaign.{Campaign}
use Rattle.lu_refine.specs.declared.campaigns.Campaign.TheVariants.{AllPass, First}
use Rattle.lu_refine.specs.declared.campaigns.CampaignFault.{CampaignFault}
use Rattle.lu_refine.specs.declared.campaigns.CampaignFault.TheVariants.{Memory as NoMemory}
use Rattle.lu_refine.specs.Choices.{choice_count}
use Rattle.lu_refine.specs.ByThread.{Asked, asked_for, IsRolesFault, IsThreadsAnswer as IsFoundOfThreads, IsSliceAnswer as IsFoundOfSlice}
use Rattle.lu_refine.specs.Roles.{AreWithinLimits, bases}
use Rattle.lu_refine.specs.Codes.{campaign_code_of}
use Rattle.lu_survey.specs.declared.certified_campaign.CertifiedCampaign.{CertifiedCampaign}
use Rattle.lu_survey.specs.declared.certified_campaign.CertifiedCampaign.TheVariants.{AllLinearizable, First as NotAll}
use Rattle.lu_graph.specs.Nodes.{default_nodes}
use Rattle.lu_survey.specs.Certified.{IsCertifiedAnswer}
use Rattle.lu_survey.specs.declared.survey.CertifiedMatrix.{CertifiedMatrix}
use Rattle.lu_survey.specs.declared.survey.Survey.{Survey}
use Rattle.lu_survey.specs.Surveys.{IsSurveyAnswer}
use Rattle.lu_certify.specs.declared.certificate.Certificate.{Certificate}
use Rattle.lu_cli.specs.Shows.{with_matrix, ShowsCertificate}
use Rattle.lu_cli.specs.Args.{most_long}
use Rattle.lu_cli.specs.Outcomes.{Answer, refused}
use Rattle.lu_cli.specs.declared.refusal.Refusal.{Refusal}
use Rattle.lu_cli.specs.Refusals.{Answered}
use Rattle.lu_cli.specs.Reading.{ToParts, ToTexts}
use Rattle.lu_cli.specs.declared.request.CampaignOptions.{CampaignOptions}
use Rattle.lu_cli.specs.declared.request.CampaignPart.{CampaignPart}
use Rattle.lu_cli.specs.declared.request.CampaignPart.TheVariants.{Whole, Slice, Count}
use Rattle.lu_cli.specs.declared.request.CampaignThreads.{CampaignThreads}
use Rattle.lu_cli.specs.declared.request.CampaignThreads.TheVariants.{Alike, Own}
use Rattle.lu_cli.specs.declared.request.CampaignTrial.{CampaignTrial}
use Rattle.lu_cli.specs.declared.request.CampaignTrial.TheVariants.{Checked, Certified, Surveyed}

-- ---- where all matrices are checked

-- all matrices pass, and there are this many
abbrev pub all_pass : ℕ → Answer
all_pass count = record { text = codes "campaign pass " ++ decimal count ++ codes "\n"; status = 0 }

-- how many matrices there are, where all pass; or the first that does not, with its report
abbrev pub found_answer : Component → Campaign → Answer
found_answer c (AllPass count) = all_pass count
found_answer c (First matrix r) = with_matrix c matrix r

-- a number on a line of its own
abbrev pub numbered : ℕ → Answer
numbered n = record { text = decimal n ++ codes "\n"; status = 0 }

-- why there is no campaign over these lists
abbrev pub IsListsRefusal : List (List Call) → ℕ → Answer → Type 0
IsListsRefusal candidates calls answer =
    (fault : CampaignFault) × (fault ≢ NoMemory) × IsRolesFault candidates calls fault
    × (answer ≡ refused (campaign_code_of fault))

-- what all matrices of a campaign show, or why there is none
abbrev pub IsCheckedWhole : Asked → Answer → Type 0
IsCheckedWhole asked answer =
    ((found : Campaign) × IsFoundOfThreads asked found
    × (answer ≡ found_answer asked.component found))
    ⊎ IsListsRefusal asked.candidates asked.calls answer

-- what its matrices with these numbers show
abbrev pub IsCheckedNumbers : Asked → ℕ → ℕ → Answer → Type 0
IsCheckedNumbers asked from upto answer =
    ((found : Campaign) × IsFoundOfSlice asked from upto found
    × (answer ≡ found_answer asked.component found))
    ⊎ IsListsRefusal asked.candidates asked.calls answer

-- how many matrices it has
abbrev pub IsCountAnswer : List (List Call) → ℕ → Answer → Type 0
IsCountAnswer candidates calls answer =
    (AreWithinLimits calls candidates
    × (answer ≡ numbered (choice_count (bases calls candidates))))
    ⊎ IsListsRefusal candidates calls answer

abbrev pub IsCheckedPart : CampaignPart → Asked → Answer → Type 0
IsCheckedPart Whole asked = IsCheckedWhole asked
IsCheckedPart (Slice from upto) asked = IsCheckedNumbers asked from upto
IsCheckedPart Count asked = IsCountAnswer asked.candidates asked.calls

-- ---- where they are certified

-- on all matrices the component is linearizable, and there are this many
abbrev pub all_linearizable : ℕ → Answer
all_linearizable count =
    record { text = codes "campaign linearizable " ++ decimal count ++ codes "\n"; status = 0 }

-- a matrix, and what its certificate is shown as below it
abbrev pub below_matrix : Component → Matrix → Answer → Answer
below_matrix c matrix shown = record {
  text = matrix_text c matrix ++ codes "---\n" ++ shown.text;
  status = shown.status;
}

-- the answer, where there is one, is that
abbrev pub ShowsBelow : {E : Type 0} → Component → Matrix → Certificate → Result Answer E
    → Type 0
ShowsBelow c matrix certificate result =
    IfOk result (λ answer. (shown : Answer) × ShowsCertificate c certificate shown
    × (answer ≡ below_matrix c matrix shown))

-- how many matrices there are, where the component is linearizable on all; or the first on which it
-- is not certified to be, with its certificate
abbrev pub ShowsCertified : Component → CertifiedCampaign → Answer → Type 0
ShowsCertified c (AllLinearizable count) answer = answer ≡ all_linearizable count
ShowsCertified c (NotAll matrix certificate) answer =
    (shown : Answer) × ShowsCertificate c certificate shown
    × (answer ≡ below_matrix c matrix shown)

-- what the certificates of the matrices with these numbers say, or why there is no campaign
abbrev pub IsCertifiedNumbers : Asked → ℕ → ℕ → Answer → Type 0
IsCertifiedNumbers asked from upto answer =
    ((found : CertifiedCampaign) × IsCertifiedAnswer asked default_nodes from upto found
    × ShowsCertified asked.component found answer)
    ⊎ IsListsRefusal asked.candidates asked.calls answer

-- the same where the matrices are certified
abbrev pub IsCertifiedPart : CampaignPart → Asked → Answer → Type 0
IsCertifiedPart Whole asked = IsCertifiedNumbers asked 0 most_long
IsCertifiedPart (Slice from upto) asked = IsCertifiedNumbers asked from upto
IsCertifiedPart Count asked = IsCountAnswer asked.candidates asked.calls

-- ---- how many have a certificate of each kind

-- how many matrices have a certificate of a kind, on a line of its own
abbrev pub tally_line : List ℕ → ℕ → List ℕ
tally_line kind count = kind ++ codes " " ++ decimal count ++ codes "\n"

-- how many have one of each kind
abbrev pub survey_head : Survey → List ℕ
survey_head s =
    codes "campaign certified\n" ++ tally_line (codes "linearizable") s.linearizable.count
    ++ tally_line (codes "not linearizable") s.not_linearizable.count
    ++ tally_line (codes "livelock") s.livelock.count
    ++ tally_line (codes "undecided") s.undecided.count

-- the first matrix of a kind with its certificate, if there is one
abbrev pub ShowsFirst : Component → Option CertifiedMatrix → List ℕ → Type 0
ShowsFirst c None text = text ≡ []
ShowsFirst c (Some one) text =
    (shown : Answer) × ShowsCertificate c one.certificate shown
    × (text ≡ codes "---\n" ++ (below_matrix c one.matrix shown).text)

-- it stands after the old text
abbrev pub PushesFirst : {Z : Type 0} → Component → Option CertifiedMatrix → String Z → String Z
    → Type 0
PushesFirst c first old new =
    (text : List ℕ) × ShowsFirst c first text × (string_bytes new ≡ string_bytes old ++ text)

-- 1 where a certificate says that something fails, else 3 where one is undecided
abbrev pub survey_status : Survey → ℕ
survey_status s =
    if nat_lt 0 s.not_linearizable.count || nat_lt 0 s.livelock.count then 1
    else (if nat_lt 0 s.undecided.count then 3 else 0)

-- how many matrices have a certificate of each kind, and the first of each kind but linearizable
abbrev pub ShowsSurvey : Component → Survey → Answer → Type 0
ShowsSurvey c s answer =
    (failing : List ℕ) × (lost : List ℕ) × (undecided : List ℕ)
    × ShowsFirst c s.not_linearizable.first failing × ShowsFirst c s.livelock.first lost
    × ShowsFirst c s.undecided.first undecided
    × (answer ≡ record {
      text = survey_head s ++ failing ++ lost ++ undecided;
      status = survey_status s;
    })

-- what the survey of the matrices with these numbers says, or why there is no campaign
abbrev pub IsSurveyedNumbers : Asked → ℕ → ℕ → Answer → Type 0
IsSurveyedNumbers asked from upto answer =
    ((s : Survey) × IsSurveyAnswer asked default_nodes from upto s
    × ShowsSurvey asked.component s answer)
    ⊎ IsListsRefusal asked.candidates asked.calls answer

-- the same where all are certified, whatever their certificates
abbrev pub IsSurveyedPart : CampaignPart → Asked → Answer → Type 0
IsSurveyedPart Whole asked = IsSurveyedNumbers asked 0 most_long
IsSurveyedPart (Slice from upto) asked = IsSurveyedNumbers asked from upto
IsSurveyedPart Count asked = IsCountAnswer asked.candidates asked.calls

abbrev pub IsAnswerToTrial : CampaignTrial → CampaignPart → Asked → Answer → Type 0
IsAnswerToTrial Checked = IsCheckedPart
IsAnswerToTrial Certified = IsCertifiedPart
IsAnswerToTrial Surveyed = IsSurveyedPart

-- ---- the calls that are chosen from

-- what a campaign is asked for whose threads draw from these lists, after this setup
abbrev pub asked_with : Component → List Call → List (List Call) → CampaignOptions → Asked
asked_with c setup lists o = asked_for c setup lists o.calls o.bounds.bound o.bounds.serial

-- this many threads draw from the one line of a matrix
abbrev pub ToAlike : ℕ → List (List Call) → (List (List Call) → Answer → Type 0) → Answer → Type 0
ToAlike threads (candidates ∷ []) IsAnswer answer = IsAnswer (replicate threads candidates) answer
ToAlike threads lines IsAnswer answer = answer ≡ refused (codes "G2")

-- they do, or each thread draws from its own line
abbrev pub ToLists : CampaignThreads → List (List Call) → (List (List Call) → Answer → Type 0)
    → Answer → Type 0
ToLists (Alike threads) lines IsAnswer answer = ToAlike threads lines IsAnswer answer
ToLists Own lines IsAnswer answer = IsAnswer lines answer

-- what is answered where threads draw from these lists, after this setup
abbrev pub IsListsAnswer : CampaignOptions → Component → List Call → List (List Call) → Answer
    → Type 0
IsListsAnswer o c setup lists = IsAnswerToTrial o.trial o.part (asked_with c setup lists o)

-- what is answered to the matrix, whose lines the lists are
abbrev pub IsCampaignOfMatrix : CampaignOptions → Component → Matrix → Answer → Type 0
IsCampaignOfMatrix o c matrix =
    ToLists o.threads matrix.threads (IsListsAnswer o c matrix.setup)

abbrev pub IsAnswerToCampaign : CampaignOptions → List (List ℕ) → Answer → Type 0
IsAnswerToCampaign options parts =
    ToParts (exactly_two parts) (λ p. ToTexts p.0 p.1 (IsCampaignOfMatrix options))

-- ---- of a test

-- what a campaign of a test is asked for whose threads draw from these lists
abbrev pub lists_of : Test → List (List Call) → CampaignOptions → Asked
lists_of test lists o = asked_with test.component.now test.matrix.now.setup lists o

-- the results are what is answered where threads draw from these lists
abbrev pub TriesLists : Test → List (List Call) → CampaignOptions → Result Answer Refusal → Type 0
TriesLists test lists o =
    Answered (IsListsAnswer o test.component.now test.matrix.now.setup lists)

-- where this many threads draw from the one line of the matrix
abbrev pub TriesAlike : Test → ℕ → CampaignOptions → Result Answer Refusal → Type 0
TriesAlike test threads o =
    Answered (ToAlike threads test.matrix.now.threads
    (IsListsAnswer o test.component.now test.matrix.now.setup))

-- and whatever they draw from
abbrev pub TriesTest : Test → CampaignOptions → Result Answer Refusal → Type 0
TriesTest test o = Answered (IsCampaignOfMatrix o test.component.now test.matrix.now)
