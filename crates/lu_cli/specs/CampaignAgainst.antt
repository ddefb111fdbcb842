-- What `campaign --spec` answers: the component against a trusted one.
use Rattle.std.specs.Prelude.{ℕ, ◌++◌, codes, List, ◌≡◌, ◌⊎◌, Result}
use Rattle.std.specs.Fmt.{decimal}
use Rattle.lu_text.specs.declared.fault.Fault.{Fault}
use Rattle.lu_text.specs.Faults.{IsUnlessMemory, meaning_of}
use Rattle.lu_text.specs.Words.{exactly_three}
use Rattle.lu_component.specs.Component.{Component}
use Rattle.lu_lang.specs.Kinds.{code_of}
use Rattle.lu_lang.specs.declared.fault.LangFaultKind.{LangFaultKind}
use Rattle.lu_lang.specs.Grammar.{component_grammar}
use Rattle.lu_test.specs.declared.matrix.Call.{Call}
use Rattle.lu_test.specs.declared.schedule.Move.{Move}
use Rattle.lu_test.specs.Matrix.{Matrix}
use Rattle.lu_machine.specs.Starts.{Settles}
use Rattle.lu_machine.specs.declared.test.Test.{Test}
use Rattle.lu_refine.specs.declared.roles.Roles.{Roles}
use Rattle.lu_refine.specs.ByThread.{Asked, asked_of}
use Rattle.lu_survey.specs.declared.comparison.Comparison.{Comparison}
use Rattle.lu_survey.specs.declared.comparison.Comparison.TheVariants.{AllAgree, First as Differs}
use Rattle.lu_survey.specs.declared.comparison.Difference.{Difference}
use Rattle.lu_survey.specs.declared.comparison.Difference.TheVariants.{Concurrently, Serially, TrustedConflict, TrustedCut}
use Rattle.lu_survey.specs.Comparing.{IsCompared, HasSameOperations}
use Rattle.lu_cli.specs.declared.refusal.Refusal.{Refusal}
use Rattle.lu_cli.specs.declared.refusal.Refusal.TheVariants as refusal
use Rattle.lu_cli.specs.Shows.{verdict, with_schedule, two_texts}
use Rattle.lu_cli.specs.Refusals.{Answered}
use Rattle.lu_cli.specs.declared.texts.Fault.TheVariants.{Component as TextsComponent}
use Rattle.lu_cli.specs.Args.{most_long}
use Rattle.lu_cli.specs.Outcomes.{Answer, refused}
use Rattle.lu_cli.specs.Campaign.{IsListsRefusal, IsCountAnswer, ToAlike, ToLists, asked_with}
use Rattle.lu_cli.specs.Reading.{ToValue, ToSettled, ToParts, ToTexts}
use Rattle.lu_cli.specs.declared.request.CampaignOptions.{CampaignOptions}
use Rattle.lu_cli.specs.declared.request.CampaignPart.{CampaignPart}
use Rattle.lu_cli.specs.declared.request.CampaignPart.TheVariants.{Whole, Slice, Count}

-- ---- what is found

-- on all matrices the component agrees with the trusted one, and there are this many
abbrev pub all_agree : ℕ → Answer
all_agree count =
    record { text = codes "campaign agrees " ++ decimal count ++ codes "\n"; status = 0 }

-- a verdict with the matrix and a schedule of it
abbrev pub run_verdict : List ℕ → Component → Matrix → List Move → ℕ → Answer
run_verdict words c m u status = verdict words (with_schedule c (m, u)).text status

-- the first matrix on which it does not, and what shows that
abbrev pub difference_answer : Component → Matrix → Difference → Answer
difference_answer c m (TrustedCut u) =
    verdict (codes "trusted serial-cut") (with_schedule c (m, u)).text 3
difference_answer c m (TrustedConflict u before earlier) =
    verdict (codes "trusted nondeterministic") (with_schedule c (m, u)).text 3
difference_answer c m (Serially u) =
    verdict (codes "differs serially") (with_schedule c (m, u)).text 1
difference_answer c m (Concurrently r) =
    verdict (codes "differs concurrently") (two_texts c m r) 1

abbrev pub comparison_answer : Component → Comparison → Answer
comparison_answer c (AllAgree count) = all_agree count
comparison_answer c (Differs m difference) = difference_answer c m difference

-- what the comparison on the matrices with these numbers says, or why there is no campaign
abbrev pub IsComparedNumbers : Component → Asked → ℕ → ℕ → Answer → Type 0
IsComparedNumbers trusted asked from upto answer =
    ((found : Comparison) × IsCompared trusted asked from upto found
    × (answer ≡ comparison_answer asked.component found))
    ⊎ IsListsRefusal asked.candidates asked.calls answer

-- so it is of the result, for these roles
abbrev pub ComparesNumbers : Component → Roles → ℕ → ℕ → Result Answer Refusal → Type 0
ComparesNumbers trusted roles from upto =
    Answered (IsComparedNumbers trusted (asked_of roles) from upto)

-- the same against a trusted component
abbrev pub IsComparedPart : Component → CampaignPart → Asked → Answer → Type 0
IsComparedPart trusted Whole asked = IsComparedNumbers trusted asked 0 most_long
IsComparedPart trusted (Slice from upto) asked = IsComparedNumbers trusted asked from upto
IsComparedPart trusted Count asked = IsCountAnswer asked.candidates asked.calls

-- ---- the calls that are chosen from

-- what is answered against a trusted component where threads draw from these lists, after this
-- setup
abbrev pub IsComparedLists : Component → CampaignOptions → Component → List Call
    → List (List Call) → Answer → Type 0
IsComparedLists trusted o c setup lists = IsComparedPart trusted o.part (asked_with c setup lists o)

-- what is answered to the matrix, whose lines the lists are
abbrev pub IsComparedMatrix : Component → CampaignOptions → Component → Matrix → Answer → Type 0
IsComparedMatrix trusted o c matrix =
    ToLists o.threads matrix.threads (IsComparedLists trusted o c matrix.setup)

-- ---- the trusted component

-- why the text of a trusted component is refused
abbrev pub IsTrustedRefusal : List ℕ → Refusal → Type 0
IsTrustedRefusal text refused =
    (fault : Fault LangFaultKind) × IsUnlessMemory fault (meaning_of component_grammar text)
    × (refused ≡ refusal.Texts (TextsComponent fault))

-- the trusted component is read, and has the operations of the other one; and its setup settles too
abbrev pub ToTrusted : List ℕ → Component → Matrix → (Component → Answer → Type 0) → Answer
    → Type 0
ToTrusted text c m IsAnswer =
    ToValue code_of (meaning_of component_grammar text)
    (λ trusted answer.
    (HasSameOperations c trusted × ToSettled trusted m (IsAnswer trusted) answer)
    ⊎ ((HasSameOperations c trusted → ⊥) × (answer ≡ refused (codes "G4"))))

abbrev pub IsAnswerToCampaignAgainst : CampaignOptions → List (List ℕ) → Answer → Type 0
IsAnswerToCampaignAgainst options parts =
    ToParts (exactly_three parts)
    (λ p. ToTexts p.0 p.1
    (λ c m. ToTrusted p.2 c m (λ trusted. IsComparedMatrix trusted options c m)))

-- ---- of a test

-- the trusted component has the operations of the test's, and the setup settles with it too
pub record IsTrustedFor (test : Test) (trusted : Component) : Type 0 where
  pub operations : HasSameOperations test.component.now trusted
  pub settles : Settles trusted test.matrix.now

-- the results are what is answered against a trusted component, where threads draw from these lists
abbrev pub ComparesLists : Component → Test → List (List Call) → CampaignOptions
    → Result Answer Refusal → Type 0
ComparesLists trusted test lists o =
    Answered (IsComparedLists trusted o test.component.now test.matrix.now.setup lists)

-- where this many threads draw from the one line of the matrix
abbrev pub ComparesAlike : Component → Test → ℕ → CampaignOptions → Result Answer Refusal → Type 0
ComparesAlike trusted test threads o =
    Answered (ToAlike threads test.matrix.now.threads
    (IsComparedLists trusted o test.component.now test.matrix.now.setup))

-- whatever they draw from
abbrev pub ComparesTest : Component → Test → CampaignOptions → Result Answer Refusal → Type 0
ComparesTest trusted test o =
    Answered (IsComparedMatrix trusted o test.component.now test.matrix.now)

-- where the setup settles with the trusted component too
abbrev pub ComparesSettled : Component → Test → CampaignOptions → Result Answer Refusal → Type 0
ComparesSettled trusted test o =
    Answered (ToSettled trusted test.matrix.now
    (IsComparedMatrix trusted o test.component.now test.matrix.now))

-- and where this is the text of the trusted component
abbrev pub ComparesWith : List ℕ → Test → CampaignOptions → Result Answer Refusal → Type 0
ComparesWith text test o =
    Answered (ToTrusted text test.component.now test.matrix.now
    (λ trusted. IsComparedMatrix trusted o test.component.now test.matrix.now))
