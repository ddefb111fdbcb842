-- Threads that all have the same candidates.
use Rattle.std.proofs.Common.{◌≡◌, ℕ, zero, suc, ◌+◌, ◌*◌, ◌^◌, ◌<◌, ◌≤◌, List, [], ◌∷◌, ◌++◌, length, map, take, drop, replicate, refl, sym, ap, subst, ◌∙◌, arith}
use Rattle.std.specs.Prelude.{Result, IfErr, IfOk}
use Rattle.std.proofs.lemmas.Result.{IfErr-weaker, IfOk-weaker}
use Rattle.std.proofs.Math.Nat.{pow-succ', pow-zero, suc-mul, zero-mul}
use Rattle.std.proofs.lemmas.List.{get_or-replicate, length-replicate, replicate-append-replicate}
use Rattle.std.proofs.lemmas.List.Elements.{All-cons, All-nil, All-replicate}
use Rattle.lu_component.specs.Component.{Component}
use Rattle.lu_test.specs.declared.matrix.Call.{Call}
use Rattle.lu_test.specs.Matrix.{Matrix, matrix_with}
use Rattle.lu_report.specs.declared.report.Report.{Report}
use Rattle.lu_replay.specs.Reports.{IsReport}
use Rattle.lu_refine.specs.declared.campaigns.Campaign.{Campaign}
use Rattle.lu_refine.specs.declared.campaigns.Campaign.TheVariants.{AllPass, First}
use Rattle.lu_refine.specs.declared.campaigns.CampaignFault.{CampaignFault}
use Rattle.lu_refine.specs.declared.campaigns.CampaignFault.TheVariants.{Candidates, Limit, Memory}
use Rattle.lu_refine.specs.Choices.{AreEnough, IsChoice, IsChoiceIn, candidate_at, choice_count, filled}
use Rattle.lu_refine.specs.Campaigns.{Campaigned, Runs, IsCampaign, IsCampaignAnswer, IsChoiceOf, IsGrid, IsLimitFault, IsReportAt, PassesAt, campaigned, matrix_of_choice}
use Rattle.lu_refine.specs.Roles.{AreWithinLimits, bases, chosen_calls, calls_per_thread}
use Rattle.lu_refine.specs.ByThread.{Asked, IsFoundByThread, IsRoleChoice, IsRoleReport, IsRolesFault, IsThreadsAnswer, RolePasses, asked_for, bases_of, role_matrix}

-- the same asked by thread
abbrev pub by_thread : Campaigned → Asked
by_thread asked = asked_for asked.component asked.setup (replicate asked.threads asked.candidates) asked.calls asked.bound asked.serial

width_whole : (calls : ℕ) (candidates : List Call) → 1 ≤ length candidates → calls_per_thread calls candidates ≡ calls
width_whole calls [] some = absurd (omega arith)
width_whole calls (candidate ∷ others) some = refl

-- each position has all candidates
pub bases_alike : (threads calls : ℕ) (candidates : List Call) → 1 ≤ length candidates → bases calls (replicate threads candidates) ≡ replicate (threads * calls) (length candidates)
bases_alike zero calls candidates some = ap (λ (k : ℕ). replicate k (length candidates)) (sym (zero-mul calls))
bases_alike (suc threads) calls candidates some =
    let n = length candidates in
    let here : replicate (calls_per_thread calls candidates) n ≡ replicate calls n = ap (λ (k : ℕ). replicate k n) (width_whole calls candidates some) in
    let size : calls + threads * calls ≡ suc threads * calls = omega (arith, suc-mul threads calls) in
    ap (λ (xs : List ℕ). xs ++ bases calls (replicate threads candidates)) here
    ∙ (ap (λ (xs : List ℕ). replicate calls n ++ xs) (bases_alike threads calls candidates some)
    ∙ (replicate-append-replicate calls (threads * calls) n ∙ ap (λ (k : ℕ). replicate k n) size))

count_alike : (positions n : ℕ) → choice_count (replicate positions n) ≡ n ^ positions
count_alike zero n = sym (pow-zero n)
count_alike (suc positions) n = ap (λ (k : ℕ). n * k) (count_alike positions n) ∙ sym (pow-succ' n positions)

choice_alike : (positions n : ℕ) (choice : List ℕ) → IsChoiceIn (replicate positions n) choice → IsChoice n positions choice
choice_alike zero n [] chosen = (refl, All-nil (λ m. m < n))
choice_alike zero n (m ∷ choice) chosen = absurd chosen
choice_alike (suc positions) n [] chosen = absurd chosen
choice_alike (suc positions) n (m ∷ choice) chosen =
    let rest = choice_alike positions n choice chosen.1 in
    (omega (arith, rest.0), All-cons (λ k. k < n) m choice chosen.0 rest.1)

alike_choice : (positions n : ℕ) (choice : List ℕ) → IsChoice n positions choice → IsChoiceIn (replicate positions n) choice
alike_choice zero n [] chosen = tt
alike_choice zero n (m ∷ choice) chosen = absurd (omega (arith, chosen.0))
alike_choice (suc positions) n [] chosen = absurd (omega (arith, chosen.0))
alike_choice (suc positions) n (m ∷ choice) chosen =
    (chosen.1 0 0 (omega arith), alike_choice positions n choice (omega (arith, chosen.0), λ k d h. chosen.1 (suc k) d (omega arith)))

-- the rows that a choice fills are the same
rows_alike : (threads calls : ℕ) (candidates : List Call) (choice : List ℕ) → 1 ≤ length candidates → chosen_calls calls (replicate threads candidates) choice ≡ filled candidates threads calls choice
rows_alike zero calls candidates choice some = refl
rows_alike (suc threads) calls candidates choice some =
    let whole = width_whole calls candidates some in
    let rest = rows_alike threads calls candidates (drop calls choice) some in
    ap (λ (k : ℕ). map (candidate_at candidates) (take k choice) ∷ chosen_calls calls (replicate threads candidates) (drop k choice)) whole
    ∙ ap (λ (xs : List (List Call)). map (candidate_at candidates) (take calls choice) ∷ xs) rest

-- ---- limits

pub alike_limits : (candidates : List Call) (threads calls : ℕ) → AreEnough (length candidates) → IsGrid threads calls → AreWithinLimits calls (replicate threads candidates)
alike_limits candidates threads calls enough grid =
    let many : length (replicate threads candidates) ≡ threads = length-replicate threads candidates in
    let long : length (bases calls (replicate threads candidates)) ≡ threads * calls = ap (λ (xs : List ℕ). length xs) (bases_alike threads calls candidates enough.0) ∙ length-replicate (threads * calls) (length candidates) in (
      record {
        some_threads = omega (arith, many, grid.some_threads);
        few_threads = omega (arith, many, grid.few_threads);
        some_candidates = (0, candidates, omega (arith, many, grid.some_threads), get_or-replicate threads 0 candidates candidates (omega (arith, grid.some_threads)), enough.0);
        few_candidates = All-replicate (λ (thread : List Call). length thread ≤ 8) threads candidates enough.1;
      },
      record { some_calls = grid.some_calls; few_calls = grid.few_calls; positions = omega (arith, long, grid.positions) },
    )

pub alike_fault : (candidates : List Call) (threads calls : ℕ) (fault : CampaignFault) → AreEnough (length candidates) → IsGrid threads calls → IsRolesFault (replicate threads candidates) calls fault → IsLimitFault (length candidates) threads calls fault
alike_fault candidates threads calls Candidates enough grid is = absurd (is (alike_limits candidates threads calls enough grid).0)
alike_fault candidates threads calls Limit enough grid is = absurd (is.1 (alike_limits candidates threads calls enough grid).1)
alike_fault candidates threads calls Memory enough grid is = tt

-- ---- what is found

choice_of : (asked : Campaigned) (choice : List ℕ) → 1 ≤ length asked.candidates → IsRoleChoice (by_thread asked) choice → IsChoiceOf asked choice
choice_of asked choice some chosen =
    choice_alike (asked.threads * asked.calls) (length asked.candidates) choice (subst (λ (bs : List ℕ). IsChoiceIn bs choice) (bases_alike asked.threads asked.calls asked.candidates some) chosen)

of_choice : (asked : Campaigned) (choice : List ℕ) → 1 ≤ length asked.candidates → IsChoiceOf asked choice → IsRoleChoice (by_thread asked) choice
of_choice asked choice some chosen =
    subst (λ (bs : List ℕ). IsChoiceIn bs choice) (sym (bases_alike asked.threads asked.calls asked.candidates some)) (alike_choice (asked.threads * asked.calls) (length asked.candidates) choice chosen)

matrix_alike : (asked : Campaigned) (choice : List ℕ) → 1 ≤ length asked.candidates → role_matrix (by_thread asked) choice ≡ matrix_of_choice asked choice
matrix_alike asked choice some = ap (matrix_with asked.setup) (rows_alike asked.threads asked.calls asked.candidates choice some)

report_alike : (asked : Campaigned) (choice : List ℕ) (r : Report) → 1 ≤ length asked.candidates → IsRoleReport (by_thread asked) choice r → IsReportAt asked choice r
report_alike asked choice r some is = subst (λ (m : Matrix). IsReport asked.component m asked.bound asked.serial r) (matrix_alike asked choice some) is

passes_alike : (asked : Campaigned) (choice : List ℕ) → 1 ≤ length asked.candidates → RolePasses (by_thread asked) choice → PassesAt asked choice
passes_alike asked choice some passes = (passes.0, report_alike asked choice passes.0 some passes.1, passes.2)

pub alike_found : (asked : Campaigned) (found : Campaign) → 1 ≤ length asked.candidates → IsFoundByThread (by_thread asked) found → IsCampaign asked found
alike_found asked (AllPass count) some is =
    let counted : choice_count (bases_of (by_thread asked)) ≡ length asked.candidates ^ (asked.threads * asked.calls) = ap choice_count (bases_alike asked.threads asked.calls asked.candidates some) ∙ count_alike (asked.threads * asked.calls) (length asked.candidates) in
    (is.0 ∙ counted, λ choice chosen. passes_alike asked choice some (is.1 choice (of_choice asked choice some chosen)))
alike_found asked (First matrix r) some is = record {
  choice = is.choice;
  chosen = choice_of asked is.choice some is.among;
  is = is.is ∙ matrix_alike asked is.choice some;
  report = report_alike asked is.choice r some is.report;
  no_pass = is.no_pass;
  before = λ other chosen earlier. passes_alike asked other some (is.before other (of_choice asked other some chosen) earlier);
}

pub alike_chosen : (c : Component) (setup candidates : List Call) (threads calls bound serial : ℕ) (result : Result Campaign CampaignFault) → AreEnough (length candidates) → IsGrid threads calls → IfOk result (IsThreadsAnswer (asked_for c setup (replicate threads candidates) calls bound serial)) → Runs c setup candidates threads calls bound serial result
alike_chosen c setup candidates threads calls bound serial result enough grid is =
    let asked = campaigned c setup candidates threads calls bound serial in
    IfOk-weaker result (IsThreadsAnswer (by_thread asked)) (IsCampaignAnswer asked) (λ found answer. (enough, grid, alike_found asked found enough.0 answer.1)) is

pub alike_faults : (candidates : List Call) (threads calls : ℕ) (lists : List (List Call)) (result : Result Campaign CampaignFault) → AreEnough (length candidates) → IsGrid threads calls → lists ≡ replicate threads candidates → IfErr result (IsRolesFault lists calls) → IfErr result (IsLimitFault (length candidates) threads calls)
alike_faults candidates threads calls lists result enough grid same is =
    IfErr-weaker result (IsRolesFault lists calls) (IsLimitFault (length candidates) threads calls)
    (λ fault h. alike_fault candidates threads calls fault enough grid (subst (λ (xs : List (List Call)). IsRolesFault xs calls fault) same h)) is
