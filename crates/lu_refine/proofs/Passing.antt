-- What is known of the matrices of a slice up to a number, and of slices that follow one another.
use Rattle.std.proofs.Common.{◌≡◌, ℕ, ◌+◌, ◌-◌, ◌^◌, ◌<◌, ◌≤◌, ◌∙◌, List, ap, sym, subst, inl, inr, arith}
use Rattle.std.specs.Prelude.{IfOk, min, Result}
use Rattle.std.proofs.lemmas.Bool.{cases_lt}
use Rattle.std.proofs.lemmas.Result.{IfOk-weaker}
use Rattle.lu_test.specs.Matrix.{Matrix}
use Rattle.lu_report.specs.declared.report.Report.{Report}
use Rattle.lu_machine.specs.Starts.{AllEnd}
use Rattle.lu_report.specs.Parts.{IsPass}
use Rattle.lu_replay.proofs.Determined.{one_report}
use Rattle.lu_refine.specs.declared.campaigns.Campaign.{Campaign}
use Rattle.lu_refine.specs.declared.campaigns.Campaign.TheVariants.{AllPass, First}
use Rattle.lu_refine.specs.declared.campaigns.CampaignFault.{CampaignFault}
use Rattle.lu_refine.specs.ByThread.{Asked, IsFirstAmong, IsFoundByThread, IsFoundInSlice, IsRoleChoice, IsRoleReport, IsSliceAnswer, IsThreadsAnswer, IsWithinSlice, RolePasses, bases_of, matrix_count, choice_number, role_matrix}
use Rattle.lu_refine.specs.Laws.{joined_answers}
use Rattle.lu_choices.proofs.Numbered.{before_less, choices_fit, compare, number_below, same_choice}
use Rattle.lu_refine.proofs.Filling.{positions}

-- the matrices with these numbers pass
abbrev pub PassWithin : Asked → ℕ → ℕ → Type 0
PassWithin asked from to = (choice : List ℕ) → IsWithinSlice asked from to choice → RolePasses asked choice

pub passes_none : (asked : Asked) (start : ℕ) → PassWithin asked start start
passes_none asked start other within = absurd (omega (arith, within.least, within.less))

pub passes_more : (asked : Asked) (start number : ℕ) (choice : List ℕ) (r : Report) → PassWithin asked start number → IsRoleChoice asked choice → choice_number asked choice ≡ number → IsRoleReport asked choice r → IsPass r.finding → PassWithin asked start (number + 1)
passes_more asked start number choice r before chosen is report passes other within = elim (cases_lt (choice_number asked other) number) [
  | inl less ↦ before other (record { chosen = within.chosen; least = within.least; less = less })
  | inr least ↦
      let here : choice_number asked other ≡ choice_number asked choice = omega (arith, is, within.less, least) in
      let same : other ≡ choice = same_choice (bases_of asked) other choice within.chosen chosen here in
      subst (RolePasses asked) (sym same) (r, report, passes)
]

-- the first that does not pass, in the slice that begins where the search did
pub first_found : (asked : Asked) (from to start end number : ℕ) (choice : List ℕ) (matrix : Matrix) (r : Report) → end ≡ min to (matrix_count asked) → start ≡ min from end → start ≤ number → number < end → PassWithin asked start number → IsRoleChoice asked choice → choice_number asked choice ≡ number
    → matrix ≡ role_matrix asked choice → IsRoleReport asked choice r → (IsPass r.finding → ⊥) → IsFirstAmong asked (IsWithinSlice asked from to) matrix r
first_found asked from to start end number choice matrix r end_is start_is least less before chosen is same report fails = record {
  choice = choice;
  among = record { chosen = chosen; least = omega arith; less = omega arith };
  is = same;
  report = report;
  no_pass = fails;
  before = λ other within earlier.
      let sooner = before_less (bases_of asked) other choice within.chosen chosen earlier in
      before other (record { chosen = within.chosen; least = omega (arith, within.least, start_is, end_is, least, less); less = omega (arith, sooner, is) });
}

-- all of the slice pass
pub passes_all : (asked : Asked) (from to start end number : ℕ) → end ≡ min to (matrix_count asked) → start ≡ min from end → end ≤ number → PassWithin asked start number → PassWithin asked from to
passes_all asked from to start end number end_is start_is past before choice within =
    let fits = number_below (bases_of asked) choice within.chosen in
    before choice (record { chosen = within.chosen; least = omega (arith, within.least, start_is); less = omega (arith, within.less, fits, end_is, past) })

pub slice_passes : (asked : Asked) (from to start end number count : ℕ) → end ≡ min to (matrix_count asked) → start ≡ min from end → end ≤ number → count ≡ end - start → PassWithin asked start number → IsFoundInSlice asked from to (AllPass count)
slice_passes asked from to start end number count end_is start_is past count_is before =
    (omega (arith, end_is, start_is, count_is), passes_all asked from to start end number end_is start_is past before)

-- ---- a slice of all

pub whole_found : (asked : Asked) (to : ℕ) (found : Campaign) → matrix_count asked ≤ to → IsFoundInSlice asked 0 to found → IsFoundByThread asked found
whole_found asked to (AllPass count) all is =
    (omega (arith, is.0, all), λ choice chosen. is.1 choice (in_all asked to choice all chosen))
  where
    in_all : (asked : Asked) (to : ℕ) (choice : List ℕ) → matrix_count asked ≤ to → IsRoleChoice asked choice → IsWithinSlice asked 0 to choice
    in_all asked to choice all chosen = record { chosen = chosen; least = omega arith; less = omega (arith, all, number_below (bases_of asked) choice chosen) }
whole_found asked to (First matrix r) all is = record {
  choice = is.choice;
  among = is.among.chosen;
  is = is.is;
  report = is.report;
  no_pass = is.no_pass;
  before = λ other chosen earlier. is.before other (record { chosen = chosen; least = omega arith; less = omega (arith, all, number_below (bases_of asked) other chosen) }) earlier;
}

-- ---- slices that follow one another

passes_both : (asked : Asked) (from middle to : ℕ) → PassWithin asked from middle → PassWithin asked middle to → PassWithin asked from to
passes_both asked from middle to earlier later choice within = elim (cases_lt (choice_number asked choice) middle) [
  | inl less ↦ earlier choice (record { chosen = within.chosen; least = within.least; less = less })
  | inr least ↦ later choice (record { chosen = within.chosen; least = least; less = within.less })
]

pub slices_joined : (asked : Asked) (from middle to : ℕ) (earlier later : Campaign) → from ≤ middle → middle ≤ to → IsFoundInSlice asked from middle earlier → IsFoundInSlice asked middle to later → IsFoundInSlice asked from to (joined_answers earlier later)
slices_joined asked from middle to (First matrix r) later low high is then = record {
  choice = is.choice;
  among = record { chosen = is.among.chosen; least = is.among.least; less = omega (arith, is.among.less, high) };
  is = is.is;
  report = is.report;
  no_pass = is.no_pass;
  before = λ other within earlier.
      let sooner = before_less (bases_of asked) other is.choice within.chosen is.among.chosen earlier in
      is.before other (record { chosen = within.chosen; least = within.least; less = omega (arith, sooner, is.among.less) }) earlier;
}
slices_joined asked from middle to (AllPass count) (First matrix r) low high is then = record {
  choice = then.choice;
  among = record { chosen = then.among.chosen; least = omega (arith, then.among.least, low); less = then.among.less };
  is = then.is;
  report = then.report;
  no_pass = then.no_pass;
  before = λ other within earlier. elim (cases_lt (choice_number asked other) middle) [
    | inl less ↦ is.1 other (record { chosen = within.chosen; least = within.least; less = less })
    | inr least ↦ then.before other (record { chosen = within.chosen; least = least; less = within.less }) earlier
  ];
}
slices_joined asked from middle to (AllPass count) (AllPass others) low high is then =
    (omega (arith, is.0, then.0, low, high), passes_both asked from middle to is.1 then.1)

-- what a slice of all is asked for and answers
pub whole_chosen : (asked : Asked) (to : ℕ) (result : Result Campaign CampaignFault) → 2 ^ 64 ≤ to + 1 → IfOk result (IsSliceAnswer asked 0 to) → IfOk result (IsThreadsAnswer asked)
whole_chosen asked to result past is =
    IfOk-weaker result (IsSliceAnswer asked 0 to) (IsThreadsAnswer asked) (λ found answer.
    let fits = choices_fit (bases_of asked) (positions asked.calls asked.candidates answer.0) in
    (answer.0, whole_found asked to found (omega (arith, fits, past)) answer.1)) is

-- ---- a slice has one answer

-- what passes has no report that is no pass
one_judged : (asked : Asked) (choice : List ℕ) (r : Report) → AllEnd asked.component asked.setup → RolePasses asked choice → IsRoleReport asked choice r → (IsPass r.finding → ⊥) → ⊥
one_judged asked choice r ends passes report no_pass =
    let same : passes.0 ≡ r = one_report asked.component (role_matrix asked choice) asked.bound asked.serial passes.0 r ends passes.1 report in
    no_pass (subst (λ (x : Report). IsPass x.finding) same passes.2)

same_first : (asked : Asked) (matrix other : Matrix) (r q : Report) (choice : List ℕ) → AllEnd asked.component asked.setup → matrix ≡ role_matrix asked choice → IsRoleReport asked choice r → other ≡ role_matrix asked choice → IsRoleReport asked choice q → First matrix r ≡ First other q
same_first asked matrix other r q choice ends is report same its =
    let one : r ≡ q = one_report asked.component (role_matrix asked choice) asked.bound asked.serial r q ends report its in
    ap (λ (m : Matrix). First m r) (is ∙ sym same) ∙ ap (First other) one

one_first : (asked : Asked) (from to : ℕ) (matrix other : Matrix) (r q : Report) → AllEnd asked.component asked.setup → IsFirstAmong asked (IsWithinSlice asked from to) matrix r → IsFirstAmong asked (IsWithinSlice asked from to) other q → First matrix r ≡ First other q
one_first asked from to matrix other r q ends x y = elim (compare (bases_of asked) x.choice y.choice x.among.chosen y.among.chosen) [
  | inl before ↦ absurd (one_judged asked x.choice r ends (y.before x.choice x.among before) x.report x.no_pass)
  | inr others ↦ elim others [
    | inl behind ↦ absurd (one_judged asked y.choice q ends (x.before y.choice y.among behind) y.report y.no_pass)
    | inr same ↦ same_first asked matrix other r q y.choice ends (x.is ∙ ap (role_matrix asked) same) (subst (λ (choice : List ℕ). IsRoleReport asked choice r) same x.report) y.is y.report
  ]
]

pub one_answer : (asked : Asked) (from to : ℕ) (found other : Campaign) → AllEnd asked.component asked.setup → IsFoundInSlice asked from to found → IsFoundInSlice asked from to other → found ≡ other
one_answer asked from to (AllPass count) (AllPass others) ends x y = ap AllPass (x.0 ∙ sym y.0)
one_answer asked from to (AllPass count) (First other q) ends x y = absurd (one_judged asked y.choice q ends (x.1 y.choice y.among) y.report y.no_pass)
one_answer asked from to (First matrix r) (AllPass others) ends x y = absurd (one_judged asked x.choice r ends (y.1 x.choice x.among) x.report x.no_pass)
one_answer asked from to (First matrix r) (First other q) ends x y = one_first asked from to matrix other r q ends x y
