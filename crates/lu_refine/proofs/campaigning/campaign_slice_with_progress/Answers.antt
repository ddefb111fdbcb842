use Rattle.std.proofs.Common.{rules, arith, ◌≡◌, ◌-◌, ℕ, List, refl, ap, subst, sym, ◌∙◌}
use Rattle.std.specs.Prelude.{min}
use Rattle.lu_test.specs.Matrix.{Matrix, IsOf}
use Rattle.lu_replay.specs.Reports.{IsReport}
use Rattle.lu_report.specs.Parts.{IsPass}
use Rattle.lu_machine.specs.Starts.{CanRun}
use Rattle.lu_choices.specs.Choices.{AreBases, IsChoiceIn, choice_count, number_in}
use Rattle.lu_refine.specs.Roles.{AreWithinLimits, bases, rows_matrix}
use Rattle.lu_refine.specs.ByThread.{IsRoleChoice, IsRoleReport, asked_of, matrix_count, choice_number, role_matrix}
use Rattle.lu_refine.proofs.Filling.{positions, rows_of, rows_run}
use Rattle.lu_refine.proofs.Passing.{first_found, passes_more, slice_passes}
use Rattle.lu_refine.proofs.campaigning.campaign_slice_with_progress.Goals as goal

pub count_choices-requires : goal.count_choices-requires
count_choices-requires g c =
    subst AreBases (sym (c.as_slice-bases.ensures ∙ c.in_ok-positions.ensures.positions)) (positions c.args.roles.calls c.args.roles.candidates.now (c.in_ok-positions.ensures.within refl))

pub choice_at-choice-requires-clause-bases : goal.choice_at-choice-requires-clause-bases
choice_at-choice-requires-clause-bases g c =
    subst AreBases (sym (c.as_slice-bases.ensures ∙ c.in_ok-positions.ensures.positions)) (positions c.args.roles.calls c.args.roles.candidates.now (c.in_ok-positions.ensures.within refl))

pub check_in_arena-requires-clause-of : goal.check_in_arena-requires-clause-of
check_in_arena-requires-clause-of g c =
    let found : c.as_slice-bases.result.now ≡ bases c.args.roles.calls c.args.roles.candidates.now = c.as_slice-bases.ensures ∙ c.in_ok-positions.ensures.positions in
    let choice = c.choice_at-choice.result.items in
    let chosen : IsChoiceIn (bases c.args.roles.calls c.args.roles.candidates.now) choice = subst (λ (bs : List ℕ). IsChoiceIn bs choice) found c.choice_at-choice.ensures.choice in
    let same : c.in_ok-matrix.matrix ≡ rows_matrix c.args.roles.setup.now c.args.roles.calls c.args.roles.candidates.now choice = c.in_ok-matrix.ensures ∙ ap (rows_matrix c.args.roles.setup.now c.args.roles.calls c.args.roles.candidates.now) c.as_slice.ensures.value in
    subst (CanRun c.args.roles.component.now) (sym same) (rows_run c.args.roles.component.now c.args.roles.setup.now c.args.roles.calls c.args.roles.candidates.now choice c.requires.setup_of c.requires.settles c.requires.of chosen)

pub returns-then-not-is_pass-clause-answer : goal.returns-then-not-is_pass-clause-answer
returns-then-not-is_pass-clause-answer g c =
    let asked = asked_of c.args.roles in
    let limits : AreWithinLimits c.args.roles.calls c.args.roles.candidates.now = c.in_ok-positions.ensures.within refl in
    let found : c.as_slice-bases.result.now ≡ bases c.args.roles.calls c.args.roles.candidates.now = c.as_slice-bases.ensures ∙ c.in_ok-positions.ensures.positions in
    let choice = c.choice_at-choice.result.items in
    let chosen : IsRoleChoice asked choice = subst (λ (bs : List ℕ). IsChoiceIn bs choice) found c.choice_at-choice.ensures.choice in
    let number : choice_number asked choice ≡ c.loop-number.number = ap (λ (bs : List ℕ). number_in bs choice) (sym found) ∙ c.choice_at-choice.ensures.number in
    let same : c.in_ok-matrix.matrix ≡ role_matrix asked choice = c.in_ok-matrix.ensures ∙ ap (rows_matrix c.args.roles.setup.now c.args.roles.calls c.args.roles.candidates.now) c.as_slice.ensures.value in
    let report : IsRoleReport asked choice c.in_ok-report.report = subst (λ (m : Matrix). IsReport c.args.roles.component.now m c.args.roles.bound c.args.roles.serial c.in_ok-report.report) same c.in_ok-report.ensures in
    let count : c.count_choices.result ≡ matrix_count asked = c.count_choices.ensures ∙ ap choice_count found in
    let end : c.min-end.result ≡ min c.args.to (matrix_count asked) = c.min-end.ensures ∙ ap (min c.args.to) count in
    let fails : IsPass c.in_ok-report.report.finding → ⊥ = search rules in (
      limits,
      first_found asked c.args.from c.args.to c.min-start.result c.min-end.result c.loop-number.number choice c.in_ok-matrix.matrix c.in_ok-report.report end c.min-start.ensures (omega arith) (omega arith) c.loop-number.invariant chosen number same report fails,
    )

pub returns-then-not-is_pass-clause-of : goal.returns-then-not-is_pass-clause-of
returns-then-not-is_pass-clause-of g c =
    let found : c.as_slice-bases.result.now ≡ bases c.args.roles.calls c.args.roles.candidates.now = c.as_slice-bases.ensures ∙ c.in_ok-positions.ensures.positions in
    let choice = c.choice_at-choice.result.items in
    let chosen : IsChoiceIn (bases c.args.roles.calls c.args.roles.candidates.now) choice = subst (λ (bs : List ℕ). IsChoiceIn bs choice) found c.choice_at-choice.ensures.choice in
    let same : c.in_ok-matrix.matrix ≡ rows_matrix c.args.roles.setup.now c.args.roles.calls c.args.roles.candidates.now choice = c.in_ok-matrix.ensures ∙ ap (rows_matrix c.args.roles.setup.now c.args.roles.calls c.args.roles.candidates.now) c.as_slice.ensures.value in
    subst (λ (m : Matrix). IsOf m c.args.roles.component.now) (sym same) (rows_of c.args.roles.component.now c.args.roles.setup.now c.args.roles.calls c.args.roles.candidates.now choice c.requires.setup_of c.requires.of chosen)

pub loop-number-preserved : goal.loop-number-preserved
loop-number-preserved g c =
    let asked = asked_of c.args.roles in
    let found : c.as_slice-bases.result.now ≡ bases c.args.roles.calls c.args.roles.candidates.now = c.as_slice-bases.ensures ∙ c.in_ok-positions.ensures.positions in
    let choice = c.choice_at-choice.result.items in
    let chosen : IsRoleChoice asked choice = subst (λ (bs : List ℕ). IsChoiceIn bs choice) found c.choice_at-choice.ensures.choice in
    let number : choice_number asked choice ≡ c.loop-number.number = ap (λ (bs : List ℕ). number_in bs choice) (sym found) ∙ c.choice_at-choice.ensures.number in
    let same : c.in_ok-matrix.matrix ≡ role_matrix asked choice = c.in_ok-matrix.ensures ∙ ap (rows_matrix c.args.roles.setup.now c.args.roles.calls c.args.roles.candidates.now) c.as_slice.ensures.value in
    let report : IsRoleReport asked choice c.in_ok-report.report = subst (λ (m : Matrix). IsReport c.args.roles.component.now m c.args.roles.bound c.args.roles.serial c.in_ok-report.report) same c.in_ok-report.ensures in
    let passes : IsPass c.in_ok-report.report.finding = search rules in
    passes_more asked c.min-start.result c.loop-number.number choice c.in_ok-report.report c.loop-number.invariant chosen number report passes

pub returns-clause-answer : goal.returns-clause-answer
returns-clause-answer g c =
    let asked = asked_of c.args.roles in
    let limits : AreWithinLimits c.args.roles.calls c.args.roles.candidates.now = c.in_ok-positions.ensures.within refl in
    let found : c.as_slice-bases.result.now ≡ bases c.args.roles.calls c.args.roles.candidates.now = c.as_slice-bases.ensures ∙ c.in_ok-positions.ensures.positions in
    let count : c.count_choices.result ≡ matrix_count asked = c.count_choices.ensures ∙ ap choice_count found in
    let end : c.min-end.result ≡ min c.args.to (matrix_count asked) = c.min-end.ensures ∙ ap (min c.args.to) count in
    (limits, slice_passes asked c.args.from c.args.to c.min-start.result c.min-end.result c.loop-number.number (c.min-end.result - c.min-start.result) end c.min-start.ensures (omega arith) refl c.loop-number.invariant)
