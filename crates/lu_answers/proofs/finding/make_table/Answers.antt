use Rattle.std.proofs.Common.{arith, rules, ◌≡◌, ◌<◌, ◌≤◌, ◌+◌, List, length, sym, ◌∙◌, subst}
use Rattle.std.proofs.lemmas.Result.{err_from_is_err_and}
use Rattle.lu_component.specs.Component.{Component}
use Rattle.lu_test.specs.Matrix.{Matrix}
use Rattle.lu_machine.proofs.Starting.{start_component, start_matrix}
use Rattle.lu_answers.specs.declared.stage.StoredStage.{StoredStage}
use Rattle.lu_answers.specs.Stored.{Keeps, stages_of}
use Rattle.lu_answers.specs.Tables.{IsTableFrom, Rows}
use Rattle.lu_answers.proofs.Filled.{AreFilled, filled_all, filled_next, filled_none, filled_stops}
use Rattle.lu_answers.proofs.finding.make_table.Goals as goal

pub loop-index-init : goal.loop-index-init
loop-index-init c =
    let x : Component = c.args.component.now in
    let matrix : Matrix = c.args.matrix.now in
    let s = c.in_ok-machine.machine in
    let new = c.in_ok-first_stage.field-0 in
    let starts = c.in_ok-machine.ensures.starts in
    let same_component : s.component ≡ x = start_component x matrix s starts in
    let same_matrix : s.matrix ≡ matrix = start_matrix x matrix s starts in
    record {
      component = same_component;
      matrix = same_matrix;
      few = omega arith;
      filled =
          filled_none x c.args.rounds matrix c.args.bound s c.number_of.new.stages.keys new c.new-rows.result.items starts c.new-rows.ensures.items
          (rw same_matrix at c.in_ok-first_stage.ensures.first)
          (rw (same_component, same_matrix) at c.in_ok-first_stage.ensures.stored)
          (subst (λ (xs : List StoredStage). Keeps xs new c.number_of.new.stages.keys) c.new-stages.ensures.empty c.in_ok-number_of.ensures.keeps)
          c.in_ok-number_of.ensures.there;
    }

pub returns-in_err-row-clause-stop : goal.returns-in_err-row-clause-stop
returns-in_err-row-clause-stop c =
    let p = err_from_is_err_and c.from_residual-in_err-row.result c.from_residual-in_err-row.ensures.1 in
    let stop = rw (c.loop-index.invariant.component, c.loop-index.invariant.matrix) at c.in_err-row.ensures.stop in
    rw (p.1, p.2)
    (filled_stops c.args.component.now c.args.rounds c.args.matrix.now c.args.bound c.in_ok-machine.machine c.loop-index.index c.loop-index.stages.keys c.loop-index.rows.items c.in_ok-machine.ensures.starts c.loop-index.invariant.filled c.in_err-row.field-0.0 stop)

pub loop-index-preserved : goal.loop-index-preserved
loop-index-preserved c =
    let x : Component = c.args.component.now in
    let matrix : Matrix = c.args.matrix.now in
    let s = c.in_ok-machine.machine in
    let made = c.in_ok-row.ensures in
    let within : c.loop-index.index < length c.loop-index.stages.keys = search rules in
    let less : c.loop-index.index + 1 ≤ c.args.most = search rules in
    let stored = rw (c.loop-index.invariant.component, c.loop-index.invariant.matrix) at made.stored in
    let adds = rw (c.loop-index.invariant.component, c.loop-index.invariant.matrix) at made.adds in
    let row = rw (c.loop-index.invariant.component, c.loop-index.invariant.matrix) at made.row in
    record {
      component = made.component ∙ c.loop-index.invariant.component;
      matrix = made.matrix ∙ c.loop-index.invariant.matrix;
      few = less;
      filled = subst (AreFilled x c.args.rounds matrix c.args.bound s (c.loop-index.index + 1) c.row_of.new.stages.keys) (sym c.in_ok-push.ensures.items)
          (filled_next x c.args.rounds matrix c.args.bound s c.loop-index.index c.loop-index.stages.keys c.row_of.new.stages.keys c.loop-index.rows.items c.in_ok-row.row c.in_ok-machine.ensures.starts within c.loop-index.invariant.filled made.grows stored adds row);
    }

pub returns-clause-table : goal.returns-clause-table
returns-clause-table c =
    let past : length c.loop-index.stages.keys ≤ c.loop-index.index = search rules in (
      stages_of c.loop-index.stages.keys,
      subst (λ (rows : Rows). IsTableFrom c.args.component.now c.args.rounds c.args.matrix.now rows (stages_of c.loop-index.stages.keys) c.args.bound) (sym c.new.ensures)
          (filled_all c.args.component.now c.args.rounds c.args.matrix.now c.args.bound c.in_ok-machine.machine c.loop-index.index c.loop-index.stages.keys c.loop-index.rows.items c.in_ok-machine.ensures.starts past c.loop-index.invariant.filled),
    )
