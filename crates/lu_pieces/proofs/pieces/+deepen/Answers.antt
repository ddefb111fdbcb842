use Rattle.std.proofs.Common.{rules, arith, ◌+◌, ◌-◌, ◌<◌, length, drop, get_or, sym, subst}
use Rattle.lu_component.specs.Component.{IsComponent}
use Rattle.lu_test.specs.declared.schedule.Move.{Move}
use Rattle.lu_machine.specs.Schedules.{IsSchedule}
use Rattle.lu_machine.specs.Steps.{Step, IsFeasible}
use Rattle.lu_machine.proofs.Keeping.{step_moved}
use Rattle.lu_pieces.proofs.Making.{next_feasible, next_schedule, kids_before}
use Rattle.lu_pieces.proofs.pieces.+deepen.Goals as goal

pub apply-undo-requires : goal.apply-undo-requires
apply-undo-requires t c =
    let zero_move : Move = record { thread = 0; pick = 0 } in
    let within : c.args.made < length c.args.piece.now = search rules in
    let able : IsFeasible c.args.machine.now (get_or c.args.piece.now c.args.made zero_move) = next_feasible c.args.machine.now c.args.piece.now c.args.made zero_move within c.requires.leads in
    rw c.moves-moves.ensures.moves able

pub deepen-requires : goal.deepen-requires
deepen-requires t c =
    let zero_move : Move = record { thread = 0; pick = 0 } in
    let within : c.args.made < length c.args.piece.now = search rules in
    let step : Step c.args.machine.now (get_or c.args.piece.now c.args.made zero_move) c.apply-undo.new.self c.apply-undo.result.event = rw c.moves-moves.ensures.moves at c.apply-undo.ensures.step in
    let moved = step_moved c.args.machine.now (get_or c.args.piece.now c.args.made zero_move) c.apply-undo.new.self c.apply-undo.result.event step in
    let sound : IsComponent c.apply-undo.new.self.component = subst IsComponent (sym moved.component) c.requires.sound in
    let leads : IsSchedule c.apply-undo.new.self (drop (c.args.made + 1) c.args.piece.now) = next_schedule c.args.machine.now c.args.piece.now c.args.made zero_move within c.requires.leads c.apply-undo.new.self c.apply-undo.result.event step in
    let lt : length c.args.piece.now - (c.args.made + 1) < length c.args.piece.now - c.args.made = omega arith in
    (search (rules, lt), (sound, (c.requires.short, (omega arith, leads))))

pub returns-clause-kids : goal.returns-clause-kids
returns-clause-kids t c =
    let zero_move : Move = record { thread = 0; pick = 0 } in
    let within : c.args.made < length c.args.piece.now = search rules in
    let step : Step c.args.machine.now (get_or c.args.piece.now c.args.made zero_move) c.apply-undo.new.self c.apply-undo.result.event = rw c.moves-moves.ensures.moves at c.apply-undo.ensures.step in
    let kids = c.in_ok-deepen.ensures.kids in
    (kids.0, kids.1, kids_before c.args.machine.now c.args.piece.now c.args.made zero_move within c.apply-undo.new.self c.apply-undo.result.event step kids.0 kids.2)
