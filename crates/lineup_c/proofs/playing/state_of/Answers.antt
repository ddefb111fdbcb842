use Rattle.lineup_c.specs.Calls.{IsStateFault, IsStateOf}
use Rattle.lineup_c.proofs.Played.{fault_in, first_moves, of_fault, of_value}
use Rattle.lineup_c.proofs.playing.state_of.Goals as goal

pub returns-clause-state : goal.returns-clause-state
returns-clause-state c =
    let read = c.in_ok-case in
    let schedule = c.in_ok-schedule.schedule in
    of_value c.numbers_after.result _ (λ numbers. IsStateOf c.args.component.now c.args.matrix.now c.args.schedule.now c.args.most numbers.items)
    (λ numbers are. (
      read.case.component,
      read.case.matrix,
      schedule,
      read.ensures.read,
      c.in_ok-schedule.ensures.read,
      first_moves read.case.component read.case.matrix schedule c.moves-moves.result.now c.args.most c.min-made.result numbers.items c.moves-moves.ensures.moves c.min-made.ensures are,
    ))
    c.numbers_after.ensures.numbers

pub returns-clause-fault : goal.returns-clause-fault
returns-clause-fault c =
    let read = c.in_ok-case in
    of_fault c.numbers_after.result _ (IsStateFault c.args.component.now c.args.matrix.now c.args.schedule.now c.args.most)
    (fault_in c.args.component.now c.args.matrix.now c.args.schedule.now read.case.component read.case.matrix c.in_ok-schedule.schedule c.moves-moves.result.now c.args.most c.min-made.result read.ensures.read c.in_ok-schedule.ensures.read c.moves-moves.ensures.moves c.min-made.ensures)
    c.numbers_after.ensures.fault
