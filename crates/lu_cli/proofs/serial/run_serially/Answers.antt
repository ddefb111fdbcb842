use Rattle.std.proofs.Common.{inr, subst}
use Rattle.lu_serial.specs.Offences.{IsSetOf}
use Rattle.lu_serial_graph.specs.Graphs.{members_of}
use Rattle.lu_cli.proofs.serial.run_serially.Goals as goal

pub show_offence-requires-clause-found : goal.show_offence-requires-clause-found
show_offence-requires-clause-found c s start =
    let finding = c.in-Err.ensures.offence s c.args.bounds.bound c.serial.result (c.in_ok-learnt.ensures.learnt s start) in
    rw (← c.serial.ensures.serial) finding

pub list_or_count-requires : goal.list_or_count-requires
list_or_count-requires c = λ s start.
    (let set = c.in-Ok.ensures.set s c.serial.result (c.in_ok-learnt.ensures.learnt s start) in
    subst (λ n. IsSetOf s n (members_of c.in-Ok.graph)) c.serial.ensures.serial set)

pub returns-in_ok-show_offence-in-Err : goal.returns-in_ok-show_offence-in-Err
returns-in_ok-show_offence-in-Err c = inr (inr c.in_ok-show_offence-in-Err.ensures)
