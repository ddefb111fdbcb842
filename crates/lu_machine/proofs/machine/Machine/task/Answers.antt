use Rattle.std.proofs.Common.{subst}
use Rattle.lu_machine.proofs.Layouts.{Keeps}
use Rattle.lu_machine.proofs.RowLists.{sound_at, task_found}
use Rattle.lu_machine.proofs.machine.Machine.task.Goals as goal

pub returns-clause-value : goal.returns-clause-value
returns-clause-value c =
    let keeps = subst (Keeps c.self.inside.spans.items c.self.inside.rows.items c.self.inside.agendas.items) c.self.view_is c.self.invariant in
    (task_found c.args.self.now c.args.frame.now _ _ c.index.result.now _ _ keeps.component keeps.rows_are c.requires.op c.requires.place c.from.ensures c.from-2.ensures c.index.ensures).0

pub returns-clause-wait : goal.returns-clause-wait
returns-clause-wait c =
    let keeps = subst (Keeps c.self.inside.spans.items c.self.inside.rows.items c.self.inside.agendas.items) c.self.view_is c.self.invariant in
    (task_found c.args.self.now c.args.frame.now _ _ c.index.result.now _ _ keeps.component keeps.rows_are c.requires.op c.requires.place c.from.ensures c.from-2.ensures c.index.ensures).1

pub returns-clause-sound : goal.returns-clause-sound
returns-clause-sound c =
    let keeps = subst (Keeps c.self.inside.spans.items c.self.inside.rows.items c.self.inside.agendas.items) c.self.view_is c.self.invariant in
    sound_at c.args.self.now keeps.component c.args.frame.now
