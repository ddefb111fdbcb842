use Rattle.std.proofs.Common.{[], subst, refl}
use Rattle.lu_machine.proofs.Layouts.{Keeps}
use Rattle.lu_machine.proofs.RowLists.{opening_found}
use Rattle.lu_machine.proofs.machine.Machine.opening.Goals as goal

pub returns-clause-opened : goal.returns-clause-opened
returns-clause-opened c =
    let keeps = subst (Keeps c.self.inside.spans.items c.self.inside.rows.items c.self.inside.agendas.items) c.self.view_is c.self.invariant in
    let is = opening_found c.args.self.now.component c.args.self.now.matrix c.args.thread c.args.k _ _ _ c.index.result.now _ _ refl keeps.matrix_is keeps.matrix_of c.requires c.from.ensures c.from-2.ensures keeps.agendas_are c.index.ensures in
    (is.call, is.at, is.is)

pub returns-clause-few : goal.returns-clause-few
returns-clause-few c =
    let keeps = subst (Keeps c.self.inside.spans.items c.self.inside.rows.items c.self.inside.agendas.items) c.self.view_is c.self.invariant in
    (opening_found c.args.self.now.component c.args.self.now.matrix c.args.thread c.args.k _ _ _ c.index.result.now _ (record { registers = []; op = 0; place = 0 }) refl keeps.matrix_is keeps.matrix_of c.requires c.from.ensures c.from-2.ensures keeps.agendas_are c.index.ensures).few

pub returns-clause-in_code : goal.returns-clause-in_code
returns-clause-in_code c =
    let keeps = subst (Keeps c.self.inside.spans.items c.self.inside.rows.items c.self.inside.agendas.items) c.self.view_is c.self.invariant in
    let is = opening_found c.args.self.now.component c.args.self.now.matrix c.args.thread c.args.k _ _ _ c.index.result.now _ _ refl keeps.matrix_is keeps.matrix_of c.requires c.from.ensures c.from-2.ensures keeps.agendas_are c.index.ensures in
    (is.within, is.first)
