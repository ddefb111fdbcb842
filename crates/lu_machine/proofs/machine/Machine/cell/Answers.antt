use Rattle.std.proofs.Common.{arith, sym, subst}
use Rattle.lu_machine.proofs.Layouts.{Keeps, kept_tells, spans_many}
use Rattle.lu_machine.proofs.machine.Machine.cell.Goals as goal

pub index-span-requires : goal.index-span-requires
index-span-requires c =
    let keeps = subst (Keeps c.self.inside.spans.items c.self.inside.rows.items c.self.inside.agendas.items) c.self.view_is c.self.invariant in
    omega (arith, spans_many _ _ _ c.args.self.now keeps, c.self.inside.spans.ok.0)

pub overflow_add-result : goal.overflow_add-result
overflow_add-result c =
    let keeps = subst (Keeps c.self.inside.spans.items c.self.inside.rows.items c.self.inside.agendas.items) c.self.view_is c.self.invariant in
    let tells = kept_tells _ _ _ c.args.self.now c.args.array _ c.args.index _ keeps c.requires c.from.ensures c.index-span.ensures in
    omega (arith, tells.inside c.if-index-span.true, keeps.cells_fit)

pub returns-then-index-span-clause-cell : goal.returns-then-index-span-clause-cell
returns-then-index-span-clause-cell c =
    let keeps = subst (Keeps c.self.inside.spans.items c.self.inside.rows.items c.self.inside.agendas.items) c.self.view_is c.self.invariant in
    let tells = kept_tells _ _ _ c.args.self.now c.args.array _ c.args.index _ keeps c.requires c.from.ensures c.index-span.ensures in
    sym (tells.inside c.if-index-span.true).0

pub returns-then-index-span-clause-within : goal.returns-then-index-span-clause-within
returns-then-index-span-clause-within c =
    let keeps = subst (Keeps c.self.inside.spans.items c.self.inside.rows.items c.self.inside.agendas.items) c.self.view_is c.self.invariant in
    let tells = kept_tells _ _ _ c.args.self.now c.args.array _ c.args.index _ keeps c.requires c.from.ensures c.index-span.ensures in
    (tells.inside c.if-index-span.true).1

pub returns-else-index-span-clause-cell : goal.returns-else-index-span-clause-cell
returns-else-index-span-clause-cell c =
    let keeps = subst (Keeps c.self.inside.spans.items c.self.inside.rows.items c.self.inside.agendas.items) c.self.view_is c.self.invariant in
    let tells = kept_tells _ _ _ c.args.self.now c.args.array _ c.args.index _ keeps c.requires c.from.ensures c.index-span.ensures in
    sym (tells.past c.if-index-span.false)
