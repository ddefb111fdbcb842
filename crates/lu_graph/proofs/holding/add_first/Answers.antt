use Rattle.std.proofs.Common.{refl, sym, subst}
use Rattle.std.specs.Bool.{beq}
use Rattle.lu_graph.specs.declared.holding.Nodes.{Nodes}
use Rattle.lu_graph.specs.declared.row.Parts.{Parts}
use Rattle.lu_graph.specs.Rows.{KnowsDead}
use Rattle.lu_graph.specs.Numbered.{IsNumber, is_list}
use Rattle.lu_graph.proofs.Held.{held_first, node, stands_so}
use Rattle.lu_graph.proofs.holding.add_first.Goals as goal

pub returns : goal.returns
returns c =
    let s = c.args.machine.now in
    let alive = c.args.alive.now in
    let old = c.args.nodes.now in
    let before : Parts = record old.parts { alive = record old.parts.alive { lists = c.number_of_list.new.table } } in
    let parts = c.row_at.new.parts in
    let new : Nodes = record { rows = c.insert.new.self; parts = parts } in
    let number = c.of_alive.result.alive in
    let row = c.in_ok-row.row in
    let at = c.in_ok-row.ensures in
    let knows = subst (IsNumber (is_list beq alive) c.number_of_list.new.table.keys) (sym c.of_alive.ensures) c.in_ok-number.ensures.number in
    let known : KnowsDead s.component parts.dead = subst (KnowsDead s.component) (sym at.grows.dead) c.requires.dead in (
      node s alive number before parts row at knows,
      λ members. held_first s alive number before parts row at knows members old.rows.keys new c.requires.none.0 c.requires.none.1 refl c.in_ok-insert.ensures.keys,
      at.can,
      stands_so s alive number before parts row at knows c.requires.dead,
      known,
    )
