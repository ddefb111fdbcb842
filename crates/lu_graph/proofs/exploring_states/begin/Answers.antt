use Rattle.std.proofs.Common.{rules, ◌∙◌, ap}
use Rattle.std.specs.Prelude.{List}
use Rattle.indexmap.specs.IndexSet.{insert_key}
use Rattle.lu_machine.specs.declared.position.Position.{Position}
use Rattle.lu_machine.proofs.Positions.{position_eq}
use Rattle.lu_graph.proofs.exploring_states.begin.Goals as goal

pub returns : goal.returns
returns c = (
  c.in_ok-position.field-0,
  c.in_ok-insert.ensures.keys ∙ ap (λ (xs : List Position). insert_key position_eq xs c.in_ok-position.field-0) c.new-positions.ensures.empty,
  search rules,
  c.new.ensures.items,
  c.in_ok-position.ensures.stands,
  c.in_ok-position.ensures.here,
)
