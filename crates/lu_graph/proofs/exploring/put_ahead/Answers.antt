use Rattle.std.proofs.Common.{refl, ◌∙◌, ap}
use Rattle.indexmap.specs.IndexSet.{insert_all}
use Rattle.lu_graph.specs.declared.expanding.Expansions.{Expansions}
use Rattle.lu_graph.specs.declared.holding.Nodes.{Nodes}
use Rattle.lu_graph.proofs.Ahead.{puts_ahead}
use Rattle.lu_graph.proofs.Same.{row_eq}
use Rattle.lu_graph.proofs.exploring.put_ahead.Goals as goal

pub returns : goal.returns
returns g c =
    let old = c.args.nodes.now in
    let before = c.args.ahead.now in
    let ahead : Expansions = record { nodes = before.nodes; rows = c.clear.new.self } in
    let new : Nodes = record { rows = c.in_ok-nodes.field-0; parts = old.parts } in
    puts_ahead before ahead old new
    (record {
      keys = c.in_ok-nodes.ensures ∙ (ap (λ x. insert_all row_eq x.keys c.make_contiguous.result.now) c.replace-table.ensures.value ∙ ap (insert_all row_eq old.rows.keys) c.make_contiguous.ensures.value);
      parts = refl;
    })
    refl c.clear.ensures.items
