use Rattle.std.proofs.Common.{List, slice_get, sym, ◌∙◌, ap}
use Rattle.std.specs.Option.{option_map}
use Rattle.std.specs.Map.Iter.{deref_pair}
use Rattle.lu_always.specs.Rows.{Entry, stored_of}
use Rattle.lu_always.specs.Stored.{StoredNode}
use Rattle.lu_always.proofs.Rowed.{stored_at}
use Rattle.lu_always.proofs.nodes.Nodes.monitor.Goals as goal

pub monitor-requires : goal.monitor-requires
monitor-requires c =
    let entry : Entry = (c.unwrap.result.0.now, c.unwrap.result.1.now) in
    (c.self.invariant c.args.index entry (sym c.get_index.ensures.entry ∙ ap (option_map deref_pair) c.unwrap.ensures)).monitor

pub returns : goal.returns
returns c =
    let parts = c.self.inside.parts in
    let entry : Entry = (c.unwrap.result.0.now, c.unwrap.result.1.now) in (
      stored_of parts entry,
      ap (λ (xs : List StoredNode). slice_get xs c.args.index) (sym c.self.view_is)
          ∙ stored_at parts c.self.inside.rows.entries c.args.index entry (sym c.get_index.ensures.entry ∙ ap (option_map deref_pair) c.unwrap.ensures),
      sym c.monitor.ensures,
    )
