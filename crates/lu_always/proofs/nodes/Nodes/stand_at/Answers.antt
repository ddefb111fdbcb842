use Rattle.std.proofs.Common.{List, slice_get, sym, ◌∙◌, ap}
use Rattle.std.specs.Option.{option_map}
use Rattle.std.specs.Map.Iter.{deref_pair}
use Rattle.lu_always.specs.Rows.{Entry, stored_of}
use Rattle.lu_always.specs.Stored.{StoredNode}
use Rattle.lu_always.proofs.Rowed.{stored_at}
use Rattle.lu_always.proofs.nodes.Nodes.stand_at.Goals as goal

pub stand_at-requires : goal.stand_at-requires
stand_at-requires c =
    let parts = c.self.inside.parts in
    let entry : Entry = (c.unwrap.result.0.now, c.unwrap.result.1.now) in
    c.requires.can (stored_of parts entry)
    (ap (λ (xs : List StoredNode). slice_get xs c.args.index) (sym c.self.view_is)
    ∙ stored_at parts c.self.inside.rows.entries c.args.index entry (sym c.get_index.ensures.entry ∙ ap (option_map deref_pair) c.unwrap.ensures))

pub returns : goal.returns
returns c =
    let parts = c.self.inside.parts in
    let entry : Entry = (c.unwrap.result.0.now, c.unwrap.result.1.now) in (
      stored_of parts entry,
      ap (λ (xs : List StoredNode). slice_get xs c.args.index) (sym c.self.view_is)
          ∙ stored_at parts c.self.inside.rows.entries c.args.index entry (sym c.get_index.ensures.entry ∙ ap (option_map deref_pair) c.unwrap.ensures),
      c.stand_at.ensures,
    )
