use Rattle.std.proofs.Common.{[], ◌∷◌, ◌++◌, inr, sym, ◌∙◌, ap, refl, slice_get, List}
use Rattle.indexmap.proofs.CallerLemmas.{insert_entry-new}
use Rattle.lu_history.proofs.Events.{last_at}
use Rattle.lu_always.specs.Rows.{Entry}
use Rattle.lu_always.proofs.Rowed.{row_eq, row_there}
use Rattle.lu_always.proofs.nodes.add_row.Goals as goal

pub returns-in-Some-clause-there : goal.returns-in-Some-clause-there
returns-in-Some-clause-there c = row_there c.args.rows.now.entries c.args.row c.in-Some.index (sym c.in-Some.ensures.index)

pub returns-clause-only : goal.returns-clause-only
returns-clause-only c = inr (c.in_ok-insert.ensures.entries ∙ insert_entry-new row_eq c.args.rows.now c.args.row c.args.arrival (sym c.in_default.ensures.value))

pub returns-clause-there : goal.returns-clause-there
returns-clause-there c =
    let old = c.args.rows.now.entries in
    let one : Entry = (c.args.row, c.args.arrival) in
    let is = c.in_ok-insert.ensures.entries ∙ insert_entry-new row_eq c.args.rows.now c.args.row c.args.arrival (sym c.in_default.ensures.value) in
    (one, ap (λ (xs : List Entry). slice_get xs c.len-index.result) is ∙ (ap (slice_get (old ++ one ∷ [])) c.len-index.ensures.len ∙ last_at old [] one), refl)
