use Rattle.std.proofs.Common.{sym, subst}
use Rattle.lu_spec.specs.SpecText.{IsListable}
use Rattle.lu_spec.proofs.HistoryLines.{not_listed}
use Rattle.lu_spec.proofs.history_line.history_of.Goals as goal

pub returns-else-is_listable-clause-none : goal.returns-else-is_listable-clause-none
returns-else-is_listable-clause-none c =
    let read = rw c.in-Some.is at c.in_ok-entries_in-in-len1-up.ensures.some in
    let fails : IsListable c.in-Some.entries.items → ⊥ = λ is.
    let yes_it_is = c.is_listable.ensures.1 (subst IsListable (sym c.deref.ensures.value) is) in
    let no_it_is_not = c.if-is_listable.false in
    absurd cc in
    not_listed c.args.words.now c.in-Some.entries.items c.in-len1-up.len_at_least read.0 read.1 fails
