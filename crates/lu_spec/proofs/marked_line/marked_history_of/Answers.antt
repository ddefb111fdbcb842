use Rattle.std.proofs.Common.{sym, subst, List}
use Rattle.std.specs.Prelude.{All}
use Rattle.lu_spec.specs.declared.marked_line.MarkedOp.{MarkedOp}
use Rattle.lu_spec.specs.MarkedEntries.{IsMarkedEntry, erased}
use Rattle.lu_spec.specs.SpecText.{IsListable}
use Rattle.lu_spec.proofs.MarkedWords.{no_entries, not_listed}
use Rattle.lu_spec.proofs.marked_line.marked_history_of.Goals as goal

pub are_listable-requires : goal.are_listable-requires
are_listable-requires c =
    let read = rw c.in-Some.is at c.in_ok-marked_entries_in-in-len1-up.ensures.some in
    subst (λ (x : List MarkedOp). All IsMarkedEntry x) (sym c.deref.ensures.value) read.0

pub returns-in-None-clause-none : goal.returns-in-None-clause-none
returns-in-None-clause-none c =
    let none = rw c.in-None.is at c.in_ok-marked_entries_in-in-len1-up.ensures.none in
    no_entries c.args.words.now c.in-len1-up.len_at_least none

pub returns-else-branch-clause-none : goal.returns-else-branch-clause-none
returns-else-branch-clause-none c =
    let read = rw c.in-Some.is at c.in_ok-marked_entries_in-in-len1-up.ensures.some in
    let fails : IsListable (erased c.in-Some.entries.items) → ⊥ = λ is.
    let listable = c.in_ok-are_listable-in-Some.ensures.1 (subst (λ (x : List MarkedOp). IsListable (erased x)) (sym c.deref.ensures.value) is) in
    let not_listable = c.if-branch.false in
    absurd cc in
    not_listed c.args.words.now c.in-Some.entries.items c.in-len1-up.len_at_least read.0 read.1 fails
