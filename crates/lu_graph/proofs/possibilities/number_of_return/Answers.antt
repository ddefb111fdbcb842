use Rattle.std.proofs.Common.{sym, ◌∙◌, subst}
use Rattle.std.specs.Bool.{beq}
use Rattle.indexmap.proofs.CallerLemmas.{insert_entry-new}
use Rattle.lu_graph.specs.declared.possibilities.Possibilities.{Possibilities}
use Rattle.lu_graph.specs.Numbered.{IsNumbered, is_list}
use Rattle.lu_graph.proofs.Recalled.{numbers_met, numbers_new, return_eq}
use Rattle.lu_graph.proofs.possibilities.number_of_return.Goals as goal

pub returns-in-Some : goal.returns-in-Some
returns-in-Some c = numbers_met c.args.members.now c.args.at c.args.known.now c.in-Some.number.now (sym c.in-Some.ensures.value)

pub returns : goal.returns
returns c =
    let old = c.args.known.now in
    let new : Possibilities = record { lists = c.number_of_list.new.table; returns = c.insert.new.self } in
    let number = c.in_ok-number.number in
    numbers_new c.args.members.now c.args.at old new c.list.result.now c.in_ok-now.now.items number c.list.ensures c.in_ok-now.ensures
    (subst (λ xs. IsNumbered (is_list beq xs) old.lists.keys new.lists.keys number) c.deref.ensures.value c.in_ok-number.ensures)
    (c.in_ok-insert.ensures.entries ∙ insert_entry-new return_eq old.returns c.args.at number (sym c.in_default.ensures.value))
