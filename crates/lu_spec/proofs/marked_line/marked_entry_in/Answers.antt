use Rattle.std.proofs.Common.{Some}
use Rattle.std.proofs.lemmas.Bool.Decides.{Decides-eqb}
use Rattle.std.proofs.lemmas.Slice.Eq.{strip_suffix_is}
use Rattle.lu_spec.proofs.Entries.{if_none}
use Rattle.lu_spec.proofs.MarkedWords.{none_marked, says_marked}
use Rattle.lu_spec.proofs.marked_line.marked_entry_in.Goals as goal

pub returns-in_err-op-in-Some-clause-none : goal.returns-in_err-op-in-Some-clause-none
returns-in_err-op-in-Some-clause-none c =
    let ends = strip_suffix_is Decides-eqb c.args.word.now _ (Some c.in-Some.entry) c.in-Some.ensures.cases in
    if_none c.from_residual-in_err-op-in-Some.result _ (none_marked c.args.word.now c.in-Some.entry.now ends c.in_err-op-in-Some.ensures.none)

pub returns-in_ok-op-in-Some-clause-some : goal.returns-in_ok-op-in-Some-clause-some
returns-in_ok-op-in-Some-clause-some c =
    let ends = strip_suffix_is Decides-eqb c.args.word.now _ (Some c.in-Some.entry) c.in-Some.ensures.cases in
    let said = c.in_ok-op-in-Some.ensures.some in
    (said.0, says_marked c.args.word.now c.in-Some.entry.now c.in_ok-op-in-Some.op ends said.1)
