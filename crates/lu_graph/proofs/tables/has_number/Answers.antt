use Rattle.std.proofs.Common.{sym, ◌∙◌, ap, subst}
use Rattle.std.specs.Prelude.{option_copied}
use Rattle.lu_graph.specs.Numbered.{IsNumber}
use Rattle.lu_graph.proofs.Numbers.{number_there, with_place}
use Rattle.lu_graph.proofs.tables.has_number.Goals as goal

pub returns-in-Some : goal.returns-in-Some
returns-in-Some g c = λ so.
    (let keys = c.args.table.now.keys in
    let one = c.in-Some.one.now in
    let test = g.Q.Equivalent.equivalent c.args.query in
    let there = with_place keys c.args.number one (sym c.value_with.ensures.value ∙ ap option_copied c.in-Some.is) in
    subst (IsNumber test keys) there.1
    (number_there test g.T.PartialEq.eq (g.met.Q.Equivalent.respects_eq c.args.query) keys c.value_with.ensures.unique there.0 one there.2 (sym c.equivalent.ensures ∙ so)))
