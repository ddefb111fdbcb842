use Rattle.std.proofs.Common.{arith, rules, sym}
use Rattle.std.proofs.lemmas.List.{length-take-le}
use Rattle.std.proofs.lemmas.Option.{slice_get_within}
use Rattle.lu_graph.proofs.Counted.{admits_other, admits_so, entry_found}
use Rattle.lu_graph.proofs.alive.admits.Goals as goal

pub returns-then-not-is_ended_so : goal.returns-then-not-is_ended_so
returns-then-not-is_ended_so c =
    let q = c.args.member.now in
    let at = c.args.at.now in
    let there = entry_found q at.operation.t at.operation.k c.from.result c.in-Some.position c.position_of.result c.position_of.ensures c.in-Some.is c.from.ensures in
    admits_other q at c.in-Some.position there _ c.is_ended_so.result c.is_ended_so.ensures (search rules)

pub slice_bounds-are_called-end : goal.slice_bounds-are_called-end
slice_bounds-are_called-end c =
    let q = c.args.member.now in
    let at = c.args.at.now in
    let there = entry_found q at.operation.t at.operation.k c.from.result c.in-Some.position c.position_of.result c.position_of.ensures c.in-Some.is c.from.ensures in
    let within = slice_get_within q c.in-Some.position there.0 there.1 in
    sym (length-take-le c.in-Some.position q (omega (arith, within)))

pub returns : goal.returns
returns c =
    let q = c.args.member.now in
    let at = c.args.at.now in
    let there = entry_found q at.operation.t at.operation.k c.from.result c.in-Some.position c.position_of.result c.position_of.ensures c.in-Some.is c.from.ensures in
    admits_so q at c.in-Some.position there _ c.is_ended_so.result c.is_ended_so.ensures (search rules) c.are_called.result c.are_called.ensures
