use Rattle.std.proofs.Common.{refl, subst}
use Rattle.lu_graph.specs.declared.expanding.Expansions.{Expansions}
use Rattle.lu_graph.specs.Expanding.{Takes}
use Rattle.lu_graph.proofs.Expanded.{alone_left, found_left, through_alone, through_found}
use Rattle.lu_graph.proofs.traversal.go_through.Goals as goal

pub returns-in_ok-put_next-in-Some-clause-done : goal.returns-in_ok-put_next-in-Some-clause-done
returns-in_ok-put_next-in-Some-clause-done c = λ list kept hold here its known.
    (let before = c.args.ahead.now in
    let ahead : Expansions = record { nodes = c.take_at.new.found; rows = c.put_next.new.rows } in
    through_found c.args.members.now c.args.machine.now c.args.number c.args.row.now before ahead c.args.nodes.now c.put_next.new.nodes c.in-Some.found
    (subst (Takes c.args.number before.nodes.items c.take_at.new.found.items) c.in-Some.is c.take_at.ensures) c.in_ok-put_next-in-Some.ensures.put c.requires.ahead list hold known kept here)

pub returns-in_ok-put_next-in-Some-clause-left : goal.returns-in_ok-put_next-in-Some-clause-left
returns-in_ok-put_next-in-Some-clause-left c = λ list hold known.
    (let before = c.args.ahead.now in
    let ahead : Expansions = record { nodes = c.take_at.new.found; rows = c.put_next.new.rows } in
    found_left c.args.members.now c.args.machine.now c.args.number c.args.row.now before ahead c.args.nodes.now c.put_next.new.nodes c.in-Some.found
    (subst (Takes c.args.number before.nodes.items c.take_at.new.found.items) c.in-Some.is c.take_at.ensures) c.in_ok-put_next-in-Some.ensures.put c.requires.ahead list hold known c.in_ok-put_next-in-Some.ensures.rest)

pub returns-in_ok-add_next-in-None-clause-done : goal.returns-in_ok-add_next-in-None-clause-done
returns-in_ok-add_next-in-None-clause-done c = λ list kept hold here its known.
    (let before = c.args.ahead.now in
    let ahead : Expansions = record { nodes = c.take_at.new.found; rows = before.rows } in
    through_alone c.args.members.now c.args.machine.now c.args.number c.args.row.now before ahead c.args.nodes.now c.add_next.new.nodes c.stand_at.new.machine c.stand_at.ensures
    c.in_ok-add_next-in-None.ensures.next list hold known kept its c.list.result.now c.list.ensures c.is_good-is_good.result c.is_good-is_good.ensures)

pub returns-in_ok-add_next-in-None-clause-left : goal.returns-in_ok-add_next-in-None-clause-left
returns-in_ok-add_next-in-None-clause-left c = λ list hold known.
    (let before = c.args.ahead.now in
    let ahead : Expansions = record { nodes = c.take_at.new.found; rows = before.rows } in
    let can = c.requires.can in
    alone_left c.args.members.now c.args.machine.now c.args.number c.args.row.now before ahead c.args.nodes.now c.add_next.new.nodes c.stand_at.new.machine c.stand_at.ensures
    c.in_ok-add_next-in-None.ensures.next list hold known can.0 can.1 c.requires.ahead (subst (Takes c.args.number before.nodes.items c.take_at.new.found.items) c.in-None.is c.take_at.ensures) refl)
