use Rattle.std.proofs.Common.{rules, arith, length, ap, ◌∙◌}
use Rattle.std.proofs.lemmas.List.{take_all}
use Rattle.lu_history.specs.declared.serial.SerialOutcome.TheVariants.{Ret}
use Rattle.lu_trie.specs.Branches.{members_from}
use Rattle.lu_serial_graph.specs.Graphs.{Link, count_of, resolve}
use Rattle.lu_serial_graph.proofs.FlatGraphs.{as_many, counted_next, counted_none, counted_sum, flat_counted, next_below}
use Rattle.lu_serial_graph.proofs.graph.Table.count.Goals as goal

pub loop-place-init : goal.loop-place-init
loop-place-init g c = counted_none c.args.ends c.from-count.result (search rules)

pub index-requires : goal.index-requires
index-requires g c =
    let d : Link = (record { thread = 0; outcome = Ret 0 }, 0) in
    let below = next_below (length c.args.self.now) c.args.links.now c.loop-place.place-index d c.loop-place-test.true c.requires in
    omega (arith, below, as_many c.self.inside.links.items c.self.inside.nodes.items c.args.self.now c.self.view_is c.self.invariant, c.self.inside.nodes.ok.0)

pub loop-place-preserved : goal.loop-place-preserved
loop-place-preserved g c =
    let d : Link = (record { thread = 0; outcome = Ret 0 }, 0) in
    let links = c.self.inside.links.items in
    let nodes = c.self.inside.nodes.items in
    let below = next_below (length c.args.self.now) c.args.links.now c.loop-place.place-index d c.loop-place-test.true c.requires in
    let many = as_many links nodes c.args.self.now c.self.view_is c.self.invariant in
    let there = flat_counted links nodes c.args.self.now c.self.view_is c.self.invariant _ c.index.result.now (omega (arith, below, many)) c.index.ensures in
    let more = counted_next c.args.self.now c.args.ends c.args.links.now c.loop-place.place-index d c.loop-place-test.true in
    c.saturating_add-count.ensures ∙ counted_sum c.loop-place.count c.index.result.now.member_count _ _ _ c.loop-place.invariant there more

pub returns : goal.returns
returns g c =
    let all = take_all c.loop-place.place-index c.args.links.now (omega (arith, c.loop-place-test.false)) in
    c.loop-place.invariant ∙ ap (λ ls. count_of (members_from c.args.ends (resolve c.args.self.now ls))) all
