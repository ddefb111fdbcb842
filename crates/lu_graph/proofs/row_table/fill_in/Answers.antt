use Rattle.std.proofs.Common.{arith, rules, ◌≡◌, length}
use Rattle.lu_graph.proofs.Ordered.{four_taken, taken_at}
use Rattle.lu_graph.proofs.row_table.fill_in.Goals as goal

pub returns : goal.returns
returns g c =
    let rows = c.args.rows.now in
    let old = c.args.tables in
    let many : length old ≡ 4 = search rules in
    let first = c.finish.ensures 0 rows c.first-1.given.0 c.start_share-first.ensures in
    let second = c.finish-2.ensures 1 rows c.second-1.given.0 c.start_share-second.ensures in
    let third = c.finish-3.ensures 2 rows c.third-1.given.0 c.start_share-third.ensures in
    four_taken rows old c.finish.result c.finish-2.result c.finish-3.result c.filled-last.result many
    (λ d. taken_at rows old 0 c.first-1.given.0 c.finish.result d many (omega arith) c.first-1.given.1 first)
    (λ d. taken_at rows old 1 c.second-1.given.0 c.finish-2.result d many (omega arith) c.second-1.given.1 second)
    (λ d. taken_at rows old 2 c.third-1.given.0 c.finish-3.result d many (omega arith) c.third-1.given.1 third)
    (λ d. taken_at rows old 3 c.last-1.given.0 c.filled-last.result d many (omega arith) c.last-1.given.1 c.filled-last.ensures)
