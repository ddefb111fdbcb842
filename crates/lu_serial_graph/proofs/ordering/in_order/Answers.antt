use Rattle.std.proofs.Common.{◌≡◌, map}
use Rattle.std.specs.List.Sorted.{IsPermutation}
use Rattle.std.proofs.lemmas.Result.{IfOk-weaker}
use Rattle.lu_serial_graph.specs.Ordering.{position_of}
use Rattle.lu_serial_graph.proofs.Ordered.{sorted_same}
use Rattle.lu_serial_graph.proofs.ordering.in_order.Goals as goal

pub returns-clause-same : goal.returns-clause-same
returns-clause-same c =
    let keyed = c.in_ok-keyed.keyed in
    let sorted = c.sort_unstable_by.new.self in
    IfOk-weaker c.without_keys.result (λ ordered. ordered.items ≡ map position_of sorted.items) (λ ordered. IsPermutation c.args.rests.items ordered.items)
    (λ ordered is. sorted_same keyed.items sorted.items c.args.rests.items ordered.items c.in_ok-keyed.ensures.rests c.sort_unstable_by.ensures.permutation is) c.without_keys.ensures
