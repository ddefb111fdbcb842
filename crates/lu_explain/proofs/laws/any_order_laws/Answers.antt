use Rattle.lu_explain.proofs.OneOrder.{one_any_order, unbroken_is_witness}
use Rattle.lu_explain.proofs.laws.any_order_laws.Goals as goal

pub returns : goal.returns
returns _ = record {
  one = one_any_order;
  witness = unbroken_is_witness;
}
