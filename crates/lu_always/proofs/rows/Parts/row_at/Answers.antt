use Rattle.std.proofs.Common.{subst}
use Rattle.std.specs.Prelude.{nat_eq}
use Rattle.std.specs.Option.{option_eq}
use Rattle.lu_always.specs.Rows.{IsListOf}
use Rattle.lu_always.proofs.Rowed.{list_is, same_numbers, same_owners}
use Rattle.lu_always.proofs.rows.Parts.row_at.Goals as goal

pub returns-clause-position : goal.returns-clause-position
returns-clause-position c =
    let cells = c.number_of_list.new.table.keys in
    let locks = c.number_of_list-2.new.table.keys in
    record {
      cells = subst (λ xs. IsListOf cells xs c.in_ok-number_of_list.field-0) c.cells.ensures (list_is nat_eq same_numbers cells c.cells.result.now c.in_ok-number_of_list.field-0 c.in_ok-number_of_list.ensures.number);
      locks = subst (λ xs. IsListOf locks xs c.in_ok-number_of_list-2.field-0) c.locks.ensures (list_is (option_eq nat_eq) same_owners locks c.locks.result.now c.in_ok-number_of_list-2.field-0 c.in_ok-number_of_list-2.ensures.number);
      threads = c.in_ok-number_threads.ensures.numbers;
    }
