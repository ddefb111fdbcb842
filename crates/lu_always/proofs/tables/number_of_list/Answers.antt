use Rattle.std.proofs.Common.{IfOk, subst}
use Rattle.lu_always.specs.Numbered.{IsNumber, is_list}
use Rattle.lu_always.proofs.tables.number_of_list.Goals as goal

pub returns-in_ok-from_slice-in-None-clause-number : goal.returns-in_ok-from_slice-in-None-clause-number
returns-in_ok-from_slice-in-None-clause-number g c =
    subst (λ xs. IfOk c.join.result (IsNumber (is_list g.T.PartialEq.eq xs) c.join.new.table.keys)) c.in_ok-from_slice-in-None.ensures.items c.join.ensures.number
