use Rattle.std.proofs.Common.{arith, ◌∷◌, [], length-append}
use Rattle.lu_horizon.specs.Tables.{IsTable}
use Rattle.lu_horizon.proofs.OwnLaws.{start_own}
use Rattle.lu_horizon.proofs.TableLaws.{table_push}
use Rattle.lu_horizon.proofs.horizon.Horizon.new.Goals as goal

pub loop-t-preserved : goal.loop-t-preserved
loop-t-preserved c = record {
  many = rw c.in_ok-push.ensures.items (omega (arith, c.loop-t.invariant.many, length-append c.loop-t.threads.items (c.in_ok-calls.calls ∷ [])));
  table = rw c.in_ok-push.ensures.items (table_push c.args.component.now c.args.matrix.now c.loop-t.threads.items c.loop-t.t c.in_ok-calls.calls c.loop-t.invariant.many c.in_ok-calls.ensures c.loop-t.invariant.table);
}

pub returns : goal.returns
returns c = λ s is.
    (let table : IsTable s.component s.matrix c.loop-t.threads.items = rw is.is c.loop-t.invariant.table in
    record { numbers = table; own = start_own c.args.component.now c.args.matrix.now s is })
