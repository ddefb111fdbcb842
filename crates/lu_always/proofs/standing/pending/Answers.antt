use Rattle.std.proofs.Common.{arith}
use Rattle.lu_always.specs.Nodes.{waits_in}
use Rattle.lu_always.proofs.Standings.{eight, waits_past}
use Rattle.lu_always.proofs.standing.pending.Goals as goal

pub returns : goal.returns
returns c =
    eight (waits_in c.args.machine.now) c.pending_of.result c.pending_of-2.result c.pending_of-3.result c.pending_of-4.result c.pending_of-5.result c.pending_of-6.result c.pending_of-7.result c.pending_of-8.result
    c.pending_of.ensures c.pending_of-2.ensures c.pending_of-3.ensures c.pending_of-4.ensures c.pending_of-5.ensures c.pending_of-6.ensures c.pending_of-7.ensures c.pending_of-8.ensures
    (λ t past. waits_past c.args.machine.now t (let few = c.threads-few.ensures.few in omega (arith, few, past)))
