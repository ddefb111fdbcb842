use Rattle.std.proofs.Common.{arith, refl}
use Rattle.std.proofs.lemmas.Option.{slice_get_within}
use Rattle.lu_graph.specs.Judging.{room}
use Rattle.lu_graph.proofs.Counted.{few_of_each}
use Rattle.lu_graph.proofs.Wholes.{whole_where_none, whole_where_some}
use Rattle.lu_graph.proofs.judging.is_whole.Goals as goal

pub returns-in-None : goal.returns-in-None
returns-in-None c = (
  (λ x. whole_where_none c.args.machine.now c.args.waiting c.args.member.now
      (few_of_each c.args.member.now (room c.args.machine.now c.args.waiting) (λ i op at. c.loop-op.invariant i op (let lt = slice_get_within c.args.member.now i op at in omega (arith, lt)) at)) c.in-None.is),
  (λ x. refl),
)

pub returns-in-Some : goal.returns-in-Some
returns-in-Some c =
    whole_where_some c.args.machine.now c.args.waiting c.args.member.now
    (few_of_each c.args.member.now (room c.args.machine.now c.args.waiting) (λ i op at. c.loop-op.invariant i op (let lt = slice_get_within c.args.member.now i op at in omega (arith, lt)) at))
    c.in-Some.thread c.in-Some.is c.is_stuck.result c.is_stuck.ensures
