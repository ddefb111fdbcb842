use Rattle.std.proofs.Common.{arith, length, ap, inl, inr, refl}
use Rattle.lu_machine.proofs.Starting.{start_there}
use Rattle.lu_serial_graph.specs.Graphs.{members_of}
use Rattle.lu_cli.specs.Outcomes.{too_many}
use Rattle.lu_cli.proofs.serial.list_or_count.Goals as goal

pub returns-then-count-gt-MOST_LISTED : goal.returns-then-count-gt-MOST_LISTED
returns-then-count-gt-MOST_LISTED c =
    let there = start_there c.args.test.component.now c.args.test.matrix.now c.args.test.can_run.settles in
    let members = members_of c.args.graph.now in
    let counted = c.member_count-count.ensures.count in
    inr (inl (record {
      start = there.0;
      starts = there.1;
      count = length members;
      has = record { members = members; are = c.requires there.0 there.1; sorted = c.member_count-count.ensures.sorted; count = refl };
      many = omega (arith, counted, c.if-count-gt-MOST_LISTED.true);
      says = ap too_many counted;
    }))

pub list_histories-requires : goal.list_histories-requires
list_histories-requires c = (c.args.bounds.serial, c.requires)

pub returns : goal.returns
returns c =
    let there = start_there c.args.test.component.now c.args.test.matrix.now c.args.test.can_run.settles in
    let members = members_of c.args.graph.now in
    let counted = c.member_count-count.ensures.count in
    inl (record {
      start = there.0;
      starts = there.1;
      count = length members;
      has = record { members = members; are = c.requires there.0 there.1; sorted = c.member_count-count.ensures.sorted; count = refl };
      few = omega (arith, counted, c.if-count-gt-MOST_LISTED.false);
      lists = c.in_ok-list_histories.ensures there.0 there.1;
    })
