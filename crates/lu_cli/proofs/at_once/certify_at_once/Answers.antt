use Rattle.std.proofs.Common.{arith, length, inr, refl, subst}
use Rattle.lu_machine.proofs.Starting.{start_there}
use Rattle.lu_serial.specs.Offences.{IsSetOf}
use Rattle.lu_serial_graph.specs.Graphs.{members_of}
use Rattle.lu_cli.specs.declared.request.CertifyOptions.{CertifyOptions}
use Rattle.lu_cli.specs.declared.request.Repetition.TheVariants.{UpTo}
use Rattle.lu_cli.specs.Unrolled.{IsVerdictOn}
use Rattle.lu_cli.proofs.at_once.certify_at_once.Goals as goal

pub returns-then-member_count-gt-MOST_LISTED : goal.returns-then-member_count-gt-MOST_LISTED
returns-then-member_count-gt-MOST_LISTED g c =
    let component = c.args.test.component.now in
    let matrix = c.args.test.matrix.now in
    let there = start_there component matrix c.args.test.can_run.settles in
    let members = members_of c.in-Ok.graph in
    let set = c.in-Ok.ensures.set there.0 c.serial.result (c.in_ok-learnt.ensures.learnt there.0 there.1) in
    inr (
      record {
        start = there.0;
        starts = there.1;
        count = length members;
        has = record {
          members = members;
          are = subst (λ n. IsSetOf there.0 n members) c.serial.ensures.serial set;
          sorted = c.member_count.ensures.sorted;
          count = refl;
        };
        many = omega (arith, c.member_count.ensures.count, c.if-member_count-gt-MOST_LISTED.true);
      },
      subst (λ (asked : CertifyOptions). IsVerdictOn component matrix asked (UpTo 1) c.in_ok-answer.answer) c.in_one_search.ensures c.in_ok-answer.ensures,
    )

pub certify_listed-requires-clause-set : goal.certify_listed-requires-clause-set
certify_listed-requires-clause-set g c = λ κs lives s start.
    (let set = c.in-Ok.ensures.set s c.serial.result (c.in_ok-learnt.ensures.learnt s start) in
    subst (λ n. IsSetOf s n (members_of c.in-Ok.graph)) c.serial.ensures.serial set)
