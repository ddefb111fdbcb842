use Rattle.std.proofs.Common.{inl}
use Rattle.lu_witness.specs.Witnesses.{IsMember}
use Rattle.lu_cli.proofs.Refuted.{example_of}
use Rattle.lu_cli.proofs.refute.refute_spec.Goals as goal

pub show_schedule-requires : goal.show_schedule-requires
show_schedule-requires c =
    example_of c.args.test.component.now c.args.test.matrix.now (IsMember c.args.specification.now) (c.in_ok-smaller.smaller, c.in_ok-smaller.schedule) c.args.test.can_run.of
    c.in_ok-smaller.ensures.counterexample

pub returns : goal.returns
returns c = inl (c.in_ok-smaller.ensures.shown, ((c.in_ok-smaller.smaller, c.in_ok-smaller.schedule), c.in_ok-smaller.ensures.answer, c.in_ok-show_schedule.ensures))
