use Rattle.std.proofs.Common.{rules, subst, sym}
use Rattle.lu_machine.specs.Starts.{AllEnd}
use Rattle.lu_cli.proofs.campaign.roles_of.Goals as goal

pub returns-clause-can_ask : goal.returns-clause-can_ask
returns-clause-can_ask c = record {
  setup = search rules;
  setup_of = search rules;
  settles = subst (AllEnd c.args.test.component.now) (sym c.setup.ensures.calls) c.args.test.can_run.settles;
  of = c.requires.of;
  arguments = c.requires.arguments;
  few_moves = search rules;
  serial_bound = search rules;
}
