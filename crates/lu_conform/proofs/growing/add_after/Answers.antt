use Rattle.std.proofs.lemmas.Result.{on_ok_weaker}
use Rattle.lu_conform.specs.Growing.{arrived}
use Rattle.lu_conform.proofs.Grown.{follows_one}
use Rattle.lu_conform.proofs.growing.add_after.Goals as goal

pub returns-in-Some : goal.returns-in-Some
returns-in-Some c =
    on_ok_weaker c.add.result
    (follows_one c.args.machine.now c.args.so_far.events.now c.args.so_far.seen c.args.event (arrived c.args.so_far.place c.args.next) c.args.stages.now.entries c.in-Some.after c.in-Some.ensures
    c.add.new.stages.entries)
    c.add.ensures
