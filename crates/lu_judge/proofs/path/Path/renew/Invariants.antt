use Rattle.std.proofs.Common.{◌≡◌, ◌+◌, List, length, take}
use Rattle.lu_history.specs.declared.serial.SerialOp.{SerialOp}
use Rattle.lu_judge.specs.Paths.{IsPath, AreGoodAsMarked, history_of}
use Rattle.lu_judge.proofs.path.Path.renew.Given as goal

abbrev pub invariant-loop-event : goal.invariant-loop-event
invariant-loop-event l = record {
  path : IsPath l.self;
  history : history_of l.self ≡ take l.event-index l.event-items;
  number : length l.self.beginnings.items ≡ l.event-index + 1;
  good : (members : List (List SerialOp)) → AreGoodAsMarked members l.self;
}
