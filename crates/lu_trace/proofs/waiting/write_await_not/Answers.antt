use Rattle.std.proofs.Common.{codes, string_bytes}
use Rattle.std.proofs.lemmas.Result.{on_ok_weaker}
use Rattle.lu_trace.specs.Deeds.{cell_is_not}
use Rattle.lu_trace.proofs.Joined.{two_pieces}
use Rattle.lu_trace.proofs.waiting.write_await_not.Goals as goal

pub returns : goal.returns
returns c =
    on_ok_weaker c.write_cell.result (λ more. two_pieces (codes "waits until ") (cell_is_not c.args.how.now c.args.component.now c.args.cell c.args.value) (string_bytes c.args.text.now) (string_bytes c.push_str.new.self) (string_bytes c.write_cell.new.text) c.in_ok-push_str.ensures.bytes more) c.write_cell.ensures
