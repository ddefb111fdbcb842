use Rattle.std.proofs.Common.{◌≡◌, ◌++◌, codes, rules, string_bytes}
use Rattle.std.proofs.lemmas.Result.{on_ok_weaker}
use Rattle.lu_trace.specs.Deeds.{cell_is, present}
use Rattle.lu_trace.proofs.Joined.{three_pieces}
use Rattle.lu_trace.proofs.waiting.write_await.Goals as goal

pub returns : goal.returns
returns c =
    let front = string_bytes c.push_str.new.self in
    let cell = cell_is c.args.how.now c.args.component.now c.args.cell c.args.value in
    let told : string_bytes c.write_cell.new.text ≡ front ++ cell = search rules in
    on_ok_weaker c.write_present.result (λ more. three_pieces (codes "waits until ") cell (present c.args.seen) (string_bytes c.args.text.now) front (string_bytes c.write_cell.new.text) (string_bytes c.write_present.new.text) c.in_ok-push_str.ensures.bytes told more) c.write_present.ensures
