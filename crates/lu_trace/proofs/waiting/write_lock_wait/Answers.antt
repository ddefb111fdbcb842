use Rattle.std.proofs.Common.{◌≡◌, ◌++◌, codes, rules, string_bytes}
use Rattle.std.proofs.lemmas.Result.{on_ok_weaker}
use Rattle.lu_lang.specs.ComponentText.{lock_word}
use Rattle.lu_trace.specs.Deeds.{owned_by}
use Rattle.lu_trace.proofs.Joined.{three_pieces}
use Rattle.lu_trace.proofs.waiting.write_lock_wait.Goals as goal

pub returns : goal.returns
returns c =
    let front = string_bytes c.push_str.new.self in
    let name = lock_word c.args.machine.now.component c.args.lock in
    let told : string_bytes c.push_str-2.new.self ≡ front ++ name = search rules in
    rw (← c.owner.ensures)
    (on_ok_weaker c.write_owner.result (λ more. three_pieces (codes "waits for lock ") name (owned_by c.owner.result) (string_bytes c.args.text.now) front (string_bytes c.push_str-2.new.self) (string_bytes c.write_owner.new.text) c.in_ok-push_str.ensures.bytes told more) c.write_owner.ensures)
