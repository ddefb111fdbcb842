use Rattle.std.proofs.Common.{◌≡◌, ◌<◌, true, sym, rules, string_bytes}
use Rattle.std.proofs.lemmas.Result.{on_ok_weaker}
use Rattle.lu_machine.specs.Steps.{is_at_local}
use Rattle.lu_trace.proofs.Followed.{none_more, no_more, once_more}
use Rattle.lu_trace.proofs.tracing.+run_on.Goals as goal

pub returns-then-most-eq0 : goal.returns-then-most-eq0
returns-then-most-eq0 t c = rw c.if-most-eq0.true (none_more c.args.detail c.args.how.now c.args.machine.now c.args.t (string_bytes c.args.text.now))

pub returns-then-not-is_at_local : goal.returns-then-not-is_at_local
returns-then-not-is_at_local t c = no_more c.args.detail c.args.how.now c.args.most c.args.machine.now c.args.t (string_bytes c.args.text.now) (sym c.if-not-is_at_local.ensures)

pub returns : goal.returns
returns t c =
    let some : 0 < c.args.most = search rules in
    let local : is_at_local c.args.machine.now c.args.t ≡ true = sym c.if-not-is_at_local.ensures in
    on_ok_weaker c.run_on.result (λ more. once_more c.args.detail c.args.how.now c.args.most c.args.machine.now c.args.t c.step_once.new.self c.run_on.new.machine c.step_once.result (string_bytes c.args.text.now) (string_bytes c.write_line.new.text) (string_bytes c.run_on.new.text) some local c.step_once.ensures c.in_ok-write_line.ensures more) c.run_on.ensures
