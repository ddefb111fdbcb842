use Rattle.std.proofs.Common.{rules, ◌≡◌, ◌+◌, ◌-◌, Some, length, slice_get, refl, ◌∙◌, arith, true}
use Rattle.std.proofs.lemmas.Option.{slice_get_read}
use Rattle.lu_machine.specs.Steps.{is_local}
use Rattle.lu_horizon.specs.Code.{run_on}
use Rattle.lu_horizon.specs.Outlooks.{IsWeaker, either}
use Rattle.lu_horizon.specs.Tables.{outlook_of}
use Rattle.lu_horizon.proofs.RunLaws.{after_next, run_over}
use Rattle.lu_horizon.proofs.SureLaws.{either_less}
use Rattle.lu_horizon.proofs.certain.+run_on.Goals as goal

pub returns-else-branches-eq0 : goal.returns-else-branches-eq0
returns-else-branches-eq0 t c =
    let code = c.args.code.now in
    let known = outlook_of c.args.known.now in
    let on = run_on code known (c.args.most - 1) in
    let instr = c.in-Some.instr.now in
    let read = c.in-Some.ensures.lookup in
    let at : slice_get code c.args.place ≡ Some instr = slice_get_read code (length code) c.args.place instr refl read.3.0 read.1 in
    let is : is_local instr ≡ true = search rules in
    let v = c.in-JumpIfZero.value in
    let target = c.in-JumpIfZero.target in
    let same : run_on code known c.args.most c.args.place ≡ either (on target) (on (c.args.place + 1)) = rw c.in-JumpIfZero.is at (run_over code known c.args.most c.args.place instr at is (omega (arith, c.if-most-eq0.false))) in
    let there : IsWeaker c.run_on-there.result (on target) = rw c.from-else-branches-eq0.ensures at c.run_on-there.ensures in
    rw (same, c.either.ensures) (either_less c.run_on-there.result c.run_on-next.result (on target) (on (c.args.place + 1)) there c.run_on-next.ensures)

pub returns-in_default-instr : goal.returns-in_default-instr
returns-in_default-instr t c =
    let code = c.args.code.now in
    let known = outlook_of c.args.known.now in
    let on = run_on code known (c.args.most - 1) in
    let instr = c.in-Some.instr.now in
    let read = c.in-Some.ensures.lookup in
    let at : slice_get code c.args.place ≡ Some instr = slice_get_read code (length code) c.args.place instr refl read.3.0 read.1 in
    let is : is_local instr ≡ true = search rules in
    let same : run_on code known c.args.most c.args.place ≡ on (c.args.place + 1) = run_over code known c.args.most c.args.place instr at is (omega (arith, c.if-most-eq0.false)) ∙ after_next on c.args.place instr c.in_default-instr.not-Jump c.in_default-instr.not-JumpIfZero in
    rw same c.run_on-in_default-instr.ensures
