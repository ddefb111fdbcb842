use Rattle.std.proofs.Common.{◌≡◌, ◌-◌, Some, None, true, false, arith}
use Rattle.std.proofs.lemmas.List.{with_items_is}
use Rattle.lu_source_lint.specs.Faults.{bytes_of, faults_of_lines, first_fault, is_last, mended}
use Rattle.lu_source_lint.proofs.Reported.{all_reported, last_one, none_left, one_more}
use Rattle.lu_source_lint.proofs.faults.faults_of_lines.Goals as goal

pub returns-in_default : goal.returns-in_default
returns-in_default c =
    let is : first_fault (bytes_of c.loop-round.lines.items) ≡ None = cc (c.loop-round.invariant.0, c.in_default.is) in
    none_left c.loop-round.faults.items (20 - c.loop-round._round) (bytes_of c.loop-round.lines.items) _ (omega arith) is c.loop-round.invariant.1

pub returns-then-branch : goal.returns-then-branch
returns-then-branch c =
    let is : first_fault (bytes_of c.loop-round.lines.items) ≡ Some c.in-Some.fault = cc (c.loop-round.invariant.0, c.in-Some.is) in
    let last : is_last (bytes_of c.loop-round.lines.items) c.in-Some.fault ≡ true = cc (c.deref-in-loop-round.ensures.value, c.in_ok-is_last.ensures, c.if-branch.true) in
    last_one c.loop-round.faults.items c.push.new.self.items (20 - c.loop-round._round) (bytes_of c.loop-round.lines.items) c.in-Some.fault _ (omega arith) is c.in_ok-push.ensures.items last c.loop-round.invariant.1

pub loop-round-preserved : goal.loop-round-preserved
loop-round-preserved c =
    let is : first_fault (bytes_of c.loop-round.lines.items) ≡ Some c.in-Some.fault = cc (c.loop-round.invariant.0, c.in-Some.is) in
    let not_last : is_last (bytes_of c.loop-round.lines.items) c.in-Some.fault ≡ false = cc (c.deref-in-loop-round.ensures.value, c.in_ok-is_last.ensures, c.if-branch.false) in
    let next : bytes_of c.mend.new.lines ≡ mended (bytes_of c.loop-round.lines.items) c.in-Some.fault = cc (c.deref_mut.ensures.value, c.in_ok-first-2.ensures.lines) in
    rw (with_items_is c.loop-round.lines c.mend.new.lines (omega (arith, c.loop-round.lines.ok.0))) (c.in_ok-first-2.ensures.first, one_more c.loop-round.faults.items c.push.new.self.items (20 - c.loop-round._round) _ (bytes_of c.loop-round.lines.items) (bytes_of c.mend.new.lines) c.in-Some.fault (faults_of_lines 20 (bytes_of c.args.lines.items)) (omega arith) (omega arith) is c.in_ok-push.ensures.items not_last next c.loop-round.invariant.1)

pub returns : goal.returns
returns c = all_reported c.loop-round.faults.items (20 - c.loop-round._round) (bytes_of c.loop-round.lines.items) _ (omega arith) c.loop-round.invariant.1
