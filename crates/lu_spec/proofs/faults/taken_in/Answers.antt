use Rattle.std.proofs.Common.{rules, List, sym, subst}
use Rattle.lu_history.specs.declared.serial.SerialOp.{SerialOp}
use Rattle.lu_trie.specs.Conflicts.{HasConflict}
use Rattle.lu_spec.proofs.FaultLines.{in_conflict, not_fitting, says_none}
use Rattle.lu_spec.proofs.Nexts.{fits_from, fits_to, is_there, is_not_there}
use Rattle.lu_spec.proofs.faults.taken_in.Goals as goal

pub returns-in-None-clause-none : goal.returns-in-None-clause-none
returns-in-None-clause-none c = says_none c.args.matrix.now c.args.set.now c.args.line.now (rw c.in-None.is at c.in_ok-history_in.ensures.none)

pub returns-then-not-fits_in-clause-none : goal.returns-then-not-fits_in-clause-none
returns-then-not-fits_in-clause-none c =
    let said = rw c.in-Some.is at c.in_ok-history_in.ensures.some in
    let fit = rw c.deref.ensures.value at c.fits_in.ensures in
    not_fitting c.args.matrix.now c.args.set.now c.args.line.now c.in-Some.history.items said (λ fits.
    let yes_it_does = fit.1 (fits_to c.args.matrix.now c.calls_of.result c.in-Some.history.items c.calls_of.ensures.calls fits) in let no_it_does_not = c.if-not-fits_in.true in absurd cc)

pub returns-then-is_some-clause-none : goal.returns-then-is_some-clause-none
returns-then-is_some-clause-none c =
    let said = rw c.in-Some.is at c.in_ok-history_in.ensures.some in
    let found = is_there c.conflict.result c.is_some.result c.is_some.ensures c.if-is_some.true in
    let conflict = rw c.deref-in-Some.ensures.value at ((c.conflict.ensures found.0.0 found.0.1).0 found.1) in
    in_conflict c.args.matrix.now c.args.set.now c.args.line.now c.in-Some.history.items said (conflict.0, conflict.1, found.0.0, found.0.1, conflict.2)

pub returns-else-is_some-clause-some : goal.returns-else-is_some-clause-some
returns-else-is_some-clause-some c =
    let said = rw c.in-Some.is at c.in_ok-history_in.ensures.some in
    let fit = rw c.deref.ensures.value at c.fits_in.ensures in
    record {
      says = said;
      fits = fits_from c.args.matrix.now c.calls_of.result c.in-Some.history.items c.calls_of.ensures.calls (fit.0 (search rules));
      apart = λ conflict.
          let there = subst (λ (h : List SerialOp). HasConflict c.args.set.now h conflict.2 conflict.3) (sym c.deref-in-Some.ensures.value) (conflict.0, conflict.1, conflict.4) in
          is_not_there c.conflict.result c.is_some.result c.is_some.ensures c.if-is_some.false (conflict.2, conflict.3) ((c.conflict.ensures conflict.2 conflict.3).1 there);
    }
