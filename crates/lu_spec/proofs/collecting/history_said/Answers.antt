use Rattle.std.proofs.Common.{rules, refl, sym, subst, List}
use Rattle.lu_history.specs.declared.serial.SerialOp.{SerialOp}
use Rattle.lu_trie.specs.Conflicts.{HasConflict}
use Rattle.lu_spec.proofs.Nexts.{fits_from, is_there, is_not_there}
use Rattle.lu_spec.proofs.collecting.history_said.Goals as goal

pub returns-then-is_some-clause-fault : goal.returns-then-is_some-clause-fault
returns-then-is_some-clause-fault c =
    let said = rw c.in-Some.is at c.in_ok-history_of.ensures.some in
    let fit = rw c.deref.ensures.value at c.fits_in.ensures in
    let fits = fits_from c.args.matrix.now c.calls_of.result c.in-Some.history.items c.calls_of.ensures.calls (fit.0 (search rules)) in
    let found = is_there c.conflict.result c.is_some.result c.is_some.ensures c.if-is_some.true in
    let conflict = rw c.deref-in-Some.ensures.value at ((c.conflict.ensures found.0.0 found.0.1).0 found.1) in
    (refl, (c.in-Some.history.items, said, fits, (conflict.0, conflict.1, found.0.0, found.0.1, conflict.2)))

pub returns-else-is_some-clause-said : goal.returns-else-is_some-clause-said
returns-else-is_some-clause-said c =
    let said = rw c.in-Some.is at c.in_ok-history_of.ensures.some in
    let fit = rw c.deref.ensures.value at c.fits_in.ensures in
    record {
      said = said;
      fits = fits_from c.args.matrix.now c.calls_of.result c.in-Some.history.items c.calls_of.ensures.calls (fit.0 (search rules));
      apart = λ conflict.
          let there = subst (λ (h : List SerialOp). HasConflict c.args.set.now h conflict.2 conflict.3) (sym c.deref-in-Some.ensures.value) (conflict.0, conflict.1, conflict.4) in
          is_not_there c.conflict.result c.is_some.result c.is_some.ensures c.if-is_some.false (conflict.2, conflict.3) ((c.conflict.ensures conflict.2 conflict.3).1 there);
    }
