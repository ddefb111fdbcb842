use Rattle.std.proofs.Common.{rules, List, refl, sym, subst}
use Rattle.lu_history.specs.declared.serial.SerialOp.{SerialOp}
use Rattle.lu_trie.specs.Conflicts.{HasConflict}
use Rattle.lu_spec.proofs.Nexts.{follows, none_follows, fits_from, fits_to, draft_spec, conflict_listed, listed_conflict, is_there, is_not_there}
use Rattle.lu_spec.proofs.reader.next_history.Goals as goal

pub returns-then-not-goes_on-clause-fault : goal.returns-then-not-goes_on-clause-fault
returns-then-not-goes_on-clause-fault c = λ listed draft.
    let said = rw c.in-Some.is at c.in_ok-history_in.ensures.some in
    let answer = rw (c.deref.ensures.value, c.deref-in-Some.ensures.value) at c.goes_on.ensures in
    (refl, none_follows c.args.matrix.now listed c.args.draft.now.set c.args.draft.now.last.items c.in-Some.history.items c.args.line.now draft said.0 said.1 (λ after. let yes_it_does = answer.1 after in let no_it_does_not = c.if-not-goes_on.true in absurd cc))

pub returns-then-not-fits_in-clause-fault : goal.returns-then-not-fits_in-clause-fault
returns-then-not-fits_in-clause-fault c = λ listed draft.
    let said = rw c.in-Some.is at c.in_ok-history_in.ensures.some in
    let answer = rw (c.deref.ensures.value, c.deref-in-Some.ensures.value) at c.goes_on.ensures in
    let goes = follows c.args.matrix.now listed c.args.draft.now.set c.args.draft.now.last.items c.in-Some.history.items draft (answer.0 (search rules)) in
    let fit = rw c.deref-in-Some-2.ensures.value at c.fits_in.ensures in
    (refl, (c.in-Some.history.items, (said.1, said.0, goes), λ fits. let yes_it_does = fit.1 (fits_to c.args.matrix.now c.calls_of.result c.in-Some.history.items c.calls_of.ensures.calls fits) in let no_it_does_not = c.if-not-fits_in.true in absurd cc))

pub conflict-requires : goal.conflict-requires
conflict-requires c = (draft_spec c.args.matrix.now c.requires.0 c.args.draft.now.set c.args.draft.now.last.items c.requires.1).deterministic

pub returns-then-is_some-clause-fault : goal.returns-then-is_some-clause-fault
returns-then-is_some-clause-fault c = λ listed draft.
    let said = rw c.in-Some.is at c.in_ok-history_in.ensures.some in
    let answer = rw (c.deref.ensures.value, c.deref-in-Some.ensures.value) at c.goes_on.ensures in
    let goes = follows c.args.matrix.now listed c.args.draft.now.set c.args.draft.now.last.items c.in-Some.history.items draft (answer.0 (search rules)) in
    let fit = rw c.deref-in-Some-2.ensures.value at c.fits_in.ensures in
    let fits = fits_from c.args.matrix.now c.calls_of.result c.in-Some.history.items c.calls_of.ensures.calls (fit.0 (search rules)) in
    let found = is_there c.conflict.result c.is_some.result c.is_some.ensures c.if-is_some.true in
    let conflict = rw c.deref-in-Some-3.ensures.value at ((c.conflict.ensures found.0.0 found.0.1).0 found.1) in
    (refl, (c.in-Some.history.items, (said.1, said.0, goes), fits, conflict_listed listed c.args.draft.now.set c.in-Some.history.items found.0.0 found.0.1 draft.closure conflict))

pub returns-else-is_some-clause-next : goal.returns-else-is_some-clause-next
returns-else-is_some-clause-next c = λ listed draft.
    let said = rw c.in-Some.is at c.in_ok-history_in.ensures.some in
    let answer = rw (c.deref.ensures.value, c.deref-in-Some.ensures.value) at c.goes_on.ensures in
    let goes = follows c.args.matrix.now listed c.args.draft.now.set c.args.draft.now.last.items c.in-Some.history.items draft (answer.0 (search rules)) in
    let fit = rw c.deref-in-Some-2.ensures.value at c.fits_in.ensures in
    record {
      is = (said.1, said.0, goes);
      fits = fits_from c.args.matrix.now c.calls_of.result c.in-Some.history.items c.calls_of.ensures.calls (fit.0 (search rules));
      apart = listed_conflict listed c.args.draft.now.set c.in-Some.history.items draft.closure (λ i o has.
          let there = subst (λ (h : List SerialOp). HasConflict c.args.draft.now.set h i o) (sym c.deref-in-Some-3.ensures.value) has in
          is_not_there c.conflict.result c.is_some.result c.is_some.ensures c.if-is_some.false (i, o) ((c.conflict.ensures i o).1 there));
    }
