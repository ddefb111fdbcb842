use Rattle.std.proofs.Common.{◌+◌, List, rules, sym, subst}
use Rattle.lu_history.specs.declared.serial.SerialOp.{SerialOp}
use Rattle.lu_spec.specs.FirmEnds.{as_kept}
use Rattle.lu_spec.proofs.FirmSets.{AddedTo, all_added, none_added, one_added_firm, one_marked}
use Rattle.lu_spec.proofs.firm.add_ends.Goals.{then-not-entry+in_ok-end+in_ok-insert, else-not-entry}
use Rattle.lu_spec.proofs.firm.add_ends.Goals as goal

pub loop-i-init : goal.loop-i-init
loop-i-init c = none_added (as_kept c.args.outcomes) c.args.entries.now c.args.set.now

pub loop-i-preserved : goal.loop-i-preserved
loop-i-preserved c =
    let q = c.args.entries.now in
    let old = c.args.set.now in
    let i = c.loop-i.i in
    let last = as_kept c.args.outcomes in
    elim c.if-not-entry.branch as (λ _. AddedTo last old c.if-not-entry.set q (i + 1)) [
      | then-not-entry+in_ok-end+in_ok-insert w ↦
          let longer = rw (c.requires, w.as_kept-last.ensures) at w.in_ok-end.ensures in
          subst (λ (s : List (List SerialOp)). AddedTo last old s q (i + 1)) (sym w.set-is)
          (one_added_firm last q i _ c.loop-i-test.true old c.loop-i.set w.insert.new.self w.in_ok-end.end.items w.if-not-entry.true longer c.loop-i.invariant w.in_ok-insert.ensures)
      | else-not-entry w ↦
          subst (λ (s : List (List SerialOp)). AddedTo last old s q (i + 1)) (sym w.set-is)
          (one_marked last q i _ c.loop-i-test.true old c.loop-i.set w.if-not-entry.false c.loop-i.invariant)
    ]

pub returns : goal.returns
returns c = all_added (as_kept c.args.outcomes) c.args.entries.now c.args.set.now c.loop-i.set c.loop-i.i (search rules) c.loop-i.invariant
