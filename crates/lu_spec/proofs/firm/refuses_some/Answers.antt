use Rattle.std.proofs.Common.{◌+◌, rules}
use Rattle.lu_spec.proofs.FirmSets.{NoneRefused, got_firm, next_not_refused, no_entry_refused, none_refused, not_both, said_no}
use Rattle.lu_spec.proofs.firm.refuses_some.Goals.{else-not-entry-via-then-not-entry+in_ok-refuses+else-branch, else-not-entry-via-else-not-entry}
use Rattle.lu_spec.proofs.firm.refuses_some.Goals as goal

pub loop-i-init : goal.loop-i-init
loop-i-init c = no_entry_refused c.args.kept.now c.args.entries.now

pub returns-then-branch : goal.returns-then-branch
returns-then-branch c =
    let refused = c.in_ok-refuses.ensures.0 (search rules) in
    let here = rw c.requires.of at refused in
    (λ is. (c.loop-i.i, _, got_firm c.args.entries.now c.loop-i.i _ c.loop-i-test.true c.if-not-entry.true, here), λ some. search rules)

pub loop-i-preserved : goal.loop-i-preserved
loop-i-preserved c =
    let q = c.args.entries.now in
    let i = c.loop-i.i in
    elim c.else-not-entry.branch as (λ _. NoneRefused c.args.kept.now q (i + 1)) [
      | else-not-entry-via-then-not-entry+in_ok-refuses+else-branch w ↦
          let answer = rw c.requires.of at w.in_ok-refuses.ensures in
          next_not_refused c.args.kept.now q i _ c.loop-i-test.true (λ m refused. said_no w.in_ok-refuses.field-0 _ answer w.if-branch.false refused) c.loop-i.invariant
      | else-not-entry-via-else-not-entry w ↦
          next_not_refused c.args.kept.now q i _ c.loop-i-test.true (λ m refused. not_both _ m w.if-not-entry.false) c.loop-i.invariant
    ]

pub returns : goal.returns
returns c = (λ is. absurd cc, λ some. absurd (none_refused c.args.kept.now c.args.entries.now c.loop-i.i (search rules) c.loop-i.invariant some))
