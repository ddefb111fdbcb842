use Rattle.std.proofs.Common.{refl, arith, ◌+◌, drop, sym, ap, subst}
use Rattle.std.proofs.lemmas.Result.{err_from_is_err_and, IfOk-weaker}
use Rattle.lu_text.specs.Lines.{texts}
use Rattle.lu_text.proofs.Reading.{goes_on, ends, text_more, texts_end}
use Rattle.lu_source_text.specs.Drafts.{drafted_of}
use Rattle.lu_source_text.specs.Grammar.{source_grammar}
use Rattle.lu_source_text.specs.Origins.{entries}
use Rattle.lu_source_text.proofs.Drafts.{IsDraft, draft_kept, locals_named, nothing_is}
use Rattle.lu_source_text.proofs.Complete.{each_there}
use Rattle.lu_source_text.proofs.Entries.{are_done, IfOk-both, after_is, drafts_go_on, fails_done, origins_go_on}
use Rattle.lu_source_text.proofs.origins.origins_of_lines.Goals as goal

pub returns-in_err-take_line-clause-fault : goal.returns-in_err-take_line-clause-fault
returns-in_err-take_line-clause-fault c =
    let p = err_from_is_err_and c.from_residual.result c.from_residual.ensures.1 in
    let step = text_more c.args.lines.now c.loop-before.before _ (omega arith) in
    rw (p.1, p.2) (ends source_grammar c.in_err-take_line.field-0.0 _ _ _ _ _ c.in_err-take_line.ensures (rw step at c.loop-before.invariant.read))

pub loop-before-init : goal.loop-before-init
loop-before-init c = record {
  read = rw c.new_draft-draft.ensures refl;
  origins = λ o p. rw (c.new-operations.ensures.items, c.new_draft-draft.ensures) refl;
  drafts = rw c.new_draft-draft.ensures refl;
  sound = subst IsDraft (sym c.new_draft-draft.ensures) nothing_is;
}

pub loop-before-preserved : goal.loop-before-preserved
loop-before-preserved c =
    let step = text_more c.args.lines.now c.loop-before.before _ (omega arith) in
    let next = after_is _ _ _ _ c.in_ok-take_line.ensures in
    record {
      read = goes_on source_grammar _ _ _ _ _ _ c.in_ok-take_line.ensures (rw step at c.loop-before.invariant.read);
      origins = origins_go_on _ _ _ _ _ (entries c.loop-before.operations.items) (entries c.fill_all.new.rows.items) _ next c.in_ok-fill_all.ensures (λ o p. rw step at (c.loop-before.invariant.origins o p));
      drafts = drafts_go_on (drafted_of c.loop-before.draft) (drafted_of c.take_line.new.draft) _ (drop (c.loop-before.before + 1) (texts c.args.lines.now)) _ next (rw step at c.loop-before.invariant.drafts);
      sound = draft_kept _ _ _ _ c.loop-before.invariant.sound c.in_ok-take_line.ensures;
    }

pub fill_all-requires : goal.fill_all-requires
fill_all-requires c = locals_named c.take_line.new.draft (draft_kept _ _ _ _ c.loop-before.invariant.sound c.in_ok-take_line.ensures)

pub returns-clause-origins : goal.returns-clause-origins
returns-clause-origins c =
    IfOk-both c.origins_of.result _ _ _ c.origins_of.ensures.operations c.origins_of.ensures.indexed (λ origins same indexed.
    are_done _ (drafted_of c.loop-before.draft) _ _ c.loop-before.operations.items origins (ap entries same) (texts_end c.args.lines.now c.loop-before.before (omega arith)) c.loop-before.invariant.origins c.loop-before.invariant.drafts indexed)

pub returns-clause-each : goal.returns-clause-each
returns-clause-each c =
    IfOk-weaker c.origins_of.result _ _ (λ origins are. each_there (texts c.args.lines.now) origins are.0) (returns-clause-origins c)

pub returns-clause-fault : goal.returns-clause-fault
returns-clause-fault c = fails_done _ _ (drafted_of c.loop-before.draft) _ _ (omega arith) c.origins_of.ensures.fault (rw (texts_end c.args.lines.now c.loop-before.before (omega arith)) at c.loop-before.invariant.read)
