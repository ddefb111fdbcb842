use Rattle.lu_test.proofs.matrix_recovery.mended.Goals as goal

pub returns : goal.returns
returns c = rw (c.deref.ensures.value, c.in_ok-parts.ensures, c.before_comment.ensures) at c.mend_parts.ensures
