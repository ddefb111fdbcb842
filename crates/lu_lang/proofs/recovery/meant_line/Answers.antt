use Rattle.std.proofs.Common.{◌∙◌, sym}
use Rattle.std.specs.Prelude.{vec_len}
use Rattle.lu_lang.proofs.Understood.{unmeant}
use Rattle.lu_lang.proofs.recovery.meant_line.Goals as goal

pub returns-then-is_empty : goal.returns-then-is_empty
returns-then-is_empty c =
    unmeant c.args.draft.now c.draft.inside.draft c.draft.inside.meant.items (vec_len c.draft.inside.meant) c.args.text.now (sym c.draft.view_is) c.draft.inside.meant.ok.0 (sym c.is_empty.ensures ∙ c.if-is_empty.true)
