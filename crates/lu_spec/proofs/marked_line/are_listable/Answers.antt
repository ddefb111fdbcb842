use Rattle.std.proofs.Common.{◌∙◌, sym, subst, List}
use Rattle.std.specs.Prelude.{All}
use Rattle.lu_history.specs.declared.serial.SerialOp.{SerialOp}
use Rattle.lu_spec.specs.SpecText.{IsEntry}
use Rattle.lu_spec.proofs.MarkedWords.{erased_entries}
use Rattle.lu_spec.proofs.marked_line.are_listable.Goals as goal

pub is_listable-requires : goal.is_listable-requires
is_listable-requires c =
    subst (λ (x : List SerialOp). All IsEntry x) (sym (c.deref.ensures.value ∙ c.in_ok-history.ensures)) (erased_entries c.args.entries.now c.requires)
