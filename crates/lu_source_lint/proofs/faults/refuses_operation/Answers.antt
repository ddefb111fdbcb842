use Rattle.std.proofs.Common.{◌∙◌, ap}
use Rattle.lu_source_lint.specs.Faults.{bytes_of, first_fault, formless_at, with_line}
use Rattle.lu_source_lint.proofs.faults.refuses_operation.Goals as goal

pub returns : goal.returns
returns c =
    c.is_formless_at.ensures
    ∙ ap (formless_at c.args.line) (c.in_ok-fault.ensures ∙ ap first_fault (c.set_line.ensures ∙ ap (with_line (bytes_of c.args.lines.now) c.args.line) (c.in_ok-text.ensures.items ∙ c.as_slice.ensures)))
