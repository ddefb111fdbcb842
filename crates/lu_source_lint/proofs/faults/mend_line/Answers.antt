use Rattle.std.proofs.Common.{◌∙◌, ap}
use Rattle.std.proofs.lemmas.Result.{on_ok_weaker}
use Rattle.lu_source_lint.specs.Faults.{bytes_of, meant_line, meant_outside}
use Rattle.lu_source_lint.proofs.Reported.{mended_is}
use Rattle.lu_source_lint.proofs.faults.mend_line.Goals as goal

pub returns-clause-lines : goal.returns-clause-lines
returns-clause-lines c =
    on_ok_weaker c.set_if_faulty-2.result
    (λ last. mended_is (bytes_of c.args.lines.now) (bytes_of c.set_line.new.lines) (bytes_of c.set_if_faulty.new.lines) (bytes_of c.set_if_faulty-2.new.lines) c.args.fault c.in_ok-text.text.items c.deref.result.now (c.in_ok-text.ensures ∙ ap (meant_line c.args.fault.kind) c.line_at-line.ensures) (c.deref.ensures.value ∙ c.in_ok-outside.ensures ∙ ap meant_outside c.line_at-line.ensures) c.set_line.ensures c.in_ok-next.ensures.lines last)
    c.set_if_faulty-2.ensures.lines
