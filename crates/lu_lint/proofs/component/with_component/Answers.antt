use Rattle.lu_lint.proofs.WhileSound.{of_component}
use Rattle.lu_lint.proofs.component.with_component.Goals as goal

pub returns : goal.returns
returns over c = of_component c.args.text.now _ c.args.all c.read_lines.result c.in_ok-lines.ensures (rw c.deref.ensures.value at c.read_lines.ensures)
