use Rattle.lu_text.specs.Faults.{meaning_of}
use Rattle.lu_text.proofs.Reading.{first, fault_given}
use Rattle.lu_test.specs.MatrixText.{matrix_grammar}
use Rattle.lu_test.proofs.matrix_text.read_matrix.Goals as goal

pub returns-clause-first : goal.returns-clause-first
returns-clause-first c =
    let grammar = matrix_grammar c.args.component.now in
    let read = rw (c.deref-2.ensures.value, c.in_ok-lines.ensures) at c.read_lines.ensures.exact in
    λ kind n e. first grammar c.args.text.now kind n (fault_given c.read_lines.result (meaning_of grammar c.args.text.now) kind n e read)
