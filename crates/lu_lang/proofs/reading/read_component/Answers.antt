use Rattle.lu_text.specs.Faults.{meaning_of}
use Rattle.lu_text.proofs.Reading.{first, fault_given}
use Rattle.lu_lang.specs.Grammar.{component_grammar}
use Rattle.lu_lang.proofs.reading.read_component.Goals as goal

pub returns-clause-first : goal.returns-clause-first
returns-clause-first c =
    let read = rw (c.deref.ensures.value, c.in_ok-lines.ensures) at c.read_lines.ensures in
    λ kind n e. first component_grammar c.args.text.now kind n (fault_given c.read_lines.result (meaning_of component_grammar c.args.text.now) kind n e read)
