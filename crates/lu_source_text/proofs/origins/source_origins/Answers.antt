use Rattle.std.proofs.Common.{◌≡◌, ◌∙◌, sym, ap}
use Rattle.lu_text.specs.Faults.{meaning_of_lines}
use Rattle.lu_text.specs.Lines.{lines_of, texts}
use Rattle.lu_text.proofs.Reading.{first}
use Rattle.lu_source_text.specs.Grammar.{source_grammar}
use Rattle.lu_source_text.proofs.Entries.{fault_meant}
use Rattle.lu_source_text.proofs.origins.source_origins.Goals as goal

pub returns-clause-first : goal.returns-clause-first
returns-clause-first c = λ kind n e.
    let lines : lines_of c.args.text.now ≡ texts c.deref.result.now = sym (ap texts c.deref.ensures.value ∙ c.in_ok-lines.ensures) in
    first source_grammar c.args.text.now kind n (ap (meaning_of_lines source_grammar) lines ∙ fault_meant c.origins_of_lines.result _ kind n e c.origins_of_lines.ensures.fault)
