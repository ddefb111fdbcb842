use Rattle.std.proofs.Common.{◌≡◌, string_bytes, rules}
use Rattle.lu_lang.specs.ComponentText.{component_text}
use Rattle.lu_lang.proofs.RoundTrip.{written_again}
use Rattle.lu_lang.proofs.writing.write_component.Goals as goal

pub returns-clause-again : goal.returns-clause-again
returns-clause-again c =
    let text : string_bytes c.write_operations.new.text ≡ component_text c.args.component.now = search rules in
    written_again c.args.component.now c.arrays.ensures.sound (string_bytes c.write_operations.new.text) text
