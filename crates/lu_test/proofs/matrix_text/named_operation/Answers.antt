use Rattle.std.proofs.Common.{◌∙◌, ap}
use Rattle.lu_text.specs.Lines.{texts}
use Rattle.lu_test.specs.MatrixText.{named_operation}
use Rattle.lu_test.proofs.Parts.{first_named}
use Rattle.lu_test.proofs.matrix_text.named_operation.Goals as goal

pub returns-in-len1-up : goal.returns-in-len1-up
returns-in-len1-up c =
    let signatures = c.args.signatures.now in
    let e = c.signature_number.ensures in
    let same = c.as_slice.ensures.value in
    e ∙ (first_named signatures c.as_slice.result.now _ c.in-len1-up.len_at_least ∙ (ap (λ ws. named_operation signatures (texts ws)) same ∙ ap (named_operation signatures) c.part.view_is))
