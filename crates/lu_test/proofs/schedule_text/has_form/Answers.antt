use Rattle.std.proofs.Common.{◌∙◌, sym, arith}
use Rattle.lu_test.proofs.Form.{form_at, rest_at}
use Rattle.lu_test.proofs.schedule_text.has_form.Goals as goal

pub returns-then-eq : goal.returns-then-eq
returns-then-eq c =
    let words = c.args.words.now in
    let e = rw (c.as_slice.ensures) at (sym c.eq.ensures ∙ c.if-eq.true) in
    (rw (rest_at words) at c.are_words.ensures) ∙ sym (form_at words _ (omega arith) e)
