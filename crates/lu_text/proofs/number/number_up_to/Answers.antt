use Rattle.std.proofs.Common.{◌≡◌, ◌+◌, ◌*◌, ◌-◌, ◌∷◌, ◌∙◌, drop, get_or, sym, ap, arith}
use Rattle.std.proofs.lemmas.List.{drop_more}
use Rattle.lu_text.specs.Numbers.{read_on}
use Rattle.lu_text.proofs.Grown.{too_large}
use Rattle.lu_text.proofs.number.number_up_to.Goals as goal

pub returns-then-number-most : goal.returns-then-number-most
returns-then-number-most c =
    let word = c.args.word.now in
    let i = c.loop-digit.digit-index in
    let n = c.loop-digit.number in
    let step : drop i word ≡ get_or word i 0 ∷ drop (i + 1) word = drop_more word i 0 (omega arith) in
    too_large word (drop (i + 1) word) (10 * n + (get_or word i 0 - 48)) c.args.most (sym c.is_number.ensures ∙ c.if-not-is_number.false) (sym (ap (read_on n) step) ∙ c.loop-digit.invariant.value) (omega arith)
