use Rattle.std.proofs.Common.{true, ◌≡◌, ◌∙◌, arith, rules, sym}
use Rattle.std.proofs.lemmas.Result.{IfOk-weaker}
use Rattle.lu_text.specs.Lines.{texts}
use Rattle.lu_source_text.specs.Grammar.{source_words}
use Rattle.lu_source_lint.specs.Faults.{bytes_of, has_no_words, line_at}
use Rattle.lu_source_lint.proofs.Reported.{line_without_words}
use Rattle.lu_source_lint.proofs.faults.+leaving_line.Goals as goal

pub returns-then-has_no_words : goal.returns-then-has_no_words
returns-then-has_no_words t c =
    let lines = bytes_of c.args.lines.now in
    let words = texts c.in_ok-words.words.items in
    let is : words ≡ source_words (line_at lines c.args.count) = search rules in
    let none : has_no_words words ≡ true = search rules in
    IfOk-weaker c.leaving_line.result _ _ (λ line same. same ∙ sym (line_without_words lines c.args.count words (omega (arith, c.if-count-eq0.false)) is none)) c.leaving_line.ensures
