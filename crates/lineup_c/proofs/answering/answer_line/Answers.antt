use Rattle.std.proofs.Common.{◌≡◌, sym, ap, ◌∙◌, subst}
use Rattle.std.specs.Prelude.{All, Some}
use Rattle.std.specs.Str.{IsUtf8}
use Rattle.lu_text.specs.Lines.{texts}
use Rattle.lineup_c.specs.Calls.{AreStrings, IsAnswerToLine, IsAnswerToWords, spaced_words}
use Rattle.lineup_c.proofs.Played.{of_value}
use Rattle.lineup_c.proofs.answering.answer_line.Goals as goal

pub returns-in-Some : goal.returns-in-Some
returns-in-Some c =
    let bundle = c.args.bundle.now in
    let stack = c.args.stack in
    let same : texts c.deref.result.now ≡ spaced_words c.args.line.now = ap texts c.deref.ensures.value ∙ c.in_ok-words.ensures in
    let strings : AreStrings (texts c.deref.result.now) (Some c.in-Some.strings) = subst (λ r. AreStrings (texts c.deref.result.now) r) c.in-Some.is c.in_ok-strings.ensures in
    let read : texts c.deref-in-Some.result.now ≡ spaced_words c.args.line.now = ap texts c.deref-in-Some.ensures.value ∙ strings.0 ∙ same in
    let valid : All IsUtf8 (spaced_words c.args.line.now) = subst (All IsUtf8) same strings.1 in
    of_value c.answer_words.result _ (IsAnswerToLine c.args.line.now bundle stack)
    (λ answer is. (λ all. subst (λ words. IsAnswerToWords words bundle stack answer) read is, λ not. absurd (not valid)))
    c.answer_words.ensures

pub returns : goal.returns
returns c =
    let same : texts c.deref.result.now ≡ spaced_words c.args.line.now = ap texts c.deref.ensures.value ∙ c.in_ok-words.ensures in
    let none : All IsUtf8 (texts c.deref.result.now) → ⊥ = subst (λ r. AreStrings (texts c.deref.result.now) r) c.in-None.is c.in_ok-strings.ensures in
    of_value c.refuse_line.result _ (IsAnswerToLine c.args.line.now c.args.bundle.now c.args.stack)
    (λ answer is. (λ all. absurd (none (subst (All IsUtf8) (sym same) all)), λ not. is)) c.refuse_line.ensures
