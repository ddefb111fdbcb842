use Rattle.std.proofs.Common.{◌≡◌, ◌∙◌, sym, ap, Some, Option, List, Vec, Global}
use Rattle.std.specs.Prelude.{IfSome, IfNone, ◌==◌}
use Rattle.std.specs.List.{slice_split}
use Rattle.std.proofs.lemmas.Result.{IfOk-weaker}
use Rattle.std.proofs.lemmas.Bool.Decides.{Decides-eqb}
use Rattle.std.proofs.lemmas.Slice.Eq.{strip_suffix_is}
use Rattle.lu_text.specs.Lines.{texts}
use Rattle.lu_history.specs.declared.serial.SerialOp.{SerialOp}
use Rattle.lu_spec.specs.SpecText.{IsListable, history_line, history_words}
use Rattle.lu_spec.proofs.HistoryLines.{line_says, line_splits, some_weaker, none_weaker}
use Rattle.lu_spec.proofs.history_line.history_in.Goals as goal

pub returns-in_ok-words-in-Some-clause-some : goal.returns-in_ok-words-in-Some-clause-some
returns-in_ok-words-in-Some-clause-some c =
    let ends = strip_suffix_is Decides-eqb c.args.line.now _ (Some c.in-Some.text) c.in-Some.ensures.cases in
    let words : texts c.deref.result.now ≡ slice_split (λ b. b == 32) c.in-Some.text.now = ap texts c.deref.ensures.value ∙ c.in_ok-words-in-Some.ensures in
    IfOk-weaker c.history_of.result (λ (read : Option (Vec SerialOp Global)). IfSome read (λ q. IsListable q.items × (texts c.deref.result.now ≡ history_words q.items))) (λ read. IfSome read (λ q. IsListable q.items × (c.args.line.now ≡ history_line q.items)))
    (λ read h. some_weaker read _ _ (λ q said. (said.0, line_says c.args.line.now c.in-Some.text.now q.items ends (sym words ∙ said.1))) h) c.history_of.ensures.some

pub returns-in_ok-words-in-Some-clause-none : goal.returns-in_ok-words-in-Some-clause-none
returns-in_ok-words-in-Some-clause-none c =
    let ends = strip_suffix_is Decides-eqb c.args.line.now _ (Some c.in-Some.text) c.in-Some.ensures.cases in
    let words : texts c.deref.result.now ≡ slice_split (λ b. b == 32) c.in-Some.text.now = ap texts c.deref.ensures.value ∙ c.in_ok-words-in-Some.ensures in
    IfOk-weaker c.history_of.result (λ (read : Option (Vec SerialOp Global)). IfNone read ((q : List SerialOp) → IsListable q → texts c.deref.result.now ≡ history_words q → ⊥)) (λ read. IfNone read ((q : List SerialOp) → IsListable q → c.args.line.now ≡ history_line q → ⊥))
    (λ read h. none_weaker read _ _ (λ none q listable e. none q listable (words ∙ line_splits c.args.line.now c.in-Some.text.now q ends listable.entries e)) h) c.history_of.ensures.none
