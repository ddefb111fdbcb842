-- Answers to components and sources.
use Rattle.std.proofs.Common.{◌≡◌, ℕ, List, Bool, true, false, Option, Some, None, inl, inr, refl, ap, ◌∙◌, subst, sym, Result}
use Rattle.std.specs.Prelude.{IfSome, MatchBool, Ok}
use Rattle.lu_text.specs.declared.fault.Fault.TheVariants.{At, Memory}
use Rattle.lu_text.specs.Lines.{lines_of, texts}
use Rattle.lu_component.specs.Component.{Component}
use Rattle.lu_test.specs.Matrix.{Matrix}
use Rattle.lu_source_text.specs.Begins.{is_source}
use Rattle.lu_source_text.specs.Origins.{AreOrigins}
use Rattle.lu_source_text.specs.Readers.{component_meant}
use Rattle.lu_trace.specs.declared.wording.Wording.{Wording}
use Rattle.lu_trace.specs.declared.wording.Wording.TheVariants as wording
use Rattle.lu_cli.specs.declared.refusal.Refusal.{Refusal}
use Rattle.lu_cli.specs.declared.texts.Fault.{Fault as TextsFault}
use Rattle.lu_cli.specs.declared.texts.Fault.TheVariants as variant
use Rattle.lu_cli.specs.declared.worded.Words.{Words}
use Rattle.lu_cli.specs.declared.worded.Words.TheVariants as worded_by
use Rattle.lu_cli.specs.declared.worded.Worded.{Worded}
use Rattle.lu_cli.specs.Refusals.{Answered, refusal_answer, texts_answer}
use Rattle.lu_cli.specs.Outcomes.{Answer}
use Rattle.lu_cli.specs.Reading.{ToTexts, ToWorded}
use Rattle.lu_cli.specs.Worded.{AreTextWords, IsWordedOf, IsWordedRefusal, IsWordedRefusalOfSource, IsTextsRefusal, IsWordingOf, IsWordedBy}
use Rattle.lu_cli.specs.Texts.{AreSettled, IsFaultOfMatrix, IsSettledMatrix}
use Rattle.lu_cli.proofs.Refuted.{answered_more, texts_refused}

-- the words are those of the text
wording_is : (text : List ℕ) (worded : Words) (how : Wording) → AreTextWords text worded → IsWordedBy worded how → IsWordingOf text how
wording_is text (worded_by.Labels labels) wording.Component are by = absurd by
wording_is text (worded_by.Labels labels) (wording.Labelled shown) are by = (are.0, by ∙ are.1)
wording_is text (worded_by.Labels labels) (wording.Source lines origins) are by = absurd by
wording_is text (worded_by.Source source) wording.Component are by = absurd by
wording_is text (worded_by.Source source) (wording.Labelled shown) are by = absurd by
wording_is text (worded_by.Source source) (wording.Source lines origins) are by =
    (are.0, ap texts by.0 ∙ are.1.0, subst (AreOrigins (lines_of text)) (sym by.1) are.1.1)

-- what is said of the answer to a component, a matrix and the words in which it is shown is said of that to their texts
pub worded_answered : (text matrix : List ℕ) (worded : Worded) (how : Wording) (IsAnswer : Wording → Component → Matrix → Answer → Type 0) → IsWordedOf text matrix worded → IsWordedBy worded.words how → (result : Result Answer Refusal) → Answered (IsAnswer how worded.component worded.matrix) result → Answered (ToWorded text matrix IsAnswer) result
worded_answered text matrix worded how IsAnswer is by result answered =
    let as_worded = wording_is text worded.words how is.1 by in
    answered_more (IsAnswer how worded.component worded.matrix) (ToWorded text matrix IsAnswer) (λ a h. go (is_source text) refl a (how, as_worded, h)) result answered
  where
    go : (b : Bool) → is_source text ≡ b → (a : Answer) → ((w : Wording) × IsWordingOf text w × IsAnswer w worded.component worded.matrix a) → ToWorded text matrix IsAnswer a
    go true source a h =
        let read : (component_meant text ≡ Ok worded.component) × IsSettledMatrix worded.component matrix worded.matrix = subst (λ (b : Bool). MatchBool b ((component_meant text ≡ Ok worded.component) × IsSettledMatrix worded.component matrix worded.matrix) (AreSettled text matrix worded.component worded.matrix)) source is.0 in
        rw (source, read.0, read.1.0) (inl (read.1.1, h))
    go false source a h =
        let read : AreSettled text matrix worded.component worded.matrix = subst (λ (b : Bool). MatchBool b ((component_meant text ≡ Ok worded.component) × IsSettledMatrix worded.component matrix worded.matrix) (AreSettled text matrix worded.component worded.matrix)) source is.0 in
        rw (source, read.0.0, read.0.1) (inl (read.1, h))

-- a refusal of the source, or of the matrix of its component
source_refused : (text matrix : List ℕ) (refused : Refusal) (IsAnswer : Wording → Component → Matrix → Answer → Type 0) → is_source text ≡ true → IsWordedRefusalOfSource text matrix refused → IfSome (refusal_answer refused) (ToWorded text matrix IsAnswer)
source_refused text matrix refused IsAnswer source (inl is) = rw is tt
source_refused text matrix refused IsAnswer source (inr (inl (At kind n, is, of))) = rw (of, source, is) refl
source_refused text matrix refused IsAnswer source (inr (inl (Memory, is, of))) = rw of tt
source_refused text matrix refused IsAnswer source (inr (inr (c, fault, read, is, of))) = rw of (go fault is)
  where
    go : (f : TextsFault) → IsFaultOfMatrix c matrix f → IfSome (texts_answer f) (ToWorded text matrix IsAnswer)
    go (variant.Component f) is = absurd is
    go (variant.Matrix (At kind n)) is = rw (source, read, is) refl
    go (variant.Matrix Memory) is = tt
    go (variant.Setup k) (m, are, stays) = rw (source, read, are) (inr (k, stays, refl))
    go (variant.Spec f) is = absurd is
    go (variant.Check f) is = absurd is

-- what is said of a component's texts is said of them
in_component : (text matrix : List ℕ) (IsAnswer : Wording → Component → Matrix → Answer → Type 0) → is_source text ≡ false → (found : Option Answer) → IfSome found (ToTexts text matrix (λ c m answer. (how : Wording) × IsWordingOf text how × IsAnswer how c m answer)) → IfSome found (ToWorded text matrix IsAnswer)
in_component text matrix IsAnswer source None said = tt
in_component text matrix IsAnswer source (Some a) said = rw source said

-- a refusal of the texts of a component and a matrix
component_refused : (text matrix : List ℕ) (refused : Refusal) (IsAnswer : Wording → Component → Matrix → Answer → Type 0) → is_source text ≡ false → IsTextsRefusal text matrix refused → IfSome (refusal_answer refused) (ToWorded text matrix IsAnswer)
component_refused text matrix refused IsAnswer source (inl is) = rw is tt
component_refused text matrix refused IsAnswer source (inr (fault, is, of)) =
    rw of (in_component text matrix IsAnswer source (texts_answer fault) (texts_refused text matrix fault (λ c m answer. (how : Wording) × IsWordingOf text how × IsAnswer how c m answer) is))

-- the refusal is what is said of them
pub worded_refused : (text matrix : List ℕ) (refused : Refusal) (IsAnswer : Wording → Component → Matrix → Answer → Type 0) → IsWordedRefusal text matrix refused → IfSome (refusal_answer refused) (ToWorded text matrix IsAnswer)
worded_refused text matrix refused IsAnswer (inl is) = rw is tt
worded_refused text matrix refused IsAnswer (inr is) = go (is_source text) refl is
  where
    go : (b : Bool) → is_source text ≡ b → MatchBool b (IsWordedRefusalOfSource text matrix refused) (IsTextsRefusal text matrix refused) → IfSome (refusal_answer refused) (ToWorded text matrix IsAnswer)
    go true source is = source_refused text matrix refused IsAnswer source is
    go false source is = component_refused text matrix refused IsAnswer source is
