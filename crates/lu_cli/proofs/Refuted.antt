-- Answers to specifications.
use Rattle.std.proofs.Common.{ℕ, zero, suc, List, [], ◌∷◌, sym, subst, arith, inl, inr, refl, Result, Ok, Err}
use Rattle.std.specs.Prelude.{All, IfSome, Option}
use Rattle.std.proofs.lemmas.List.Elements.{All-take}
use Rattle.std.proofs.lemmas.Option.{IfSome_then}
use Rattle.lu_component.specs.Component.{Component}
use Rattle.lu_test.specs.declared.matrix.Call.{Call}
use Rattle.lu_test.specs.declared.schedule.Move.{Move}
use Rattle.lu_test.specs.Matrix.{Matrix, IsCallOf, IsOf, cut, first_calls}
use Rattle.lu_history.specs.declared.serial.SerialOp.{SerialOp}
use Rattle.lu_text.specs.declared.fault.Fault.{Fault}
use Rattle.lu_text.specs.declared.fault.Fault.TheVariants.{At, Memory}
use Rattle.lu_report.specs.Parts.{Report}
use Rattle.lu_report.specs.declared.fault.ReportFaultKind.{ReportFaultKind}
use Rattle.lu_report.specs.Codes.{report_code_of}
use Rattle.lu_report.specs.Forms.{IsFault}
use Rattle.lu_spec.specs.declared.fault.SpecFaultKind.{SpecFaultKind}
use Rattle.lu_spec.specs.Codes.{spec_code_of}
use Rattle.lu_spec.specs.declared.given.Marks.{Marks}
use Rattle.lu_spec.specs.FreeSpecs.{IsGivenFault}
use Rattle.lu_spec.specs.SpecText.{IsSpecFault}
use Rattle.lu_refute.specs.Linearizable.{IsCounterexample}
use Rattle.lu_cli.specs.declared.refusal.Refusal.{Refusal}
use Rattle.lu_cli.specs.declared.texts.Fault.{Fault as TextsFault}
use Rattle.lu_cli.specs.declared.texts.Fault.TheVariants as variant
use Rattle.lu_cli.specs.Refusals.{Answered, SaysResult, line_answer, refusal_answer, texts_answer}
use Rattle.lu_cli.specs.Outcomes.{Answer}
use Rattle.lu_cli.specs.Reading.{ToGiven, ToReport, ToSpec, ToTexts}
use Rattle.lu_cli.specs.Texts.{AreSettled, IsFaultOfTexts}

-- the calls of a cut are the component's
first_of : (c : Component) (threads : List (List Call)) (lengths : List ℕ) → All (λ calls. All (IsCallOf c) calls) threads → All (λ calls. All (IsCallOf c) calls) (first_calls threads lengths)
first_of c [] lengths of k d within = absurd (omega arith)
first_of c (calls ∷ m) [] of k d within = absurd (omega arith)
first_of c (calls ∷ m) (n ∷ ns) of zero d within = All-take (IsCallOf c) n calls (of zero d (omega arith))
first_of c (calls ∷ m) (n ∷ ns) of (suc k) d within = first_of c m ns (λ j e w. of (suc j) e (omega arith)) k d (omega arith)

cut_of : (c : Component) (matrix : Matrix) (lengths : List ℕ) → IsOf matrix c → IsOf (cut matrix lengths) c
cut_of c matrix lengths of = (of.0, first_of c matrix.threads lengths of.1)

-- a counterexample is one of the component
pub example_of : (c : Component) (matrix : Matrix) (Set : List SerialOp → Type 0) (example : Matrix × List Move) → IsOf matrix c → IsCounterexample c matrix Set example → IsOf example.0 c
example_of c matrix Set example of is = subst (λ (m : Matrix). IsOf m c) (sym is.0.2) (cut_of c matrix is.0.0 of)

-- what an answer or the line of a refusal is, is what is said
pub says_answered : (IsAnswer : Answer → Type 0) (carried : Result Answer Refusal) (said : Answer) → Answered IsAnswer carried → SaysResult carried said → IsAnswer said
says_answered IsAnswer (Ok a) said is says = subst IsAnswer (sym says) is
says_answered IsAnswer (Err e) said is says = subst (λ (o : Option Answer). IfSome o IsAnswer) says is

-- ---- texts

-- what is said of an answer is said of another's kind too
pub answered_more : (P Q : Answer → Type 0) → ((a : Answer) → P a → Q a) → (result : Result Answer Refusal) → Answered P result → Answered Q result
answered_more P Q h (Ok a) is = h a is
answered_more P Q h (Err e) is = IfSome_then (refusal_answer e) {P = P} {Q = Q} is h

pub report_refused : (text : List ℕ) (fault : Fault ReportFaultKind) (IsAnswer : Report → Answer → Type 0) → IsFault text fault → IfSome (line_answer report_code_of fault) (ToReport text IsAnswer)
report_refused text (At kind n) IsAnswer is = inr (kind, n, is, refl)
report_refused text Memory IsAnswer is = tt

pub spec_refused : (matrix : Matrix) (text : List ℕ) (fault : Fault SpecFaultKind) (IsAnswer : List (List SerialOp) → Answer → Type 0) → IsSpecFault matrix text fault → IfSome (line_answer spec_code_of fault) (ToSpec matrix text IsAnswer)
spec_refused matrix text (At kind n) IsAnswer is = inr (kind, n, is, refl)
spec_refused matrix text Memory IsAnswer is = tt

pub given_refused : (marks : Marks) (matrix : Matrix) (text : List ℕ) (fault : Fault SpecFaultKind) (IsAnswer : List (List SerialOp) → Answer → Type 0) → IsGivenFault marks matrix text fault → IfSome (line_answer spec_code_of fault) (ToGiven marks matrix text IsAnswer)
given_refused marks matrix text (At kind n) IsAnswer is = inr (kind, n, is, refl)
given_refused marks matrix text Memory IsAnswer is = tt

-- what is said of the answer to a component and a matrix is said of that to their texts
pub texts_answered : (component matrix : List ℕ) (c : Component) (m : Matrix) (IsAnswer : Component → Matrix → Answer → Type 0) → AreSettled component matrix c m → (result : Result Answer Refusal) → Answered (IsAnswer c m) result → Answered (ToTexts component matrix IsAnswer) result
texts_answered component matrix c m IsAnswer are result is =
    answered_more (IsAnswer c m) (ToTexts component matrix IsAnswer) (λ a h. rw (are.0.0, are.0.1) (inl (are.1, h))) result is

-- the fault of the texts is what is said of them
pub texts_refused : (component matrix : List ℕ) (fault : TextsFault) (IsAnswer : Component → Matrix → Answer → Type 0) → IsFaultOfTexts component matrix fault → IfSome (texts_answer fault) (ToTexts component matrix IsAnswer)
texts_refused component matrix (variant.Component (At kind n)) IsAnswer is = rw is refl
texts_refused component matrix (variant.Component Memory) IsAnswer is = tt
texts_refused component matrix (variant.Matrix (At kind n)) IsAnswer is = rw (is.1, is.2) refl
texts_refused component matrix (variant.Matrix Memory) IsAnswer is = tt
texts_refused component matrix (variant.Setup k) IsAnswer (c, m, are, stays) = rw (are.0, are.1) (inr (k, stays, refl))
texts_refused component matrix (variant.Spec fault) IsAnswer is = absurd is
texts_refused component matrix (variant.Check fault) IsAnswer is = absurd is
