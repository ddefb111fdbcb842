-- Answers to checks against a specification.
use Rattle.std.proofs.Common.{◌≡◌, ℕ, List, refl, inl, inr}
use Rattle.std.specs.Prelude.{IfSome}
use Rattle.lu_text.specs.declared.fault.Fault.TheVariants.{At, Memory}
use Rattle.lu_component.specs.Component.{Component as AComponent}
use Rattle.lu_test.specs.Matrix.{Matrix as AMatrix}
use Rattle.lu_report.specs.Parts.{Report}
use Rattle.lu_parallel.specs.Ranges.{Options}
use Rattle.lu_parallel.specs.declared.fault.CheckFault.TheVariants as check
use Rattle.lu_spec.specs.declared.given.Marks.{Marks}
use Rattle.lu_cli.specs.declared.texts.Fault.{Fault as TextsFault}
use Rattle.lu_cli.specs.declared.texts.Fault.TheVariants.{Component, Matrix, Setup, Spec, Check}
use Rattle.lu_cli.specs.Refusals.{texts_answer}
use Rattle.lu_cli.specs.Check.{IsCheckedAgainstText}
use Rattle.lu_cli.specs.Outcomes.{Answer}
use Rattle.lu_cli.specs.Shows.{reported}
use Rattle.lu_cli.specs.Texts.{IsFaultOfSpec, IsReportAgainstText}

module _ (c : AComponent) (m : AMatrix) (marks : Marks) (spec : List ℕ) (choice : Options) where
  pub against_refused : (fault : TextsFault) → IsFaultOfSpec c m marks spec choice fault → IfSome (texts_answer fault) (IsCheckedAgainstText c m choice marks spec)
  against_refused (Component fault) is = absurd is
  against_refused (Matrix fault) is = absurd is
  against_refused (Setup k) is = absurd is
  against_refused (Spec (At kind n)) is = inr (kind, n, is, refl)
  against_refused (Spec Memory) is = tt
  against_refused (Check check.Memory) is = tt
  against_refused (Check check.Worker) is = inl (is.0, is.1, inr (λ e. (let blamed = is.2 e in absurd cc), refl))

  pub against_reported : (r : Report) (answer : Answer) → IsReportAgainstText c m marks spec choice r → answer ≡ reported r → IsCheckedAgainstText c m choice marks spec answer
  against_reported r answer is e = inl (is.0, is.1, inl (r, is.2, e))
