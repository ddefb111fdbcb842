-- Answers to checks and certificates that are refused.
use Rattle.std.proofs.Common.{◌≡◌, refl, inr}
use Rattle.std.specs.Prelude.{IfSome}
use Rattle.lu_component.specs.Component.{Component}
use Rattle.lu_test.specs.Matrix.{Matrix}
use Rattle.lu_cli.specs.declared.request.CertifyOptions.{CertifyOptions}
use Rattle.lu_parallel.specs.declared.fault.CheckFault.{CheckFault}
use Rattle.lu_parallel.specs.declared.fault.CheckFault.TheVariants.{Memory, Worker}
use Rattle.lu_cli.specs.Refusals.{worker_answer}
use Rattle.lu_parallel.specs.Ranges.{Options}
use Rattle.lu_cli.specs.Certify.{IsCertified}
use Rattle.lu_cli.specs.Check.{IsChecked}

pub certified_refused : (c : Component) (m : Matrix) (asked : CertifyOptions) (fault : CheckFault) → (asked.options.workers ≡ 1 → fault ≡ Memory) → IfSome (worker_answer fault) (IsCertified c m asked)
certified_refused c m asked Memory alone = tt
certified_refused c m asked Worker alone = inr (inr (λ e. (let blamed = alone e in absurd cc), refl))

pub check_refused : (c : Component) (m : Matrix) (choice : Options) (fault : CheckFault) → (choice.workers ≡ 1 → fault ≡ Memory) → IfSome (worker_answer fault) (IsChecked c m choice)
check_refused c m choice Memory alone = tt
check_refused c m choice Worker alone = inr (λ e. (let blamed = alone e in absurd cc), refl)
