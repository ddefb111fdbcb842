-- Lines that say no outcome.
use Rattle.std.proofs.Common.{◌≡◌, ℕ, ◌≤◌, List, arith}
use Rattle.std.specs.Prelude.{codes}
use Rattle.lu_history.specs.declared.serial.SerialOutcome.{SerialOutcome}
use Rattle.lu_history.specs.declared.serial.SerialOutcome.TheVariants.{Ret, Trap, Stuck as Stopped}
use Rattle.lu_report.specs.Text.{number_line}
use Rattle.lu_report.specs.Forms.{SaysEarlier}

pub no_outcome : (line : List ℕ) → (line ≡ codes "earlier trap\n" → ⊥) → (line ≡ codes "earlier stuck\n" → ⊥) → ((n : ℕ) → n ≤ 4294967295 → line ≡ number_line (codes "earlier ret ") n → ⊥)
    → (earlier : SerialOutcome) → SaysEarlier line earlier → ⊥
no_outcome line trap stuck ret (Ret n) (is, e) = ret n (omega arith) e
no_outcome line trap stuck ret Trap (is, e) = trap e
no_outcome line trap stuck ret Stopped (is, e) = stuck e
