-- Tests of lines, and lines that are read.
use Rattle.std.proofs.Common.{◌≡◌, ℕ, ◌<◌, ◌≤◌, ◌^◌, ◌↔◌, Bool, true, false, List, Option, Some, None, sym, ◌∙◌, arith}
use Rattle.std.specs.Prelude.{IsTrue, is_some}
use Rattle.lu_report.specs.Text.{number_line}
use Rattle.lu_report.specs.Forms.{Reads, SaysNumber}
use Rattle.lu_report.proofs.PartLines.{same_number}

-- something is read exactly where there is such a thing
pub tells : {A : Type 0} (o : Option A) (b : Bool) (P : A → Type 0) → b ≡ is_some o → Reads P o → IsTrue b ↔ ((x : A) × P x)
tells None b P is none = (λ t. absurd (let e : false ≡ true = sym is ∙ t in cc), λ h. absurd (none h.0 h.1))
tells (Some x) b P is some = (λ t. (x, some), λ h. is)

-- a number below the least is none of these
pub too_low : (front line : List ℕ) (least most n : ℕ) → n < least → n ≤ most → most < 2 ^ 64 → line ≡ number_line front n → (m : ℕ) → SaysNumber front least most line m → ⊥
too_low front line least most n low few small said m (some, is_few, is) =
    let same : m ≡ n = same_number front m n (omega arith) (omega arith) (sym is ∙ said) in
    absurd (omega arith)
