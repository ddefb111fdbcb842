-- Chains of removals grow at their first matrix, and have one end.
use Rattle.std.proofs.Common.{◌≡◌, ℕ, ◌+◌, ◌<◌, ◌≤◌, List, [], ◌∷◌, length, get_or, take, drop, suc, Option, refl, sym, ap, subst, ◌∙◌, inl, inr, ◌⊎◌, arith}
use Rattle.std.specs.Prelude.{All, remove}
use Rattle.std.specs.Option.{unwrap_or}
use Rattle.std.proofs.lemmas.Bool.{cases_lt}
use Rattle.std.proofs.lemmas.Option.{slice_get-get_or}
use Rattle.std.proofs.lemmas.List.Edits.{length-remove}
use Rattle.std.proofs.lemmas.List.Elements.{All-set, All-append, All-take, All-drop}
use Rattle.std.proofs.lemmas.List.Sums.{sum_by-set}
use Rattle.lu_component.specs.Component.{Component}
use Rattle.lu_test.specs.declared.matrix.Call.{Call}
use Rattle.lu_test.specs.Matrix.{Matrix, IsCallOf, IsOf, calls_of, total_calls, without}
use Rattle.lu_test.proofs.FewerCalls.{is_thread}
use Rattle.lu_machine.specs.Starts.{CanRun, Settles}
use Rattle.lu_machine.proofs.Starting.{can_run_too}
use Rattle.lu_report.specs.declared.report.Report.{Report}
use Rattle.lu_replay.specs.Reports.{IsReport}
use Rattle.lu_replay.proofs.Determined.{one_report}
use Rattle.lu_refine.specs.Removals.{IsFailure, IsFailing, HasCallNumber, ComesBefore, IsLeastRemoval, IsMinimal, IsChain, ShrinksTo}

-- what the next matrix shrinks to, the matrix does
pub shrinks_more : (Fails : Matrix → Type 0) (matrix next last : Matrix) → Fails matrix → IsLeastRemoval Fails matrix next → ShrinksTo Fails next last → ShrinksTo Fails matrix last
shrinks_more Fails matrix next last fails removal chain = (next ∷ chain.0, (fails, removal, chain.1))

-- a matrix from which no call can be taken away shrinks to itself
pub shrinks_here : (Fails : Matrix → Type 0) (matrix : Matrix) → Fails matrix → IsMinimal Fails matrix → ShrinksTo Fails matrix matrix
shrinks_here Fails matrix fails minimal = ([], (refl, fails, minimal))

-- the calls are still calls of the component
pub of_without : (c : Component) (matrix : Matrix) (t k : ℕ) → HasCallNumber matrix t k → IsOf matrix c → IsOf (without matrix t k) c
of_without c matrix t k there of =
    let within = is_thread matrix t k there in
    let old : calls_of matrix t ≡ get_or matrix.threads t [] = ap (λ (o : Option (List Call)). unwrap_or o []) (slice_get-get_or matrix.threads t [] within) in
    let P : Call → Type 0 = λ call. IsCallOf c call in
    let row : All P (calls_of matrix t) = rw old (of.1 t [] within) in (
      of.0,
      All-set (λ calls. All P calls) matrix.threads t (remove (calls_of matrix t) k)
          (All-append P (take k (calls_of matrix t)) (drop (suc k) (calls_of matrix t)) (All-take P k (calls_of matrix t) row) (All-drop P (suc k) (calls_of matrix t) row))
          of.1,
    )

-- and it can run still
pub runs_without : (c : Component) (matrix : Matrix) (t k : ℕ) → HasCallNumber matrix t k → CanRun c matrix → CanRun c (without matrix t k)
runs_without c matrix t k there runs = can_run_too c matrix (without matrix t k) runs (of_without c matrix t k there runs.of) refl

-- there is one call fewer
pub fewer : (matrix : Matrix) (t k : ℕ) → HasCallNumber matrix t k → total_calls (without matrix t k) < total_calls matrix
fewer matrix t k there =
    let within = is_thread matrix t k there in
    let old : calls_of matrix t ≡ get_or matrix.threads t [] = ap (λ (o : Option (List Call)). unwrap_or o []) (slice_get-get_or matrix.threads t [] within) in
    omega (arith, sum_by-set length matrix.threads t (remove (calls_of matrix t) k) [] within, length-remove (calls_of matrix t) k there, ap length old)

-- a matrix whose report is no failure does not fail
pub not_failing : (c : Component) (matrix : Matrix) (bound serial : ℕ) (r : Report) → Settles c matrix → IsReport c matrix bound serial r → (IsFailure r.finding → ⊥) → IsFailing c bound serial matrix → ⊥
not_failing c matrix bound serial r settles report passes failing =
    let same : failing.0 ≡ r = one_report c matrix bound serial failing.0 r settles failing.1 report in
    passes (subst (λ (x : Report). IsFailure x.finding) same failing.2)

-- of two calls one comes first, or they are the same
orders : (t k u l : ℕ) → (ComesBefore t k u l ⊎ ComesBefore u l t k) ⊎ (t ≡ u) × (k ≡ l)
orders t k u l = elim (cases_lt t u) [
  | inl less ↦ inl (inl (inl less))
  | inr least ↦ elim (cases_lt u t) [
    | inl more ↦ inl (inr (inl more))
    | inr most ↦ elim (cases_lt k l) [
      | inl less ↦ inl (inl (inr (omega arith, less)))
      | inr low ↦ elim (cases_lt l k) [
        | inl more ↦ inl (inr (inr (omega arith, more)))
        | inr high ↦ inr (omega arith, omega arith)
      ]
    ]
  ]
]

one_removal : (Fails : Matrix → Type 0) (matrix a b : Matrix) → IsLeastRemoval Fails matrix a → IsLeastRemoval Fails matrix b → a ≡ b
one_removal Fails matrix a b x y = elim (orders x.thread x.call y.thread y.call) [
  | inl (inl before) ↦ absurd (y.least x.thread x.call before x.there (subst Fails x.removed x.fails))
  | inl (inr after) ↦ absurd (x.least y.thread y.call after y.there (subst Fails y.removed y.fails))
  | inr same ↦ x.removed ∙ (rw (same.0, same.1) (sym y.removed))
]

not_minimal : (Fails : Matrix → Type 0) (matrix next : Matrix) → IsMinimal Fails matrix → IsLeastRemoval Fails matrix next → ⊥
not_minimal Fails matrix next minimal removal = minimal removal.thread removal.call removal.there (subst Fails removal.removed removal.fails)

pub one_end : (Fails : Matrix → Type 0) (matrix a b : Matrix) (p q : List Matrix) → IsChain Fails matrix p a → IsChain Fails matrix q b → a ≡ b
one_end Fails matrix a b [] [] x y = x.0 ∙ sym y.0
one_end Fails matrix a b [] (next ∷ q) x y = absurd (not_minimal Fails matrix next x.2 y.1)
one_end Fails matrix a b (next ∷ p) [] x y = absurd (not_minimal Fails matrix next y.2 x.1)
one_end Fails matrix a b (next ∷ p) (other ∷ q) x y =
    let same : other ≡ next = one_removal Fails matrix other next y.1 x.1 in
    one_end Fails next a b p q x.2 (subst (λ (m : Matrix). IsChain Fails m q b) same y.2)

-- ---- in the loops' words

pub none_before : (matrix : Matrix) (u : ℕ) (Fails : Matrix → Type 0) → ((t k : ℕ) → t < u → HasCallNumber matrix t k → Fails (without matrix t k) → ⊥) → (t k : ℕ) → ComesBefore t k u 0 → HasCallNumber matrix t k → Fails (without matrix t k) → ⊥
none_before matrix u Fails none t k (inl less) there failing = none t k less there failing
none_before matrix u Fails none t k (inr (same, less)) there failing = absurd (omega arith)

pub none_more : (matrix : Matrix) (u l : ℕ) (Fails : Matrix → Type 0) → ((t k : ℕ) → ComesBefore t k u l → HasCallNumber matrix t k → Fails (without matrix t k) → ⊥) → (Fails (without matrix u l) → ⊥) → (t k : ℕ) → ComesBefore t k u (l + 1) → HasCallNumber matrix t k → Fails (without matrix t k) → ⊥
none_more matrix u l Fails none here t k (inl less) there failing = none t k (inl less) there failing
none_more matrix u l Fails none here t k (inr (same, le)) there failing = elim (cases_lt k l) [
  | inl less ↦ none t k (inr (same, less)) there failing
  | inr least ↦
      let number : k ≡ l = omega arith in
      here (subst (λ (i : ℕ). Fails (without matrix u i)) number (subst (λ (i : ℕ). Fails (without matrix i k)) same failing))
]

-- all calls of thread u have been tried
pub none_of_thread : (matrix : Matrix) (u l : ℕ) (Fails : Matrix → Type 0) → length (calls_of matrix u) ≤ l → ((t k : ℕ) → ComesBefore t k u l → HasCallNumber matrix t k → Fails (without matrix t k) → ⊥) → (t k : ℕ) → t < u + 1 → HasCallNumber matrix t k → Fails (without matrix t k) → ⊥
none_of_thread matrix u l Fails all none t k below there failing = elim (cases_lt t u) [
  | inl less ↦ none t k (inl less) there failing
  | inr least ↦
      let same : t ≡ u = omega arith in
      none t k (inr (same, omega (arith, there, all, ap (λ (i : ℕ). length (calls_of matrix i)) same))) there failing
]

pub removal_of : (c : Component) (Fails : Matrix → Type 0) (matrix next : Matrix) → IsLeastRemoval Fails matrix next → CanRun c matrix → CanRun c next
removal_of c Fails matrix next removal runs =
    subst (CanRun c) (sym removal.removed) (runs_without c matrix removal.thread removal.call removal.there runs)

pub removal_fewer : (Fails : Matrix → Type 0) (matrix next : Matrix) → IsLeastRemoval Fails matrix next → total_calls next < total_calls matrix
removal_fewer Fails matrix next removal =
    subst (λ (m : Matrix). total_calls m < total_calls matrix) (sym removal.removed) (fewer matrix removal.thread removal.call removal.there)
