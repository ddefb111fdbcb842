-- Conflicts of serial histories (Burckhardt, Dern, Musuvathi and Tan, 2010).
use Rattle.std.specs.Prelude.{◌≡◌, ◌≢◌, ◌↔◌, ℕ, true, List, take, Option, Some, slice_get}
use Rattle.lu_history.specs.declared.serial.SerialOp.{SerialOp}
use Rattle.lu_history.specs.declared.serial.SerialOutcome.{SerialOutcome}
use Rattle.lu_trie.specs.Members.{contains}

-- the histories agree on their first i operations, and go on with the same thread and different
-- outcomes, the second with o
pub record ConflictAt (h q : List SerialOp) (i : ℕ) (o : SerialOutcome) : Type 0 where
  pub same : take i h ≡ take i q
  pub next : SerialOp
  pub next_is : slice_get h i ≡ Some next
  pub other_is : slice_get q i ≡ Some (record { thread = next.thread; outcome = o })
  pub differ : o ≢ next.outcome

-- no two members conflict
abbrev pub IsDeterministic : List (List SerialOp) → Type 0
IsDeterministic histories =
    (h q : List SerialOp) (i : ℕ) (o : SerialOutcome) → contains histories h ≡ true
    → contains histories q ≡ true → ConflictAt h q i o → ⊥

-- the history conflicts at i with a member whose next outcome is o
abbrev pub HasConflict : List (List SerialOp) → List SerialOp → ℕ → SerialOutcome → Type 0
HasConflict histories history i o =
    (q : List SerialOp) × (contains histories q ≡ true) × ConflictAt history q i o

-- where the history conflicts with a member, and the outcome of that member there; none where it
-- conflicts with none
abbrev pub IsConflict : List (List SerialOp) → List SerialOp → Option (ℕ × SerialOutcome) → Type 0
IsConflict histories history found =
    (i : ℕ) (o : SerialOutcome) → (found ≡ Some (i, o)) ↔ HasConflict histories history i o
