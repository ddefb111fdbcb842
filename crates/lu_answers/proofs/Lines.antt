-- Lines that are made once, or over and over.
use Rattle.std.proofs.Common.{◌≡◌, ℕ, ◌+◌, List, [], ◌∷◌, length, map, Some, slice_get, refl, sym, ◌∙◌, ap, subst}
use Rattle.std.proofs.lemmas.List.{append-nil}
use Rattle.lu_test.specs.declared.matrix.Call.{Call}
use Rattle.lu_test.specs.Matrix.{Matrix, calls_of}
use Rattle.lu_client.specs.Clients.{client_matrix, turned}
use Rattle.lu_client.specs.Rounds.{repeated, times}
use Rattle.lu_client.specs.Stages.{Stage, line_of}
use Rattle.lu_answers.specs.declared.rounds.Rounds.{Rounds}
use Rattle.lu_answers.specs.declared.rounds.Rounds.TheVariants.{Any, One}
use Rattle.lu_answers.specs.Asking.{IsNextFrom}
use Rattle.lu_answers.specs.Stored.{next_place}
use Rattle.lu_answers.specs.Ways.{way_of}

lines_once : (lines : List (List Call)) → map (repeated 1) lines ≡ lines
lines_once [] = refl
lines_once (line ∷ lines) =
    ap (λ (x : List Call). x ∷ map (repeated 1) lines) (append-nil line)
    ∙ ap (λ (xs : List (List Call)). line ∷ xs) (lines_once lines)

-- the matrix with each line once
pub once : (matrix : Matrix) → times 1 matrix ≡ matrix
once matrix = ap (λ (lines : List (List Call)). let m : Matrix = record matrix { threads = lines } in m) (lines_once matrix.threads)

-- the client makes the matrix itself
pub same_matrix : (rounds : Rounds) (matrix : Matrix) → client_matrix (way_of rounds) matrix ≡ matrix
same_matrix One matrix = once matrix
same_matrix Any matrix = refl

pub same_line : (rounds : Rounds) (matrix : Matrix) (t : ℕ) → line_of (way_of rounds) matrix t ≡ calls_of matrix t
same_line rounds matrix t = ap (λ (m : Matrix). calls_of m t) (same_matrix rounds matrix)

-- a next call, in the matrix itself
pub call_there : (rounds : Rounds) (matrix : Matrix) (stage : Stage) (t place : ℕ) (call : Call) → IsNextFrom rounds matrix stage t place call → slice_get (calls_of matrix t) place ≡ Some call
call_there One matrix stage t place call next = subst (λ (line : List Call). slice_get line place ≡ Some call) (same_line One matrix t) next.is
call_there Any matrix stage t place call next = next.is

pub next_from : (rounds : Rounds) (matrix : Matrix) (stage : Stage) (t place : ℕ) (call : Call) → slice_get stage.places t ≡ Some place → slice_get (calls_of matrix t) place ≡ Some call → IsNextFrom rounds matrix stage t place call
next_from One matrix stage t place call stands is = record { stands = stands; is = subst (λ (line : List Call). slice_get line place ≡ Some call) (sym (same_line One matrix t)) is }
next_from Any matrix stage t place call stands is = record { stands = stands; is = is }

-- the place after it, as in the client
pub place_after : (rounds : Rounds) (matrix : Matrix) (t place : ℕ) → next_place rounds (length (calls_of matrix t)) place ≡ turned (way_of rounds) (length (line_of (way_of rounds) matrix t)) (place + 1)
place_after One matrix t place = refl
place_after Any matrix t place = refl

-- the call that stands there
pub same_call : (rounds : Rounds) (matrix : Matrix) (stage : Stage) (t place spot : ℕ) (a b : Call) → IsNextFrom rounds matrix stage t place a → IsNextFrom rounds matrix stage t spot b → place ≡ spot → Some a ≡ Some b
same_call rounds matrix stage t place spot a b one other e =
    sym (call_there rounds matrix stage t place a one) ∙ (ap (slice_get (calls_of matrix t)) e ∙ call_there rounds matrix stage t spot b other)
