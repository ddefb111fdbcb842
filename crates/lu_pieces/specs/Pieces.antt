-- What the steps to a frontier promise one another.
use Rattle.std.specs.Prelude.{◌≡◌, ℕ, ◌+◌, ◌<◌, List, [], ◌∷◌, ◌++◌, drop, length, map, Some, slice_get, Vec}
use Rattle.lu_test.specs.declared.schedule.Move.{Move}
use Rattle.lu_machine.specs.declared.event.Event.{Event}
use Rattle.lu_machine.specs.States.{State}
use Rattle.lu_machine.specs.Steps.{IsFeasible}
use Rattle.lu_machine.specs.Runs.{Leads}
use Rattle.lu_machine.specs.Order.{IsMoveBelow}
use Rattle.lu_machine.specs.Schedules.{AreAll}
use Rattle.lu_pieces.specs.Frontiers.{IsPieceAt}

-- the feasible moves of s, in order
pub record AreMovesOf (s : State) (moves : List Move) : Type 0 where
  pub feasible : (k : ℕ) (m : Move) → slice_get moves k ≡ Some m → IsFeasible s m
  pub each : (m : Move) → IsFeasible s m → (k : ℕ) × (slice_get moves k ≡ Some m)
  pub rising : (i j : ℕ) (m n : Move) → i < j → slice_get moves i ≡ Some m
      → slice_get moves j ≡ Some n → IsMoveBelow m n

-- the schedule with each of the moves after it
abbrev pub with_each : List Move → List Move → List (List Move)
with_each p moves = map (λ m. p ++ m ∷ []) moves

-- what a piece becomes one move deeper: itself where there is no move
abbrev pub deepened : List Move → List Move → List (List Move)
deepened p [] = p ∷ []
deepened p (m ∷ moves) = with_each p (m ∷ moves)

-- the pieces before, and then what p becomes with the moves of s
abbrev pub HasKids : State → List Move → List (List Move) → List (List Move) → Type 0
HasKids s p before after =
    (moves : List Move) × (after ≡ before ++ deepened p moves) × AreMovesOf s moves

-- what the piece p becomes one move deeper, where `rest` leads on from s to its end
abbrev pub AreKids : State → List Move → List Move → List (List Move) → Type 0
AreKids s p rest kids =
    (end : State) × (history : List Event) × (moves : List Move)
    × Leads s rest end history × AreMovesOf end moves × (kids ≡ deepened p moves)

-- at any depth below that of these pieces there are more than 65,536
abbrev pub TooMany : State → List (List Move) → Type 0
TooMany s pieces =
    (d e : ℕ) (list : List (List Move)) → AreAll (IsPieceAt s d) pieces → d < e
    → AreAll (IsPieceAt s e) list → 65536 < length list

-- the pieces before, and then what p becomes, `made` moves of which lead to s
abbrev pub GrowByKids : {Z : Type 0} → State → List Move → ℕ → Vec (List Move) Z
    → Vec (List Move) Z → Type 0
GrowByKids s p made before after =
    (kids : List (List Move)) × (after.items ≡ before.items ++ kids)
    × AreKids s p (drop made p) kids

-- where the pieces are those at some depth, these are the ones one move deeper
abbrev pub AreDeeper : State → List (List Move) → List (List Move) → Type 0
AreDeeper s pieces next =
    (d : ℕ) → AreAll (IsPieceAt s d) pieces → AreAll (IsPieceAt s (d + 1)) next
