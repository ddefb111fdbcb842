-- The order of schedules: the first move in which they differ decides, and a proper beginning is
-- smaller.
use Rattle.std.specs.Prelude.{◌≡◌, ◌<◌, ◌⊎◌, List, [], ◌∷◌}
use Rattle.lu_test.specs.declared.schedule.Move.{Move}

-- moves go by thread, and then by pick
abbrev pub IsMoveBelow : Move → Move → Type 0
IsMoveBelow m n = (m.thread < n.thread) ⊎ (m.thread ≡ n.thread) × (m.pick < n.pick)

-- u is smaller than v
abbrev pub IsSmaller : List Move → List Move → Type 0
IsSmaller u [] = ⊥
IsSmaller [] (n ∷ v) = Unit {0}
IsSmaller (m ∷ u) (n ∷ v) = IsMoveBelow m n ⊎ (m ≡ n) × IsSmaller u v
