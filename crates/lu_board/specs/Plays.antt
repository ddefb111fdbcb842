-- What each step tells its seat: m is the seat before it, `found` the word before it, and w the
-- seat after it.
use Rattle.std.specs.Prelude.{◌≡◌, ℕ, ◌<◌, ◌≤◌, min}
use Rattle.atomic_table.specs.Table.{Me, Step}
use Rattle.lu_board.specs.declared.view.View.{View}
use Rattle.lu_board.specs.declared.view.Kind.{Kind}
use Rattle.lu_board.specs.Events.{with_found, with_settled, after_claim, after_look}

-- a seat of the table: its view, and no slots
abbrev pub Mine : Type 0
Mine = Me (Unit {0}) View

-- a claim, on a board of n pieces
abbrev pub Claimed : ℕ → Step (Unit {0}) → Mine → ℕ → Mine → Type 0
Claimed n s m found w =
    (w.0 ≡ after_claim n found m.0) × (m.0.pieces ≡ n) × (found < n → m.0.past ≤ found)
    × (w.1 ≡ m.1)

-- a look for piece i
abbrev pub Looked : ℕ → Step (Unit {0}) → Mine → ℕ → Mine → Type 0
Looked i s m found w =
    (w.0 ≡ after_look i found m.0) × (found ≤ m.0.seen) × (found ≤ m.0.pieces) × (w.1 ≡ m.1)

-- the operand of the step is found bad
abbrev pub Lowered : Step (Unit {0}) → Mine → ℕ → Mine → Type 0
Lowered s m found w =
    (w.0 ≡ with_found s.first (min found s.first) m.0) × (found ≤ m.0.seen) × (w.1 ≡ m.1)

-- piece i is settled
abbrev pub Settled : ℕ → Kind → Step (Unit {0}) → Mine → ℕ → Mine → Type 0
Settled i kind s m found w = (w.0 ≡ with_settled i kind m.0) × (w.1 ≡ m.1)
