-- The options of a check, and their ranges.
use Rattle.std.specs.Prelude.{ℕ, ◌≤◌}
use Rattle.lu_board.specs.declared.view.TheConstants.{MAX_WORKERS}
use Rattle.lu_report.specs.Limits.{IsSerialBound, most_moves}
use Rattle.lu_pieces.specs.declared.pieces.TheConstants.{MOST_DEPTH}

-- what is chosen for a check
pub record Options : Type 0 where
  pub bound : ℕ
  pub serial : ℕ
  pub workers : ℕ
  pub depth : ℕ
  pub head_start : ℕ

-- these numbers, and no head start
abbrev pub choice : ℕ → ℕ → ℕ → ℕ → Options
choice bound serial workers depth = record {
  bound = bound;
  serial = serial;
  workers = workers;
  depth = depth;
  head_start = 0;
}

-- the same with this many looks of a head start
abbrev pub with_head_start : ℕ → Options → Options
with_head_start looks c = record c { head_start = looks }

-- each number is within its range, and a head start has any
pub record IsInRange (c : Options) : Type 0 where
  pub bound : c.bound ≤ most_moves
  pub serial : IsSerialBound c.serial
  pub workers : (1 ≤ c.workers) × (c.workers ≤ MAX_WORKERS)
  pub depth : c.depth ≤ MOST_DEPTH
