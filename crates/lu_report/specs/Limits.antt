-- How far runs go.
use Rattle.std.specs.Prelude.{ℕ, ◌≤◌, ◌&&◌, Bool, nat_le, if◌then◌else◌, Option, Some, None}

-- the most moves that a bound may be
abbrev pub most_moves : ℕ
most_moves = 256

-- a bound of serial runs is 1 to 256
abbrev pub IsSerialBound : ℕ → Type 0
IsSerialBound n = (1 ≤ n) × (n ≤ most_moves)

-- the most moves of a schedule, and of an operation after its call in a serial run
pub record Bounds : Type 0 where
  pub bound : ℕ
  pub serial : ℕ

pub record AreInRange (l : Bounds) : Type 0 where
  pub bound : l.bound ≤ most_moves
  pub some : 1 ≤ l.serial
  pub serial : l.serial ≤ most_moves

-- n is in this range
abbrev pub lies : ℕ → ℕ → ℕ → Bool
lies least n most = nat_le least n && nat_le n most

-- the limits with these numbers, where they are in range
abbrev pub limits_of : ℕ → ℕ → Option Bounds
limits_of bound serial =
    if lies 0 bound most_moves && lies 1 serial most_moves then Some
    (record { bound = bound; serial = serial }) else None
