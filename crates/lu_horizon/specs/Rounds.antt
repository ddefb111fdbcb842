-- How less and less is said to be dead, until all that is said is so.
use Rattle.std.specs.Prelude.{◌≡◌, ℕ, ◌<◌, Bool, true, false, List, [], Some, get_or, length, set, slice_get, sum_by}
use Rattle.std.specs.List.{count_by}
use Rattle.lu_component.specs.Component.{Component, IsComponent}
use Rattle.lu_component.specs.declared.instr.Instr.{Instr}
use Rattle.lu_machine.specs.States.{instr_at}
use Rattle.lu_horizon.specs.Tables.{IsCodeOf}
use Rattle.lu_horizon.specs.Dead.{IsLive, dead_at, dead_before}

-- how many registers are said to be dead, at all places of an operation
abbrev pub dead_count : List (List Bool) → ℕ
dead_count places = sum_by (count_by (λ dead. dead)) places

-- what is not said to be dead, of the eight registers at a place in the operation's code, is live
abbrev pub AreLive : Component → ℕ → List (List Bool) → Type 0
AreLive c op places =
    (place r : ℕ) (instr : Instr) → instr_at c op place ≡ Some instr → r < 8
    → dead_at places place r ≡ false → IsLive c op place r

-- so it is in each operation that runs this code
abbrev pub AreLiveIn : List Instr → List (List Bool) → Type 0
AreLiveIn code places =
    (c : Component) (op : ℕ) → IsComponent c → IsCodeOf c op code → AreLive c op places

-- the same, but that register r is not said to be dead at this place
abbrev pub with_live : List (List Bool) → ℕ → ℕ → List (List Bool)
with_live places place r = set places place (set (get_or places place []) r false)

-- register r is dead at the place in the code, if it is said to be
abbrev pub IsSettledAt : List Instr → List (List Bool) → ℕ → ℕ → Type 0
IsSettledAt code places place r =
    (instr : Instr) → slice_get code place ≡ Some instr → dead_at places place r ≡ true
    → dead_before (dead_at places) place instr r ≡ true

-- what is said to be dead is one of the eight registers at a place of the code
abbrev pub AreWithin : List Instr → List (List Bool) → Type 0
AreWithin code places =
    (place r : ℕ) → dead_at places place r ≡ true → (place < length code) × (r < 8)

-- Less is said to be dead, or the same, and what is not said to be dead is live, if it was so.
pub record IsRound (code : List Instr) (old new : List (List Bool)) (less : Bool) : Type 0 where
  pub no_more : (place r : ℕ) → dead_at new place r ≡ true → dead_at old place r ≡ true
  pub live : AreLiveIn code old → AreLiveIn code new
  pub fewer : less ≡ true → dead_count new < dead_count old
  pub same : less ≡ false → new ≡ old
