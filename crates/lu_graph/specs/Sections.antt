-- How the places in critical sections are found: all of them are said to be at first, and then
-- fewer.
use Rattle.std.specs.Prelude.{◌≡◌, ℕ, ◌+◌, ◌<◌, ◌≤◌, Bool, true, false, List, [], Some, get_or, length, set, slice_get}
use Rattle.std.specs.List.{count_by}
use Rattle.lu_component.specs.Component.{Component}
use Rattle.lu_component.specs.declared.instr.Instr.{Instr}
use Rattle.lu_component.specs.declared.instr.Instr.TheVariants.{Jump, JumpIfZero, Return}
use Rattle.lu_machine.specs.States.{instr_at}
use Rattle.lu_horizon.specs.Dead.{GoesTo}
use Rattle.lu_graph.specs.Guards.{AreCritical, array_of, is_inside_after}

-- ---- one operation

-- the place is said to be in a critical section
abbrev pub is_inside : List Bool → ℕ → Bool
is_inside places place = get_or places place false

-- how many are
abbrev pub inside_count : List Bool → ℕ
inside_count places = count_by (λ inside. inside) places

-- the same, but that this place is not
abbrev pub without : List Bool → ℕ → List Bool
without places place = set places place false

-- whether the operation goes nowhere from the instruction; and where it goes from it at this place,
-- if it jumps, and if it goes on, where it can
abbrev pub is_return : Instr → Bool
is_return (Return v) = true
is_return _ = false

abbrev pub jump_from : Instr → ℕ → ℕ
jump_from (Jump target) place = target
jump_from (JumpIfZero v target) place = target
jump_from _ place = place + 1

abbrev pub onward_from : Instr → ℕ → ℕ
onward_from (Jump target) place = target
onward_from _ place = place + 1

-- wherever the operation comes from this place, it is in a critical section after the instruction,
-- if it is in one there
abbrev pub IsSettledAt : List Instr → ℕ → (ℕ → Bool) → ℕ → Type 0
IsSettledAt code l inside place =
    (next : ℕ) (instr : Instr) → slice_get code place ≡ Some instr → GoesTo place instr next
    → inside next ≡ true → is_inside_after l instr (inside place) ≡ true

-- so it is of what is said, at this place, and at each
abbrev pub IsSettled : List Instr → ℕ → List Bool → ℕ → Type 0
IsSettled code l places = IsSettledAt code l (is_inside places)

abbrev pub AreSettled : List Instr → ℕ → List Bool → Type 0
AreSettled code l places = (place : ℕ) → IsSettled code l places place

-- these places of an operation's code are in critical sections of lock l
pub record AreCriticalIn (code : List Instr) (l : ℕ) (inside : ℕ → Bool) : Type 0 where
  pub begin : inside 0 ≡ false
  pub entered : (place : ℕ) → IsSettledAt code l inside place

-- those that are said to be are
abbrev pub IsSound : List Instr → ℕ → List Bool → Type 0
IsSound code l places = AreCriticalIn code l (is_inside places)

-- all that can be are said to be
abbrev pub HasCritical : List Instr → ℕ → List Bool → Type 0
HasCritical code l places =
    (inside : ℕ → Bool) → AreCriticalIn code l inside
    → (place : ℕ) → place < length code → inside place ≡ true → is_inside places place ≡ true

-- Fewer are said to be, or the same, and still all that can be.
pub record IsRound (code : List Instr) (l : ℕ) (old new : List Bool) (less : Bool) : Type 0 where
  pub no_more : (place : ℕ) → is_inside new place ≡ true → is_inside old place ≡ true
  pub has : HasCritical code l old → HasCritical code l new
  pub fewer : less ≡ true → inside_count new < inside_count old
  pub same : less ≡ false → new ≡ old

-- each access to array w in the code is at a place that is said to be in a critical section
abbrev pub AreAccessedIn : List Instr → ℕ → List Bool → Type 0
AreAccessedIn code w places =
    (place : ℕ) (instr : Instr) → slice_get code place ≡ Some instr → array_of instr ≡ Some w
    → is_inside places place ≡ true

-- ---- all operations

-- of each operation, each place of its code
abbrev pub is_inside_of : List (List Bool) → ℕ → ℕ → Bool
is_inside_of sections op = is_inside (get_or sections op [])

-- those said to be in critical sections of lock l are, and no others can be
pub record AreSections (c : Component) (l : ℕ) (sections : List (List Bool)) : Type 0 where
  pub many : length c.operations ≤ length sections
  pub critical : AreCritical c l (is_inside_of sections)
  pub all : (inside : ℕ → ℕ → Bool) → AreCritical c l inside
      → (op place : ℕ) (instr : Instr) → instr_at c op place ≡ Some instr
      → inside op place ≡ true → is_inside_of sections op place ≡ true

-- each access to array w is at a place that is said to be in a critical section
abbrev pub AreAccessed : Component → ℕ → List (List Bool) → Type 0
AreAccessed c w sections =
    (op place : ℕ) (instr : Instr) → instr_at c op place ≡ Some instr → array_of instr ≡ Some w
    → is_inside_of sections op place ≡ true
