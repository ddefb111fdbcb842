-- Where a machine stands, as numbers: one for each lock, ten for each thread, and the cells.
use Rattle.std.specs.Prelude.{◌≡◌, ℕ, ◌+◌, ◌-◌, ◌*◌, ◌/◌, ◌%◌, ◌==◌, if◌then◌else◌, zero, suc, List, [], ◌∷◌, ◌++◌, map, take, drop, replicate, Option, Some, None, slice_index_or, length, All}
use Rattle.std.specs.List.{flat_map}
use Rattle.lu_component.specs.Component.{Component}
use Rattle.lu_test.specs.Matrix.{Matrix, thread_count}
use Rattle.lu_machine.specs.declared.thread.Activity.{Activity}
use Rattle.lu_machine.specs.declared.thread.Activity.TheVariants.{Idle, Open}
use Rattle.lu_machine.specs.declared.thread.Thread.{Thread}
use Rattle.lu_machine.specs.Positions.{CanStand, standing_so}
use Rattle.lu_machine.specs.States.{State}

-- ---- their numbers

-- of the owner of a lock
abbrev pub owner_number : Option ℕ → ℕ
owner_number None = 0
owner_number (Some t) = t + 1

-- of what a thread is at, where 0 is an idle one, and the registers
abbrev pub activity_number : Activity → ℕ
activity_number Idle = 0
activity_number (Open f) = f.op * 256 + f.place + 1

abbrev pub registers_of : Activity → List ℕ
registers_of Idle = replicate 8 0
registers_of (Open f) = f.registers

abbrev pub thread_numbers : Thread → List ℕ
thread_numbers t = t.done ∷ activity_number t.activity ∷ registers_of t.activity

abbrev pub numbers_of : List ℕ → List (Option ℕ) → List Thread → List ℕ
numbers_of values owners standing =
    map owner_number owners ++ flat_map thread_numbers standing ++ values

-- new is old, and after it the numbers of these
abbrev pub AddsOwners : List ℕ → List (Option ℕ) → List ℕ → Type 0
AddsOwners old owners new = new ≡ old ++ map owner_number owners

abbrev pub AddsThread : List ℕ → Thread → List ℕ → Type 0
AddsThread old thread new = new ≡ old ++ thread_numbers thread

abbrev pub AddsThreads : List ℕ → State → List ℕ → Type 0
AddsThreads old s new = new ≡ old ++ flat_map thread_numbers s.threads

-- ---- what has these numbers

abbrev pub owner_in : ℕ → Option ℕ
owner_in number = if number == 0 then None else Some ((number - 1) % 256)

abbrev pub activity_in : ℕ → List ℕ → Activity
activity_in number registers =
    if number == 0 then Idle else Open (record {
      registers = registers;
      op = (number - 1) / 256 % 256;
      place = (number - 1) % 256;
    })

abbrev pub number_at : List ℕ → ℕ → ℕ
number_at numbers i = slice_index_or numbers i 0

abbrev pub registers_in : List ℕ → List ℕ
registers_in numbers =
    number_at numbers 2 ∷ number_at numbers 3 ∷ number_at numbers 4 ∷ number_at numbers 5
    ∷ number_at numbers 6 ∷ number_at numbers 7 ∷ number_at numbers 8 ∷ number_at numbers 9 ∷ []

-- the first thread, and this many
abbrev pub thread_in : List ℕ → Thread
thread_in numbers = record {
  done = number_at numbers 0 % 256;
  activity = activity_in (number_at numbers 1) (registers_in numbers);
}

abbrev pub threads_in : ℕ → List ℕ → List Thread
threads_in zero numbers = []
threads_in (suc n) numbers = thread_in numbers ∷ threads_in n (drop 10 numbers)

-- read again, they are what they were
abbrev pub IsOwnerReadBack : Option ℕ → Type 0
IsOwnerReadBack owner = owner_in (owner_number owner) ≡ owner

abbrev pub IsActivityReadBack : Activity → Type 0
IsActivityReadBack activity =
    activity_in (activity_number activity) (registers_of activity) ≡ activity

-- and whatever comes after them is still there
abbrev pub IsThreadReadBack : Thread → Type 0
IsThreadReadBack t =
    (rest : List ℕ) → (thread_in (thread_numbers t ++ rest) ≡ t)
    × (drop 10 (thread_numbers t ++ rest) ≡ rest)

-- ---- of a run of the component and the matrix

abbrev pub owners_in : Component → List ℕ → List (Option ℕ)
owners_in c numbers = map owner_in (take (length c.locks) numbers)

abbrev pub standing_in : Component → Matrix → List ℕ → List Thread
standing_in c matrix numbers = threads_in (thread_count matrix) (drop (length c.locks) numbers)

abbrev pub values_in : Component → Matrix → List ℕ → List ℕ
values_in c matrix numbers = drop (10 * thread_count matrix) (drop (length c.locks) numbers)

-- a machine of the component and the matrix can stand where the numbers say, and they are its own
pub record CanStandWith (c : Component) (matrix : Matrix) (numbers : List ℕ) : Type 0 where
  pub can : CanStand c matrix (values_in c matrix numbers) (owners_in c numbers)
      (standing_in c matrix numbers)
  pub are : numbers ≡ numbers_of (values_in c matrix numbers) (owners_in c numbers)
      (standing_in c matrix numbers)

abbrev pub numbers_at : State → List ℕ
numbers_at s = numbers_of s.cells s.locks s.threads

-- s, standing where the numbers say
abbrev pub standing_with : State → List ℕ → State
standing_with s numbers =
    standing_so s (values_in s.component s.matrix numbers) (owners_in s.component numbers)
    (standing_in s.component s.matrix numbers)

pub record AreReadBack (s : State) : Type 0 where
  pub owners : All IsOwnerReadBack s.locks
  pub standing : All IsThreadReadBack s.threads
