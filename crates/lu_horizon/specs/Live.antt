-- Threads with what they have in live registers alone.
use Rattle.std.specs.Prelude.{◌≡◌, ℕ, ◌<◌, if◌then◌else◌, length, slice_index}
use Rattle.lu_machine.specs.declared.thread.Activity.{Activity}
use Rattle.lu_machine.specs.declared.thread.Activity.TheVariants.{Idle, Open}
use Rattle.lu_machine.specs.declared.thread.Frame.{Frame}
use Rattle.lu_machine.specs.declared.thread.Thread.{Thread}
use Rattle.lu_horizon.specs.Dead.{DeadTable, is_dead}

-- the same operation at its place, with 0 in each of its eight registers that is dead there
pub record IsLiveFrame (table : DeadTable) (f live : Frame) : Type 0 where
  pub op : live.op ≡ f.op
  pub place : live.place ≡ f.place
  pub eight : length live.registers ≡ 8
  pub many : length live.registers ≡ length f.registers
  pub registers : (r : ℕ) → r < 8 → slice_index live.registers r
      ≡ (if is_dead table f.op f.place r then 0 else slice_index f.registers r)

abbrev pub IsLiveActivity : DeadTable → Activity → Activity → Type 0
IsLiveActivity table Idle activity = activity ≡ Idle
IsLiveActivity table (Open f) activity =
    (live : Frame) × (activity ≡ Open live) × IsLiveFrame table f live

-- the same thread, with 0 in each register of its operation that is dead
pub record IsLiveThread (table : DeadTable) (thread live : Thread) : Type 0 where
  pub done : live.done ≡ thread.done
  pub activity : IsLiveActivity table thread.activity live.activity
