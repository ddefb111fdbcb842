-- Where a thread stands among its calls.
use Rattle.std.specs.Prelude.{◌≡◌, ◌+◌, ◌==◌, if◌then◌else◌, ℕ, Bool, true, false, Option, Some, None, slice_get}
use Rattle.std.specs.Option.{option_map_or}
use Rattle.lu_component.specs.Component.{Component}
use Rattle.lu_component.specs.declared.instr.Instr.{Instr}
use Rattle.lu_component.specs.declared.instr.Instr.TheVariants.{Set, Compute, Load, Jump, JumpIfZero, Return}
use Rattle.lu_component.specs.declared.instr.Operand.{Operand}
use Rattle.lu_machine.specs.Effects.{value_of}
use Rattle.lu_machine.specs.declared.thread.Frame.{Frame}
use Rattle.lu_machine.specs.States.{State, instr_at}
use Rattle.lu_machine.specs.declared.thread.Activity.{Activity}
use Rattle.lu_machine.specs.declared.thread.Activity.TheVariants.{Idle, Open}
use Rattle.lu_horizon.specs.declared.stand.CallPlace.{CallPlace}
use Rattle.lu_machine.specs.declared.thread.Thread.{Thread}

-- the place of an open operation
abbrev pub place_of : Activity → Option ℕ
place_of Idle = None
place_of (Open f) = Some f.place

abbrev pub stand_of : Thread → CallPlace
stand_of thread = record { done = thread.done; place = place_of thread.activity }

-- an instruction that reads and writes its own registers alone, and always goes on or returns
abbrev pub is_unseen : Instr → Bool
is_unseen (Set to v) = true
is_unseen (Compute by to a b) = true
is_unseen (Jump target) = true
is_unseen (JumpIfZero v target) = true
is_unseen (Return v) = true
is_unseen _ = false

abbrev pub activity_unseen : Component → Activity → Bool
activity_unseen c Idle = false
activity_unseen c (Open f) = option_map_or is_unseen (instr_at c f.op f.place) false

-- thread t is at such an instruction
abbrev pub is_unseen_at : State → ℕ → Bool
is_unseen_at s t =
    option_map_or (λ thread. activity_unseen s.component thread.activity)
    (slice_get s.threads t) false

-- an instruction that changes its own registers alone, and always goes on or returns; it may read a
-- cell
abbrev pub only_reads : Instr → Bool
only_reads (Load to w i) = true
only_reads instr = is_unseen instr

abbrev pub activity_only_reads : Component → Activity → Bool
activity_only_reads c Idle = false
activity_only_reads c (Open f) = option_map_or only_reads (instr_at c f.op f.place) false

-- thread t is at such an instruction
abbrev pub only_reads_at : State → ℕ → Bool
only_reads_at s t =
    option_map_or (λ thread. activity_only_reads s.component thread.activity)
    (slice_get s.threads t) false

-- thread t is at a `jz` of its call number `done`, and goes to `place` from there
pub record JumpsTo (s : State) (t place : ℕ) : Type 0 where
  pub done : ℕ
  pub frame : Frame
  pub value : Operand
  pub target : ℕ
  pub stands : slice_get s.threads t ≡ Some (record { done = done; activity = Open frame })
  pub is : instr_at s.component frame.op frame.place ≡ Some (JumpIfZero value target)
  pub goes : place ≡ (if value_of frame value == 0 then target else frame.place + 1)
