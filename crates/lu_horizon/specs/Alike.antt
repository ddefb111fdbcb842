-- States that differ in registers alone that are not live.
use Rattle.std.specs.Prelude.{◌≡◌, ℕ, Option, None, Some, length, slice_get, slice_index}
use Rattle.lu_machine.specs.declared.thread.Activity.{Activity}
use Rattle.lu_machine.specs.declared.thread.Activity.TheVariants.{Idle, Open}
use Rattle.lu_machine.specs.declared.thread.Frame.{Frame}
use Rattle.lu_machine.specs.declared.thread.Thread.{Thread}
use Rattle.lu_machine.specs.States.{State}

-- of an operation, a place in its code and a register: that the register is live there
abbrev pub Liveness : Type 1
Liveness = ℕ → ℕ → ℕ → Type 0

-- one operation at one place, with the same in each register that is live there
pub record AreFramesAlike (Live : Liveness) (f g : Frame) : Type 0 where
  pub op : g.op ≡ f.op
  pub place : g.place ≡ f.place
  pub many : length g.registers ≡ length f.registers
  pub live : (r : ℕ) → Live f.op f.place r → slice_index g.registers r ≡ slice_index f.registers r

abbrev pub AreActivitiesAlike : Liveness → Activity → Activity → Type 0
AreActivitiesAlike Live Idle Idle = Unit {0}
AreActivitiesAlike Live Idle (Open g) = ⊥
AreActivitiesAlike Live (Open f) Idle = ⊥
AreActivitiesAlike Live (Open f) (Open g) = AreFramesAlike Live f g

-- two threads stand alike, or neither is there
abbrev pub AreStandingAlike : Liveness → Option Thread → Option Thread → Type 0
AreStandingAlike Live None None = Unit {0}
AreStandingAlike Live None (Some b) = ⊥
AreStandingAlike Live (Some a) None = ⊥
AreStandingAlike Live (Some a) (Some b) =
    (b.done ≡ a.done) × AreActivitiesAlike Live a.activity b.activity

-- all is the same, but that operations may differ in registers that are not live at their places
pub record AreAlike (Live : Liveness) (s r : State) : Type 0 where
  pub component : r.component ≡ s.component
  pub matrix_is : r.matrix ≡ s.matrix
  pub cells : r.cells ≡ s.cells
  pub locks : r.locks ≡ s.locks
  pub threads : (t : ℕ) → AreStandingAlike Live (slice_get s.threads t) (slice_get r.threads t)
