-- What instructions and calls are found to do: the acts that a machine carries out.
use Rattle.std.specs.Prelude.{◌≡◌, ℕ, Option, Some, MatchOption, slice_get}
use Rattle.lu_component.specs.declared.instr.Instr.{Instr}
use Rattle.lu_component.specs.declared.instr.Operand.{Operand}
use Rattle.lu_test.specs.declared.matrix.Call.{Call}
use Rattle.lu_test.specs.declared.schedule.Move.{Move}
use Rattle.lu_test.specs.Matrix.{calls_of}
use Rattle.lu_machine.specs.declared.event.Event.{Event}
use Rattle.lu_machine.specs.declared.event.Outcome.TheVariants.{Trap}
use Rattle.lu_machine.specs.declared.instructions.Act.{Act}
use Rattle.lu_machine.specs.declared.thread.Change.{Change}
use Rattle.lu_machine.specs.declared.thread.Frame.{Frame}
use Rattle.lu_machine.specs.Changes.{at_work, effect_of}
use Rattle.lu_machine.specs.Effects.{onward}
use Rattle.lu_machine.specs.Effects.Effect.{Ends}
use Rattle.lu_machine.specs.States.{State, cell_at, with_standing}
use Rattle.lu_machine.specs.Steps.{Carries, OneStep, opened, thread_after}
use Rattle.lu_machine.specs.Undoes.{with_shared}

-- at the move m the instruction of the operation f does this
abbrev pub ActsAt : State → Move → Frame → Instr → Act → Type 0
ActsAt s m f instr act = Carries s m f instr (with_shared s act.shared) (effect_of f act.change)

-- at each move the instruction of the operation f does this
abbrev pub Acts : State → Frame → Instr → Act → Type 0
Acts s f instr act = (m : Move) → ActsAt s m f instr act

-- at each move of thread t the instruction of the operation f does this
abbrev pub ActsOf : State → ℕ → Frame → Instr → Act → Type 0
ActsOf s t f instr act = (m : Move) → m.thread ≡ t → ActsAt s m f instr act

-- at each move the instruction of the operation f changes it so, and nothing else
abbrev pub Alters : State → Frame → Instr → Change → Type 0
Alters s f instr change = (m : Move) → Carries s m f instr s (effect_of f change)

-- the operation f goes on where the array has such a cell, and else it traps
abbrev pub PassesOrTraps : State → Frame → ℕ → Operand → Change → Type 0
PassesOrTraps s f array index change =
    MatchOption (cell_at s f array index)
    (effect_of f change ≡ Ends Trap)
    (λ _. effect_of f change ≡ onward f)

-- f is call k of thread t as it is opened
abbrev pub IsOpening : State → ℕ → ℕ → Frame → Type 0
IsOpening s t k f =
    (call : Call) × (slice_get (calls_of s.matrix t) k ≡ Some call) × (f ≡ opened call)

-- by its move with pick 0 thread t takes s to `new`, with this event or none
abbrev pub Opens : State → ℕ → State → Option Event → Type 0
Opens s t new event = (m : Move) → m.thread ≡ t → m.pick ≡ 0 → OneStep s m new event

-- s with what the act does in the operation f, which is number `done` of thread t
abbrev pub after_act : State → ℕ → ℕ → Frame → Act → State
after_act s t done f act =
    with_standing (with_shared s act.shared) t (thread_after done (effect_of f act.change))

-- the act is done in the open operation of thread t, which is number `done`
abbrev pub IsDoneInOpen : State → ℕ → ℕ → Act → State → Type 0
IsDoneInOpen s t done act new =
    (f : Frame) → slice_get s.threads t ≡ Some (at_work done f) → new ≡ after_act s t done f act
