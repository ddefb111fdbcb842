-- The moves of a state: what each leads to, and how many picks a thread has.
use Rattle.std.specs.Prelude.{◌≡◌, ◌≢◌, ℕ, ◌+◌, ◌-◌, ◌<◌, ◌==◌, nat_lt, not, if◌then◌else◌, ◌++◌, length, replicate, zero, suc, Bool, true, false, MatchBool, Option, Some, None, is_some, slice_get, MatchOption}
use Rattle.std.specs.Option.{option_map_or}
use Rattle.lu_component.specs.declared.instr.Instr.{Instr}
use Rattle.lu_component.specs.declared.instr.Instr.TheVariants.{Set, Compute, Load, Store, Cas, Lock, Unlock, Await, AwaitNot, Pick, Jump, JumpIfZero, Return}
use Rattle.lu_test.specs.declared.matrix.Call.{Call}
use Rattle.lu_test.specs.declared.schedule.Move.{Move}
use Rattle.lu_test.specs.Matrix.{calls_of}
use Rattle.lu_machine.specs.declared.event.Event.{Event}
use Rattle.lu_machine.specs.declared.event.Event.TheVariants.{Call as Called, Return as Returned}
use Rattle.lu_machine.specs.declared.event.Outcome.TheVariants.{Ret, Trap}
use Rattle.lu_machine.specs.declared.thread.Frame.{Frame}
use Rattle.lu_machine.specs.declared.thread.Activity.{Activity}
use Rattle.lu_machine.specs.declared.thread.Activity.TheVariants.{Idle, Open}
use Rattle.lu_machine.specs.declared.thread.Thread.{Thread}
use Rattle.lu_machine.specs.Effects.{Effect, value_of, computed, onward, onward_at, onward_with}
use Rattle.lu_machine.specs.Effects.Effect.{GoesOn, Ends}
use Rattle.lu_machine.specs.States.{State, cell_at, instr_at, call_count, value_at, owner_of, with_cell, with_owner, with_standing}

-- whether thread t owns lock l
abbrev pub owns : State → ℕ → ℕ → Bool
owns s t l = option_map_or (λ owner. owner == t) (owner_of s l) false

-- how many choices an instruction leaves to the move
abbrev pub choices : Instr → ℕ
choices (Pick to count) = count
choices _ = 1

-- whether an instruction is local: it reads and writes registers alone, or jumps
abbrev pub is_local : Instr → Bool
is_local (Set to v) = true
is_local (Compute by to a b) = true
is_local (Jump target) = true
is_local (JumpIfZero v target) = true
is_local _ = false

-- The move m carries out the instruction of the operation f: the state becomes `new`, but for the
-- thread itself, and the operation does as `effect` says. An index at or past the array's length
-- traps. Where the instruction is blocked there is no case.
abbrev pub Carries : State → Move → Frame → Instr → State → Effect → Type 0
Carries s m f (Set to v) new effect = (new ≡ s) × (effect ≡ onward_with f to (value_of f v))
Carries s m f (Compute by to a b) new effect =
    (new ≡ s) × (effect ≡ onward_with f to (computed by (value_of f a) (value_of f b)))
Carries s m f (Load to w i) new effect =
    (new ≡ s)
    × MatchOption (cell_at s f w i) (effect ≡ Ends Trap)
    (λ p. effect ≡ onward_with f to (value_at s p))
Carries s m f (Store w i v) new effect =
    MatchOption (cell_at s f w i)
    ((new ≡ s) × (effect ≡ Ends Trap))
    (λ p. (new ≡ with_cell s p (value_of f v)) × (effect ≡ onward f))
Carries s m f (Cas to w i expected desired) new effect =
    MatchOption (cell_at s f w i)
    ((new ≡ s) × (effect ≡ Ends Trap))
    (λ p. MatchBool (value_at s p == value_of f expected)
    ((new ≡ with_cell s p (value_of f desired)) × (effect ≡ onward_with f to 1))
    ((new ≡ s) × (effect ≡ onward_with f to 0)))
-- blocked while the lock has an owner, its own thread included
Carries s m f (Lock l) new effect =
    (owner_of s l ≡ None) × (new ≡ with_owner s l (Some m.thread)) × (effect ≡ onward f)
Carries s m f (Unlock l) new effect =
    MatchBool (owns s m.thread l)
    ((new ≡ with_owner s l None) × (effect ≡ onward f))
    ((new ≡ s) × (effect ≡ Ends Trap))
-- blocked while the cell differs from the value
Carries s m f (Await w i v) new effect =
    (new ≡ s)
    × MatchOption (cell_at s f w i) (effect ≡ Ends Trap)
    (λ p. (value_at s p ≡ value_of f v) × (effect ≡ onward f))
-- blocked while the cell equals the value
Carries s m f (AwaitNot w i v) new effect =
    (new ≡ s)
    × MatchOption (cell_at s f w i) (effect ≡ Ends Trap)
    (λ p. (value_at s p ≢ value_of f v) × (effect ≡ onward f))
Carries s m f (Pick to count) new effect = (new ≡ s) × (effect ≡ onward_with f to m.pick)
Carries s m f (Jump target) new effect = (new ≡ s) × (effect ≡ onward_at f target)
Carries s m f (JumpIfZero v target) new effect =
    (new ≡ s) × (effect ≡ (if value_of f v == 0 then onward_at f target else onward f))
Carries s m f (Return v) new effect = (new ≡ s) × (effect ≡ Ends (Ret (value_of f v)))

-- where a thread stands after the effect on its operation number `done`
abbrev pub thread_after : ℕ → Effect → Thread
thread_after done (GoesOn f) = record { done = done; activity = Open f }
thread_after done (Ends outcome) = record { done = done + 1; activity = Idle }

-- the event of the effect on operation number `done` of thread t
abbrev pub event_after : ℕ → ℕ → Effect → Option Event
event_after t done (GoesOn f) = None
event_after t done (Ends outcome) = Some (Returned t done outcome)

-- a call as it is opened: the arguments stand in the first registers, and all others are 0
abbrev pub opened : Call → Frame
opened call =
    record { op = call.op; place = 0; registers = call.args ++ replicate (8 - length call.args) 0 }

-- an idle thread opens its next call; any other move carries out the instruction at the open
-- operation's place
abbrev pub ByActivity : State → Move → ℕ → Activity → State → Option Event → Type 0
ByActivity s m done Idle new event =
    (call : Call) × (slice_get (calls_of s.matrix m.thread) done ≡ Some call) × (m.pick ≡ 0)
    × (new ≡ with_standing s m.thread (record { done = done; activity = Open (opened call) }))
    × (event ≡ Some (Called m.thread done))
ByActivity s m done (Open f) new event =
    (instr : Instr) × (mid : State) × (effect : Effect)
    × (instr_at s.component f.op f.place ≡ Some instr) × (m.pick < choices instr)
    × Carries s m f instr mid effect
    × (new ≡ with_standing mid m.thread (thread_after done effect))
    × (event ≡ event_after m.thread done effect)

-- By the move m the state s becomes `new`, with this event or none: the thread of m makes one call
-- or carries out one instruction.
abbrev pub OneStep : State → Move → State → Option Event → Type 0
OneStep s m new event =
    (thread : Thread) × (slice_get s.threads m.thread ≡ Some thread)
    × ByActivity s m thread.done thread.activity new event

-- whether the next instruction of a thread that stands so is local
abbrev pub activity_is_local : State → Activity → Bool
activity_is_local s Idle = false
activity_is_local s (Open f) = option_map_or is_local (instr_at s.component f.op f.place) false

-- whether the next instruction of thread t is local: not where no operation of t is open
abbrev pub is_at_local : State → ℕ → Bool
is_at_local s t =
    option_map_or (λ thread. activity_is_local s thread.activity) (slice_get s.threads t) false

-- Thread t runs on from the state s to the state `end` by at most n local instructions: by all that
-- come, up to n.
abbrev pub RunsOn : ℕ → State → ℕ → State → Type 0
RunsOn zero s t end = end ≡ s
RunsOn (suc n) s t end =
    MatchBool (is_at_local s t)
    ((next : State) × OneStep s (record { thread = t; pick = 0 }) next None × RunsOn n next t end)
    (end ≡ s)

-- how many local instructions may follow the first step of a move of thread t: as many as the
-- component says, that first step counted where it is local
abbrev pub more_local : State → ℕ → ℕ
more_local s t = s.component.local - (if is_at_local s t then 1 else 0)

-- The move m leads from the state s to the state `new`, with this event or none: its thread makes
-- one call or carries out one instruction, and then runs on by local instructions.
abbrev pub Step : State → Move → State → Option Event → Type 0
Step s m new event =
    (mid : State) × OneStep s m mid event × RunsOn (more_local s m.thread) mid m.thread new

-- whether an instruction of the operation f is blocked
abbrev pub is_blocked : State → Frame → Instr → Bool
is_blocked s f (Lock l) = is_some (owner_of s l)
is_blocked s f (Await w i v) =
    option_map_or (λ p. not (value_at s p == value_of f v)) (cell_at s f w i) false
is_blocked s f (AwaitNot w i v) =
    option_map_or (λ p. value_at s p == value_of f v) (cell_at s f w i) false
is_blocked s f _ = false

-- how many picks an instruction of the operation f has: none where it is blocked
abbrev pub instr_picks : State → Frame → Instr → ℕ
instr_picks s f instr = if is_blocked s f instr then 0 else choices instr

-- how many picks a thread has that stands so: none where it has made all its calls
abbrev pub activity_picks : State → ℕ → ℕ → Activity → ℕ
activity_picks s t done Idle = if nat_lt done (call_count s t) then 1 else 0
activity_picks s t done (Open f) =
    option_map_or (instr_picks s f) (instr_at s.component f.op f.place) 0

-- how many picks thread t has: none where there is no such thread
abbrev pub picks_of : State → ℕ → ℕ
picks_of s t =
    option_map_or (λ thread. activity_picks s t thread.done thread.activity)
    (slice_get s.threads t) 0

-- thread t has a pick
abbrev pub IsEnabled : State → ℕ → Type 0
IsEnabled s t = 0 < picks_of s t

-- the pick of the move is one of its thread's
abbrev pub IsFeasible : State → Move → Type 0
IsFeasible s m = m.pick < picks_of s m.thread
