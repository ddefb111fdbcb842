-- Which threads are aside, by tests.
use Rattle.std.specs.Prelude.{ℕ, Bool, true, false, List, get_or, slice_get}
use Rattle.std.specs.Option.{option_map_or}
use Rattle.lu_component.specs.Component.{Component}
use Rattle.lu_component.specs.declared.instr.Instr.{Instr}
use Rattle.lu_component.specs.declared.instr.Instr.TheVariants.{Load, Store, Cas, Unlock}
use Rattle.lu_machine.specs.declared.thread.Activity.{Activity}
use Rattle.lu_machine.specs.declared.thread.Activity.TheVariants.{Idle, Open}
use Rattle.lu_machine.specs.States.{State, instr_at}
use Rattle.lu_horizon.specs.Stands.{is_unseen}

-- whether the instruction stands aside, where these arrays are guarded
abbrev pub is_aside : List Bool → Instr → Bool
is_aside guarded (Load to w i) = get_or guarded w false
is_aside guarded (Store w i v) = get_or guarded w false
is_aside guarded (Cas to w i expected desired) = get_or guarded w false
is_aside guarded (Unlock l) = true
is_aside guarded instr = is_unseen instr

abbrev pub activity_is_aside : List Bool → Component → Activity → Bool
activity_is_aside guarded c Idle = false
activity_is_aside guarded c (Open f) =
    option_map_or (is_aside guarded) (instr_at c f.op f.place) false

-- whether thread t is at such an instruction
abbrev pub is_aside_at : List Bool → State → ℕ → Bool
is_aside_at guarded s t =
    option_map_or (λ thread. activity_is_aside guarded s.component thread.activity)
    (slice_get s.threads t) false
