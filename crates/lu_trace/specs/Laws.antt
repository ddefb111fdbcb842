-- Laws of traces.
use Rattle.std.specs.Prelude.{◌≡◌, ℕ, List}
use Rattle.lu_component.specs.Component.{Component}
use Rattle.lu_test.specs.declared.schedule.Move.{Move}
use Rattle.lu_test.specs.Matrix.{Matrix}
use Rattle.lu_machine.specs.declared.event.Event.{Event}
use Rattle.lu_machine.specs.States.{State}
use Rattle.lu_trace.specs.declared.detail.Detail.{Detail}
use Rattle.lu_trace.specs.declared.wording.Wording.{Wording}
use Rattle.lu_trace.specs.Traces.{IsDetailedTrace, IsInfeasibleAt, Plays}
use Rattle.lu_trace.specs.Setups.{IsDetailedTraceFromSetup}

-- a schedule with a trace leads somewhere from the start
abbrev pub TraceLeads : Type 0
TraceLeads =
    (detail : Detail) (how : Wording) (c : Component) (matrix : Matrix) (u : List Move) (text : List ℕ) →
    IsDetailedTrace detail how c matrix u text →
    (end : State) × (history : List Event) × Plays c matrix u end history

-- a schedule has one trace in the same detail and the same words
abbrev pub OneTrace : Type 0
OneTrace =
    (detail : Detail) (how : Wording) (c : Component) (matrix : Matrix) (u : List Move) (text other : List ℕ) →
    IsDetailedTrace detail how c matrix u text → IsDetailedTrace detail how c matrix u other → text ≡ other

-- a schedule that has a trace is infeasible nowhere
abbrev pub TraceOrFault : Type 0
TraceOrFault =
    (detail : Detail) (how : Wording) (c : Component) (matrix : Matrix) (u : List Move) (text : List ℕ) (i : ℕ) →
    IsDetailedTrace detail how c matrix u text → IsInfeasibleAt c matrix u i → ⊥

-- and one from the setup on
abbrev pub OneTraceFromSetup : Type 0
OneTraceFromSetup =
    (detail : Detail) (how : Wording) (c : Component) (matrix : Matrix) (u : List Move) (text other : List ℕ) →
    IsDetailedTraceFromSetup detail how c matrix u text → IsDetailedTraceFromSetup detail how c matrix u other →
    text ≡ other
