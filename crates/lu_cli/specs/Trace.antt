-- What `trace` shows of a schedule.
use Rattle.std.specs.Prelude.{◌≡◌, ◌⊎◌, ℕ, List, Result, IfErr, IfOk, String, string_bytes}
use Rattle.lu_component.specs.Component.{Component}
use Rattle.lu_test.specs.declared.schedule.Move.{Move}
use Rattle.lu_test.specs.Matrix.{Matrix}
use Rattle.lu_machine.specs.declared.test.Test.{Test}
use Rattle.lu_replay.specs.Replays.{IsInfeasibleAt}
use Rattle.lu_trace.specs.declared.wording.Wording.{Wording}
use Rattle.lu_trace.specs.declared.fault.TraceFault.{TraceFault}
use Rattle.lu_trace.specs.declared.detail.Detail.{Detail}
use Rattle.lu_trace.specs.declared.detail.Detail.TheVariants.{EachStep}
use Rattle.lu_trace.specs.Traces.{IsDetailedTrace, IsTraceFault}
use Rattle.lu_trace.specs.Setups.{IsDetailedTraceFromSetup}
use Rattle.lu_cli.specs.declared.request.TraceStart.{TraceStart}
use Rattle.lu_cli.specs.declared.request.TraceStart.TheVariants.{FirstMove, Setup}
use Rattle.lu_cli.specs.declared.request.Tracing.{Tracing}
use Rattle.lu_cli.specs.Outcomes.{Answer, infeasible}

-- the text of the trace of the schedule in this detail and these words, which begins there
abbrev pub IsTraceFrom : TraceStart → Detail → Wording → Component → Matrix → List Move → List ℕ
    → Type 0
IsTraceFrom FirstMove = IsDetailedTrace
IsTraceFrom Setup = IsDetailedTraceFromSetup

abbrev pub IsTraceText : Tracing → Wording → Component → Matrix → List Move → List ℕ → Type 0
IsTraceText tracing = IsTraceFrom tracing.start tracing.detail

-- each step of a schedule
abbrev pub each_step : Tracing
each_step = record { start = FirstMove; detail = EachStep }

-- so it is of the result, where there is one
abbrev pub WritesTrace : {Z E : Type 0} → Tracing → Wording → Test → List Move
    → Result (String Z) E → Type 0
WritesTrace tracing how test u result =
    IfOk result (λ text.
    IsTraceText tracing how test.component.now test.matrix.now u (string_bytes text))

-- and why there is none
abbrev pub RefusesTrace : {A : Type 0} → Test → List Move → Result A TraceFault → Type 0
RefusesTrace test u result = IfErr result (IsTraceFault test.component.now test.matrix.now u)

-- the trace, or where the schedule is infeasible
abbrev pub IsTraced : Tracing → Wording → Component → Matrix → List Move → Answer → Type 0
IsTraced tracing how c matrix u answer =
    ((text : List ℕ) × IsTraceText tracing how c matrix u text
    × (answer ≡ record { text = text; status = 0 }))
    ⊎ ((i : ℕ) × IsInfeasibleAt c matrix u i
    × (answer ≡ infeasible i))

-- so it is of the result, where there is one
abbrev pub Traces : {E : Type 0} → Tracing → Wording → Test → List Move → Result Answer E
    → Type 0
Traces tracing how test u result =
    IfOk result (IsTraced tracing how test.component.now test.matrix.now u)
