-- Laws of stages.
use Rattle.std.specs.Prelude.{◌≡◌, List, ◌++◌, length}
use Rattle.lu_test.specs.declared.schedule.Move.{Move}
use Rattle.lu_machine.specs.declared.event.Event.{Event}
use Rattle.lu_machine.specs.Runs.{Leads}
use Rattle.lu_machine.specs.States.{State}
use Rattle.lu_conform.specs.Stages.{HasAllStages, IsAmong, Stage, stage_of}

-- Each schedule from s whose history is a beginning of h, of any length, leads to one of a list
-- that has all stages.
abbrev pub AllAreAmong : Type 0
AllAreAmong =
    (s : State) (h : List Event) (stages : List Stage) (u : List Move) (end : State)
    (history rest : List Event) →
    HasAllStages s h stages → Leads s u end history → h ≡ history ++ rest
    → IsAmong stages (stage_of end (length history))
