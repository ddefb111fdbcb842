-- States that differ in dead registers alone: whatever goes on from one goes on from the other.
use Rattle.std.specs.Prelude.{◌≡◌, false, Option}
use Rattle.lu_machine.specs.declared.thread.Activity.{Activity}
use Rattle.lu_machine.specs.declared.thread.Thread.{Thread}
use Rattle.lu_machine.specs.declared.thread.Frame.{Frame}
use Rattle.lu_machine.specs.States.{State}
use Rattle.lu_horizon.specs.Alike as by
use Rattle.lu_horizon.specs.Alike.{Liveness}
use Rattle.lu_horizon.specs.Dead.{DeadTable, is_dead}
use Rattle.lu_tree.specs.declared.access.Left.{Left}

-- what the table does not say to be dead counts as live
abbrev pub LiveBy : DeadTable → Liveness
LiveBy table op place r = is_dead table op place r ≡ false

abbrev pub AreFramesAlike : DeadTable → Frame → Frame → Type 0
AreFramesAlike table = by.AreFramesAlike (LiveBy table)

abbrev pub AreActivitiesAlike : DeadTable → Activity → Activity → Type 0
AreActivitiesAlike table = by.AreActivitiesAlike (LiveBy table)

abbrev pub AreStandingAlike : DeadTable → Option Thread → Option Thread → Type 0
AreStandingAlike table = by.AreStandingAlike (LiveBy table)

abbrev pub AreAlike : DeadTable → State → State → Type 0
AreAlike table = by.AreAlike (LiveBy table)

-- two threads stand alike, and a location holds the same
abbrev pub AreLeftAlike : DeadTable → Left → Left → Type 0
AreLeftAlike table a b =
    AreStandingAlike table a.first b.first × AreStandingAlike table a.second b.second
    × (b.held ≡ a.held)
