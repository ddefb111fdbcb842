-- The text of a replay.
use Rattle.std.specs.Prelude.{ℕ, List, ◌++◌, codes}
use Rattle.lu_history.specs.Text.{history_text}
use Rattle.lu_machine.specs.declared.event.Event.{Event}
use Rattle.lu_machine.specs.declared.event.Status.{Status}
use Rattle.lu_machine.specs.declared.event.Status.TheVariants.{Running, Complete, Stuck}

-- the first line
abbrev pub status_text : Status → List ℕ
status_text Running = codes "replay running\n"
status_text Complete = codes "replay complete\n"
status_text Stuck = codes "replay stuck\n"

abbrev pub replay_text : List Event → Status → List ℕ
replay_text history status = status_text status ++ history_text history
