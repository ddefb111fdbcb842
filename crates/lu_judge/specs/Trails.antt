-- A trail, as contracts see it, and what it keeps.
use Rattle.std.specs.Prelude.{Bool, if◌then◌else◌, List}
use Rattle.lu_machine.specs.declared.event.Event.{Event}
use Rattle.lu_history.specs.declared.serial.SerialOp.{SerialOp}
use Rattle.lu_history.specs.Histories.{IsWellFormed}
use Rattle.lu_witness.specs.declared.judgement.Verdict.{Verdict}
use Rattle.lu_witness.specs.Witnesses.{IsMember, IsVerdict}
use Rattle.lu_judge.specs.declared.path.Path.{Path}
use Rattle.lu_judge.specs.Paths.{IsPath, AreGoodAsMarked, history_of}

-- the tree that judges, and the history
pub record Trail (T : Type 0) : Type 0 where
  pub tree : T
  pub history : List Event

-- this is the verdict of the trail's history over its tree
abbrev pub IsJudgedAs : {T : Type 0} → (T → List (List SerialOp)) → Trail T → Verdict → Type 0
IsJudgedAs members trail v = IsVerdict (IsMember (members trail.tree)) trail.history v

-- the history: its events alone, or a number among beginnings
abbrev pub history_in : Bool → List Event → Path → List Event
history_in plain events path = if plain then events else history_of path

-- a well-formed history, and beginnings of which those that are said to be good are
pub record IsTrail (members : List (List SerialOp)) (plain : Bool) (events : List Event)
    (path : Path) : Type 0 where
  pub path_is : IsPath path
  pub good : AreGoodAsMarked members path
  pub well_formed : IsWellFormed (history_in plain events path)
