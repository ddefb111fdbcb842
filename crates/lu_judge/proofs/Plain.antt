-- A trail that keeps its events alone, and one that has a number among beginnings.
use Rattle.std.proofs.Common.{◌≡◌, ◌<◌, Bool, true, false, List, [], ◌∷◌, ◌++◌, length, subst, sym, arith}
use Rattle.std.proofs.lemmas.List.{length_push}
use Rattle.lu_machine.specs.declared.event.Event.{Event}
use Rattle.lu_history.specs.declared.serial.SerialOp.{SerialOp}
use Rattle.lu_history.specs.Histories.{Fits, IsWellFormed}
use Rattle.lu_history.proofs.Events.{pop_history, push_history}
use Rattle.lu_judge.specs.declared.path.Path.{Path}
use Rattle.lu_judge.specs.Paths.{IsPath, AreGoodAsMarked}
use Rattle.lu_judge.specs.Trails.{IsTrail}
use Rattle.lu_judge.proofs.Lengths.{few_events}

-- among beginnings
pub among : (members : List (List SerialOp)) (events : List Event) (path : Path) → IsPath path → AreGoodAsMarked members path → IsTrail members false events path
among members events path is good = record { path_is = is; good = good; well_formed = is.well_formed }

-- with its events alone
pub alone : (members : List (List SerialOp)) (events : List Event) (path : Path) → IsPath path → AreGoodAsMarked members path → IsWellFormed events → IsTrail members true events path
alone members events path is good well = record { path_is = is; good = good; well_formed = well }

empty_well : IsWellFormed []
empty_well = λ i e at. cc

pub cleared : (members : List (List SerialOp)) (plain : Bool) (events : List Event) (path : Path) → events ≡ [] → IsPath path → AreGoodAsMarked members path → IsTrail members plain events path
cleared members true events path none is good = alone members events path is good (subst IsWellFormed (sym none) empty_well)
cleared members false events path none is good = among members events path is good

-- one event less
pub popped : (members : List (List SerialOp)) (plain : Bool) (events new : List Event) (path : Path) (event : Event) → plain ≡ true → events ≡ new ++ event ∷ [] → IsTrail members plain events path → IsTrail members plain new path
popped members true events new path event is more trail = alone members new path trail.path_is trail.good (pop_history new (event ∷ []) (subst IsWellFormed more trail.well_formed))
popped members false events new path event is more trail = absurd cc

-- there is room for an event that fits
pub room_for : (h : List Event) (event : Event) → IsWellFormed h → Fits h event → length h < 128
room_for h event well fits =
    let more = few_events (h ++ event ∷ []) (push_history h event well fits) in
    omega (arith, length_push h event)
