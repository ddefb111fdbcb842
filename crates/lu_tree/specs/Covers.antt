-- What the pieces of a cover say together, whatever the set of serial histories.
use Rattle.std.specs.Prelude.{ℕ, List}
use Rattle.std.specs.List.{AllZip}
use Rattle.lu_test.specs.declared.schedule.Move.{Move}
use Rattle.lu_machine.specs.declared.counts.Counts.{Counts}
use Rattle.lu_machine.specs.States.{State}
use Rattle.lu_machine.specs.Order.{IsSmaller}
use Rattle.lu_machine.specs.Schedules.{Lists, IsCover}
use Rattle.lu_machine.specs.Sums.{total}
use Rattle.lu_history.specs.declared.serial.SerialOp.{SerialOp}
use Rattle.lu_witness.specs.declared.judgement.Why.{Why}
use Rattle.lu_witness.specs.Goodness.{AreGood, AreAllGood, IsFirstBad, Any}
use Rattle.lu_tree.specs.Trees.{Below}

-- The first bad schedule below the first piece of a cover that has one is the first of all.
abbrev pub FirstOfCover : (List SerialOp → Type 0) → Type 0
FirstOfCover Set =
    (s : State) (bound : ℕ) (pieces : List (List Move)) (p u : List Move) (why : Why) →
    IsCover s bound pieces → Lists pieces p →
    ((q : List Move) → Lists pieces q → IsSmaller q p → AreGood Set s bound (Below q)) →
    IsFirstBad Set s bound (Below p) u why → IsFirstBad Set s bound Any u why

-- Where the schedules below every piece of a cover are good, all are, and their numbers are the
-- sums over the pieces.
abbrev pub SumsOfCover : (List SerialOp → Type 0) → Type 0
SumsOfCover Set =
    (s : State) (bound : ℕ) (pieces : List (List Move)) (counts : List Counts) →
    IsCover s bound pieces → AllZip (λ p c. AreAllGood Set s bound (Below p) c) pieces counts →
    AreAllGood Set s bound Any (total counts)
