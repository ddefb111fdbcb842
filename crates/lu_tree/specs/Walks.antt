-- What the steps of the walk promise one another.
use Rattle.std.specs.Prelude.{◌≡◌, ◌⊎◌, ℕ, ◌+◌, ◌≤◌, ◌++◌, List, [], Option, length, reverse, vec_capacity}
use Rattle.lu_test.specs.declared.schedule.Move.{Move}
use Rattle.lu_machine.specs.declared.counts.Counts.{Counts}
use Rattle.lu_machine.specs.declared.event.Event.{Event}
use Rattle.lu_machine.specs.States.{State}
use Rattle.lu_machine.specs.Ends.{HasMove, IsComplete, IsStuck, IsEnded}
use Rattle.lu_machine.specs.Order.{IsSmaller}
use Rattle.lu_machine.specs.Runs.{Leads, with_event}
use Rattle.lu_machine.specs.Schedules.{AreNumbers, IsEndedWithin, IsSchedule, Reaches}
use Rattle.lu_machine.specs.Tests.{IsStartOf}
use Rattle.lu_history.specs.declared.serial.SerialOp.{SerialOp}
use Rattle.lu_witness.specs.declared.judgement.Why.{Why}
use Rattle.lu_witness.specs.Goodness.{Any, IsGoodAt, IsWhyAt, AreGood}
use Rattle.lu_witness.specs.Witnesses.{HasWitness, IsMember}
use Rattle.lu_tree.specs.declared.node.Node.{Node}
use Rattle.lu_tree.specs.declared.space.SearchSpace.{SearchSpace}
use Rattle.lu_tree.specs.declared.progress.WalkProgress.{WalkProgress}
use Rattle.lu_tree.specs.Reordered.{AreReordered}
use Rattle.lu_tree.specs.Trees.{Below}

-- no schedule, one that is complete, one that is stuck, one that is cut
abbrev pub no_schedule : Counts
no_schedule = record { complete = 0; stuck = 0; cut = 0 }

abbrev pub one_complete : Counts
one_complete = record { complete = 1; stuck = 0; cut = 0 }

abbrev pub one_stuck : Counts
one_stuck = record { complete = 0; stuck = 1; cut = 0 }

abbrev pub one_cut : Counts
one_cut = record { complete = 0; stuck = 0; cut = 1 }

-- this many that are complete
abbrev pub completes : ℕ → Counts
completes n = record { complete = n; stuck = 0; cut = 0 }

-- this many that are cut
abbrev pub cuts : ℕ → Counts
cuts n = record { complete = 0; stuck = 0; cut = n }

-- a tally with which a walk can go on: no path yet, and room for any
pub record IsReadyToWalk (tally : WalkProgress) : Type 0 where
  pub room : 256 ≤ vec_capacity tally.path
  pub empty : tally.path.items ≡ []

-- the numbers of a schedule that is cut here, or ends here and is good
abbrev pub IsCountAtEnd : (List SerialOp → Type 0) → State → List Event → Counts → Type 0
IsCountAtEnd Set s h counts =
    (HasMove s × (counts ≡ one_cut))
    ⊎ ((IsComplete s × IsGoodAt Set s h × (counts ≡ one_complete))
    ⊎ (IsStuck s × IsGoodAt Set s h × (counts ≡ one_stuck)))

-- what ends so, with these events, is good after h
abbrev pub IsGoodAfter : (List SerialOp → Type 0) → List Event → State → List Event → Type 0
IsGoodAfter Set h end events = IsGoodAt Set end (h ++ events)

-- The schedules that go on from s, with no more than `left` moves, are good if they end, after h
-- and so after each reordered history; and these are their numbers.
pub record AreBelow (Set : List SerialOp → Type 0) (s : State) (h : List Event) (left : ℕ)
    (below : Counts) : Type 0 where
  pub good : (k : List Event) (u : List Move) → AreReordered h k → IsEndedWithin s left u
      → Reaches s u (IsGoodAfter Set k)
  pub numbers : AreNumbers s left Any below

-- a schedule that ends here is not good, and why
abbrev pub IsBadAt : (List SerialOp → Type 0) → State → List Event → Why → Type 0
IsBadAt Set s h why = (IsGoodAt Set s h → ⊥) × IsWhyAt Set s h why

-- u ends here within the bound, and each smaller schedule of the part that ends within it is good
pub record IsFirstAt (Set : List SerialOp → Type 0) (start : State) (bound : ℕ)
    (Part : List Move → Type 0) (u : List Move) (end : State) (history : List Event) : Type 0 where
  pub part : Part u
  pub short : length u ≤ bound
  pub leads : Leads start u end history
  pub ended : IsEnded end
  pub before : AreGood Set start bound (λ v. Part v × IsSmaller v u)

-- The walk halted at a schedule that ends: it goes on by these moves, the last one first, and
-- those before it are good.
abbrev pub HaltsAtSchedule : (List SerialOp → Type 0) → State → List Event → ℕ → List Move → State
    → List Event → Type 0
HaltsAtSchedule Set s h left path end history =
    (start : State) (u : List Move) → Leads start u s h →
    IsFirstAt Set start (length u + left) (Below u) (u ++ reverse path) end history

-- the same of a node, over the histories of its tree
abbrev pub IsCountOfNode : {T Place : Type 0} → (T → List (List SerialOp)) → Node T Place → Counts
    → Type 0
IsCountOfNode members node counts =
    IsCountAtEnd (IsMember (members node.trail.tree)) node.machine node.trail.history counts

abbrev pub AreBelowNode : {T Place : Type 0} → (T → List (List SerialOp)) → Node T Place → ℕ
    → Counts → Type 0
AreBelowNode members node left below =
    AreBelow (IsMember (members node.trail.tree)) node.machine node.trail.history left below

abbrev pub HaltsAtNode : {T Place : Type 0} → (T → List (List SerialOp)) → Node T Place → ℕ
    → WalkProgress → Node T Place → Type 0
HaltsAtNode members node left tally end =
    HaltsAtSchedule (IsMember (members node.trail.tree)) node.machine node.trail.history left
    tally.path.items end.machine end.trail.history

-- a schedule that ends at the node is good, or complete and good, or not good and why
abbrev pub IsGoodEnd : {T Place : Type 0} → (T → List (List SerialOp)) → Node T Place → Type 0
IsGoodEnd members node =
    IsGoodAt (IsMember (members node.trail.tree)) node.machine node.trail.history

abbrev pub IsGoodComplete : {T Place : Type 0} → (T → List (List SerialOp)) → Node T Place → Type 0
IsGoodComplete members node =
    IsComplete node.machine × HasWitness (IsMember (members node.trail.tree)) node.trail.history

abbrev pub IsBadEnd : {T Place : Type 0} → (T → List (List SerialOp)) → Node T Place → Why → Type 0
IsBadEnd members node why =
    IsBadAt (IsMember (members node.trail.tree)) node.machine node.trail.history why

-- the history with this event at its end, or as it is where there is none
abbrev pub IsLongerBy : Option Event → List Event → List Event → Type 0
IsLongerBy event h new = new ≡ h ++ with_event event []

-- the history before the move with this event
abbrev pub IsTakenBack : Option Event → List Event → List Event → Type 0
IsTakenBack event old new = (h : List Event) → IsLongerBy event h old → new ≡ h

-- the moves are a schedule of what is searched
abbrev pub IsScheduleIn : SearchSpace → List Move → Type 0
IsScheduleIn space u =
    (s : State) → IsStartOf space.test s → IsSchedule s u

-- the schedule leads to the node from the start
abbrev pub LeadsToNode : {T Place : Type 0} → SearchSpace → List Move → Node T Place → Type 0
LeadsToNode space u node =
    (s : State) → IsStartOf space.test s
    → Leads s u node.machine node.trail.history
