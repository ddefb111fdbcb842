-- What searchers keep between searches.
use Rattle.std.specs.Prelude.{◌≡◌, []}
use Rattle.lu_machine.specs.declared.position.Position.{Position}
use Rattle.lu_machine.specs.Positions.{CanStandAt, at_position}
use Rattle.lu_machine.specs.States.{State}
use Rattle.lu_machine.specs.Tests.{IsStartOf, IsWithinLimits}
use Rattle.lu_tree.specs.declared.searcher.Searcher.{Searcher}
use Rattle.lu_tree.specs.declared.space.SearchSpace.{SearchSpace}
use Rattle.lu_tree.specs.Tables.{AreTablesOf}
use Rattle.lu_tree.specs.Walks.{IsReadyToWalk}

-- what is searched, and the tree of serial histories
abbrev pub space_of : {T Place : Type 0} → Searcher T Place → SearchSpace
space_of searcher = searcher.space

abbrev pub tree_of : {T Place : Type 0} → Searcher T Place → T
tree_of searcher = searcher.node.trail.tree

-- s is the state at this position, of its component and its matrix
pub record IsStateAt (s : State) (position : Position) : Type 0 where
  pub can : CanStandAt s.component s.matrix position
  pub here : at_position s position ≡ s

-- The tables are those of the space. The machine is at the start of a run, whose position is kept,
-- and its history is empty. A walk can begin.
pub record IsReadyToSearch {T Place : Type 0} (searcher : Searcher T Place) : Type 0 where
  pub limits : IsWithinLimits searcher.space.test
  pub tabled : AreTablesOf searcher.space.test searcher.tables
  pub starts : IsStartOf searcher.space.test searcher.node.machine
  pub silent : searcher.node.trail.history ≡ []
  pub kept : IsStateAt searcher.node.machine searcher.start
  pub ready : IsReadyToWalk searcher.tally
