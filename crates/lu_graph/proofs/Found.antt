-- What the graph of all states tells of the first schedule that loses hope.
use Rattle.std.proofs.Common.{arith, ◌≡◌, ℕ, ◌<◌, Bool, false, List, [], ◌++◌, length, map, take, drop, Some, None, sym, ◌∙◌, ap, subst}
use Rattle.std.specs.Prelude.{All, not, position}
use Rattle.std.proofs.lemmas.List.{append-nil, drop_all, length-map, take_all}
use Rattle.std.proofs.lemmas.List.Elements.{All-map, All-weaker}
use Rattle.std.proofs.lemmas.Option.{slice_get_within}
use Rattle.lu_component.specs.Component.{Component}
use Rattle.lu_test.specs.declared.schedule.Move.{Move}
use Rattle.lu_test.specs.Matrix.{Matrix}
use Rattle.lu_test.specs.Schedule.{IsMove}
use Rattle.lu_machine.specs.Starts.{IsStart, Settles}
use Rattle.lu_machine.specs.States.{State}
use Rattle.lu_machine.proofs.Starting.{start_there}
use Rattle.lu_graph.specs.declared.discovering.Discovery.{Discovery}
use Rattle.lu_graph.specs.declared.edge.Edge.{Edge}
use Rattle.lu_graph.specs.declared.exploring_states.StateGraph.{StateGraph}
use Rattle.lu_graph.specs.Discovering.{Entry, IsMoveAlong, IsReachedSo}
use Rattle.lu_graph.specs.Exploring.{AreInOrder, ArePaths, IsExplored, IsPathTo}
use Rattle.lu_graph.specs.declared.lost.FirstLost.TheVariants.{First, Never, Unknown}
use Rattle.lu_graph.specs.Hopeless.{FindsFirstLost}
use Rattle.lu_graph.specs.Marking.{AreMarkedBack, IsWithin}
use Rattle.lu_graph.proofs.Hopeful.{all_longer, are_paths, first_lost, in_order, many, none_lost, path_of, some_lost}
use Rattle.lu_graph.proofs.Spread.{first_is}

-- a slice of a list of that length that was written
pub written : (size : ℕ) (now marks xs : List Bool) → length xs ≡ size → length marks ≡ length xs → now ≡ take size (marks ++ drop (length marks) xs) → now ≡ marks
written size now marks xs whole same is =
    let none : drop (length marks) xs ≡ [] = drop_all (length marks) xs (omega (arith, same)) in
    is ∙ (ap (λ (ys : List Bool). take size (marks ++ ys)) none ∙ (ap (take size) (append-nil marks) ∙ take_all size marks (omega (arith, whole, same))))

module _ (c : Component) (matrix : Matrix) (settles : Settles c matrix) (most : ℕ) (graph : StateGraph) (told : (s : State) → IsStart c matrix s → IsExplored most s (Some graph)) where
  pub edges_within : (edges : List Edge) (marks : List Bool) → edges ≡ graph.found.edges.items → marks ≡ graph.ended.items → All (IsWithin (length marks)) edges
  edges_within edges marks is same =
      let there = start_there c matrix settles in
      let graph_is = (told there.0 there.1).1 in
      let size = graph_is.ended.size in
      let all = many there.0 graph graph_is in
      let ended : length marks ≡ length graph.ended.items = ap (λ (xs : List Bool). length xs) same in
      subst (All (IsWithin (length marks))) (sym is)
      (All-weaker (IsMoveAlong there.0 graph_is.searched.entries) (IsWithin (length marks))
      (λ e along.
      (let x = slice_get_within graph_is.searched.entries e.from along.0 along.4 in
      let y = slice_get_within graph_is.searched.entries e.to along.1 along.5 in
      (omega (arith, x, size, all, ended), omega (arith, y, size, all, ended))))
      graph.found.edges.items graph_is.searched.along)

  pub ways_ordered : (ways : List Discovery) → ways ≡ graph.found.discoveries.items → AreInOrder ways
  ways_ordered ways is =
      let there = start_there c matrix settles in
      subst AreInOrder (sym is) (in_order there.0 graph (told there.0 there.1).1)

  pub ways_move : (ways : List Discovery) → ways ≡ graph.found.discoveries.items → All (λ (way : Discovery). IsMove way.made) ways
  ways_move ways is =
      let there = start_there c matrix settles in
      let searched = (told there.0 there.1).1.searched in
      let made : All (λ (entry : Entry). IsMove entry.way.made) searched.entries =
      All-weaker (IsReachedSo there.0) (λ (entry : Entry). IsMove entry.way.made) (λ entry reached. reached.move) searched.entries searched.reached in
      subst (All (λ (way : Discovery). IsMove way.made)) (sym (is ∙ searched.discoveries))
      (All-map (λ (way : Discovery). IsMove way.made) (λ (entry : Entry). entry.way) searched.entries made)

  module _ (edges : List Edge) (old hopeful : List Bool) (edges_are : edges ≡ graph.found.edges.items) (old_are : old ≡ graph.ended.items) (size : length hopeful ≡ length old) (back : AreMarkedBack edges old hopeful) where
    sized : length hopeful ≡ length graph.ended.items
    sized = size ∙ ap (λ (xs : List Bool). length xs) old_are

    are : AreMarkedBack graph.found.edges.items graph.ended.items hopeful
    are = subst (λ (xs : List Bool). AreMarkedBack graph.found.edges.items xs hopeful) old_are (subst (λ (es : List Edge). AreMarkedBack es old hopeful) edges_are back)

    pub none_found : None ≡ position not hopeful → (s : State) → IsStart c matrix s → FindsFirstLost most s Never
    none_found is s at = ((told s at).0, none_lost s graph (told s at).1 hopeful sized are (first_is hopeful None is))

    abbrev paths : (s : State) → IsStart c matrix s → List (List Move)
    paths s at = map path_of (told s at).1.searched.entries

    paths_at : (ways : List Discovery) → ways ≡ graph.found.discoveries.items → (s : State) (at : IsStart c matrix s) → ArePaths ways (paths s at)
    paths_at ways same s at = subst (λ (xs : List Discovery). ArePaths xs (paths s at)) (sym same) (are_paths s graph (told s at).1)

    module _ (place : ℕ) (is : Some place ≡ position not hopeful) where
      pub place_within : (ways : List Discovery) → ways ≡ graph.found.discoveries.items → place < length ways
      place_within ways same =
          let there = start_there c matrix settles in
          let graph_is = (told there.0 there.1).1 in
          let first = first_is hopeful (Some place) is in
          let within = slice_get_within hopeful place false first.0 in
          let whole = sized in
          let ended = graph_is.ended.size in
          let keys = many there.0 graph graph_is in
          let all : length ways ≡ length graph_is.searched.entries =
          ap (λ (xs : List Discovery). length xs) (same ∙ graph_is.searched.discoveries) ∙ length-map graph_is.searched.entries (λ (entry : Entry). entry.way) in
          omega (arith, within, whole, ended, keys, all)

      -- its path is longer than a schedule
      pub longer_path : (ways : List Discovery) → ways ≡ graph.found.discoveries.items → ((paths : List (List Move)) → ArePaths ways paths → IsPathTo paths place None) → (s : State) → IsStart c matrix s → FindsFirstLost most s Unknown
      longer_path ways same path s at few =
          let x = told s at in
          let first = first_is hopeful (Some place) is in
          let found = path (paths s at) (paths_at ways same s at) in (
            some_lost s graph x.1 hopeful sized are place first,
            (λ v lost. all_longer s graph x.1 hopeful sized are place first found.0 found.1 found.2 v lost.moves lost.lost),
          )

      -- its path is this schedule
      pub found_by_path : (ways : List Discovery) → ways ≡ graph.found.discoveries.items → (u : List Move) → ((paths : List (List Move)) → ArePaths ways paths → IsPathTo paths place (Some u)) → (s : State) → IsStart c matrix s → FindsFirstLost most s (First u)
      found_by_path ways same u path s at =
          let x = told s at in
          let found = path (paths s at) (paths_at ways same s at) in
          (x.0, first_lost s graph x.1 hopeful sized are place (first_is hopeful (Some place) is) u found.0 found.1)
