use Rattle.std.proofs.Common.{◌∷◌, All, List, subst}
use Rattle.std.specs.Vec.Iter.{into_iter_items}
use Rattle.std.proofs.lemmas.List.Elements.{All-head, All-tail}
use Rattle.lu_graph.specs.declared.expanding.Expansions.{Expansions}
use Rattle.lu_graph.specs.Expanding.{AreFoundBetween}
use Rattle.lu_graph.proofs.Expanded.{found_joined}
use Rattle.lu_graph.proofs.expanders.gather.Goals as goal

pub loop-found-preserved : goal.loop-found-preserved
loop-found-preserved c = λ component matrix members nodes from end first others.
    (let P : Expansions → Type 0 = AreFoundBetween component matrix members nodes from end in
    let was = c.loop-found.invariant component matrix members nodes from end first others in
    let rest : List Expansions = into_iter_items c.next.new.self in
    let left : All P (c.in-Some.found ∷ rest) = subst (All P) c.in-Some.ensures.steps.0 was.1 in
    let all : Expansions = record { nodes = c.append.new.self; rows = c.append-in-loop-found.new.self } in (
      found_joined component matrix members nodes from end c.loop-found.first c.in-Some.found all c.in_ok-append.ensures.items c.in_ok-append-2.ensures.items was.0 (All-head P c.in-Some.found rest left),
      All-tail P c.in-Some.found rest left,
    ))

pub returns : goal.returns
returns c = λ component matrix members nodes from end first others. (c.loop-found.invariant component matrix members nodes from end first others).0
