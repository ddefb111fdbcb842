use Rattle.std.proofs.Common.{arith, ◌≡◌, None, Some, length, subst}
use Rattle.std.specs.Prelude.{not, position}
use Rattle.lu_graph.specs.Exploring.{IsExplored, IsPathTo}
use Rattle.lu_graph.proofs.Found.{edges_within, found_by_path, longer_path, none_found, place_within, ways_move, ways_ordered, written}
use Rattle.lu_graph.proofs.losing.first_lost_watched.Goals as goal

pub returns-in-None-clause-first : goal.returns-in-None-clause-first
returns-in-None-clause-first g c = λ s is few. (let none = subst (IsExplored c.args.most s) c.in-None.is (c.in_ok-explore.ensures.explored s is) in absurd (none few))

pub mark_back-requires : goal.mark_back-requires
mark_back-requires g c =
    edges_within c.args.component.now c.args.matrix.now c.requires.runs.settles c.args.most c.in-Some.graph (λ s is. subst (IsExplored c.args.most s) c.in-Some.is (c.in_ok-explore.ensures.explored s is))
    c.deref.result.now c.deref_mut.result.now c.deref.ensures.value c.deref_mut.ensures.value

pub returns-in-None-first_unmarked-clause-first : goal.returns-in-None-first_unmarked-clause-first
returns-in-None-first_unmarked-clause-first g c =
    let size : length c.mark_back.new.marks ≡ length c.deref_mut.result.now = omega arith in
    let whole : length c.in-Some.graph.ended.items ≡ c.in-Some.graph.ended.len = omega (arith, c.in-Some.graph.ended.ok.0) in
    let same : length c.mark_back.new.marks ≡ length c.in-Some.graph.ended.items = omega arith in
    let now = written c.in-Some.graph.ended.len c.deref-2.result.now c.mark_back.new.marks c.in-Some.graph.ended.items whole same c.deref-2.ensures.value in
    none_found c.args.component.now c.args.matrix.now c.requires.runs.settles c.args.most c.in-Some.graph (λ s is. subst (IsExplored c.args.most s) c.in-Some.is (c.in_ok-explore.ensures.explored s is))
    c.deref.result.now c.deref_mut.result.now c.mark_back.new.marks c.deref.ensures.value c.deref_mut.ensures.value size c.mark_back.ensures
    (subst (λ xs. None ≡ position not xs) now c.in-None-first_unmarked.ensures)

pub schedule_to-requires-clause-there : goal.schedule_to-requires-clause-there
schedule_to-requires-clause-there g c =
    let size : length c.mark_back.new.marks ≡ length c.deref_mut.result.now = omega arith in
    let whole : length c.in-Some.graph.ended.items ≡ c.in-Some.graph.ended.len = omega (arith, c.in-Some.graph.ended.ok.0) in
    let same : length c.mark_back.new.marks ≡ length c.in-Some.graph.ended.items = omega arith in
    let now = written c.in-Some.graph.ended.len c.deref-2.result.now c.mark_back.new.marks c.in-Some.graph.ended.items whole same c.deref-2.ensures.value in
    place_within c.args.component.now c.args.matrix.now c.requires.runs.settles c.args.most c.in-Some.graph (λ s is. subst (IsExplored c.args.most s) c.in-Some.is (c.in_ok-explore.ensures.explored s is))
    c.deref.result.now c.deref_mut.result.now c.mark_back.new.marks c.deref.ensures.value c.deref_mut.ensures.value size c.mark_back.ensures
    c.in-Some-first_unmarked.number (subst (λ xs. Some c.in-Some-first_unmarked.number ≡ position not xs) now c.in-Some-first_unmarked.ensures)
    c.deref-in-Some-first_unmarked.result.now c.deref-in-Some-first_unmarked.ensures.value

pub schedule_to-requires-clause-order : goal.schedule_to-requires-clause-order
schedule_to-requires-clause-order g c =
    ways_ordered c.args.component.now c.args.matrix.now c.requires.runs.settles c.args.most c.in-Some.graph (λ s is. subst (IsExplored c.args.most s) c.in-Some.is (c.in_ok-explore.ensures.explored s is))
    c.deref-in-Some-first_unmarked.result.now c.deref-in-Some-first_unmarked.ensures.value

pub schedule_to-requires-clause-moves : goal.schedule_to-requires-clause-moves
schedule_to-requires-clause-moves g c =
    ways_move c.args.component.now c.args.matrix.now c.requires.runs.settles c.args.most c.in-Some.graph (λ s is. subst (IsExplored c.args.most s) c.in-Some.is (c.in_ok-explore.ensures.explored s is))
    c.deref-in-Some-first_unmarked.result.now c.deref-in-Some-first_unmarked.ensures.value

pub returns-in-None-2-clause-first : goal.returns-in-None-2-clause-first
returns-in-None-2-clause-first g c =
    let size : length c.mark_back.new.marks ≡ length c.deref_mut.result.now = omega arith in
    let whole : length c.in-Some.graph.ended.items ≡ c.in-Some.graph.ended.len = omega (arith, c.in-Some.graph.ended.ok.0) in
    let same : length c.mark_back.new.marks ≡ length c.in-Some.graph.ended.items = omega arith in
    let now = written c.in-Some.graph.ended.len c.deref-2.result.now c.mark_back.new.marks c.in-Some.graph.ended.items whole same c.deref-2.ensures.value in
    longer_path c.args.component.now c.args.matrix.now c.requires.runs.settles c.args.most c.in-Some.graph (λ s is. subst (IsExplored c.args.most s) c.in-Some.is (c.in_ok-explore.ensures.explored s is))
    c.deref.result.now c.deref_mut.result.now c.mark_back.new.marks c.deref.ensures.value c.deref_mut.ensures.value size c.mark_back.ensures
    c.in-Some-first_unmarked.number (subst (λ xs. Some c.in-Some-first_unmarked.number ≡ position not xs) now c.in-Some-first_unmarked.ensures)
    c.deref-in-Some-first_unmarked.result.now c.deref-in-Some-first_unmarked.ensures.value
    (λ paths are. subst (IsPathTo paths c.in-Some-first_unmarked.number) c.in-None-2.is (c.in_ok-schedule_to-in-Some-first_unmarked.ensures paths are))

pub returns-clause-first : goal.returns-clause-first
returns-clause-first g c =
    let size : length c.mark_back.new.marks ≡ length c.deref_mut.result.now = omega arith in
    let whole : length c.in-Some.graph.ended.items ≡ c.in-Some.graph.ended.len = omega (arith, c.in-Some.graph.ended.ok.0) in
    let same : length c.mark_back.new.marks ≡ length c.in-Some.graph.ended.items = omega arith in
    let now = written c.in-Some.graph.ended.len c.deref-2.result.now c.mark_back.new.marks c.in-Some.graph.ended.items whole same c.deref-2.ensures.value in
    found_by_path c.args.component.now c.args.matrix.now c.requires.runs.settles c.args.most c.in-Some.graph (λ s is. subst (IsExplored c.args.most s) c.in-Some.is (c.in_ok-explore.ensures.explored s is))
    c.deref.result.now c.deref_mut.result.now c.mark_back.new.marks c.deref.ensures.value c.deref_mut.ensures.value size c.mark_back.ensures
    c.in-Some-first_unmarked.number (subst (λ xs. Some c.in-Some-first_unmarked.number ≡ position not xs) now c.in-Some-first_unmarked.ensures)
    c.deref-in-Some-first_unmarked.result.now c.deref-in-Some-first_unmarked.ensures.value
    c.in-Some-2.schedule (λ paths are. subst (IsPathTo paths c.in-Some-first_unmarked.number) c.in-Some-2.is (c.in_ok-schedule_to-in-Some-first_unmarked.ensures paths are))
