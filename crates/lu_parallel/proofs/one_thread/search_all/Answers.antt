use Rattle.std.proofs.Common.{◌≡◌, ◌∙◌, List, [], length, ap, sym, subst, arith}
use Rattle.lu_test.specs.declared.schedule.Move.{Move}
use Rattle.lu_history.specs.declared.serial.SerialOp.{SerialOp}
use Rattle.lu_machine.specs.Schedules.{IsSchedule}
use Rattle.lu_witness.specs.Witnesses.{IsMember}
use Rattle.lu_tree.specs.declared.space.SearchSpace.{SearchSpace}
use Rattle.lu_tree.specs.Trees.{Below, CanSearch, IsFoundWatched, MayFind}
use Rattle.lu_replay.specs.Reports.{IsFindingAgainst}
use Rattle.lu_parallel.specs.Findings.{finding_of}
use Rattle.lu_parallel.proofs.Answers.{all_below, empty_leads, found_against, found_kept, same_finding}
use Rattle.lu_parallel.proofs.one_thread.search_all.Goals as goal

pub search-requires-clause-of : goal.search-requires-clause-of
search-requires-clause-of g c =
    let empty : c.new-whole.result ≡ [] = c.new-whole.ensures ∙ c.new.ensures.items in
    let can : CanSearch c.args.space.now c.new-whole.result = record {
      few = c.requires.few;
      short = omega (arith, ap length empty);
      leads = λ s is. subst (λ (u : List Move). IsSchedule s u) (sym empty) (empty_leads s);
    } in
    subst (λ (x : SearchSpace). CanSearch x c.new-whole.result) (sym c.in_ok-searcher.ensures.space) can

pub returns-clause-found : goal.returns-clause-found
returns-clause-found g c = λ s is.
    let empty : c.new-whole.result ≡ [] = c.new-whole.ensures ∙ c.new.ensures.items in
    let bound = c.args.space.now.bound in
    let found = c.in_ok-found.found in
    let Set = IsMember (g.T.SerialTree.members c.args.tree.now) in
    let tree = ap (λ x. g.T.SerialTree.members x) c.in_ok-cache.ensures.tree in
    let members = g.T.SerialTree.members c.in_ok-cache.cache.tree in
    let over = subst (λ (x : SearchSpace). MayFind x members c.new-whole.result c.search.result) c.in_ok-searcher.ensures.space c.search.ensures.found in
    let told : IsFoundWatched (IsMember members) s bound (Below c.new-whole.result) found = rw c.in_ok-found.was at (over s is) in
    let here = subst (λ (members : List (List SerialOp)). IsFoundWatched (IsMember members) s bound (Below c.new-whole.result) found) tree told in
    let below = subst (λ (u : List Move). IsFoundWatched Set s bound (Below u) found) empty here in
    let some = sym c.finding_of.ensures ∙ c.unwrap.ensures in
    let whole = all_below Set s bound found (found_kept Set s bound (Below []) found c.unwrap.result some below) in
    same_finding (IsFindingAgainst Set s bound) (finding_of found) c.unwrap.result some (found_against Set s bound found whole)
