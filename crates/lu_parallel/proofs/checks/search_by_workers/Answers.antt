use Rattle.std.proofs.Common.{arith, ◌≡◌, ◌∙◌, List, All, Option, Some, IsSome, length, sym, subst}
use Rattle.lu_test.specs.declared.schedule.Move.{Move}
use Rattle.lu_machine.proofs.Starting.{start_there}
use Rattle.lu_machine.specs.Schedules.{IsCover}
use Rattle.lu_witness.specs.Witnesses.{IsMember}
use Rattle.lu_board.specs.Close.{SharesOut}
use Rattle.lu_report.specs.declared.report.Finding.{Finding}
use Rattle.lu_replay.specs.Reports.{IsFindingAgainst}
use Rattle.lu_parallel.specs.Findings.{finding_of}
use Rattle.lu_parallel.specs.Works.{IsPiece}
use Rattle.lu_parallel.specs.Conclusions.{seats_of, IsConclusion}
use Rattle.lu_parallel.specs.Laws.{AreWorksOver}
use Rattle.lu_parallel.proofs.Answers.{concluded_finding, found_against, same_finding}
use Rattle.lu_parallel.proofs.Concluding.{concluded}
use Rattle.lu_parallel.proofs.Frontiers.{frontier_pieces}
use Rattle.lu_parallel.proofs.checks.search_by_workers.Goals as goal

pub new-requires-clause-pieces : goal.new-requires-clause-pieces
new-requires-clause-pieces g c =
    let start = start_there c.args.check.now.space.test.component.now c.args.check.now.space.test.matrix.now c.args.check.now.space.test.can_run.settles in
    let few = (c.in_ok-pieces.ensures.frontier start.0 start.1).few in
    let long = c.in_ok-pieces.pieces.ok.0 in
    let is = c.len-count.ensures in
    omega (arith, few, long, is)

pub run_workers-requires-clause-job : goal.run_workers-requires-clause-job
run_workers-requires-clause-job g c κs within = record {
  of = c.args.check.now.space.test.can_run;
  few = c.args.check.now.few;
  schedules = λ s is.
      subst (λ (pieces : List (List Move)). All (IsPiece s c.args.check.now.space.bound) pieces) (sym c.deref.ensures.value)
      (frontier_pieces s c.args.check.now.space.bound c.depth-depth.result c.in_ok-pieces.pieces.items (c.in_ok-pieces.ensures.frontier s is));
  numbered = c.in_ok-board.ensures.board.0 ∙ (c.len-count.ensures ∙ sym c.deref.ensures.len);
}

pub unwrap-requires : goal.unwrap-requires
unwrap-requires g c =
    let conclusion : IsConclusion c.in_ok-works.works.items (Some c.in-Some.found) = rw c.in-Some.is at c.in_ok-found.ensures.conclusion in
    subst (λ (found : Option Finding). IsSome found) (sym c.finding_of.ensures) (concluded_finding c.in_ok-works.works.items c.in-Some.found conclusion.1)

pub returns-in-Some-clause-found : goal.returns-in-Some-clause-found
returns-in-Some-clause-found g c = λ s is.
    let members = g.T.SerialTree.members c.args.tree.now in
    let bound = c.args.check.now.space.bound in
    let pieces = c.deref.result.now in
    let works = c.in_ok-works.works.items in
    let found = c.in-Some.found in
    let cover = subst (λ (x : List (List Move)). IsCover s bound x) (sym c.deref.ensures.value) (c.in_ok-pieces.ensures.cover s is) in
    let long : c.in_ok-board.board.pieces ≡ length pieces = c.in_ok-board.ensures.board.0 ∙ (c.len-count.ensures ∙ sym c.deref.ensures.len) in
    let shares = subst (λ n. SharesOut n (seats_of works)) long c.in_ok-found.ensures.pieces in
    let conclusion : IsConclusion works (Some found) = rw c.in-Some.is at c.in_ok-found.ensures.conclusion in
    let over : AreWorksOver members s bound works = record {
      component = c.args.check.now.space.test.component.now;
      matrix = c.args.check.now.space.test.matrix.now;
      start = is;
      pieces = pieces;
      cover = cover;
      board = c.in_ok-board.board.board;
      each = c.in_ok-works.ensures.each;
      shares = shares;
      skips = c.in_ok-found.ensures.skipped;
    } in
    let all = concluded members s bound works found over conclusion in
    same_finding (IsFindingAgainst (IsMember members) s bound) (finding_of found) c.unwrap.result (sym c.finding_of.ensures ∙ c.unwrap.ensures) (found_against (IsMember members) s bound found all)
