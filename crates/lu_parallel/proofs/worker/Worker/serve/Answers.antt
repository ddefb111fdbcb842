use Rattle.std.proofs.Common.{rules, ◌≡◌, List, slice_index_or, sym, subst}
use Rattle.std.specs.Prelude.{IfOk}
use Rattle.lu_test.specs.declared.schedule.Move.{Move}
use Rattle.lu_machine.proofs.Starting.{start_there}
use Rattle.lu_witness.specs.Witnesses.{IsMember}
use Rattle.lu_tree.specs.declared.space.SearchSpace.{SearchSpace}
use Rattle.lu_tree.specs.Trees.{Below, CanSearch, IsFoundWatched, MayFind}
use Rattle.lu_parallel.specs.Works.{IsFoundIn}
use Rattle.lu_parallel.proofs.Tallies.{holds_same, piece_is}
use Rattle.lu_parallel.proofs.worker.Worker.serve.Goals as goal

pub search-found-requires-clause-of : goal.search-found-requires-clause-of
search-found-requires-clause-of g c =
    let start = start_there c.args.job.now.space.test.component.now c.args.job.now.space.test.matrix.now c.args.job.now.space.test.can_run.settles in
    let from = slice_index_or c.args.job.now.pieces.now c.args.piece c.index-job-piece.result in
    let can : CanSearch c.args.job.now.space from = record {
      few = c.requires.job.few;
      short = (c.requires.job.schedules start.0 start.1 c.args.piece c.index-job-piece.result c.requires.piece).0;
      leads = λ s is. (c.requires.job.schedules s is c.args.piece c.index-job-piece.result c.requires.piece).1;
    } in
    subst (λ (x : SearchSpace). CanSearch x from) (sym c.requires.searcher.space) can

pub returns-in-Go-clause-holds : goal.returns-in-Go-clause-holds
returns-in-Go-clause-holds g c = λ s is holds.
    (let members = g.T.SerialTree.members c.args.cache.now.tree in
    let pieces = c.args.job.now.pieces.now in
    let bound = c.args.job.now.space.bound in
    let piece = c.args.piece in
    let from = slice_index_or pieces piece c.index-job-piece.result in
    let v = c.args.seat.view in
    let w = c.into_seat.result.view in
    let clean : w.clean ≡ v.clean = search rules in
    let found : w.found ≡ v.found = search rules in
    let result = c.search-found.result in
    let of : MayFind c.args.job.now.space members from result = subst (λ (x : SearchSpace). MayFind x members from result) c.requires.searcher.space c.search-found.ensures.found in
    let there : IsFoundIn c.args.job.now members piece result = λ t at.
    subst (λ (p : List Move). IfOk result (IsFoundWatched (IsMember members) t bound (Below p))) (piece_is pieces piece c.index-job-piece.result c.requires.piece) (of t at) in
    let held = holds_same (IsMember members) s bound pieces v w c.args.self.now.counts c.args.self.now.found.items clean found holds in
    c.note-seat.ensures.holds members there s is held)
