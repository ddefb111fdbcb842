use Rattle.std.proofs.Common.{arith, ◌≡◌, ◌+◌, ◌≤◌, ◌++◌, [], ◌∷◌, length, min, sym, ◌∙◌, ap, subst}
use Rattle.lu_machine.specs.Schedules.{AreAll, IsCover}
use Rattle.lu_machine.specs.Starts.{IsStart}
use Rattle.lu_machine.proofs.Starting.{start_same}
use Rattle.lu_pieces.specs.Frontiers.{IsFrontier, IsPieceAt}
use Rattle.lu_pieces.specs.Pieces.{TooMany}
use Rattle.lu_pieces.proofs.PieceLists.{level_start, pieces_cover, piece_schedule}
use Rattle.lu_pieces.proofs.pieces.frontier.Goals as goal

pub loop-level-init : goal.loop-level-init
loop-level-init c =
    let one : c.push.new.self.items ≡ [] ∷ [] = c.in_ok-push.ensures.items ∙ (ap (λ x. x ++ c.new-2.result ∷ []) c.new-pieces.ensures.items ∙ ap (λ x. x ∷ []) (c.new-2.ensures ∙ c.new.ensures.items)) in
    record {
      start = c.in_ok-machine.ensures.starts;
      few = (let k = ap length one in omega arith);
      all = rw one (level_start c.in_ok-machine.machine);
    }

pub go_deeper-requires-clause-leads : goal.go_deeper-requires-clause-leads
go_deeper-requires-clause-leads c = λ u l. piece_schedule c.loop-level.machine c.loop-level._level u (c.loop-level.invariant.all.only u (rw c.deref.ensures.value at l))

pub returns-in-None-clause-frontier : goal.returns-in-None-clause-frontier
returns-in-None-clause-frontier c = λ s is.
    (let same : c.loop-level.machine ≡ s = start_same c.args.component.now c.args.matrix.now c.loop-level.machine s c.loop-level.invariant.start is in
    let many : TooMany c.loop-level.machine c.loop-level.pieces.items = rw c.deref.ensures.value at (rw c.in-None.is at c.in_ok-go_deeper.ensures.none) in
    let frontier : IsFrontier c.loop-level.machine (min c.args.bound c.args.depth) c.loop-level.pieces.items = record {
      depth = c.loop-level._level;
      within = omega arith;
      all = c.loop-level.invariant.all;
      few = c.loop-level.invariant.few;
      greatest = λ d list lt le h. many c.loop-level._level d list c.loop-level.invariant.all lt h;
    } in
    subst (λ x. IsFrontier x (min c.args.bound c.args.depth) c.loop-level.pieces.items) same frontier)

pub returns-in-None-clause-cover : goal.returns-in-None-clause-cover
returns-in-None-clause-cover c = λ s is.
    (let same : c.loop-level.machine ≡ s = start_same c.args.component.now c.args.matrix.now c.loop-level.machine s c.loop-level.invariant.start is in
    let within : c.loop-level._level ≤ c.args.bound = omega arith in
    subst (λ x. IsCover x c.args.bound c.loop-level.pieces.items) same (pieces_cover c.loop-level.machine c.loop-level._level c.args.bound c.loop-level.pieces.items c.loop-level.invariant.all within))

pub loop-level-preserved : goal.loop-level-preserved
loop-level-preserved c =
    let home : c.go_deeper.new.machine ≡ c.loop-level.machine = c.in_ok-go_deeper.ensures.home in
    let all : AreAll (IsPieceAt c.loop-level.machine c.loop-level._level) c.deref.result.now = rw c.deref.ensures.value c.loop-level.invariant.all in
    let few : length c.in-Some.next.items ≤ 65536 = rw c.in-Some.is at c.in_ok-go_deeper.ensures.few in
    let some = rw c.in-Some.is at c.in_ok-go_deeper.ensures.some in
    let deeper : AreAll (IsPieceAt c.loop-level.machine (c.loop-level._level + 1)) c.in-Some.next.items = some c.loop-level._level all in
    record {
      start = subst (IsStart c.args.component.now c.args.matrix.now) (sym home) c.loop-level.invariant.start;
      few = few;
      all = subst (λ x. AreAll (IsPieceAt x (c.loop-level._level + 1)) c.in-Some.next.items) (sym home) deeper;
    }

pub returns-clause-cover : goal.returns-clause-cover
returns-clause-cover c = λ s is.
    (let same : c.loop-level.machine ≡ s = start_same c.args.component.now c.args.matrix.now c.loop-level.machine s c.loop-level.invariant.start is in
    let within : c.loop-level._level ≤ c.args.bound = omega arith in
    subst (λ x. IsCover x c.args.bound c.loop-level.pieces.items) same (pieces_cover c.loop-level.machine c.loop-level._level c.args.bound c.loop-level.pieces.items c.loop-level.invariant.all within))

pub returns-clause-frontier : goal.returns-clause-frontier
returns-clause-frontier c = λ s is.
    (let same : c.loop-level.machine ≡ s = start_same c.args.component.now c.args.matrix.now c.loop-level.machine s c.loop-level.invariant.start is in
    let end = c.loop-level-test.false in
    let most = c.min-level-end.ensures in
    let depth = c.from.ensures in
    let frontier : IsFrontier c.loop-level.machine (min c.args.bound c.args.depth) c.loop-level.pieces.items = record {
      depth = c.loop-level._level;
      within = omega arith;
      all = c.loop-level.invariant.all;
      few = c.loop-level.invariant.few;
      greatest = λ d list lt le h. absurd (omega arith);
    } in
    subst (λ x. IsFrontier x (min c.args.bound c.args.depth) c.loop-level.pieces.items) same frontier)
