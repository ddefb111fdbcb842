use Rattle.std.proofs.Common.{arith, ◌≡◌, ◌+◌, ◌<◌, length, Some, slice_get, refl, sym, ◌∙◌, subst}
use Rattle.std.proofs.lemmas.Option.{slice_get_read}
use Rattle.lu_machine.specs.Schedules.{AreAll, IsSchedule}
use Rattle.lu_pieces.specs.Frontiers.{IsPieceAt}
use Rattle.lu_pieces.specs.Pieces.{AreKids}
use Rattle.lu_pieces.proofs.PieceLists.{UnderFirst, lists_at, too_many, level_more, level_all}
use Rattle.lu_pieces.proofs.pieces.go_deeper.Goals as goal

pub deepen-requires-clause-short : goal.deepen-requires-clause-short
deepen-requires-clause-short c =
    let within : c.loop-piece.piece-index < length c.args.pieces.now = omega arith in
    let is : slice_get c.args.pieces.now c.loop-piece.piece-index ≡ Some c.piece-item.result = slice_get_read c.args.pieces.now (length c.args.pieces.now) c.loop-piece.piece-index c.piece-item.result refl within c.piece-item.is in
    c.requires.short c.piece-item.result (lists_at c.args.pieces.now c.loop-piece.piece-index c.piece-item.result is)

pub deepen-requires-clause-leads : goal.deepen-requires-clause-leads
deepen-requires-clause-leads c =
    let within : c.loop-piece.piece-index < length c.args.pieces.now = omega arith in
    let is : slice_get c.args.pieces.now c.loop-piece.piece-index ≡ Some c.piece-item.result = slice_get_read c.args.pieces.now (length c.args.pieces.now) c.loop-piece.piece-index c.piece-item.result refl within c.piece-item.is in
    subst (λ x. IsSchedule x c.piece-item.result) (sym c.loop-piece.invariant.same) (c.requires.leads c.piece-item.result (lists_at c.args.pieces.now c.loop-piece.piece-index c.piece-item.result is))

pub returns-then-len-gt-MOST_PIECES-clause-none : goal.returns-then-len-gt-MOST_PIECES-clause-none
returns-then-len-gt-MOST_PIECES-clause-none c =
    let within : c.loop-piece.piece-index < length c.args.pieces.now = omega arith in
    let is : slice_get c.args.pieces.now c.loop-piece.piece-index ≡ Some c.piece-item.result = slice_get_read c.args.pieces.now (length c.args.pieces.now) c.loop-piece.piece-index c.piece-item.result refl within c.piece-item.is in
    let kids = c.in_ok-deepen.ensures.kids in
    let are : AreKids c.args.machine.now c.piece-item.result c.piece-item.result kids.0 = subst (λ x. AreKids x c.piece-item.result c.piece-item.result kids.0) c.loop-piece.invariant.same kids.2 in
    let many : 65536 < length c.deepen.new.next.items = omega (arith, c.deepen.new.next.ok.0) in
    too_many c.args.machine.now c.args.pieces.now c.loop-piece.piece-index c.piece-item.result c.loop-piece.next.items kids.0 c.deepen.new.next.items is c.loop-piece.invariant.all are kids.1 many

pub loop-piece-preserved : goal.loop-piece-preserved
loop-piece-preserved c =
    let within : c.loop-piece.piece-index < length c.args.pieces.now = omega arith in
    let is : slice_get c.args.pieces.now c.loop-piece.piece-index ≡ Some c.piece-item.result = slice_get_read c.args.pieces.now (length c.args.pieces.now) c.loop-piece.piece-index c.piece-item.result refl within c.piece-item.is in
    let kids = c.in_ok-deepen.ensures.kids in
    let are : AreKids c.args.machine.now c.piece-item.result c.piece-item.result kids.0 = subst (λ x. AreKids x c.piece-item.result c.piece-item.result kids.0) c.loop-piece.invariant.same kids.2 in
    record {
      same = c.in_ok-deepen.ensures.home ∙ c.loop-piece.invariant.same;
      few = omega (arith, c.deepen.new.next.ok.0);
      all = λ d all. rw kids.1 (level_more c.args.machine.now d c.args.pieces.now all c.loop-piece.piece-index c.piece-item.result c.loop-piece.next.items kids.0 is (c.loop-piece.invariant.all d all) are);
    }

pub returns-clause-some : goal.returns-clause-some
returns-clause-some c = λ d all.
    (let e : c.loop-piece.piece-index ≡ length c.args.pieces.now = omega arith in
    let h : AreAll (λ v. UnderFirst c.args.pieces.now (length c.args.pieces.now) v × IsPieceAt c.args.machine.now (d + 1) v) c.loop-piece.next.items = rw (← e) (c.loop-piece.invariant.all d all) in
    level_all c.args.machine.now d c.args.pieces.now c.loop-piece.next.items all h)
