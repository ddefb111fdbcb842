use Rattle.std.proofs.Common.{rules, arith, ◌≡◌, ◌∷◌, [], All, length, length-append, ap, subst, sym}
use Rattle.std.specs.Vec.Iter.{into_iter_items}
use Rattle.std.proofs.lemmas.List.Elements.{All-push}
use Rattle.lu_parallel.specs.Works.{IsFresh, IsSpentWork}
use Rattle.lu_parallel.proofs.Ends.{all_rest}
use Rattle.lu_check_tests.proofs.checks.work_in_turn.Goals as goal

pub loop-seat-preserved : goal.loop-seat-preserved
loop-seat-preserved g c =
    let was = c.loop-seat.invariant in
    let rest = into_iter_items c.loop-seat.seat-iterator in
    let more = into_iter_items c.next.new.self in
    let seat = c.in-Some.seat in
    let is : rest ≡ seat ∷ more = search rules in
    let works = c.loop-seat.works.items in
    let one = c.work.result in
    let pushed = c.in_ok-push.ensures.items in (
      all_rest (IsFresh c.args.board.now.board) rest seat more is was.0,
      (let a = ap length is in let b = ap length pushed in let d = length-append works (one ∷ []) in let e = was.1 in omega (arith, a, b, d, e)),
      subst (All (IsSpentWork c.args.board.now.board)) (sym pushed) (All-push (IsSpentWork c.args.board.now.board) works one was.2 c.work.ensures.over),
    )
