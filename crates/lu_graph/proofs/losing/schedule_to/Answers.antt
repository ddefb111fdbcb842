use Rattle.std.proofs.Common.{arith, ◌≡◌, ◌<◌, List, length, get_or, sym, ap, subst}
use Rattle.std.specs.Prelude.{All}
use Rattle.std.proofs.lemmas.List.{length_push}
use Rattle.std.proofs.lemmas.List.Elements.{All-get_or, All-nil, All-push}
use Rattle.std.proofs.lemmas.Option.{slice_get-get_or}
use Rattle.lu_test.specs.declared.schedule.Move.{Move}
use Rattle.lu_test.specs.Schedule.{IsMove}
use Rattle.lu_graph.specs.declared.discovering.Discovery.{Discovery}
use Rattle.lu_graph.specs.Discovering.{discovery}
use Rattle.lu_graph.proofs.WayBack.{goes_long, goes_more, goes_none}
use Rattle.lu_graph.proofs.losing.schedule_to.Goals as goal

pub loop-at-init : goal.loop-at-init
loop-at-init c = record {
  within = c.requires.there;
  few = (let empty = ap (λ (x : List Move). length x) c.new-moves.ensures.items in omega (arith, empty));
  moves = subst (All IsMove) (sym c.new-moves.ensures.items) (All-nil IsMove);
  goes = goes_none c.args.ways.now c.args.number c.new-moves.result.items c.requires.there c.new-moves.ensures.items;
}

pub returns-then-len-eq-MOST_LISTED_MOVES : goal.returns-then-len-eq-MOST_LISTED_MOVES
returns-then-len-eq-MOST_LISTED_MOVES c =
    let many : length c.loop-at.moves.items ≡ 4112 = omega (arith, c.len.ensures, c.loop-at.moves.ok.0, c.if-len-eq-MOST_LISTED_MOVES.true) in
    goes_long c.args.ways.now c.args.number c.loop-at.at c.loop-at.moves.items c.loop-at-test.true c.loop-at.invariant.within many c.loop-at.invariant.goes

pub loop-at-smaller : goal.loop-at-smaller
loop-at-smaller c = c.requires.order c.loop-at.at _ c.loop-at-test.true (slice_get-get_or c.args.ways.now c.loop-at.at (discovery 0 (record { thread = 0; pick = 0 })) c.loop-at.invariant.within)

pub loop-at-preserved : goal.loop-at-preserved
loop-at-preserved c =
    let way : Discovery = get_or c.args.ways.now c.loop-at.at (discovery 0 (record { thread = 0; pick = 0 })) in
    let there = slice_get-get_or c.args.ways.now c.loop-at.at (discovery 0 (record { thread = 0; pick = 0 })) c.loop-at.invariant.within in
    let less : way.from < c.loop-at.at = c.requires.order c.loop-at.at way c.loop-at-test.true there in
    let within = c.loop-at.invariant.within in
    let long = ap (λ (x : List Move). length x) c.in_ok-push.ensures.items in
    let one = length_push c.loop-at.moves.items way.made in
    record {
      within = omega (arith, less, within);
      few = omega (arith, long, one, c.loop-at.invariant.few, c.len.ensures, c.loop-at.moves.ok.0, c.if-len-eq-MOST_LISTED_MOVES.false);
      moves = subst (All IsMove) (sym c.in_ok-push.ensures.items) (All-push IsMove c.loop-at.moves.items way.made c.loop-at.invariant.moves (All-get_or (λ (d : Discovery). IsMove d.made) c.args.ways.now c.loop-at.at (discovery 0 (record { thread = 0; pick = 0 })) within c.requires.moves));
      goes = goes_more c.args.ways.now c.args.number c.loop-at.at way c.loop-at.moves.items c.push.new.self.items c.loop-at-test.true there c.in_ok-push.ensures.items c.loop-at.invariant.goes;
    }
