use Rattle.std.proofs.Common.{rules, ◌≡◌}
use Rattle.std.specs.Vec.Iter.{into_iter_items}
use Rattle.std.proofs.lemmas.List.Elements.{All-contains_itself}
use Rattle.lu_tree.specs.Known.{kids_of}
use Rattle.lu_tree.proofs.KnownLaws.{first_and_rest, kids_more_told, no_kids_told, tells_no_more}
use Rattle.lu_tree.proofs.known.Known.+within.Goals as goal

pub returns-then-moves-eq0 : goal.returns-then-moves-eq0
returns-then-moves-eq0 t c =
    tells_no_more c.args.self c.alone-known.result c.alone-known.ensures.counts (no_kids_told c.args.self c.alone-known.result c.alone-known.ensures.kids)

pub loop-thread-init : goal.loop-thread-init
loop-thread-init t c =
    let all : into_iter_items c.into_iter-thread-iterator.result ≡ kids_of c.args.self = search rules in
    record {
      counts = c.alone-known.ensures.counts;
      rest = rw all (All-contains_itself (kids_of c.args.self));
      kids = no_kids_told c.args.self c.alone-known.result c.alone-known.ensures.kids;
    }

pub loop-thread-preserved : goal.loop-thread-preserved
loop-thread-preserved t c =
    let i = c.loop-thread.invariant in
    let here = first_and_rest (kids_of c.args.self) (into_iter_items c.loop-thread.thread-iterator) (into_iter_items c.next.new.self) (c.in-Some.thread, c.in-Some.below) (search rules) i.rest in
    record {
      counts = search (rules, i.counts);
      rest = here.1;
      kids = kids_more_told c.args.self c.loop-thread.known c.keep.new.self c.in-Some.thread c.in-Some.below c.in_ok-nearer.nearer i.kids c.keep.ensures.kids here.0 c.in_ok-nearer.ensures;
    }

pub returns : goal.returns
returns t c =
    let i = c.loop-thread.invariant in
    tells_no_more c.args.self c.loop-thread.known i.counts i.kids

pub loop-thread-preserved-then-is_empty : goal.loop-thread-preserved-then-is_empty
loop-thread-preserved-then-is_empty t c =
    let i = c.loop-thread.invariant in
    let here = first_and_rest (kids_of c.args.self) (into_iter_items c.loop-thread.thread-iterator) (into_iter_items c.next.new.self) (c.in-Some.thread, c.in-Some.below) (search rules) i.rest in
    record {
      counts = i.counts;
      rest = here.1;
      kids = i.kids;
    }
