use Rattle.std.proofs.Common.{arith, refl, sym, take, drop}
use Rattle.std.proofs.lemmas.List.{take-append-drop}
use Rattle.lu_spec.proofs.Sets.{serial_begin}
use Rattle.lu_spec.proofs.Listings.{one_longer, whole_added}
use Rattle.lu_spec.proofs.reader.add_beginnings.Goals as goal

pub insert-requires : goal.insert-requires
insert-requires g c = serial_begin (take c.loop-end.end c.args.history.now) c.args.history.now (drop c.loop-end.end c.args.history.now, sym (take-append-drop c.loop-end.end c.args.history.now)) c.requires

pub loop-end-preserved : goal.loop-end-preserved
loop-end-preserved g c = one_longer c.args.set.now c.loop-end.set c.insert.new.self c.args.history.now (take c.loop-end.end c.args.history.now) c.loop-end.end (omega arith) refl c.loop-end.invariant c.in_ok-insert.ensures.ok

pub returns : goal.returns
returns g c = whole_added c.args.set.now c.loop-end.set c.insert-2.new.self c.args.history.now c.loop-end.end (omega arith) c.loop-end.invariant c.in_ok-insert-2.ensures.ok
