use Rattle.std.proofs.Common.{subst}
use Rattle.lu_tree.specs.Known.{Moves}
use Rattle.lu_tree.specs.Reordered.{AreUnordered}
use Rattle.lu_tree.proofs.Accessing.{moves_event}
use Rattle.lu_tree.proofs.commuting.are_free.Goals as goal

pub returns-clause-free : goal.returns-clause-free
returns-clause-free g c =
    let s = c.args.machine.now in
    let one = c.event_of-one.ensures.event in
    let other = subst (λ x. Moves c.args.second x c.event_of-other.ensures.event.0 c.event_of-other.result) c.event_of-one.ensures.machine c.event_of-other.ensures.event.1 in (
      λ is. λ r d e f first second.
          (let unordered : AreUnordered c.event_of-one.result c.event_of-other.result = c.are_unordered.ensures.0 is in
          rw (moves_event c.args.first s r one.0 e c.event_of-one.result first one.1, moves_event c.args.second s d c.event_of-other.ensures.event.0 f c.event_of-other.result second other) unordered),
      λ free. c.are_unordered.ensures.1 (free one.0 c.event_of-other.ensures.event.0 c.event_of-one.result c.event_of-other.result one.1 other),
    )
