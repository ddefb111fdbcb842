use Rattle.std.proofs.Common.{Contains}
use Rattle.std.specs.Vec.Iter.{into_iter_items}
use Rattle.lu_parallel.specs.declared.works.FoundPiece.{FoundPiece}
use Rattle.lu_parallel.specs.Works.{found_pieces}
use Rattle.lu_parallel.proofs.conclusion.entry_of.Given as goal

abbrev pub invariant-loop-entry : goal.invariant-loop-entry
invariant-loop-entry l =
    (Contains (found_pieces l.fn.found.items) l.piece → Contains (found_pieces (into_iter_items l.entry-iterator)) l.piece)
    × ((entry : FoundPiece) → Contains (into_iter_items l.entry-iterator) entry → Contains l.fn.found.items entry)
