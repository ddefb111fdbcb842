use Rattle.std.proofs.Common.{rules, ◌≡◌, ◌∷◌, List, Contains, sym, subst}
use Rattle.std.specs.Vec.Iter.{into_iter_items}
use Rattle.lu_parallel.specs.declared.works.FoundPiece.{FoundPiece}
use Rattle.lu_parallel.specs.Works.{found_pieces}
use Rattle.lu_parallel.proofs.Ends.{has_later, has_tail}
use Rattle.lu_parallel.proofs.conclusion.entry_of.Goals as goal

pub loop-entry-preserved : goal.loop-entry-preserved
loop-entry-preserved c =
    let was = c.loop-entry.invariant in
    let rest = into_iter_items c.loop-entry.entry-iterator in
    let more = into_iter_items c.next.new.self in
    let one = c.in-Some.entry in
    let is : rest ≡ one ∷ more = search rules in (
      λ has. has_tail one.piece c.args.piece (found_pieces more) (subst (λ (x : List FoundPiece). Contains (found_pieces x) c.args.piece) is (was.0 has)) (search rules),
      λ entry has. was.1 entry (subst (λ (x : List FoundPiece). Contains x entry) (sym is) (has_later one entry more has)),
    )
