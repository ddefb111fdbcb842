use Rattle.std.proofs.Common.{◌++◌, [], List, sym, ◌∙◌, subst}
use Rattle.std.proofs.lemmas.List.{append-nil}
use Rattle.lu_always.specs.declared.stored.Arrival.{Arrival}
use Rattle.lu_always.specs.Ways.{AreBack}
use Rattle.lu_always.proofs.ways.arrivals_back.Goals as goal

pub returns : goal.returns
returns c =
    let list = c.args.all.now in
    let found : List Arrival = c.loop-arrival.back.items in
    let back : AreBack list c.args.index (found ++ []) = c.loop-arrival.invariant.onward [] (c.loop-arrival.invariant.within, sym c.arrival.ensures ∙ c.in_default.is) in
    subst (AreBack list c.args.index) (append-nil found) back
