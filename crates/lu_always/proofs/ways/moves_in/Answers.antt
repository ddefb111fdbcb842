use Rattle.std.proofs.Common.{◌≡◌, ◌++◌, [], ◌∷◌, List, sym, ◌∙◌, ap, append_assoc}
use Rattle.lu_test.specs.declared.schedule.Move.{Move}
use Rattle.lu_always.specs.declared.stored.Arrival.{Arrival}
use Rattle.lu_always.specs.Searching.{moves_of}
use Rattle.lu_always.specs.Ways.{all_moves}
use Rattle.lu_always.proofs.Backwards.{first_moves}
use Rattle.lu_always.proofs.ways.moves_in.Goals as goal

pub loop-arrival-preserved : goal.loop-arrival-preserved
loop-arrival-preserved c =
    let a : Arrival = c.in-Some.arrival in
    let before : List Arrival = c.pop.new.self.items in
    let popped : c.loop-arrival.back.items ≡ before ++ a ∷ [] = rw c.in-Some.is at c.pop.ensures.items in
    c.loop-arrival.invariant
    ∙ (ap (λ (xs : List Arrival). c.loop-arrival.moves.items ++ all_moves xs) popped
    ∙ (ap (λ (u : List Move). c.loop-arrival.moves.items ++ u) (first_moves before a)
    ∙ (sym (append_assoc c.loop-arrival.moves.items (moves_of a) (all_moves before))
    ∙ ap (λ (u : List Move). u ++ all_moves before) (sym c.in_ok-push_moves.ensures))))
