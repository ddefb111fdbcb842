-- The order in which a breadth-first search meets schedules.
use Rattle.std.proofs.Common.{arith, ◌≡◌, ◌<◌, List, [], ◌∷◌, ◌++◌, length, sym, ◌∙◌, ap, subst, inl, inr}
use Rattle.std.proofs.lemmas.List.{length_push}
use Rattle.lu_test.specs.declared.schedule.Move.{Move}
use Rattle.lu_machine.specs.Order.{IsMoveBelow, IsSmaller}
use Rattle.lu_machine.proofs.Orders.{smaller_asym, smaller_last, smaller_trans}
use Rattle.lu_graph.specs.Discovering.{IsEarlier, IsNoLater}

-- of two schedules of one length, what goes on from the smaller is smaller
smaller_on : (u v x y : List Move) → length u ≡ length v → IsSmaller u v → IsSmaller (u ++ x) (v ++ y)
smaller_on u [] x y same h = absurd h
smaller_on [] (n ∷ v) x y same h = absurd (omega (arith, same))
smaller_on (m ∷ u) (n ∷ v) x y same (inl h) = inl h
smaller_on (m ∷ u) (n ∷ v) x y same (inr h) = inr (h.0, smaller_on u v x y (omega (arith, same)) h.1)

pub earlier_trans : (u v w : List Move) → IsEarlier u v → IsEarlier v w → IsEarlier u w
earlier_trans u v w (inl a) (inl b) = inl (omega (arith, a, b))
earlier_trans u v w (inl a) (inr b) = let same = b.0 in inl (omega (arith, a, same))
earlier_trans u v w (inr a) (inl b) = let same = a.0 in inl (omega (arith, b, same))
earlier_trans u v w (inr a) (inr b) = inr (a.0 ∙ b.0, smaller_trans u v w a.1 b.1)

pub not_later_then : (u v w : List Move) → IsNoLater u v → IsEarlier v w → IsEarlier u w
not_later_then u v w (inl same) b = subst (λ (x : List Move). IsEarlier x w) (sym same) b
not_later_then u v w (inr a) b = earlier_trans u v w a b

pub no_later_trans : (u v w : List Move) → IsNoLater u v → IsNoLater v w → IsNoLater u w
no_later_trans u v w (inl same) b = subst (λ (x : List Move). IsNoLater x w) (sym same) b
no_later_trans u v w (inr a) (inl same) = subst (λ (x : List Move). IsNoLater u x) same (inr a)
no_later_trans u v w (inr a) (inr b) = inr (earlier_trans u v w a b)

pub earlier_push : (u v : List Move) (m n : Move) → IsEarlier u v → IsEarlier (u ++ m ∷ []) (v ++ n ∷ [])
earlier_push u v m n (inl a) = let x = length_push u m in let y = length_push v n in inl (omega (arith, a, x, y))
earlier_push u v m n (inr a) =
    let x = length_push u m in
    let y = length_push v n in
    let same = a.0 in
    inr (omega (arith, same, x, y), smaller_on u v (m ∷ []) (n ∷ []) same a.1)

pub no_later_push : (u v : List Move) (m : Move) → IsNoLater u v → IsNoLater (u ++ m ∷ []) (v ++ m ∷ [])
no_later_push u v m (inl same) = inl (ap (λ (x : List Move). x ++ m ∷ []) same)
no_later_push u v m (inr a) = inr (earlier_push u v m m a)

-- the same schedule, and then one move or a greater one
pub earlier_last : (u : List Move) (m n : Move) → IsMoveBelow m n → IsEarlier (u ++ m ∷ []) (u ++ n ∷ [])
earlier_last u m n below = let x = length_push u m in let y = length_push u n in inr (omega (arith, x, y), smaller_last u m n below)

-- one that is no later is not longer, and of one length the other is not smaller
pub not_longer : (u v : List Move) → IsNoLater u v → length v < length u → ⊥
not_longer u v (inl same) less = let e = ap length same in omega (arith, e, less)
not_longer u v (inr (inl a)) less = omega (arith, a, less)
not_longer u v (inr (inr a)) less = let same = a.0 in omega (arith, same, less)

pub not_smaller : (u v : List Move) → IsNoLater u v → length v ≡ length u → IsSmaller v u → ⊥
not_smaller u v (inl same) long less = let one = subst (λ (x : List Move). IsSmaller v x) same less in smaller_asym v v one one
not_smaller u v (inr (inl a)) long less = omega (arith, a, long)
not_smaller u v (inr (inr a)) long less = smaller_asym u v a.1 less
