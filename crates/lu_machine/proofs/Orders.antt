-- The order of schedules.
use Rattle.std.proofs.Common.{◌≡◌, ◌∙◌, ◌⊎◌, ℕ, List, [], ◌∷◌, ◌++◌, ◌+◌, ◌-◌, length, take, length-append, refl, sym, ap, subst, inl, inr, arith}
use Rattle.std.proofs.lemmas.List.{take_at}
use Rattle.std.proofs.lemmas.Bool.{cases_lt}
use Rattle.lu_test.specs.declared.schedule.Move.{Move}
use Rattle.lu_machine.specs.Order.{IsMoveBelow, IsSmaller}
use Rattle.lu_machine.specs.Schedules.{BeginsWith}

pub same_move : (m n : Move) → m.thread ≡ n.thread → m.pick ≡ n.pick → m ≡ n
same_move m n e f =
    let first : m ≡ record { thread = n.thread; pick = m.pick } = ap (λ (t : ℕ). let x : Move = record { thread = t; pick = m.pick } in x) e in
    let second : record { thread = n.thread; pick = m.pick } ≡ n = ap (λ (p : ℕ). let x : Move = record { thread = n.thread; pick = p } in x) f in
    first ∙ second

move_below_itself : (m n : Move) → m ≡ n → IsMoveBelow m n → ⊥
move_below_itself m n e (inl h) = let t : m.thread ≡ n.thread = ap (λ x. x.thread) e in omega arith
move_below_itself m n e (inr h) = let t : m.pick ≡ n.pick = ap (λ x. x.pick) e in omega arith

move_below_asym : (m n : Move) → IsMoveBelow m n → IsMoveBelow n m → ⊥
move_below_asym m n (inl h) (inl k) = omega arith
move_below_asym m n (inl h) (inr k) = omega arith
move_below_asym m n (inr h) (inl k) = omega arith
move_below_asym m n (inr h) (inr k) = omega arith

pub smaller_asym : (u v : List Move) → IsSmaller u v → IsSmaller v u → ⊥
smaller_asym [] [] h k = h
smaller_asym [] (n ∷ v) h k = k
smaller_asym (m ∷ u) [] h k = h
smaller_asym (m ∷ u) (n ∷ v) (inl h) (inl k) = move_below_asym m n h k
smaller_asym (m ∷ u) (n ∷ v) (inl h) (inr k) = move_below_itself m n (sym k.0) h
smaller_asym (m ∷ u) (n ∷ v) (inr h) (inl k) = move_below_itself n m (sym h.0) k
smaller_asym (m ∷ u) (n ∷ v) (inr h) (inr k) = smaller_asym u v h.1 k.1

-- of two schedules of which the smaller is no beginning of the other, all that goes on from the one is below all that goes on from the other
pub smaller_extends : (p q x y : List Move) → IsSmaller p q → (BeginsWith q p → ⊥) → IsSmaller (p ++ x) (q ++ y)
smaller_extends p [] x y h apart = absurd h
smaller_extends [] (n ∷ q) x y h apart = absurd (apart (n ∷ q, refl))
smaller_extends (m ∷ p) (n ∷ q) x y (inl h) apart = inl h
smaller_extends (m ∷ p) (n ∷ q) x y (inr h) apart =
    inr (h.0, smaller_extends p q x y h.1 (λ b. apart (b.0, (let e : m ≡ n = h.0 in let f : q ≡ p ++ b.0 = b.1 in cc))))

-- the same at two moves after a common beginning
pub smaller_branch : (u : List Move) (m n : Move) (x y : List Move) → IsMoveBelow m n → IsSmaller ((u ++ m ∷ []) ++ x) ((u ++ n ∷ []) ++ y)
smaller_branch [] m n x y h = inl h
smaller_branch (k ∷ u) m n x y h = inr (refl, smaller_branch u m n x y h)

-- of two moves one is below the other, or they are the same
pub move_cases : (m n : Move) → (IsMoveBelow m n ⊎ IsMoveBelow n m) ⊎ (m ≡ n)
move_cases m n =
    elim (cases_lt m.thread n.thread) [
      | inl a ↦ inl (inl (inl a))
      | inr a ↦ elim (cases_lt n.thread m.thread) [
        | inl b ↦ inl (inr (inl b))
        | inr b ↦ elim (cases_lt m.pick n.pick) [
          | inl c ↦ inl (inl (inr (omega arith, c)))
          | inr c ↦ elim (cases_lt n.pick m.pick) [
            | inl d ↦ inl (inr (inr (omega arith, d)))
            | inr d ↦ inr (same_move m n (omega arith) (omega arith))
          ]
        ]
      ]
    ]

-- of two schedules one is smaller, or they are the same
pub smaller_cases : (u v : List Move) → (IsSmaller u v ⊎ IsSmaller v u) ⊎ (u ≡ v)
smaller_cases [] [] = inr refl
smaller_cases [] (n ∷ v) = inl (inl tt)
smaller_cases (m ∷ u) [] = inl (inr tt)
smaller_cases (m ∷ u) (n ∷ v) =
    elim (move_cases m n) [
      | inl x ↦ elim x [ inl a ↦ inl (inl (inl a)) | inr b ↦ inl (inr (inl b)) ]
      | inr e ↦ elim (smaller_cases u v) [
        | inl x ↦ elim x [ inl a ↦ inl (inl (inr (e, a))) | inr b ↦ inl (inr (inr (sym e, b))) ]
        | inr f ↦ inr (cc)
      ]
    ]

move_below_trans : (k m n : Move) → IsMoveBelow k m → IsMoveBelow m n → IsMoveBelow k n
move_below_trans k m n (inl h) (inl i) = inl (omega arith)
move_below_trans k m n (inl h) (inr i) = inl (omega arith)
move_below_trans k m n (inr h) (inl i) = inl (omega arith)
move_below_trans k m n (inr h) (inr i) = inr (omega arith, omega arith)

pub smaller_trans : (u v w : List Move) → IsSmaller u v → IsSmaller v w → IsSmaller u w
smaller_trans u v [] h i = absurd i
smaller_trans u [] (n ∷ w) h i = absurd h
smaller_trans [] (m ∷ v) (n ∷ w) h i = tt
smaller_trans (k ∷ u) (m ∷ v) (n ∷ w) (inl h) (inl i) = inl (move_below_trans k m n h i)
smaller_trans (k ∷ u) (m ∷ v) (n ∷ w) (inl h) (inr i) = inl (subst (IsMoveBelow k) i.0 h)
smaller_trans (k ∷ u) (m ∷ v) (n ∷ w) (inr h) (inl i) = inl (subst (λ x. IsMoveBelow x n) (sym h.0) i)
smaller_trans (k ∷ u) (m ∷ v) (n ∷ w) (inr h) (inr i) = inr (h.0 ∙ i.0, smaller_trans u v w h.1 i.1)

pub smaller_longer : (v u x : List Move) → IsSmaller v u → IsSmaller v (u ++ x)
smaller_longer v [] x h = absurd h
smaller_longer [] (n ∷ u) x h = tt
smaller_longer (m ∷ v) (n ∷ u) x (inl h) = inl h
smaller_longer (m ∷ v) (n ∷ u) x (inr h) = inr (h.0, smaller_longer v u x h.1)

pub smaller_begins : (u : List Move) (m : Move) → IsSmaller u (u ++ m ∷ [])
smaller_begins [] m = tt
smaller_begins (n ∷ u) m = inr (refl, smaller_begins u m)

-- what is smaller than u with one more move is smaller than u, or u itself, or goes on from u by a smaller move
pub between : (u v : List Move) (m : Move) → IsSmaller v (u ++ m ∷ []) → (IsSmaller v u ⊎ (v ≡ u)) ⊎ ((n : Move) × IsMoveBelow n m × BeginsWith v (u ++ n ∷ []))
between [] [] m h = inl (inr refl)
between [] (n ∷ v) m (inl h) = inr (n, h, (v, refl))
between [] (n ∷ v) m (inr h) = absurd h.1
between (k ∷ u) [] m h = inl (inl tt)
between (k ∷ u) (n ∷ v) m (inl h) = inl (inl (inl h))
between (k ∷ u) (n ∷ v) m (inr h) =
    elim (between u v m h.1) [
      | inl x ↦ elim x [ inl a ↦ inl (inl (inr (h.0, a))) | inr b ↦ inl (inr (let e = h.0 in cc)) ]
      | inr x ↦ inr (x.0, x.1, (x.2.0, (let e = h.0 in let f = x.2.1 in cc)))
    ]

pub move_below_not : (m n : Move) → IsMoveBelow m n → m ≡ n → ⊥
move_below_not m n h e = move_below_itself m n e h

pub move_below_back : (m n : Move) → IsMoveBelow m n → IsMoveBelow n m → ⊥
move_below_back m n h k = move_below_asym m n h k

-- the same at two moves that are the last
pub smaller_last : (u : List Move) (m n : Move) → IsMoveBelow m n → IsSmaller (u ++ m ∷ []) (u ++ n ∷ [])
smaller_last [] m n h = inl h
smaller_last (k ∷ u) m n h = inr (refl, smaller_last u m n h)

-- and where more moves follow the smaller one
pub smaller_on : (u : List Move) (m n : Move) (x : List Move) → IsMoveBelow m n → IsSmaller ((u ++ m ∷ []) ++ x) (u ++ n ∷ [])
smaller_on [] m n x h = inl h
smaller_on (k ∷ u) m n x h = inr (refl, smaller_on u m n x h)

-- a list without what was pushed last
pub popped : {X : Type 0} (p q : List X) (m : X) (n : ℕ) → q ≡ p ++ m ∷ [] → n ≡ length q → take (n - 1) q ≡ p
popped p q m n e f =
    let l : length q ≡ length p + 1 = ap length e ∙ length-append p (m ∷ []) in
    let k : length p ≡ n - 1 = omega arith in
    rw e (take_at p (m ∷ []) (n - 1) k)
