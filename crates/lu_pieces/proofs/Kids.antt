-- The moves of a state, as far as they are listed, and what a piece becomes with them.
use Rattle.std.proofs.Common.{◌≡◌, ℕ, zero, suc, ◌+◌, ◌<◌, ◌≤◌, ◌⊎◌, List, [], ◌∷◌, ◌++◌, length, slice_get, Some, refl, sym, ◌∙◌, ap, subst, inl, inr, arith, append_assoc, length-append}
use Rattle.std.proofs.lemmas.Bool.{cases_lt}
use Rattle.std.proofs.lemmas.List.{append-nil}
use Rattle.std.proofs.lemmas.Option.{same_Some, slice_get_within}
use Rattle.lu_test.specs.declared.schedule.Move.{Move}
use Rattle.lu_machine.specs.States.{State}
use Rattle.lu_machine.specs.Steps.{IsFeasible, picks_of}
use Rattle.lu_machine.specs.Ends.{HasMove, HasNoMove}
use Rattle.lu_machine.specs.Order.{IsMoveBelow}
use Rattle.lu_machine.proofs.Orders.{same_move}
use Rattle.lu_pieces.specs.Pieces.{AreMovesOf, HasKids, with_each}
use Rattle.lu_machine.proofs.Moves.{feasible_within}

slice_get_push : {A : Type 0} (xs : List A) (y : A) (k : ℕ) (m : A) → slice_get (xs ++ y ∷ []) k ≡ Some m → (slice_get xs k ≡ Some m) ⊎ ((k ≡ length xs) × (y ≡ m))
slice_get_push [] y zero m h = inr (refl, same_Some y m h)
slice_get_push [] y (suc k) m h = inl h
slice_get_push (x ∷ xs) y zero m h = inl h
slice_get_push (x ∷ xs) y (suc k) m h =
    elim (slice_get_push xs y k m h) [ inl a ↦ inl a | inr a ↦ inr (ap suc a.0, a.1) ]

slice_get_push_old : {A : Type 0} (xs : List A) (y : A) (k : ℕ) (m : A) → slice_get xs k ≡ Some m → slice_get (xs ++ y ∷ []) k ≡ Some m
slice_get_push_old [] y k m h = absurd (cc)
slice_get_push_old (x ∷ xs) y zero m h = h
slice_get_push_old (x ∷ xs) y (suc k) m h = slice_get_push_old xs y k m h

slice_get_push_new : {A : Type 0} (xs : List A) (y : A) → slice_get (xs ++ y ∷ []) (length xs) ≡ Some y
slice_get_push_new [] y = refl
slice_get_push_new (x ∷ xs) y = slice_get_push_new xs y

-- the feasible moves below a limit, in order
record MovesBelow (s : State) (moves : List Move) (limit : Move) : Type 0 where
  feasible : (k : ℕ) (m : Move) → slice_get moves k ≡ Some m → IsFeasible s m
  below : (k : ℕ) (m : Move) → slice_get moves k ≡ Some m → IsMoveBelow m limit
  each : (m : Move) → IsFeasible s m → IsMoveBelow m limit → (k : ℕ) × (slice_get moves k ≡ Some m)
  rising : (i j : ℕ) (m n : Move) → i < j → slice_get moves i ≡ Some m → slice_get moves j ≡ Some n → IsMoveBelow m n

moves_none : (s : State) → MovesBelow s [] (record { thread = 0; pick = 0 })
moves_none s = record {
  feasible = λ k m h. absurd (cc);
  below = λ k m h. absurd (cc);
  each = λ m f b. elim b [ inl h ↦ absurd (omega arith) | inr h ↦ absurd (omega arith) ];
  rising = λ i j m n lt h k. absurd (cc);
}

moves_push : (s : State) (moves : List Move) (t p : ℕ) → IsFeasible s (record { thread = t; pick = p }) → MovesBelow s moves (record { thread = t; pick = p }) → MovesBelow s (moves ++ record { thread = t; pick = p } ∷ []) (record { thread = t; pick = p + 1 })
moves_push s moves t p here h =
    let y : Move = record { thread = t; pick = p } in
    record {
      feasible = λ k m g. elim (slice_get_push moves y k m g) [ inl a ↦ h.feasible k m a | inr a ↦ subst (IsFeasible s) a.1 here ];
      below = λ k m g. elim (slice_get_push moves y k m g) [
        | inl a ↦ elim (h.below k m a) [ inl b ↦ inl b | inr b ↦ inr (b.0, omega arith) ]
        | inr a ↦ (let e : t ≡ m.thread = ap (λ x. x.thread) a.1 in let f : p ≡ m.pick = ap (λ x. x.pick) a.1 in inr (omega arith, omega arith))
      ];
      each = λ m f b. elim b [
        | inl b ↦ (let old = h.each m f (inl b) in (old.0, slice_get_push_old moves y old.0 m old.1))
        | inr b ↦ elim (cases_lt m.pick p) [
          | inl lt ↦ (let old = h.each m f (inr (b.0, lt)) in (old.0, slice_get_push_old moves y old.0 m old.1))
          | inr ge ↦ (let is : y ≡ m = same_move y m (sym b.0) (omega arith) in (length moves, slice_get_push_new moves y ∙ ap Some is))
        ]
      ];
      rising = λ i j m n lt hi hj. elim (slice_get_push moves y j n hj) [
        | inl b ↦ elim (slice_get_push moves y i m hi) [
          | inl a ↦ h.rising i j m n lt a b
          | inr a ↦ (let within = slice_get_within moves j n b in absurd (omega arith))
        ]
        | inr b ↦ elim (slice_get_push moves y i m hi) [
          | inl a ↦ subst (IsMoveBelow m) b.1 (h.below i m a)
          | inr a ↦ absurd (omega arith)
        ]
      ];
    }

moves_turn : (s : State) (moves : List Move) (t p : ℕ) → picks_of s t ≤ p → MovesBelow s moves (record { thread = t; pick = p }) → MovesBelow s moves (record { thread = t + 1; pick = 0 })
moves_turn s moves t p all h =
    record {
      feasible = h.feasible;
      below = λ k m g. elim (h.below k m g) [ inl b ↦ inl (omega arith) | inr b ↦ inl (omega arith) ];
      each = λ m f b. elim b [
        | inl b ↦ elim (cases_lt m.thread t) [
          | inl lt ↦ h.each m f (inl lt)
          | inr ge ↦ (let e : m.thread ≡ t = omega arith in let same : picks_of s m.thread ≡ picks_of s t = ap (picks_of s) e in h.each m f (inr (e, omega arith)))
        ]
        | inr b ↦ absurd (omega arith)
      ];
      rising = h.rising;
    }

moves_all : (s : State) (moves : List Move) (n : ℕ) → length s.threads ≤ n → MovesBelow s moves (record { thread = n; pick = 0 }) → AreMovesOf s moves
moves_all s moves n e h =
    record {
      feasible = h.feasible;
      each = λ m f. h.each m f (let within = feasible_within s m f in inl (omega arith));
      rising = h.rising;
    }

-- no move is listed exactly where there is none
pub has_no_move : (s : State) (moves : List Move) → AreMovesOf s moves → length moves ≡ 0 → HasNoMove s
has_no_move s (m ∷ moves) are e t = absurd (omega arith)
has_no_move s [] are e t =
    elim (cases_lt 0 (picks_of s t)) [
      | inl some ↦ (let e = (are.each (record { thread = t; pick = 0 }) some).1 in absurd (cc))
      | inr none ↦ omega arith
    ]

pub has_move : (s : State) (moves : List Move) → AreMovesOf s moves → 0 < length moves → HasMove s
has_move s [] are h = absurd (omega arith)
has_move s (m ∷ moves) are h = let f : m.pick < picks_of s m.thread = are.feasible 0 m refl in (m.thread, omega arith)

-- the pieces before, and then p with each of the moves below the limit
pub record HasKidsBelow (s : State) (p : List Move) (before after : List (List Move)) (limit : Move) : Type 0 where
  moves : List Move
  are : after ≡ before ++ with_each p moves
  below : MovesBelow s moves limit

pub kids_none : (s : State) (p : List Move) (before : List (List Move)) → HasKidsBelow s p before before (record { thread = 0; pick = 0 })
kids_none s p before = record { moves = []; are = sym (append-nil before); below = moves_none s }

with_each-push : (p moves : List Move) (m : Move) → with_each p (moves ++ m ∷ []) ≡ with_each p moves ++ (p ++ m ∷ []) ∷ []
with_each-push p [] m = refl
with_each-push p (n ∷ moves) m = ap (λ (x : List (List Move)). (p ++ n ∷ []) ∷ x) (with_each-push p moves m)

pub kids_push : (s : State) (p : List Move) (before after last : List (List Move)) (t i : ℕ) → IsFeasible s (record { thread = t; pick = i }) → last ≡ after ++ (p ++ record { thread = t; pick = i } ∷ []) ∷ [] → HasKidsBelow s p before after (record { thread = t; pick = i }) → HasKidsBelow s p before last (record { thread = t; pick = i + 1 })
kids_push s p before after last t i f e h =
    let m : Move = record { thread = t; pick = i } in
    record {
      moves = h.moves ++ m ∷ [];
      are = e ∙ (ap (λ x. x ++ (p ++ m ∷ []) ∷ []) h.are ∙ (append_assoc before (with_each p h.moves) ((p ++ m ∷ []) ∷ []) ∙ ap (λ x. before ++ x) (sym (with_each-push p h.moves m))));
      below = moves_push s h.moves t i f h.below;
    }

pub kids_turn : (s : State) (p : List Move) (before after : List (List Move)) (t i : ℕ) → picks_of s t ≤ i → HasKidsBelow s p before after (record { thread = t; pick = i }) → HasKidsBelow s p before after (record { thread = t + 1; pick = 0 })
kids_turn s p before after t i all h = record { moves = h.moves; are = h.are; below = moves_turn s h.moves t i all h.below }

length-with_each : (p moves : List Move) → length (with_each p moves) ≡ length moves
length-with_each p [] = refl
length-with_each p (m ∷ moves) = ap suc (length-with_each p moves)

-- at the end, where no move was listed
pub kids_itself : (s : State) (p : List Move) (before after last : List (List Move)) (t : ℕ) → length s.threads ≤ t → length after ≡ length before → last ≡ after ++ p ∷ [] → HasKidsBelow s p before after (record { thread = t; pick = 0 }) → HasKids s p before last
kids_itself s p before after last t past none e h = by_moves h.moves h.are (moves_all s h.moves t past h.below)
  where
    by_moves : (moves : List Move) → after ≡ before ++ with_each p moves → AreMovesOf s moves → HasKids s p before last
    by_moves [] are all = ([], e ∙ ap (λ x. x ++ p ∷ []) (are ∙ append-nil before), all)
    by_moves (m ∷ moves) are all =
        (let a : length after ≡ length (before ++ with_each p (m ∷ moves)) = ap length are in
        let b : length (before ++ with_each p (m ∷ moves)) ≡ length before + length (with_each p (m ∷ moves)) = length-append before (with_each p (m ∷ moves)) in
        let c : length (with_each p (m ∷ moves)) ≡ length (m ∷ moves) = length-with_each p (m ∷ moves) in
        absurd (omega arith))

-- and where some was
pub kids_each : (s : State) (p : List Move) (before after : List (List Move)) (t : ℕ) → length s.threads ≤ t → (length after ≡ length before → ⊥) → HasKidsBelow s p before after (record { thread = t; pick = 0 }) → HasKids s p before after
kids_each s p before after t past some h = by_moves h.moves h.are (moves_all s h.moves t past h.below)
  where
    by_moves : (moves : List Move) → after ≡ before ++ with_each p moves → AreMovesOf s moves → HasKids s p before after
    by_moves [] are all = absurd (some (ap length (are ∙ append-nil before)))
    by_moves (m ∷ moves) are all = (m ∷ moves, are, all)
