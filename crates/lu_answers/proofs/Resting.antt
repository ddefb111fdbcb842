-- Positions that are put to rest, one by one.
use Rattle.std.proofs.Common.{arith, ◌≡◌, ℕ, ◌<◌, List, [], ◌∷◌, ◌++◌, length, map, Option, slice_set, refl, sym, ◌∙◌, ap, subst, inl, inr}
use Rattle.std.specs.Prelude.{All}
use Rattle.std.proofs.Math.ListN.{length-set}
use Rattle.std.proofs.lemmas.List.{length-map, map-append}
use Rattle.std.proofs.lemmas.List.Elements.{All-cons, All-nil}
use Rattle.lu_component.specs.Component.{Component}
use Rattle.lu_test.specs.Matrix.{Matrix, thread_count}
use Rattle.lu_machine.specs.declared.position.Position.{Position}
use Rattle.lu_machine.specs.declared.thread.Thread.{Thread}
use Rattle.lu_machine.specs.Changes.{idle}
use Rattle.lu_machine.specs.Layout.{IsStanding, StandsIn}
use Rattle.lu_machine.specs.Positions.{CanStand, CanStandAt}
use Rattle.lu_serial_graph.specs.Answers.{RestsStand}
use Rattle.lu_serial_graph.proofs.FirstMoves.{among_cases, among_one}
use Rattle.lu_answers.specs.declared.stage.StoredStage.{StoredStage}
use Rattle.lu_answers.specs.Stored.{AllStandSo, AreIdle, IsStored, rest_at}

all_stand : (places : List ℕ) → All IsStanding (map idle places)
all_stand [] = All-nil IsStanding
all_stand (n ∷ places) = All-cons IsStanding (idle n) (map idle places) tt (all_stand places)

all_in_code : (c : Component) (places : List ℕ) → All (StandsIn c) (map idle places)
all_in_code c [] = All-nil (StandsIn c)
all_in_code c (n ∷ places) = All-cons (StandsIn c) (idle n) (map idle places) tt (all_in_code c places)

-- a machine that can stand at the position can stand there with idle threads
pub can_rest : (c : Component) (matrix : Matrix) (p : Position) (cells : List ℕ) (locks : List (Option ℕ)) (threads : List Thread) → CanStandAt c matrix p → cells ≡ p.cells.items → locks ≡ p.locks.items → AreIdle matrix threads → CanStand c matrix cells locks threads
can_rest c matrix p cells locks threads can same_cells same_locks (places, are, many) = record {
  cells = ap length same_cells ∙ can.cells;
  locks = ap length same_locks ∙ can.locks;
  threads = ap length are ∙ length-map places idle ∙ many;
  stand = subst (All IsStanding) (sym are) (all_stand places);
  in_code = subst (All (StandsIn c)) (sym are) (all_in_code c places);
}

-- the new positions have the rests of the old ones, and their threads stand so
pub record AreRested (c : Component) (matrix : Matrix) (threads : List Thread) (old new : List Position) : Type 0 where
  pub rests : map rest_at new ≡ map rest_at old
  pub so : AllStandSo threads new
  pub stand : RestsStand c matrix new

pub rested_none : (c : Component) (matrix : Matrix) (threads : List Thread) → AreRested c matrix threads [] []
rested_none c matrix threads = record { rests = refl; so = λ p none. absurd none; stand = λ p none. absurd none }

pub rested_more : (c : Component) (matrix : Matrix) (threads : List Thread) (old new : List Position) (p q : Position) → AreRested c matrix threads old new → rest_at q ≡ rest_at p → q.threads.items ≡ threads → CanStandAt c matrix q → AreRested c matrix threads (old ++ p ∷ []) (new ++ q ∷ [])
rested_more c matrix threads old new p q are rest so can = record {
  rests =
      map-append rest_at new (q ∷ [])
      ∙ (ap (λ xs. xs ++ rest_at q ∷ []) are.rests
      ∙ (ap (λ x. map rest_at old ++ x ∷ []) rest
      ∙ sym (map-append rest_at old (p ∷ []))));
  so = λ r at. elim (among_cases r new (q ∷ []) at) as (λ _. r.threads.items ≡ threads) [
    | inl before ↦ are.so r before
    | inr here ↦ subst (λ (x : Position). x.threads.items ≡ threads) (sym (among_one r q here)) so
  ];
  stand = λ r at. elim (among_cases r new (q ∷ []) at) as (λ _. CanStandAt c matrix r) [
    | inl before ↦ are.stand r before
    | inr here ↦ subst (CanStandAt c matrix) (sym (among_one r q here)) can
  ];
}

-- a stage with such rests is stored
pub stored_rests : (c : Component) (matrix : Matrix) (new : StoredStage) (places : List ℕ) (t n : ℕ) (threads : List Thread) (positions : List Position) → new.places.items ≡ slice_set places t n → length places ≡ thread_count matrix → 0 < length positions → map rest_at new.rests.items ≡ map rest_at positions → threads ≡ map idle new.places.items → AllStandSo threads new.rests.items → RestsStand c matrix new.rests.items → IsStored c matrix new
stored_rests c matrix new places t n threads positions set seats some rests are so stand = record {
  seats = ap length set ∙ length-set places t n ∙ seats;
  some = (
      let whole : length (map rest_at new.rests.items) ≡ length (map rest_at positions) = ap length rests in
      let left = length-map new.rests.items rest_at in
      let right = length-map positions rest_at in
      omega (arith, whole, left, right, some)
      );
  threads = subst (λ xs. AllStandSo xs new.rests.items) are so;
  stand = stand;
}
