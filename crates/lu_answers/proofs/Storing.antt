-- The first stage, and equal stages.
use Rattle.std.proofs.Common.{arith, ◌≡◌, ℕ, zero, suc, ◌<◌, Bool, true, List, [], ◌∷◌, length, map, replicate, Option, Some, None, IfSome, Result, Ok, Err, slice_get, refl, sym, ◌∙◌, ap, subst, inl, inr}
use Rattle.std.specs.Prelude.{nat_eq}
use Rattle.std.specs.Result.{OkIff, result_ok}
use lib.Pointwise.{pointwise}
use Rattle.std.proofs.lemmas.Bool.{and_parts}
use Rattle.std.proofs.lemmas.Bool.Decides.{Decides-eqb}
use Rattle.std.proofs.lemmas.List.{length-replicate}
use Rattle.std.proofs.lemmas.Slice.Eq.{slice_eq-Decides}
use Rattle.lu_test.specs.Matrix.{thread_count}
use Rattle.lu_machine.specs.declared.position.Position.{Position}
use Rattle.lu_machine.specs.Changes.{idle}
use Rattle.lu_machine.specs.Positions.{CanStandAt, at_position}
use Rattle.lu_machine.specs.States.{State}
use Rattle.lu_machine.specs.Starts.{IsStart}
use Rattle.lu_machine.proofs.Positions.{HaveSame, position_eq, same_position}
use Rattle.lu_machine.proofs.Starting.{start_threads}
use Rattle.lu_client.specs.Alone.{Rest}
use Rattle.lu_client.specs.Stages.{Stage}
use Rattle.lu_serial_graph.specs.Playing.{IsAmong}
use Rattle.lu_answers.specs.declared.stage.StoredStage.{StoredStage}
use Rattle.lu_answers.specs.contracts.stage.StoredStagePartialEq as stored
use Rattle.lu_answers.specs.Stored.{IsNumbered, IsStored, rest_at, stage_of}
use Rattle.lu_answers.proofs.Mapped.{mapped_at}

-- ---- the first stage

all_idle : (n : ℕ) → map idle (replicate n 0) ≡ replicate n (idle 0)
all_idle zero = refl
all_idle (suc n) = ap (λ xs. idle 0 ∷ xs) (all_idle n)

among_alone : {A : Type 0} (x y : A) → IsAmong x (y ∷ []) → x ≡ y
among_alone x y (inl is) = is
among_alone x y (inr none) = absurd none

pub first_stored : (s : State) → IsStart s.component s.matrix s → (new : StoredStage) (p : Position) → new.places.items ≡ replicate (length s.threads) 0 → new.rests.items ≡ p ∷ [] → at_position s p ≡ s → CanStandAt s.component s.matrix p → IsStored s.component s.matrix new
first_stored s is new p places rests here stands =
    let threads : s.threads ≡ replicate (thread_count s.matrix) (idle 0) = start_threads s.component s.matrix s is in
    let many : length s.threads ≡ thread_count s.matrix = ap length threads ∙ length-replicate (thread_count s.matrix) (idle 0) in
    let zeros : new.places.items ≡ replicate (thread_count s.matrix) 0 = places ∙ ap (λ n. replicate n 0) many in
    let quiet : p.threads.items ≡ map idle new.places.items = ap (λ (x : State). x.threads) here ∙ threads ∙ sym (all_idle (thread_count s.matrix)) ∙ ap (map idle) (sym zeros) in
    record {
      seats = ap length zeros ∙ length-replicate (thread_count s.matrix) 0;
      some = (let one = ap length rests in omega (arith, one));
      threads = λ q at. subst (λ (x : Position). x.threads.items ≡ map idle new.places.items) (sym (among_alone q p (subst (IsAmong q) rests at))) quiet;
      stand = λ q at. subst (CanStandAt s.component s.matrix) (sym (among_alone q p (subst (IsAmong q) rests at))) stands;
    }

-- ---- equal stages

abbrev pub stored_eq : StoredStage → StoredStage → Bool
stored_eq = (stored.TheImpl.ghosts).eq

same_numbers : (xs ys : List ℕ) → pointwise nat_eq xs ys ≡ true → xs ≡ ys
same_numbers xs ys = (slice_eq-Decides {E = nat_eq} Decides-eqb xs ys (pointwise nat_eq xs ys) refl).0

same_rest : (p q : Position) → HaveSame p q → rest_at p ≡ rest_at q
same_rest p q is =
    ap (λ x. let r : Rest = record { cells = x; locks = p.locks.items } in r) is.0
    ∙ ap (λ x. let r : Rest = record { cells = q.cells.items; locks = x } in r) is.1.0

same_rests : (a b : List Position) → pointwise position_eq a b ≡ true → map rest_at a ≡ map rest_at b
same_rests [] [] e = refl
same_rests [] (y ∷ b) e = absurd cc
same_rests (x ∷ a) [] e = absurd cc
same_rests (x ∷ a) (y ∷ b) e =
    let both = and_parts (position_eq x y) (pointwise position_eq a b) e in
    ap (λ r. r ∷ map rest_at a) (same_rest x y ((same_position x y).0 both.0))
    ∙ ap (λ rs. rest_at y ∷ rs) (same_rests a b both.1)

same_stages : (a b : StoredStage) → stored_eq a b ≡ true → stage_of a ≡ stage_of b
same_stages a b e =
    let both = and_parts (pointwise nat_eq a.places.items b.places.items) (pointwise position_eq a.rests.items b.rests.items) e in
    ap (λ x. let r : Stage = record { places = x; rests = map rest_at a.rests.items } in r) (same_numbers a.places.items b.places.items both.0)
    ∙ ap (λ x. let r : Stage = record { places = b.places.items; rests = x } in r) (same_rests a.rests.items b.rests.items both.1)

pub stage_there : (all : List StoredStage) (new : StoredStage) (place : ℕ) (k : StoredStage) → slice_get all place ≡ Some k → stored_eq new k ≡ true → IsNumbered all new place
stage_there all new place k at same = mapped_at stage_of all place k at ∙ ap Some (sym (same_stages new k same))

pub numbered : (all : List StoredStage) (new : StoredStage) (r : Option ℕ) (place : ℕ) → ((n : ℕ) → r ≡ Some n → n ≡ place) → IsNumbered all new place → IfSome r (IsNumbered all new)
numbered all new None place is at = tt
numbered all new (Some n) place is at = subst (IsNumbered all new) (sym (is n refl)) at

pub converted : {E : Type 0} (r : Result ℕ E) (place : ℕ) → OkIff r (place < 4294967296) place → (o : Option ℕ) → o ≡ result_ok r → (n : ℕ) → o ≡ Some n → n ≡ place
converted (Ok m) place iff o is n some = (let whole : Some m ≡ Some n = sym is ∙ some in let same : m ≡ n = cc in sym same ∙ iff.1)
converted (Err e) place iff o is n some = absurd (let none = sym is ∙ some in cc)
