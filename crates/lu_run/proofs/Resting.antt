-- Positions that are put to rest, one by one.
use Rattle.std.proofs.Common.{arith, ◌≡◌, ◌<◌, List, [], ◌∷◌, ◌++◌, length, refl, sym, ◌∙◌, ap, subst, inl, inr, ◌⊎◌}
use Rattle.std.proofs.lemmas.List.{length-append}
use Rattle.lu_component.specs.Component.{Component}
use Rattle.lu_machine.specs.declared.position.Position.{Position}
use Rattle.lu_serial_graph.specs.Playing.{IsAmong}
use Rattle.lu_run.specs.Asking.{AreRests, HasRest, HasSameRests, IsAtRest, rest_at}

pub among_end : {A : Type 0} (x y : A) (xs : List A) → IsAmong x (xs ++ y ∷ []) → IsAmong x xs ⊎ (x ≡ y)
among_end x y [] (inl is) = inr is
among_end x y [] (inr none) = absurd none
among_end x y (z ∷ xs) (inl is) = inl (inl is)
among_end x y (z ∷ xs) (inr at) = elim (among_end x y xs at) as (λ _. IsAmong x (z ∷ xs) ⊎ (x ≡ y)) [ inl old ↦ inl (inr old) | inr new ↦ inr new ]

pub among_front : {A : Type 0} (x y : A) (xs : List A) → IsAmong x xs → IsAmong x (xs ++ y ∷ [])
among_front x y [] none = absurd none
among_front x y (z ∷ xs) (inl is) = inl is
among_front x y (z ∷ xs) (inr at) = inr (among_front x y xs at)

pub among_last : {A : Type 0} (y : A) (xs : List A) → IsAmong y (xs ++ y ∷ [])
among_last y [] = inl refl
among_last y (z ∷ xs) = inr (among_last y xs)

pub among_some : {A : Type 0} (xs : List A) (x : A) → IsAmong x xs → 0 < length xs
among_some [] x none = absurd none
among_some (y ∷ xs) x at = omega arith

-- the new positions have the rests of the old ones, each is at rest, and there are as many
pub record AreRested (c : Component) (old new : List Position) : Type 0 where
  pub same : HasSameRests old new
  pub each : (p : Position) → IsAmong p new → IsAtRest c p
  pub many : length new ≡ length old

pub rested_none : (c : Component) → AreRested c [] []
rested_none c = record { same = λ rest. ((λ x. x), (λ x. x)); each = λ p none. absurd none; many = refl }

pub rested_more : (c : Component) (old new : List Position) (p q : Position) → AreRested c old new → rest_at q ≡ rest_at p → IsAtRest c q → AreRested c (old ++ p ∷ []) (new ++ q ∷ [])
rested_more c old new p q are same good = record {
  same = λ rest. (
    (λ (r, at, is). elim (among_end r p old at) as (λ _. HasRest (new ++ q ∷ []) rest) [
      | inl before ↦ (let x = (are.same rest).0 (r, before, is) in (x.0, among_front x.0 q new x.1, x.2))
      | inr here ↦ (q, among_last q new, same ∙ (sym (ap rest_at here) ∙ is))
    ]),
    (λ (r, at, is). elim (among_end r q new at) as (λ _. HasRest (old ++ p ∷ []) rest) [
      | inl before ↦ (let x = (are.same rest).1 (r, before, is) in (x.0, among_front x.0 p old x.1, x.2))
      | inr here ↦ (p, among_last p old, sym same ∙ (sym (ap rest_at here) ∙ is))
    ]),
  );
  each = λ r at. elim (among_end r q new at) as (λ _. IsAtRest c r) [ inl before ↦ are.each r before | inr here ↦ subst (IsAtRest c) (sym here) good ];
  many = (let m = are.many in let a = length-append old (p ∷ []) in let b = length-append new (q ∷ []) in omega (arith, m, a, b));
}

pub rested_rests : (c : Component) (old new : List Position) → AreRested c old new → 0 < length old → AreRests c new
rested_rests c old new are some = record { some = (let m = are.many in omega (arith, m, some)); each = are.each }
