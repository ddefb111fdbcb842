-- What a list of configurations holds.
use Rattle.std.proofs.Common.{arith, ◌≡◌, ℕ, zero, suc, ◌+◌, ◌<◌, ◌≤◌, List, [], ◌∷◌, ◌++◌, length, take, drop, inl, inr, sym, ap, ◌∙◌, subst}
use Rattle.std.specs.Prelude.{◌↔◌, ◌⊎◌}
use Rattle.std.specs.List.{HoldsAt, insert}
use Rattle.std.proofs.lemmas.List.{take-append-drop, take_all, take_more}
use Rattle.lu_linearization.specs.declared.configuration.Configuration.{Configuration as Kept}
use Rattle.lu_linearization.specs.Configurations.{AreSame, Configuration}
use Rattle.lu_linearization.specs.Monitors.{Adds, Holds, Joins, configuration_of}

pub holds_append : (xs ys : List Kept) (c : Configuration ℕ) → Holds (xs ++ ys) c ↔ (Holds xs c ⊎ Holds ys c)
holds_append [] ys c = ((λ is. inr is), elim [ inl none ↦ absurd none | inr is ↦ is ])
holds_append (x ∷ xs) ys c =
    let rest = holds_append xs ys c in (
      elim [
        | inl here ↦ inl (inl here)
        | inr there ↦ elim (rest.0 there) [ inl front ↦ inl (inr front) | inr back ↦ inr back ]
      ],
      elim [
        | inl (inl here) ↦ inl here
        | inl (inr front) ↦ inr (rest.1 (inl front))
        | inr back ↦ inr (rest.1 (inr back))
      ],
    )

pub holds_at : (xs : List Kept) (i : ℕ) (one : Kept) (c : Configuration ℕ) → i < length xs → HoldsAt (λ y. y ≡ one) xs i → AreSame (configuration_of one) c → Holds xs c
holds_at [] i one c lt at is = absurd (omega arith)
holds_at (x ∷ xs) zero one c lt at is = inl (subst (λ y. AreSame (configuration_of y) c) (sym (at x)) is)
holds_at (x ∷ xs) (suc i) one c lt at is = inr (holds_at xs i one c (omega arith) (λ d. at d) is)

pub adds_insert : (xs new : List Kept) (i : ℕ) (one : Kept) → new ≡ insert xs i one → Adds xs new one
adds_insert xs new i one is c =
    let two = holds_append (take i xs) (one ∷ drop i xs) c in
    let whole = holds_append (take i xs) (drop i xs) c in
    let all = take-append-drop i xs in (
      (λ held. elim (two.0 (subst (λ ys. Holds ys c) is held)) [
        | inl front ↦ inl (subst (λ ys. Holds ys c) all (whole.1 (inl front)))
        | inr (inl here) ↦ inr here
        | inr (inr back) ↦ inl (subst (λ ys. Holds ys c) all (whole.1 (inr back)))
      ]),
      (λ either. subst (λ ys. Holds ys c) (sym is) (two.1 (elim either [
        | inl old ↦ elim (whole.0 (subst (λ ys. Holds ys c) (sym all) old)) [ inl front ↦ inl front | inr back ↦ inr (inr back) ]
        | inr here ↦ inr (inl here)
      ]))),
    )

pub adds_none : (xs : List Kept) (i : ℕ) (one : Kept) → i < length xs → HoldsAt (λ y. y ≡ one) xs i → Adds xs xs one
adds_none xs i one lt at c = ((λ held. inl held), elim [ inl old ↦ old | inr is ↦ holds_at xs i one c lt at is ])

pub joins_start : (xs : List Kept) → Joins xs xs []
joins_start xs c = ((λ held. inl held), elim [ inl old ↦ old | inr none ↦ absurd none ])

pub joins_next : (old all new more : List Kept) (i : ℕ) (one : Kept) → Joins old all (take i more) → i < length more → HoldsAt (λ y. y ≡ one) more i → Adds all new one → Joins old new (take (i + 1) more)
joins_next old all new more i one so_far lt at adds c =
    let whole : take (i + 1) more ≡ take i more ++ one ∷ [] = take_more more i one lt ∙ ap (λ x. take i more ++ x ∷ []) (at one) in
    let both = holds_append (take i more) (one ∷ []) c in (
      (λ held. elim ((adds c).0 held) [
        | inl before ↦ elim ((so_far c).0 before) [ inl first ↦ inl first | inr front ↦ inr (subst (λ ys. Holds ys c) (sym whole) (both.1 (inl front))) ]
        | inr here ↦ inr (subst (λ ys. Holds ys c) (sym whole) (both.1 (inr (inl here))))
      ]),
      elim [
        | inl first ↦ (adds c).1 (inl ((so_far c).1 (inl first)))
        | inr among ↦ elim (both.0 (subst (λ ys. Holds ys c) whole among)) [
          | inl front ↦ (adds c).1 (inl ((so_far c).1 (inr front)))
          | inr (inl here) ↦ (adds c).1 (inr here)
          | inr (inr none) ↦ absurd none
        ]
      ],
    )

pub joins_end : (old new more : List Kept) (i : ℕ) → length more ≤ i → Joins old new (take i more) → Joins old new more
joins_end old new more i le so_far = subst (Joins old new) (take_all i more le) so_far
