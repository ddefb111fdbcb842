-- Elements of mapped lists.
use Rattle.std.proofs.Common.{◌≡◌, ℕ, zero, suc, List, [], ◌∷◌, map, Some, slice_get, refl, sym, ap, inl, inr}
use Rattle.std.proofs.lemmas.Option.{same_Some}
use Rattle.lu_client.specs.Stages.{IsIn}
use Rattle.lu_serial_graph.specs.Playing.{IsAmong}

pub mapped_at : {A B : Type 0} (f : A → B) (xs : List A) (i : ℕ) (x : A) → slice_get xs i ≡ Some x → slice_get (map f xs) i ≡ Some (f x)
mapped_at f [] i x is = absurd cc
mapped_at f (y ∷ xs) zero x is = ap (λ z. Some (f z)) (same_Some y x is)
mapped_at f (y ∷ xs) (suc i) x is = mapped_at f xs i x is

pub unmapped_at : {A B : Type 0} (f : A → B) (xs : List A) (i : ℕ) (y : B) → slice_get (map f xs) i ≡ Some y → (x : A) × (slice_get xs i ≡ Some x) × (f x ≡ y)
unmapped_at f [] i y is = absurd cc
unmapped_at f (x ∷ xs) zero y is = (x, refl, same_Some (f x) y is)
unmapped_at f (x ∷ xs) (suc i) y is = unmapped_at f xs i y is

pub in_mapped : {A B : Type 0} (f : A → B) (xs : List A) (x : A) → IsAmong x xs → IsIn (map f xs) (f x)
in_mapped f [] x none = absurd none
in_mapped f (y ∷ xs) x (inl is) = (0, ap (λ z. Some (f z)) (sym is))
in_mapped f (y ∷ xs) x (inr at) = let rest = in_mapped f xs x at in (suc rest.0, rest.1)

pub out_mapped : {A B : Type 0} (f : A → B) (xs : List A) (y : B) → IsIn (map f xs) y → (x : A) × IsAmong x xs × (f x ≡ y)
out_mapped f [] y (i, is) = absurd cc
out_mapped f (x ∷ xs) y (zero, is) = (x, inl refl, same_Some (f x) y is)
out_mapped f (x ∷ xs) y (suc i, is) = let rest = out_mapped f xs y (i, is) in (rest.0, inr rest.1, rest.2)
