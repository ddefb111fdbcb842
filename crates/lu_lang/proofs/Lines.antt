-- Lines that are numbered from 0: one more, and all.
use Rattle.std.proofs.Common.{◌≡◌, ℕ, ◌+◌, ◌<◌, ◌≤◌, List, [], ◌∷◌, ◌++◌, length, get_or, take, refl, ap, ◌∙◌, arith}
use Rattle.std.specs.List.{flat_map, enumerate_from}
use Rattle.std.proofs.lemmas.List.{append-nil, append_assoc, take_all}
use Rattle.std.proofs.lemmas.Grind.{take_at_read, flat_map-append}
use Rattle.std.proofs.lemmas.List.FromFn.{length-enumerate_from, get_or-enumerate_from}

zero_add : (i : ℕ) → 0 + i ≡ i
zero_add i = omega arith

one_more : {X A : Type 0} (f : ℕ × X → List A) (xs : List X) (i : ℕ) (d : X) → i < length xs → flat_map f (take (i + 1) (enumerate_from 0 xs)) ≡ flat_map f (take i (enumerate_from 0 xs)) ++ f (i, get_or xs i d)
one_more f xs i d h =
    let next = (take_at_read (enumerate_from 0 xs) i (0, d) (rw (length-enumerate_from 0 xs) h)).1 in
    rw (next, flat_map-append f (take i (enumerate_from 0 xs)) (get_or (enumerate_from 0 xs) i (0, d) ∷ []), get_or-enumerate_from 0 xs i (0, d) h, zero_add i, append-nil (f (i, get_or xs i d))) refl

pub all_taken : {X : Type 0} (xs : List X) (i : ℕ) → length xs ≤ i → take i (enumerate_from 0 xs) ≡ enumerate_from 0 xs
all_taken xs i h = take_all i (enumerate_from 0 xs) (rw (length-enumerate_from 0 xs) h)

-- the lines before, and one more
pub line_on : {X : Type 0} (f : ℕ × X → List ℕ) (xs : List X) (i : ℕ) (d : X) (before text next : List ℕ) → i < length xs → text ≡ before ++ flat_map f (take i (enumerate_from 0 xs)) → next ≡ text ++ f (i, get_or xs i d) → next ≡ before ++ flat_map f (take (i + 1) (enumerate_from 0 xs))
line_on f xs i d before text next h so_far line =
    line ∙ (ap (λ (t : List ℕ). t ++ f (i, get_or xs i d)) so_far ∙ rw (one_more f xs i d h) (append_assoc before (flat_map f (take i (enumerate_from 0 xs))) (f (i, get_or xs i d))))
