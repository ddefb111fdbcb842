-- Words in memory, and their bytes.
use Rattle.std.proofs.Common.{◌≡◌, ◌≤◌, ℕ, get_or, Bool, Option, None, Some, List, [], ◌∷◌, length, drop, refl, ap, arith}
use Rattle.std.specs.Prelude.{min, ◌&&◌}
use Rattle.std.specs.List.{filter_map, list_all}
use denote.Ref.{Bor}
use Rattle.lu_text.specs.Lines.{texts}
use Rattle.lu_test.specs.MatrixText.{named_operation}
use Rattle.lu_test.specs.Signatures.{Signature, signature_number}

pub all_texts : (p : List ℕ → Bool) (words : List (Bor (List ℕ))) → list_all (λ w. p w.now) words ≡ list_all p (texts words)
all_texts p [] = refl
all_texts p (w ∷ ws) = ap (λ b. p w.now && b) (all_texts p ws)

pub filter_map_texts : {A : Type 0} (f : List ℕ → Option A) (words : List (Bor (List ℕ))) → filter_map (λ w. f w.now) words ≡ filter_map f (texts words)
filter_map_texts f [] = refl
filter_map_texts {A = A} f (w ∷ ws) = go (f w.now) refl (filter_map_texts f ws)
  where
    go : (o : Option A) → f w.now ≡ o → filter_map (λ w. f w.now) ws ≡ filter_map f (texts ws) → filter_map (λ w. f w.now) (w ∷ ws) ≡ filter_map f (texts (w ∷ ws))
    go None e rest = rw e rest
    go (Some x) e rest = rw e (ap (λ xs. x ∷ xs) rest)

-- the signature of the first word
pub first_named : (signatures : List Signature) (words : List (Bor (List ℕ))) (d : Bor (List ℕ)) → 1 ≤ length words → signature_number signatures (get_or words 0 d).now ≡ named_operation signatures (texts words)
first_named signatures [] d h = absurd (omega arith)
first_named signatures (w ∷ ws) d h = refl

-- the words after the first
pub rest_texts : (words : List (Bor (List ℕ))) (n : ℕ) → n ≡ min (length words) 1 → texts (drop n words) ≡ drop 1 (texts words)
rest_texts [] n h = let z : n ≡ 0 = omega arith in rw z refl
rest_texts (w ∷ ws) n h = let z : n ≡ 1 = omega arith in rw z refl
