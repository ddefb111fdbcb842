-- Lines with their LFs, one after the other.
use Rattle.std.proofs.Common.{◌≡◌, ℕ, suc, ◌≤◌, ◌<◌, Bool, true, false, cond, List, [], ◌∷◌, length, take, drop, refl, ap, ◌∙◌, arith}
use Rattle.std.specs.Prelude.{◌==◌}
use Rattle.std.specs.List.{concat}
use Rattle.lu_text.specs.Lines.{first_len, onto_line, kept_lines}

pub first_len_le : (text : List ℕ) → first_len text ≤ length text
first_len_le [] = omega arith
first_len_le (b ∷ bs) = go (b == 10) (first_len_le bs)
  where
    go : (t : Bool) → first_len bs ≤ length bs → cond t 1 (suc (first_len bs)) ≤ suc (length bs)
    go true h = omega arith
    go false h = omega arith

pub first_len_some : (text : List ℕ) → 0 < length text → 0 < first_len text
first_len_some [] h = absurd (omega arith)
first_len_some (b ∷ bs) h = go (b == 10)
  where
    go : (t : Bool) → 0 < cond t 1 (suc (first_len bs))
    go true = omega arith
    go false = omega arith

-- the first line, and the others
pub first_line : (text : List ℕ) → 0 < length text → kept_lines text ≡ take (first_len text) text ∷ kept_lines (drop (first_len text) text)
first_line [] h = absurd (omega arith)
first_line (b ∷ []) h = go (b == 10)
  where
    go : (t : Bool) → cond t ((b ∷ []) ∷ []) ((b ∷ []) ∷ []) ≡ take (cond t 1 1) (b ∷ []) ∷ kept_lines (drop (cond t 1 1) (b ∷ []))
    go true = refl
    go false = refl
first_line (b ∷ c ∷ cs) h = go (b == 10) (first_line (c ∷ cs) (omega arith))
  where
    go : (t : Bool) → kept_lines (c ∷ cs) ≡ take (first_len (c ∷ cs)) (c ∷ cs) ∷ kept_lines (drop (first_len (c ∷ cs)) (c ∷ cs))
        → cond t ((b ∷ []) ∷ kept_lines (c ∷ cs)) (onto_line b (kept_lines (c ∷ cs))) ≡ take (cond t 1 (suc (first_len (c ∷ cs)))) (b ∷ c ∷ cs) ∷ kept_lines (drop (cond t 1 (suc (first_len (c ∷ cs)))) (b ∷ c ∷ cs))
    go true e = refl
    go false e = ap (onto_line b) e

-- the lines joined are the text
pub joined_lines : (text : List ℕ) → concat (kept_lines text) ≡ text
joined_lines [] = refl
joined_lines (b ∷ bs) = go (b == 10) (joined_lines bs)
  where
    onto : (lines : List (List ℕ)) → concat (onto_line b lines) ≡ b ∷ concat lines
    onto [] = refl
    onto (line ∷ lines) = refl

    go : (t : Bool) → concat (kept_lines bs) ≡ bs → concat (cond t ((b ∷ []) ∷ kept_lines bs) (onto_line b (kept_lines bs))) ≡ b ∷ bs
    go true e = ap (λ (x : List ℕ). b ∷ x) e
    go false e = onto (kept_lines bs) ∙ ap (λ (x : List ℕ). b ∷ x) e
