-- Parts of a bundle, line by line.
use Rattle.std.proofs.Common.{◌≡◌, ℕ, ◌+◌, ◌≤◌, ◌<◌, Bool, true, false, List, [], ◌∷◌, ◌++◌, length, take, refl, sym, ap, ◌∙◌, append_assoc, arith}
use Rattle.std.specs.Prelude.{map}
use Rattle.std.specs.List.{concat, slice_split, onto_first}
use Rattle.std.proofs.lemmas.List.{append-nil, length-append, length-take-le, length-map, take_at}
use Rattle.std.proofs.lemmas.List.Splits.{length-slice_split, slice_split-cons_yes, slice_split-cons_no}
use Rattle.lu_text.specs.Bundle.{parts_between}
use Rattle.lu_text.specs.Lines.{kept_lines}

-- the parts between these lines
abbrev pub parts_by : (List ℕ → Bool) → List (List ℕ) → List (List ℕ)
parts_by parts lines = map concat (slice_split parts lines)

-- the first part has more bytes in front
abbrev pub join_first : List ℕ → List (List ℕ) → List (List ℕ)
join_first front [] = front ∷ []
join_first front (part ∷ parts) = (front ++ part) ∷ parts

join_onto : (front line : List ℕ) (split : List (List (List ℕ))) → join_first front (map concat (onto_first line split)) ≡ join_first (front ++ line) (map concat split)
join_onto front line [] = rw append-nil refl
join_onto front line (part ∷ parts) = rw (append_assoc front line (concat part)) refl

join_nothing : (parts : List (List ℕ)) → 0 < length parts → join_first [] parts ≡ parts
join_nothing [] h = absurd (omega arith)
join_nothing (part ∷ parts) h = refl

some_part : (is : List ℕ → Bool) (lines : List (List ℕ)) → 0 < length (parts_by is lines)
some_part is lines = simp length-map (omega (arith, length-slice_split is lines))

-- a line that separates nothing goes onto the part
goes_on : (is : List ℕ → Bool) (front line : List ℕ) (lines : List (List ℕ)) → is line ≡ false → join_first front (parts_by is (line ∷ lines)) ≡ join_first (front ++ line) (parts_by is lines)
goes_on is front line lines e = rw (slice_split-cons_no is line lines e) (join_onto front line (slice_split is lines))

-- a separator ends the part
ends : (is : List ℕ → Bool) (front line : List ℕ) (lines : List (List ℕ)) → is line ≡ true → join_first front (parts_by is (line ∷ lines)) ≡ front ∷ join_first [] (parts_by is lines)
ends is front line lines e = rw (slice_split-cons_yes is line lines e, join_nothing (parts_by is lines) (some_part is lines)) (ap (λ (x : List ℕ). x ∷ parts_by is lines) (append-nil front))

pub last_part : (is : List ℕ → Bool) (front part rest : List ℕ) → front ++ rest ≡ part → length rest ≡ 0 → join_first front (parts_by is (kept_lines rest)) ≡ part ∷ []
last_part is front part [] e h = ap (λ (x : List ℕ). x ∷ []) e
last_part is front part (b ∷ bs) e h = absurd (omega arith)

-- a line more
grows : (part front line after : List ℕ) (size : ℕ) → front ++ (line ++ after) ≡ part → length front ≡ size → take (size + length line) part ≡ front ++ line
grows part front line after size e l = rw (← e, ← append_assoc front line after) (take_at (front ++ line) after (size + length line) (simp length-append (omega arith)))

pub start : (is : List ℕ → Bool) (text : List ℕ) → join_first [] (parts_by is (kept_lines text)) ≡ parts_between is text
start is text = join_nothing (parts_by is (kept_lines text)) (some_part is (kept_lines text))

-- a loop's step at a line that separates nothing
pub record Grown (is : List ℕ → Bool) (parts : List (List ℕ)) (part line after : List ℕ) (size : ℕ) (total : List (List ℕ)) : Type 0 where
  pub counted : size + length line + length after ≡ length part
  pub within : size + length line ≤ length part
  pub whole : take (size + length line) part ++ after ≡ part
  pub told : parts ++ join_first (take (size + length line) part) (parts_by is (kept_lines after)) ≡ total

pub grown : (is : List ℕ → Bool) (parts : List (List ℕ)) (part line after rest : List ℕ) (size : ℕ) (total : List (List ℕ)) → size ≤ length part → take size part ++ rest ≡ part → rest ≡ line ++ after
    → kept_lines rest ≡ line ∷ kept_lines after → is line ≡ false → parts ++ join_first (take size part) (parts_by is (kept_lines rest)) ≡ total → Grown is parts part line after size total
grown is parts part line after rest size total within whole cut kept other told =
    let front = take size part in
    let len : length front ≡ size = length-take-le size part within in
    let e : front ++ (line ++ after) ≡ part = ap (λ (x : List ℕ). front ++ x) (sym cut) ∙ whole in
    let more : take (size + length line) part ≡ front ++ line = grows part front line after size e len in
    record {
      counted = (let n : length front + (length line + length after) ≡ length part = simp length-append at (ap length e) in omega arith);
      within = (let n : length front + (length line + length after) ≡ length part = simp length-append at (ap length e) in omega arith);
      whole = rw more (append_assoc front line after ∙ e);
      told = rw more (let s : join_first front (parts_by is (kept_lines rest)) ≡ join_first (front ++ line) (parts_by is (kept_lines after)) = rw kept (goes_on is front line (kept_lines after) other) in ap (λ (x : List (List ℕ)). parts ++ x) (sym s) ∙ told);
    }

-- a loop's step at a separator
pub ended : (is : List ℕ → Bool) (parts : List (List ℕ)) (front line after rest : List ℕ) (total : List (List ℕ))
    → kept_lines rest ≡ line ∷ kept_lines after → is line ≡ true → parts ++ join_first front (parts_by is (kept_lines rest)) ≡ total → (parts ++ front ∷ []) ++ join_first [] (parts_by is (kept_lines after)) ≡ total
ended is parts front line after rest total kept separator told =
    let s : join_first front (parts_by is (kept_lines rest)) ≡ front ∷ join_first [] (parts_by is (kept_lines after)) = rw kept (ends is front line (kept_lines after) separator) in
    append_assoc parts (front ∷ []) (join_first [] (parts_by is (kept_lines after))) ∙ ap (λ (x : List (List ℕ)). parts ++ x) (sym s) ∙ told
