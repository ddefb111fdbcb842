-- Lines and words of a text.
use Rattle.std.specs.Prelude.{◌≡◌, ℕ, suc, ◌-◌, Bool, List, [], ◌∷◌, length, map, take, slice_index, Option, Some, None, ◌==◌, ◌&&◌, ◌||◌, not, nat_le, filter, if◌then◌else◌}
use Rattle.std.specs.List.{slice_split, position}
use Rattle.std.specs.Option.{option_map}
use denote.Ref.{Bor}

-- the bytes of words in memory
abbrev pub texts : List (Bor (List ℕ)) → List (List ℕ)
texts words = map (λ w. w.now) words

-- the bytes of a word in memory, where there is one
abbrev pub text_if : Option (Bor (List ℕ)) → Option (List ℕ)
text_if word = option_map (λ w. w.now) word

-- what a separator parts a text into
abbrev pub parts_of : ℕ → List ℕ → List (List ℕ)
parts_of separator text = slice_split (λ b. b == separator) text

-- the lines, without their LFs; a last LF begins no further line, and the empty text has no lines
abbrev pub without_last_lf : List ℕ → List ℕ
without_last_lf text =
    if slice_index text (length text - 1) == 10 then take (length text - 1) text else text

abbrev pub lines_of : List ℕ → List (List ℕ)
lines_of text = if length text == 0 then [] else slice_split (λ b. b == 10) (without_last_lf text)

-- a byte before the first line
abbrev pub onto_line : ℕ → List (List ℕ) → List (List ℕ)
onto_line b [] = (b ∷ []) ∷ []
onto_line b (line ∷ lines) = (b ∷ line) ∷ lines

-- the lines, each with its LF; the last may lack it
abbrev pub kept_lines : List ℕ → List (List ℕ)
kept_lines [] = []
kept_lines (b ∷ bs) = if b == 10 then (b ∷ []) ∷ kept_lines bs else onto_line b (kept_lines bs)

-- this is the first line, and these are the others
abbrev pub IsFirstLine : List ℕ → List ℕ → List ℕ → Type 0
IsFirstLine text line rest = kept_lines text ≡ line ∷ kept_lines rest

-- how many bytes the first line has, with its LF
abbrev pub first_len : List ℕ → ℕ
first_len [] = 0
first_len (b ∷ bs) = if b == 10 then 1 else suc (first_len bs)

-- what may stand in a text of words: 32 to 126, tab and CR
abbrev pub is_allowed : ℕ → Bool
is_allowed b = nat_le 32 b && nat_le b 126 || (b == 9 || b == 13)

-- space, tab and CR
abbrev pub is_blank : ℕ → Bool
is_blank b = b == 32 || (b == 9 || b == 13)

abbrev pub cut_at : List ℕ → Option ℕ → List ℕ
cut_at line None = line
cut_at line (Some position) = take position line

-- `#` begins a comment, up to the line's end
abbrev pub before_comment : List ℕ → List ℕ
before_comment line = cut_at line (position (λ b. b == 35) line)

-- the words of a line, up to a comment: what blanks part
abbrev pub words_of : List ℕ → List (List ℕ)
words_of line = filter (λ word. not (length word == 0)) (slice_split is_blank (before_comment line))
