-- What words are between tags.
use Rattle.std.specs.Prelude.{ℕ, ◌==◌, ◌++◌, nat_lt, if◌then◌else◌, List, [], ◌∷◌, codes, length, take}
use Rattle.std.specs.List.{flat_map}
use Rattle.std.specs.Char.{encode_utf8}
use Rattle.std.specs.Str.{chars}
use Rattle.lu_trace.specs.declared.wording.Wording.{Wording}
use Rattle.lu_trace.specs.declared.wording.Wording.TheVariants.{Component, Labelled, Source}

-- a letter between tags: three of them begin something else there, and have names
abbrev pub letter_shown : ℕ → List ℕ
letter_shown c =
    if c == 60 then codes "&lt;"
    else if c == 62 then codes "&gt;"
    else if c == 38 then codes "&amp;"
    else encode_utf8 c

abbrev pub escaped : List ℕ → List ℕ
escaped words = flat_map letter_shown (chars words)

-- the words of a step between tags: a component's have none of those letters, and a source's may
abbrev pub shown : Wording → List ℕ → List ℕ
shown Component words = words
shown (Labelled labels) words = escaped words
shown (Source lines origins) words = escaped words

-- ---- labels

-- what ends a label of words with this many letters: an ellipsis where some are left out
abbrev pub ellipsis : ℕ → List ℕ
ellipsis many = if nat_lt 48 many then 8230 ∷ [] else []

-- the first 48 letters, and an ellipsis where there are more
abbrev pub cut : List ℕ → List ℕ
cut letters = take 48 letters ++ ellipsis (length letters)

-- the label of these words, between tags
abbrev pub label : List ℕ → List ℕ
label words = flat_map letter_shown (cut (chars words))

-- these are its letters up to an ellipsis, and that
abbrev pub first_letters : List ℕ → List ℕ
first_letters words = flat_map letter_shown (take 48 (chars words))

abbrev pub ending : ℕ → List ℕ
ending many = flat_map letter_shown (ellipsis many)
