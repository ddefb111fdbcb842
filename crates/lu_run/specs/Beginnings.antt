-- Which texts are runs.
use Rattle.std.specs.Prelude.{ℕ, Bool, false, List, [], ◌∷◌, Option, Some, None, codes}
use Rattle.std.specs.Option.{unwrap_or}
use Rattle.std.specs.Str.{bytes_eq}
use Rattle.lu_text.specs.Lines.{lines_of, words_of}
use Rattle.lu_text.specs.Words.{Word}

-- whether the first word is `run`; none where there is no word
abbrev pub begins_so : List Word → Option Bool
begins_so [] = None
begins_so (word ∷ words) = Some (bytes_eq word (codes "run"))

-- whether the first of these lines that has words begins so
abbrev pub begins_run : List (List ℕ) → Bool
begins_run [] = false
begins_run (line ∷ lines) = unwrap_or (begins_so (words_of line)) (begins_run lines)

-- whether the first word of the text is `run`
abbrev pub is_run_text : List ℕ → Bool
is_run_text text = begins_run (lines_of text)
