-- Which texts are sources.
use Rattle.std.specs.Prelude.{ℕ, Bool, false, List, [], ◌∷◌, Option, Some, None, codes}
use Rattle.std.specs.Option.{unwrap_or}
use Rattle.lu_text.specs.Lines.{lines_of}
use Rattle.lu_text.specs.Words.{Word}
use Rattle.lu_source_text.specs.Grammar.{is_word, source_words}

-- whether the first word is `object`; none where there is no word
abbrev pub begins_so : List Word → Option Bool
begins_so [] = None
begins_so (w ∷ ws) = Some (is_word w (codes "object"))

-- whether the first of these lines that has words begins so
abbrev pub begins_source : List (List ℕ) → Bool
begins_source [] = false
begins_source (line ∷ lines) = unwrap_or (begins_so (source_words line)) (begins_source lines)

-- whether the text is a source: its first word is `object`
abbrev pub is_source : List ℕ → Bool
is_source text = begins_source (lines_of text)
