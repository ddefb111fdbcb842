-- This many words and no more.
use Rattle.std.specs.Prelude.{ℕ, List, [], ◌∷◌, Option, Some, None}
use denote.Ref.{Bor}

abbrev pub Word : Type 0
Word = List ℕ

-- the bytes of words in memory
abbrev pub two_texts : Bor Word × Bor Word → Word × Word
two_texts (a, b) = (a.now, b.now)

abbrev pub three_texts : Bor Word × Bor Word × Bor Word → Word × Word × Word
three_texts (a, b, c) = (a.now, b.now, c.now)

abbrev pub four_texts : Bor Word × Bor Word × Bor Word × Bor Word → Word × Word × Word × Word
four_texts (a, b, c, d) = (a.now, b.now, c.now, d.now)

abbrev pub five_texts : Bor Word × Bor Word × Bor Word × Bor Word × Bor Word
    → Word × Word × Word × Word × Word
five_texts (a, b, c, d, e) = (a.now, b.now, c.now, d.now, e.now)

abbrev pub exactly_one : List Word → Option Word
exactly_one [] = None
exactly_one (a ∷ []) = Some a
exactly_one (a ∷ b ∷ words) = None

abbrev pub exactly_two : List Word → Option (Word × Word)
exactly_two [] = None
exactly_two (a ∷ []) = None
exactly_two (a ∷ b ∷ []) = Some (a, b)
exactly_two (a ∷ b ∷ c ∷ words) = None

abbrev pub exactly_three : List Word → Option (Word × Word × Word)
exactly_three [] = None
exactly_three (a ∷ []) = None
exactly_three (a ∷ b ∷ []) = None
exactly_three (a ∷ b ∷ c ∷ []) = Some (a, b, c)
exactly_three (a ∷ b ∷ c ∷ d ∷ words) = None

abbrev pub exactly_four : List Word → Option (Word × Word × Word × Word)
exactly_four [] = None
exactly_four (a ∷ []) = None
exactly_four (a ∷ b ∷ []) = None
exactly_four (a ∷ b ∷ c ∷ []) = None
exactly_four (a ∷ b ∷ c ∷ d ∷ []) = Some (a, b, c, d)
exactly_four (a ∷ b ∷ c ∷ d ∷ e ∷ words) = None

abbrev pub exactly_five : List Word → Option (Word × Word × Word × Word × Word)
exactly_five [] = None
exactly_five (a ∷ []) = None
exactly_five (a ∷ b ∷ []) = None
exactly_five (a ∷ b ∷ c ∷ []) = None
exactly_five (a ∷ b ∷ c ∷ d ∷ []) = None
exactly_five (a ∷ b ∷ c ∷ d ∷ e ∷ []) = Some (a, b, c, d, e)
exactly_five (a ∷ b ∷ c ∷ d ∷ e ∷ f ∷ words) = None
