-- So many words and no more, and words in memory.
use Rattle.std.proofs.Common.{◌≡◌, List, [], ◌∷◌, length, get_or, Some, None, refl, arith}
use denote.Ref.{Bor}
use Rattle.lu_text.specs.Lines.{texts}
use Rattle.lu_text.specs.Words.{Word, exactly_one, exactly_two, exactly_three, exactly_four, exactly_five}

pub is_one : (words : List (Bor Word)) (d : Bor Word) → length words ≡ 1 → Some (get_or words 0 d).now ≡ exactly_one (texts words)
is_one [] d h = absurd (omega arith)
is_one (a ∷ []) d h = refl
is_one (a ∷ b ∷ words) d h = absurd (omega arith)

pub is_not_one : (words : List (Bor Word)) → (length words ≡ 1 → ⊥) → None ≡ exactly_one (texts words)
is_not_one [] h = refl
is_not_one (a ∷ []) h = absurd (h refl)
is_not_one (a ∷ b ∷ words) h = refl

pub are_two : (words : List (Bor Word)) (d : Bor Word) → length words ≡ 2 → Some ((get_or words 0 d).now, (get_or words 1 d).now) ≡ exactly_two (texts words)
are_two [] d h = absurd (omega arith)
are_two (a ∷ []) d h = absurd (omega arith)
are_two (a ∷ b ∷ []) d h = refl
are_two (a ∷ b ∷ c ∷ words) d h = absurd (omega arith)

pub are_not_two : (words : List (Bor Word)) → (length words ≡ 2 → ⊥) → None ≡ exactly_two (texts words)
are_not_two [] h = refl
are_not_two (a ∷ []) h = refl
are_not_two (a ∷ b ∷ []) h = absurd (h refl)
are_not_two (a ∷ b ∷ c ∷ words) h = refl

pub are_three : (words : List (Bor Word)) (d : Bor Word) → length words ≡ 3 → Some ((get_or words 0 d).now, (get_or words 1 d).now, (get_or words 2 d).now) ≡ exactly_three (texts words)
are_three [] d h = absurd (omega arith)
are_three (a ∷ []) d h = absurd (omega arith)
are_three (a ∷ b ∷ []) d h = absurd (omega arith)
are_three (a ∷ b ∷ c ∷ []) d h = refl
are_three (a ∷ b ∷ c ∷ w ∷ words) d h = absurd (omega arith)

pub are_not_three : (words : List (Bor Word)) → (length words ≡ 3 → ⊥) → None ≡ exactly_three (texts words)
are_not_three [] h = refl
are_not_three (a ∷ []) h = refl
are_not_three (a ∷ b ∷ []) h = refl
are_not_three (a ∷ b ∷ c ∷ []) h = absurd (h refl)
are_not_three (a ∷ b ∷ c ∷ d ∷ words) h = refl

pub are_four : (words : List (Bor Word)) (d : Bor Word) → length words ≡ 4 → Some ((get_or words 0 d).now, (get_or words 1 d).now, (get_or words 2 d).now, (get_or words 3 d).now) ≡ exactly_four (texts words)
are_four [] d h = absurd (omega arith)
are_four (a ∷ []) d h = absurd (omega arith)
are_four (a ∷ b ∷ []) d h = absurd (omega arith)
are_four (a ∷ b ∷ c ∷ []) d h = absurd (omega arith)
are_four (a ∷ b ∷ c ∷ w ∷ []) d h = refl
are_four (a ∷ b ∷ c ∷ w ∷ e ∷ words) d h = absurd (omega arith)

pub are_not_four : (words : List (Bor Word)) → (length words ≡ 4 → ⊥) → None ≡ exactly_four (texts words)
are_not_four [] h = refl
are_not_four (a ∷ []) h = refl
are_not_four (a ∷ b ∷ []) h = refl
are_not_four (a ∷ b ∷ c ∷ []) h = refl
are_not_four (a ∷ b ∷ c ∷ d ∷ []) h = absurd (h refl)
are_not_four (a ∷ b ∷ c ∷ d ∷ e ∷ words) h = refl

pub are_five : (words : List (Bor Word)) (d : Bor Word) → length words ≡ 5 → Some ((get_or words 0 d).now, (get_or words 1 d).now, (get_or words 2 d).now, (get_or words 3 d).now, (get_or words 4 d).now) ≡ exactly_five (texts words)
are_five [] d h = absurd (omega arith)
are_five (a ∷ []) d h = absurd (omega arith)
are_five (a ∷ b ∷ []) d h = absurd (omega arith)
are_five (a ∷ b ∷ c ∷ []) d h = absurd (omega arith)
are_five (a ∷ b ∷ c ∷ w ∷ []) d h = absurd (omega arith)
are_five (a ∷ b ∷ c ∷ w ∷ e ∷ []) d h = refl
are_five (a ∷ b ∷ c ∷ w ∷ e ∷ f ∷ words) d h = absurd (omega arith)

pub are_not_five : (words : List (Bor Word)) → (length words ≡ 5 → ⊥) → None ≡ exactly_five (texts words)
are_not_five [] h = refl
are_not_five (a ∷ []) h = refl
are_not_five (a ∷ b ∷ []) h = refl
are_not_five (a ∷ b ∷ c ∷ []) h = refl
are_not_five (a ∷ b ∷ c ∷ d ∷ []) h = refl
are_not_five (a ∷ b ∷ c ∷ d ∷ e ∷ []) h = absurd (h refl)
are_not_five (a ∷ b ∷ c ∷ d ∷ e ∷ f ∷ words) h = refl
