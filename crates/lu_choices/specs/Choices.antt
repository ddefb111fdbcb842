-- Choices: a number below each of some bases. Their order, and the number of each in it.
use Rattle.std.specs.Prelude.{◌≡◌, ℕ, ◌+◌, ◌*◌, ◌<◌, ◌≤◌, ◌⊎◌, List, [], ◌∷◌, length, All}
use Rattle.std.specs.List.{AllZip}

-- at most 16 bases, each 1 to 9
pub record AreBases (bases : List ℕ) : Type 0 where
  pub some : All (λ base. 1 ≤ base) bases
  pub small : All (λ base. base ≤ 9) bases
  pub few : length bases ≤ 16

-- a number below each base
abbrev pub IsChoiceIn : List ℕ → List ℕ → Type 0
IsChoiceIn bases choice = AllZip (λ n base. n < base) choice bases

-- how many choices there are
abbrev pub choice_count : List ℕ → ℕ
choice_count [] = 1
choice_count (base ∷ bases) = base * choice_count bases

-- lexicographic order: the first numbers that differ decide
abbrev pub IsBefore : List ℕ → List ℕ → Type 0
IsBefore [] v = ⊥
IsBefore (m ∷ u) [] = ⊥
IsBefore (m ∷ u) (n ∷ v) = (m < n) ⊎ (m ≡ n) × IsBefore u v

-- the number of a choice in that order, from 0: how many choices come before it
abbrev pub number_in : List ℕ → List ℕ → ℕ
number_in [] choice = 0
number_in (base ∷ bases) [] = 0
number_in (base ∷ bases) (n ∷ choice) = n * choice_count bases + number_in bases choice
