-- What is read.
use Rattle.std.specs.Prelude.{◌≡◌, ℕ, ◌<◌, List, length, Option, IfSome}

-- the most bytes that are read
abbrev pub most_bytes : ℕ
most_bytes = 1048576

-- these are all bytes that were there to be read, where these are known
abbrev pub IsWholeInput : Option (List ℕ) → List ℕ → Type 0
IsWholeInput known bytes = IfSome known (λ given. bytes ≡ given)

-- they are too many, where they are known
abbrev pub IsTooLong : Option (List ℕ) → Type 0
IsTooLong known = IfSome known (λ given. most_bytes < length given)
