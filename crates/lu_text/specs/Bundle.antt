-- Bundles: texts with several parts, which lines `---` part.
use Rattle.std.specs.Prelude.{ℕ, Bool, List, map, take, drop, codes, ◌==◌, ◌&&◌, ◌||◌}
use Rattle.std.specs.List.{concat, list_all, slice_split}
use Rattle.std.specs.Str.{bytes_eq}
use Rattle.lu_text.specs.Lines.{is_blank, kept_lines}
use Rattle.lu_text.specs.declared.bundle.Separators.{Separators}
use Rattle.lu_text.specs.declared.bundle.Separators.TheVariants.{Exact, Meant}

-- a line that parts
abbrev pub is_separator : List ℕ → Bool
is_separator line = bytes_eq line (codes "---\n") || bytes_eq line (codes "---")

-- blanks, and an LF
abbrev pub are_blank : List ℕ → Bool
are_blank bytes = list_all (λ b. is_blank b || b == 10) bytes

-- `---` and nothing but blanks after it: meant to part
abbrev pub is_meant_as_separator : List ℕ → Bool
is_meant_as_separator line = bytes_eq (take 3 line) (codes "---") && are_blank (drop 3 line)

abbrev pub separates : Separators → List ℕ → Bool
separates Exact = is_separator
separates Meant = is_meant_as_separator

-- what stands between the lines that this is true of
abbrev pub parts_between : (List ℕ → Bool) → List ℕ → List (List ℕ)
parts_between parts text = map concat (slice_split parts (kept_lines text))

abbrev pub parts_at : Separators → List ℕ → List (List ℕ)
parts_at separators text = parts_between (separates separators) text

-- the parts of a bundle
abbrev pub bundle_parts : List ℕ → List (List ℕ)
bundle_parts text = parts_between is_separator text

-- the parts of a bundle as they are meant
abbrev pub meant_parts : List ℕ → List (List ℕ)
meant_parts text = parts_between is_meant_as_separator text
