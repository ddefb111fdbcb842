-- What is looked for in lines and words, one after the other.
use Rattle.std.proofs.Common.{◌≡◌, ◌≢◌, ℕ, zero, suc, add-one, ◌+◌, ◌<◌, Bool, true, false, not, ◌&&◌, ◌||◌, List, [], ◌∷◌, get_or, length, drop, map, Option, sym, ap, ◌∙◌, arith, ne_eqb}
use Rattle.std.specs.Prelude.{Vec, ◌==◌}
use Rattle.std.specs.Iterator.{AlwaysYields}
use Rattle.std.proofs.lemmas.Iterator.{YieldsList}
use denote.Ref.{Bor}
use Rattle.lu_text.specs.Lines.{texts}
use Rattle.lu_text.specs.Words.{Word}
use Rattle.lu_source_lint.specs.declared.warnings.Sought.{Sought}
use Rattle.lu_source_lint.specs.Warnings.{Line, depth_after, ends_without, lines_in, stops}

-- ---- lines in memory

yields_read : {S A B C : Type 0} (steps : S → Option A → S → Type 0) (v : A → B) (f : B → C) (s : S) (ys : List B) → AlwaysYields steps v s ys → AlwaysYields steps (λ x. f (v x)) s (map f ys)
yields_read steps v f s [] yields = yields
yields_read steps v f s (y ∷ ys) yields = (yields.0, λ x j step. (ap f (yields.1 x j step).0, yields_read steps v f j ys (yields.1 x j step).1))

-- an iterator's items as f reads them, as the bytes of words
pub read_by : {S A B C : Type 0} {steps : S → Option A → S → Type 0} {v : A → B} {s : S} {ys : List B} (f : B → C) → YieldsList steps v s ys → YieldsList steps (λ x. f (v x)) s (map f ys)
read_by {S} {A} {B} {C} {steps} {v} {s} {ys} f yields = record { runs = yields_read steps v f s ys yields.runs }

more : {Z : Type 0} (lines : List (Vec (Bor Word) Z)) (i : ℕ) (v : Vec (Bor Word) Z) → i < length lines → v ≡ get_or lines i v → drop i (lines_in lines) ≡ texts v.items ∷ drop (suc i) (lines_in lines)
more [] i v lt is = absurd (omega arith)
more (x ∷ xs) zero v lt is = ap (λ v. texts v.items ∷ lines_in xs) (sym is)
more (x ∷ xs) (suc i) v lt is = more xs i v (omega arith) is

-- the lines from number i on begin with this one
pub lines_more : {Z : Type 0} (lines : List (Vec (Bor Word) Z)) (i : ℕ) (v : Vec (Bor Word) Z) (here : List (Bor Word)) → i < length lines → v ≡ get_or lines i v → here ≡ v.items → drop i (lines_in lines) ≡ texts here ∷ drop (i + 1) (lines_in lines)
lines_more lines i v here lt is same = rw (add-one i) (more lines i v lt is ∙ ap (λ l. texts l ∷ drop (suc i) (lines_in lines)) (sym same))

-- ---- the lines of a loop

pub ends_stops : (shared : List Word) (sought : Sought) (depth : ℕ) (words : Line) (rest : List Line) (total : Bool) → stops shared sought depth words ≡ true → ends_without shared sought depth (words ∷ rest) ≡ total → false ≡ total
ends_stops shared sought depth words rest total is so =
    sym (ap (λ t. not t && (depth_after depth words == 0 || ends_without shared sought (depth_after depth words) rest)) is) ∙ so

pub ends_here : (shared : List Word) (sought : Sought) (depth after : ℕ) (words : Line) (rest : List Line) (total : Bool) → stops shared sought depth words ≡ false → after ≡ depth_after depth words → after ≡ 0 → ends_without shared sought depth (words ∷ rest) ≡ total → true ≡ total
ends_here shared sought depth after words rest total is counted none so =
    sym (ap (λ t. not t && (depth_after depth words == 0 || ends_without shared sought (depth_after depth words) rest)) is
    ∙ ap (λ n. n == 0 || ends_without shared sought n rest) (sym counted ∙ none)) ∙ so

pub ends_on : (shared : List Word) (sought : Sought) (depth after : ℕ) (words : Line) (rest : List Line) (total : Bool) → stops shared sought depth words ≡ false → after ≡ depth_after depth words → after ≢ 0 → ends_without shared sought depth (words ∷ rest) ≡ total → ends_without shared sought after rest ≡ total
ends_on shared sought depth after words rest total is counted some so =
    sym (ap (λ t. not t && (depth_after depth words == 0 || ends_without shared sought (depth_after depth words) rest)) is
    ∙ ap (λ n. n == 0 || ends_without shared sought n rest) (sym counted)
    ∙ ap (λ t. t || ends_without shared sought after rest) (ne_eqb after 0 some)) ∙ so
