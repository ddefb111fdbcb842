-- Words that nest expressions.
use Rattle.std.proofs.Common.{◌≡◌, suc, cond, List, [], ◌∷◌, length, Bor, Bool, true, false, refl, ap}
use Rattle.std.specs.List.{filter}
use Rattle.lu_text.specs.Lines.{texts}
use Rattle.lu_text.specs.Words.{Word}
use Rattle.lu_source_text.specs.Grammar.{is_nesting, nesting}

one_more : (is : Bool) (w : Bor Word) (ws : List (Bor Word)) → length (filter (λ v. is_nesting v.now) ws) ≡ nesting (texts ws)
    → length (cond is (w ∷ filter (λ v. is_nesting v.now) ws) (filter (λ v. is_nesting v.now) ws)) ≡ length (cond is (w.now ∷ filter is_nesting (texts ws)) (filter is_nesting (texts ws)))
one_more true w ws h = ap suc h
one_more false w ws h = h

-- the words in memory that nest expressions are as many as the words that do
pub as_many : (words : List (Bor Word)) → length (filter (λ w. is_nesting w.now) words) ≡ nesting (texts words)
as_many [] = refl
as_many (w ∷ ws) = one_more (is_nesting w.now) w ws (as_many ws)
