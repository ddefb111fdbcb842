-- The open blocks of the code, of which the innermost is the last.
use Rattle.std.proofs.Common.{◌≡◌, Bool, true, false, ◌||◌, List, [], ◌∷◌, ◌++◌, length, refl, sym, ap, ◌∙◌}
use Rattle.std.specs.Prelude.{map, reverse}
use Rattle.std.specs.List.{list_any}
use Rattle.std.proofs.lemmas.List.{reverse-append, length-reverse, length-map}
use Rattle.lu_source_text.specs.declared.draft.Block.{Block as HeldBlock}
use Rattle.lu_source_text.specs.Drafts.{block_of, blocks_of, opening_of}
use Rattle.lu_source_text.specs.Grammar.{Block, in_loop, is_loop}

-- one more is the innermost
pub blocks_more : (items outer : List HeldBlock) (b : HeldBlock) → items ≡ outer ++ b ∷ [] → blocks_of items ≡ block_of b ∷ blocks_of outer
blocks_more items outer b is = ap blocks_of is ∙ ap (map block_of) (reverse-append outer (b ∷ []))

pub blocks_count : (items : List HeldBlock) → length (blocks_of items) ≡ length items
blocks_count items = length-map (reverse items) block_of ∙ length-reverse items

or_comm : (a b : Bool) → (a || b) ≡ (b || a)
or_comm true true = refl
or_comm true false = refl
or_comm false true = refl
or_comm false false = refl

or_assoc : (a b c : Bool) → ((a || b) || c) ≡ (a || (b || c))
or_assoc true b c = refl
or_assoc false b c = refl

in_both : (xs ys : List Block) → in_loop (xs ++ ys) ≡ (in_loop xs || in_loop ys)
in_both [] ys = refl
in_both (x ∷ xs) ys = ap (λ t. is_loop x.opening || t) (in_both xs ys) ∙ sym (or_assoc (is_loop x.opening) (in_loop xs) (in_loop ys))

pub map_both : (xs ys : List HeldBlock) → map block_of (xs ++ ys) ≡ map block_of xs ++ map block_of ys
map_both [] ys = refl
map_both (x ∷ xs) ys = ap (λ zs. block_of x ∷ zs) (map_both xs ys)

or_none : (a : Bool) → (a || false) ≡ a
or_none true = refl
or_none false = refl

-- whether one of them is a loop does not depend on their order
pub any_loop : (items : List HeldBlock) → list_any (λ b. is_loop (opening_of b.opening)) items ≡ in_loop (blocks_of items)
any_loop [] = refl
any_loop (b ∷ bs) =
    ap (λ t. is_loop (opening_of b.opening) || t) (any_loop bs)
    ∙ or_comm (is_loop (opening_of b.opening)) (in_loop (blocks_of bs))
    ∙ ap (λ t. in_loop (blocks_of bs) || t) (sym (or_none (is_loop (opening_of b.opening))))
    ∙ sym (in_both (blocks_of bs) (block_of b ∷ []))
    ∙ sym (ap in_loop (ap (map block_of) (reverse-append (b ∷ []) bs) ∙ map_both (reverse bs) (b ∷ [])))
