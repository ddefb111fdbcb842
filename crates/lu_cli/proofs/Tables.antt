-- Tables, row by row.
use Rattle.std.proofs.Common.{◌≡◌, ℕ, ◌+◌, ◌<◌, ◌++◌, Bool, List, [], ◌∷◌, length, map, take, fold, refl, sym, ap, ◌∙◌, get_or, Result, Ok, Err, string_bytes}
use Rattle.std.specs.Prelude.{◌||◌, IfOk, String}
use Rattle.std.specs.Borrow.{Bor}
use Rattle.std.specs.List.{list_any}
use Rattle.std.specs.Str.{bytes_eq}
use Rattle.std.proofs.lemmas.List.{append_assoc, map-append, take_more}
use Rattle.std.proofs.lemmas.List.Folds.{flat_map-map}
use Rattle.std.proofs.lemmas.List.Sums.{fold-append}
use Rattle.lu_text.specs.Lines.{texts}
use Rattle.lu_text.specs.Writing.{Writes}
use Rattle.lu_cli.specs.Help.{lent_others, names_text, other_name}

-- a name among names in memory
pub named_among : (name : List ℕ) (lent : List (Bor (List ℕ))) → list_any (λ c. bytes_eq c.now name) lent ≡ list_any (λ c. bytes_eq c name) (texts lent)
named_among name [] = refl
named_among name (c ∷ lent) = ap (λ (b : Bool). bytes_eq c.now name || b) (named_among name lent)

-- what is made of the first rows, with one row more
pub fold_more : {A B C : Type 0} (f : B → A → B) (g : C → A) (a : B) (rows : List C) (i : ℕ) (d : C) → i < length rows
    → fold f a (map g (take (i + 1) rows)) ≡ f (fold f a (map g (take i rows))) (g (get_or rows i d))
fold_more {A} {B} {C} f g a rows i d within =
    ap (λ (l : List C). fold f a (map g l)) (take_more rows i d within)
    ∙ (ap (λ (l : List A). fold f a l) (map-append g (take i rows) (get_or rows i d ∷ []))
    ∙ fold-append f a (map g (take i rows)) (g (get_or rows i d) ∷ []))

-- a text that was built is an equal one too
pub builds_same : {E Z : Type 0} (r : Result (String Z) E) (one other : List ℕ) → IfOk r (λ t. string_bytes t ≡ one) → one ≡ other → IfOk r (λ t. string_bytes t ≡ other)
builds_same (Ok t) one other is same = is ∙ same
builds_same (Err e) one other is same = tt

-- the first name was written, and then the others
pub writes_names : {T E Z : Type 0} (r : Result T E) (old mid new : String Z) (names others : List (Bor (List ℕ))) (first : Bor (List ℕ)) → names ≡ first ∷ others
    → string_bytes mid ≡ string_bytes old ++ first.now → Writes r mid new (lent_others others) → Writes r old new (names_text (texts names))
writes_names (Ok t) old mid new names others first split one more =
    more
    ∙ (ap (λ (t : List ℕ). t ++ lent_others others) one
    ∙ (append_assoc (string_bytes old) first.now (lent_others others)
    ∙ (ap (λ (t : List ℕ). string_bytes old ++ (first.now ++ t)) (sym (flat_map-map other_name (λ (name : Bor (List ℕ)). name.now) others))
    ∙ ap (λ (l : List (Bor (List ℕ))). string_bytes old ++ names_text (texts l)) (sym split))))
writes_names (Err e) old mid new names others first split one more = tt
