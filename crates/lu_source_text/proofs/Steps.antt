-- One step of reading an expression, and of names.
use Rattle.std.proofs.Common.{◌≡◌, ℕ, add-one, ◌+◌, true, List, [], ◌∷◌, ◌++◌, Option, Some, None, refl}
use Rattle.std.specs.Prelude.{codes, is_some, nat_lt, if◌then◌else◌, Ok, Err}
use Rattle.lu_text.specs.Words.{Word}
use Rattle.lu_source.specs.Expressions.{Expr}
use Rattle.lu_source_text.specs.declared.fault.SourceFaultKind.TheVariants.{Form}
use Rattle.lu_source_text.specs.Grammar.{Begun, Drafted, Scope, aside, by_state, inside, is_word, names_from, new_name, binding, expr_from, infix_from, infix_in, inner_by, joined, most_after, on_ok, unary_with, where_some}

pub expr_more : (n m : ℕ) (s : Scope) (least : ℕ) (ws : List Word) (w : Word) (rest : List Word) → n ≡ m + 1 → ws ≡ w ∷ rest
    → expr_from n s least ws ≡ on_ok (unary_with w (inner_by m s) rest) (λ (left, more). infix_from m s least 5 left more)
expr_more n m s least ws w rest e is = rw (e, is, add-one) refl

pub infix_more : (n m : ℕ) (s : Scope) (least most : ℕ) (left : Expr) (ws : List Word) (w : Word) (rest : List Word) → n ≡ m + 1 → ws ≡ w ∷ rest
    → infix_from n s least most left ws ≡ where_some (infix_in w) (Ok (left, w ∷ rest)) (λ by.
    if nat_lt (binding by) least then Ok (left, w ∷ rest)
    else (if nat_lt most (binding by) then Err Form
    else on_ok (expr_from m s (binding by + 1) rest)
    (λ (right, more). infix_from m s least (most_after by) (joined by left right) more)))
infix_more n m s least most left ws w rest e is = rw (e, is, add-one) refl

pub names_more : (d : Drafted) (names : List Word) (ws : List Word) (w c : Word) (rest : List Word) → ws ≡ w ∷ c ∷ rest
    → names_from names d ws ≡ on_ok (new_name d names w) (λ name.
    if is_word c (codes ",") then names_from (names ++ name ∷ []) d rest
    else (if is_word c (codes ")") then Ok (names ++ name ∷ [], rest) else Err Form))
names_more d names ws w c rest is = rw is refl

-- a line of an open operation
pub by_open : (d : Drafted) (name : Option Word) (begun : Option Begun) (b : Begun) (w : Word) (ws : List Word)
    → is_some name ≡ true → begun ≡ Some b → by_state d name begun w ws ≡ inside w (aside d) b ws
by_open d (Some name) begun b w ws there is = rw is refl
by_open d None begun b w ws there is = absurd cc
