-- How long the code of an operation is, counted up to 65.
use Rattle.std.proofs.Common.{◌≡◌, ℕ, ◌+◌, Bool, true, false, length, sym, ap, ◌∙◌, arith}
use Rattle.std.specs.Prelude.{min}
use mir.Val.{bool_byte}
use Rattle.lu_source.specs.Code.{comes_out, operation_code, size, where_so}
use Rattle.lu_source.specs.Trees.{Tree}
use Rattle.lu_source.proofs.Emitted.{length-operation}

-- one `return` more, where it may come to its end
pub len_counted : (b : Tree) (n k : ℕ) (out : Bool) → n ≡ min (size b) 65 → out ≡ comes_out b → k ≡ bool_byte out → min (n + k) 65 ≡ min (length (operation_code b)) 65
len_counted b n k out is comes one = by_end out one (length-operation b ∙ ap (λ t. size b + where_so t 1) (sym comes))
  where
    by_end : (out : Bool) → k ≡ bool_byte out → length (operation_code b) ≡ size b + where_so out 1 → min (n + k) 65 ≡ min (length (operation_code b)) 65
    by_end true one len = omega arith
    by_end false one len = omega arith
