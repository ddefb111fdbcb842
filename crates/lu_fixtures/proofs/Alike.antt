-- Lists of branches that agree so far.
use Rattle.std.proofs.Common.{◌≡◌, ℕ, ◌+◌, Bool, true, false, not, List, [], ◌∷◌, ◌++◌, take, Some, slice_get, refl, sym, ap, ◌∙◌, add-one}
use Rattle.lu_history.specs.declared.serial.SerialOp.{SerialOp}
use Rattle.lu_history.proofs.Events.{take_next}
use Rattle.lu_trie.specs.Branches.{Branch}

pub not_false : (b : Bool) → false ≡ not b → b ≡ true
not_false true e = refl
not_false false e = cc

branch_is : (op other : SerialOp) (below beside : List (List SerialOp)) → op ≡ other → below ≡ beside → ◌≡◌ {A = Branch} (op, below) (other, beside)
branch_is op other below beside label members = ap (λ x. (x, below)) label ∙ ap (λ x. (other, x)) members

module _ (left right : List Branch) (i : ℕ) (op other : SerialOp) (below beside : List (List SerialOp)) (here : slice_get left i ≡ Some (op, below)) (there : slice_get right i ≡ Some (other, beside)) where
  pub taken_more : take i left ≡ take i right → op ≡ other → below ≡ beside → take (i + 1) left ≡ take (i + 1) right
  taken_more same label members =
      let branch = branch_is op other below beside label members in
      ap (λ n. take n left) (add-one i) ∙ take_next left (op, below) i here
      ∙ ap (λ x. x ++ (op, below) ∷ []) same ∙ ap (λ (x : Branch). take i right ++ x ∷ []) branch
      ∙ sym (ap (λ n. take n right) (add-one i) ∙ take_next right (other, beside) i there)
