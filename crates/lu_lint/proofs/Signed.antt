-- The operations that are named last under each name.
use Rattle.std.proofs.Common.{◌≡◌, ℕ, ◌+◌, ◌≤◌, ◌<◌, List, ◌++◌, get_or, length, drop, append_assoc, ap, subst, ◌∙◌}
use Rattle.std.proofs.Math.ListN.{drop_of_length-le}
use Rattle.std.proofs.lemmas.Bool.{le-leb}
use Rattle.std.proofs.lemmas.List.{drop_more}
use Rattle.lu_component.specs.declared.component.Op.{Op}
use Rattle.lu_lang.specs.Faulty.{FaultyDraft}
use Rattle.lu_test.specs.Signatures.{Signature}
use Rattle.lu_lint.specs.declared.remark.Said.{Said}
use Rattle.lu_lint.specs.declared.component.ReadComponent.TheVariants as read
use Rattle.lu_lint.specs.Bundle.{matrix_said}
use Rattle.lu_lint.specs.Matrix.{matrix_lint}
use Rattle.lu_lint.specs.Said.{said_of_text}
use Rattle.lu_lint.specs.Signatures.{open_signature, signature_once, signatures_from, signatures_meant}

-- what is said by no more signatures than a component may have
pub said_by : (f : FaultyDraft) (above : ℕ) (text : List ℕ) (signatures : List Signature) (all next : List Said) → signatures ≡ signatures_meant f → length signatures ≤ 16 → next ≡ all ++ said_of_text (matrix_lint signatures) above text → next ≡ all ++ matrix_said (read.Faulty f) above text
said_by f above text signatures all next is few said =
    let few_meant : length (signatures_meant f) ≤ 16 = subst (λ (x : List Signature). length x ≤ 16) is few in
    let meant : next ≡ all ++ said_of_text (matrix_lint (signatures_meant f)) above text = subst (λ (x : List Signature). next ≡ all ++ said_of_text (matrix_lint x) above text) is said in
    rw (le-leb (length (signatures_meant f)) 16 few_meant) meant

-- one operation more
pub goes_on : (f : FaultyDraft) (ops : List Op) (i : ℕ) (op d : Op) (now next : List Signature) (after : List Op) (total : List Signature) → i < length ops → op ≡ get_or ops i d → after ≡ drop (i + 1) ops → next ≡ now ++ signature_once f op after → now ++ signatures_from f (drop i ops) ≡ total → next ++ signatures_from f (drop (i + 1) ops) ≡ total
goes_on f ops i op d now next after total within same is more so_far =
    let said : next ≡ now ++ signature_once f (get_or ops i d) after = more ∙ ap (λ (x : Op). now ++ signature_once f x after) same in
    rw (said, is) (append_assoc now (signature_once f (get_or ops i d) (drop (i + 1) ops)) (signatures_from f (drop (i + 1) ops)) ∙ (rw (drop_more ops i d within) at so_far))

-- no operation is left but the open one
pub is_done : (f : FaultyDraft) (ops : List Op) (i : ℕ) (now next total : List Signature) → length ops ≤ i → next ≡ now ++ open_signature f → now ++ signatures_from f (drop i ops) ≡ total → next ≡ total
is_done f ops i now next total past more so_far = more ∙ (rw (drop_of_length-le ops past) at so_far)
