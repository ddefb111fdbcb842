-- What one more history in a kid, or one more kid, does to a node.
use Rattle.std.proofs.Common.{◌≡◌, ℕ, ◌≤◌, ◌≢◌, Bool, true, false, ◌&&◌, ◌||◌, List, [], ◌∷◌, length, get_or, set, Result, Ok, Err, OnOk, OnErr, refl, sym, ap, ◌∙◌, subst}
use Rattle.std.specs.List.{insert}
use Rattle.std.proofs.lemmas.List.{get_or_default}
use Rattle.lu_history.specs.declared.serial.SerialOp.{SerialOp}
use Rattle.lu_history.specs.Order.{op_cmp}
use Rattle.lu_trie.specs.Members.{same_op, same_history, history_cmp, contains, Adds}
use Rattle.lu_trie.specs.Branches.{Branch, members_from, IsBranchAt}
use Rattle.lu_trie.proofs.Ops.{then_is_eq, histories_equiv}
use Rattle.lu_trie.proofs.Histories.{first_and_rest}
use Rattle.lu_trie.proofs.Membership.{kids_contain, node-nil, node-cons, kids-set, kids-insert, rest_of}

not_empty : (xs : List (List SerialOp)) (q : List SerialOp) → contains xs q ≡ true → xs ≢ []
not_empty [] q is empty = cc
not_empty (x ∷ xs) q is empty = cc

added : (old new : List (List SerialOp)) (h : List SerialOp) → Adds old new h → new ≢ []
added old new h adds = not_empty new h (adds h ∙ ap (λ b. b || contains old h) (histories_equiv.refl h))

-- a set that was not empty is not empty after an insertion, refused or not
pub kept_full : {B E : Type 0} (r : Result B E) (old new : List (List SerialOp)) (h : List SerialOp) → OnOk r (Adds old new h) → OnErr r (new ≡ old) → old ≢ [] → new ≢ []
kept_full (Ok b) old new h adds same full = added old new h adds
kept_full (Err e) old new h adds same full = λ empty. full (sym same ∙ empty)

pub on_ok : {B E P Q : Type 0} (r : Result B E) → (P → Q) → OnOk r P → OnOk r Q
on_ok (Ok b) f p = f p
on_ok (Err e) f p = tt

or_false : (a : Bool) → (a || false) ≡ a
or_false true = refl
or_false false = refl

-- a node has one more history, where its kids do
adds-after : (ends : Bool) (kids kids' : List (Branch)) (label : SerialOp) (rest : List SerialOp) → ((p : SerialOp) (q : List SerialOp) → kids_contain kids' p q ≡ ((same_op p label && same_history q rest) || kids_contain kids p q)) → Adds (members_from ends kids) (members_from ends kids') (label ∷ rest)
adds-after ends kids kids' label rest more [] = node-nil ends kids' ∙ sym (node-nil ends kids)
adds-after ends kids kids' label rest more (p ∷ q) =
    node-cons ends kids' p q
    ∙ more p q
    ∙ ap (λ b. b || kids_contain kids p q) (sym (then_is_eq (op_cmp p label) (history_cmp q rest)))
    ∙ ap (λ b. same_history (p ∷ q) (label ∷ rest) || b) (sym (node-cons ends kids p q))

module _ (ends : Bool) (kids : List (Branch)) (h : List SerialOp) (d : SerialOp) (some : 1 ≤ length h) (i : ℕ) (kid : Branch) where
  pub adds-set : (read : Branch) → read ≡ get_or kids i read → IsBranchAt kids (get_or h 0 d) i → kid.0 ≡ get_or h 0 d → Adds read.1 kid.1 (rest_of h) → Adds (members_from ends kids) (members_from ends (set kids i kid)) h
  adds-set read is_read at label adds =
      let old : read.1 ≡ (get_or kids i kid).1 = ap (λ (k : Branch). k.1) (is_read ∙ get_or_default kids i read kid at.in_range) in
      subst (Adds (members_from ends kids) (members_from ends (set kids i kid))) (ap (λ l. l ∷ rest_of h) label ∙ sym (first_and_rest h d some))
      (adds-after ends kids (set kids i kid) kid.0 (rest_of h) (kids-set kids i kid (rest_of h) at.in_range (label ∙ sym (at.has_label kid)) (subst (λ b. Adds b kid.1 (rest_of h)) old adds)))

  pub adds-insert : kid.0 ≡ get_or h 0 d → kid.1 ≡ rest_of h ∷ [] → Adds (members_from ends kids) (members_from ends (insert kids i kid)) h
  adds-insert label one =
      subst (Adds (members_from ends kids) (members_from ends (insert kids i kid))) (ap (λ l. l ∷ rest_of h) label ∙ sym (first_and_rest h d some))
      (adds-after ends kids (insert kids i kid) kid.0 (rest_of h) (λ p q.
      kids-insert kids i kid p q
      ∙ ap (λ xs. (same_op p kid.0 && contains xs q) || kids_contain kids p q) one
      ∙ ap (λ b. (same_op p kid.0 && b) || kids_contain kids p q) (or_false (same_history q (rest_of h)))))

-- the label of what was read at the place of a label
pub label-read : (kids : List (Branch)) (l : SerialOp) (i : ℕ) (kid : Branch) → IsBranchAt kids l i → kid ≡ get_or kids i kid → kid.0 ≡ l
label-read kids l i kid at read = ap (λ (k : Branch). k.0) read ∙ at.has_label kid
