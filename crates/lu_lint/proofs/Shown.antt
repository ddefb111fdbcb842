-- What runs show: the setup's run, the histories of a set, and a schedule that is cut.
use Rattle.std.proofs.Common.{◌≡◌, ℕ, ◌+◌, ◌<◌, ◌≤◌, Bool, true, false, List, [], ◌∷◌, ◌++◌, length, get_or, drop, take, Option, Some, None, slice_get, refl, sym, ap, ◌∙◌, append_assoc, append-nil}
use Rattle.std.specs.List.{flat_map}
use Rattle.std.proofs.lemmas.List.{drop_more, take_more, take_all, drop_all}
use Rattle.std.proofs.lemmas.List.Concat.{flat_map-cons}
use Rattle.std.proofs.lemmas.Grind.{flat_map-append}
use Rattle.lu_history.specs.declared.serial.SerialOp.{SerialOp}
use Rattle.lu_trie.specs.Members.{after, contains, empty_if}
use Rattle.lu_trie.specs.Branches.{Branch, IsBranching, branches_of, joined, members_from}
use Rattle.lu_spec.proofs.Sets.{joined_next}
use Rattle.lu_lint.specs.declared.remark.Ending.{Ending}
use Rattle.lu_lint.specs.declared.remark.SerialHint.{SerialHint}
use Rattle.lu_lint.specs.Runs.{ending_of, hint_of, hints_after, history_hints, op_hints, with_set, with_firsts, with_hint}

-- ---- the first of each call and ending

pub none_more : (found : List SerialHint) (before : List SerialOp) (op : SerialOp) (ending : Option Ending) → ending ≡ ending_of op.outcome → ending ≡ None → found ≡ with_firsts found (op_hints before op)
unfolding with_firsts
none_more found before op ending is none = rw (← is, none) refl

pub one_more : (found : List SerialHint) (before : List SerialOp) (op : SerialOp) (ending : Option Ending) (e : Ending) → ending ≡ ending_of op.outcome → ending ≡ Some e → with_hint found (hint_of before op.thread e) ≡ with_firsts found (op_hints before op)
unfolding with_firsts
one_more found before op ending e is some = rw (← is, some) refl

pub firsts-append : (found xs ys : List SerialHint) → with_firsts found (xs ++ ys) ≡ with_firsts (with_firsts found xs) ys
unfolding with_firsts
firsts-append found [] ys = refl
firsts-append found (x ∷ xs) ys = firsts-append (with_hint found x) xs ys

-- ---- the operations of a history

pub op_further : (h : List SerialOp) (i : ℕ) (d : SerialOp) (found next total : List SerialHint) → i < length h → next ≡ with_firsts found (op_hints (take i h) (get_or h i d)) → with_firsts found (hints_after (take i h) (drop i h)) ≡ total → with_firsts next (hints_after (take (i + 1) h) (drop (i + 1) h)) ≡ total
unfolding hints_after
op_further h i d found next total within more so_far =
    let op = get_or h i d in
    let rest = hints_after (take i h ++ op ∷ []) (drop (i + 1) h) in
    let split : with_firsts found (op_hints (take i h) op ++ rest) ≡ total = rw (drop_more h i d within) at so_far in
    rw (more, take_more h i d within) (sym (firsts-append found (op_hints (take i h) op) rest) ∙ split)

pub no_more : (h : List SerialOp) (i : ℕ) (found total : List SerialHint) → length h ≤ i → with_firsts found (hints_after (take i h) (drop i h)) ≡ total → found ≡ total
unfolding hints_after with_firsts
no_more h i found total past so_far = rw (drop_all i h past) at so_far

-- ---- the histories below a place

-- those of a kid
kid_hints : (path : List SerialOp) (op : SerialOp) (kid : List (List SerialOp)) → flat_map (λ h. history_hints (path ++ h)) (after op kid) ≡ flat_map (λ h. history_hints ((path ++ op ∷ []) ++ h)) kid
kid_hints path op [] = refl
kid_hints path op (h ∷ hs) =
    flat_map-cons (λ x. history_hints (path ++ x)) (op ∷ h) (after op hs)
    ∙ (ap (λ (x : List SerialOp). history_hints x ++ flat_map (λ y. history_hints (path ++ y)) (after op hs)) (sym (append_assoc path (op ∷ []) h))
    ∙ (ap (λ (x : List SerialHint). history_hints ((path ++ op ∷ []) ++ h) ++ x) (kid_hints path op hs)
    ∙ sym (flat_map-cons (λ x. history_hints ((path ++ op ∷ []) ++ x)) h hs)))

-- the path, where it is a history
pub here : (found next : List SerialHint) (path : List SerialOp) (ends : Bool) → ends ≡ true → next ≡ with_firsts found (history_hints path) → next ≡ with_set found path (empty_if ends)
here found next path ends e is =
    let one : flat_map (λ h. history_hints (path ++ h)) ([] ∷ []) ≡ history_hints path = flat_map-cons (λ h. history_hints (path ++ h)) [] [] ∙ (append-nil (history_hints (path ++ [])) ∙ ap history_hints (append-nil path)) in
    rw e (is ∙ ap (with_firsts found) (sym one))

pub not_here : (found : List SerialHint) (path : List SerialOp) (ends : Bool) → ends ≡ false → found ≡ with_set found path (empty_if ends)
unfolding with_firsts
not_here found path ends e = rw e refl

-- the histories of the first i kids
abbrev pub of_kids : List SerialHint → List SerialOp → List (List SerialOp) → ℕ → List SerialHint
of_kids found path hs i = with_set found path (members_from (contains hs []) (take i (branches_of hs)))

after-append : (found : List SerialHint) (path : List SerialOp) (xs ys : List (List SerialOp)) → with_set found path (xs ++ ys) ≡ with_set (with_set found path xs) path ys
after-append found path xs ys =
    ap (with_firsts found) (flat_map-append (λ h. history_hints (path ++ h)) xs ys)
    ∙ firsts-append found (flat_map (λ h. history_hints (path ++ h)) xs) (flat_map (λ h. history_hints (path ++ h)) ys)

pub no_kid : (found : List SerialHint) (path : List SerialOp) (hs : List (List SerialOp)) → with_set found path (empty_if (contains hs [])) ≡ of_kids found path hs 0
no_kid found path hs = ap (with_set found path) (sym (append-nil (empty_if (contains hs []))))

pub first_kid : (found so_far : List SerialHint) (path now : List SerialOp) (hs : List (List SerialOp)) (ends : Bool) → now ≡ path → ends ≡ contains hs [] → so_far ≡ with_set found now (empty_if ends) → so_far ≡ of_kids found path hs 0
first_kid found so_far path now hs ends same is more =
    more
    ∙ (ap (λ (x : List SerialOp). with_set found x (empty_if ends)) same
    ∙ (ap (λ (b : Bool). with_set found path (empty_if b)) is
    ∙ no_kid found path hs))

pub kid_more : (found so_far next : List SerialHint) (path : List SerialOp) (hs : List (List SerialOp)) (i : ℕ) (op : SerialOp) (kid : List (List SerialOp)) → slice_get (branches_of hs) i ≡ Some (op, kid) → so_far ≡ of_kids found path hs i → next ≡ with_set so_far (path ++ op ∷ []) kid → next ≡ of_kids found path hs (i + 1)
kid_more found so_far next path hs i op kid at is more =
    let ends = empty_if (contains hs []) in
    let before = joined (take i (branches_of hs)) in
    let all : ends ++ joined (take (i + 1) (branches_of hs)) ≡ (ends ++ before) ++ after op kid = ap (λ (x : List (List SerialOp)). ends ++ x) (joined_next (branches_of hs) i op kid at) ∙ sym (append_assoc ends before (after op kid)) in
    more
    ∙ (ap (with_firsts so_far) (sym (kid_hints path op kid))
    ∙ (ap (λ (x : List SerialHint). with_set x path (after op kid)) is
    ∙ (sym (after-append found path (ends ++ before) (after op kid))
    ∙ ap (with_set found path) (sym all))))

pub all_kids : (found so_far : List SerialHint) (path : List SerialOp) (hs : List (List SerialOp)) (i : ℕ) → IsBranching hs → length (branches_of hs) ≤ i → so_far ≡ of_kids found path hs i → so_far ≡ with_set found path hs
all_kids found so_far path hs i law past is =
    is
    ∙ (ap (λ (x : List Branch). with_set found path (members_from (contains hs []) x)) (take_all i (branches_of hs) past)
    ∙ ap (with_set found path) (sym law.members))
