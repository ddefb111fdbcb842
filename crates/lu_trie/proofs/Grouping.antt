-- The branches of a node's members are its kids.
use Rattle.std.proofs.Common.{◌≡◌, ◌≢◌, ℕ, ◌<◌, Bool, true, false, List, [], ◌∷◌, ◌++◌, length, get_or, Some, slice_get, if◌then◌else◌, refl, sym, ap, ◌∙◌, subst}
use Rattle.std.specs.List.Sorted.{IsStrictlySortedBy}
use Rattle.std.specs.Ordering.{is_eq}
use Rattle.std.proofs.lemmas.Option.{slice_get_read}
use Rattle.lu_history.specs.declared.serial.SerialOp.{SerialOp}
use Rattle.lu_history.specs.Order.{op_cmp}
use Rattle.lu_trie.specs.Members.{same_op, contains, after}
use Rattle.lu_trie.specs.Branches.{Branch, labels, joined, members_from, with_first, branches_of, NoneBare, AreBranches, IsBranching}
use Rattle.lu_trie.proofs.Ops.{ops_equiv}
use Rattle.lu_trie.proofs.Membership.{node-nil}

-- the first branch has another label
abbrev StartsApart : SerialOp → List Branch → Type 0
StartsApart op [] = Unit {0}
StartsApart op (branch ∷ branches) = same_op op branch.0 ≡ false

alone : (op : SerialOp) (h : List SerialOp) (bs : List Branch) → StartsApart op bs → with_first op h bs ≡ (op, h ∷ []) ∷ bs
alone op h [] apart = refl
alone op h (b ∷ bs) apart = ap (λ t. if t then (b.0, h ∷ b.1) ∷ bs else (op, h ∷ []) ∷ b ∷ bs) apart

joins : (op : SerialOp) (h : List SerialOp) (hs : List (List SerialOp)) (bs : List Branch) → with_first op h ((op, hs) ∷ bs) ≡ (op, h ∷ hs) ∷ bs
joins op h hs bs = ap (λ t. if t then (op, h ∷ hs) ∷ bs else (op, h ∷ []) ∷ (op, hs) ∷ bs) (ops_equiv.refl op)

branches-after : (op : SerialOp) (hs rest : List (List SerialOp)) → hs ≢ [] → StartsApart op (branches_of rest) → branches_of (after op hs ++ rest) ≡ (op, hs) ∷ branches_of rest
branches-after op [] rest full apart = absurd (full refl)
branches-after op (h ∷ []) rest full apart = alone op h (branches_of rest) apart
branches-after op (h ∷ x ∷ hs) rest full apart =
    ap (with_first op h) (branches-after op (x ∷ hs) rest (λ e. cc) apart)
    ∙ joins op h (x ∷ hs) (branches_of rest)

starts_apart : (op : SerialOp) (bs : List Branch) → IsStrictlySortedBy op_cmp (op ∷ labels bs) → StartsApart op bs
unfolding IsStrictlySortedBy
starts_apart op [] rise = tt
starts_apart op (k ∷ ks) rise = ap is_eq rise.0.0

branches-joined : (bs : List Branch) → IsStrictlySortedBy op_cmp (labels bs) → NoneBare bs → branches_of (joined bs) ≡ bs
unfolding IsStrictlySortedBy
branches-joined [] rise full = refl
branches-joined (k ∷ ks) rise full =
    let rest = branches-joined ks rise.1 full.1 in
    branches-after k.0 k.1 (joined ks) full.0 (subst (StartsApart k.0) (sym rest) (starts_apart k.0 ks rise))
    ∙ ap (λ bs. (k.0, k.1) ∷ bs) rest

-- a node's members have the branches that they are made from
pub node-branches : (ends : Bool) (bs : List Branch) → AreBranches bs → branches_of (members_from ends bs) ≡ bs
node-branches true bs are = branches-joined bs are.rise are.full
node-branches false bs are = branches-joined bs are.rise are.full

pub node-branching : (ends : Bool) (bs : List Branch) → AreBranches bs → IsBranching (members_from ends bs)
node-branching ends bs are =
    let same = node-branches ends bs are in
    record {
      members = ap (λ b. members_from b bs) (sym (node-nil ends bs)) ∙ ap (members_from (contains (members_from ends bs) [])) (sym same);
      branches = subst AreBranches (sym same) are;
    }

pub node-branch : (ends : Bool) (bs : List Branch) → AreBranches bs → (i : ℕ) (b : Branch) → i < length bs → b ≡ get_or bs i b → slice_get (branches_of (members_from ends bs)) i ≡ Some b
node-branch ends bs are i b lt read = ap (λ ks. slice_get ks i) (node-branches ends bs are) ∙ slice_get_read bs (length bs) i b refl lt read
