-- A set of serial histories as a node of a tree: whether the empty history is a member, and what
-- follows each first entry.
use Rattle.std.specs.Prelude.{◌≡◌, ◌≢◌, ℕ, ◌<◌, ◌≤◌, Bool, List, [], ◌∷◌, ◌++◌, map, length, if◌then◌else◌, Some, slice_get, slice_index_or}
use Rattle.std.specs.List.{HoldsAt}
use Rattle.std.specs.List.Sorted.{IsStrictlySortedBy}
use Rattle.std.specs.declared.cmp.Ordering.TheVariants.{Less, Greater}
use Rattle.lu_history.specs.declared.serial.SerialOp.{SerialOp}
use Rattle.lu_history.specs.Order.{op_cmp}
use Rattle.lu_trie.specs.Members.{contains, same_op, after, empty_if, AllSerial}

-- a label, and the histories after it
abbrev pub Branch : Type 0
Branch = SerialOp × List (List SerialOp)

abbrev pub labels : List Branch → List SerialOp
labels branches = map (λ branch. branch.0) branches

-- the histories of the branches, each after its label
abbrev pub joined : List Branch → List (List SerialOp)
joined [] = []
joined (branch ∷ branches) = after branch.0 branch.1 ++ joined branches

-- the members of a node
abbrev pub members_from : Bool → List Branch → List (List SerialOp)
members_from ends branches = empty_if ends ++ joined branches

-- each branch has a history
abbrev pub NoneBare : List Branch → Type 0
NoneBare [] = Unit {0}
NoneBare (branch ∷ branches) = (branch.1 ≢ []) × NoneBare branches

-- the labels rise strictly, and no branch is bare
pub record AreBranches (branches : List Branch) : Type 0 where
  pub rise : IsStrictlySortedBy op_cmp (labels branches)
  pub full : NoneBare branches

-- what holds of the branches of every node
pub record IsNode (ends : Bool) (branches : List Branch) : Type 0 where
  pub are : AreBranches branches
  pub serial : AllSerial (members_from ends branches)

-- with one more history in front
abbrev pub with_first : SerialOp → List SerialOp → List Branch → List Branch
with_first op history [] = (op, history ∷ []) ∷ []
with_first op history (branch ∷ branches) =
    if same_op op branch.0 then (branch.0, history ∷ branch.1) ∷ branches
    else (op, history ∷ []) ∷ branch ∷ branches

-- the histories that are not empty, by their first entries
abbrev pub branches_of : List (List SerialOp) → List Branch
branches_of [] = []
branches_of ([] ∷ histories) = branches_of histories
branches_of ((op ∷ history) ∷ histories) = with_first op history (branches_of histories)

-- the members are the empty history, where it is one, and those of the branches, each after its
-- label
pub record IsBranching (histories : List (List SerialOp)) : Type 0 where
  pub members : histories ≡ members_from (contains histories []) (branches_of histories)
  pub branches : AreBranches (branches_of histories)

-- the branch at place i has the label
pub record IsBranchAt (branches : List Branch) (label : SerialOp) (i : ℕ) : Type 0 where
  pub in_range : i < length branches
  pub has_label : (d : Branch) → (slice_index_or branches i d).0 ≡ label

-- a branch with the label would go at place i
pub record IsGapFor (branches : List Branch) (label : SerialOp) (i : ℕ) : Type 0 where
  pub in_range : i ≤ length branches
  pub smaller_before : (j : ℕ) (d : Branch) → j < i
      → op_cmp (slice_index_or branches j d).0 label ≡ Less
  pub greater_after : (j : ℕ) (d : Branch) → i ≤ j → j < length branches
      → op_cmp (slice_index_or branches j d).0 label ≡ Greater

-- branch i of the histories
abbrev pub IsBranchOf : List (List SerialOp) → ℕ → Branch → Type 0
IsBranchOf histories i branch = slice_get (branches_of histories) i ≡ Some branch

-- kid i is labelled with an operation of thread t
abbrev pub IsKidOf : {K : Type 0} → List (SerialOp × K) → ℕ → ℕ → Type 0
IsKidOf kids t i = (i < length kids) × HoldsAt (λ kid. kid.0.thread ≡ t) kids i
