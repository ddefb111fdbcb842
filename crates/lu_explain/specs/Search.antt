-- The words of the search for the longest partial witness.
use Rattle.std.specs.Prelude.{◌≡◌, ℕ, ◌+◌, ◌==◌, if◌then◌else◌, ◌<◌, ◌≤◌, ◌++◌, List, [], ◌∷◌, length, drop, get_or, Option, Some, None, MatchOption, slice_get, slice_index_or}
use Rattle.lu_machine.specs.declared.event.Event.{Event}
use Rattle.lu_history.specs.declared.operation.OpId.{OpId}
use Rattle.lu_history.specs.declared.serial.SerialOp.{SerialOp}
use Rattle.lu_history.specs.declared.serial.SerialOutcome.{SerialOutcome}
use Rattle.lu_history.specs.Histories.{IsCallAt}
use Rattle.lu_trie.specs.Members.{contains}
use Rattle.lu_history.specs.Parts.{part}
use Rattle.lu_witness.specs.Witnesses.{IsMember, entries}
use Rattle.lu_witness.specs.Search.{AreTaken, IsBeginning}
use Rattle.lu_explain.specs.declared.explanation.Reason.{Reason}
use Rattle.lu_explain.specs.declared.search.Way.{Way}
use Rattle.lu_explain.specs.Explanations.{IsBeginningInSet, IsBlocker, IsFirstLongest, IsFree, IsLeastOutcome, IsReasonOrDone, HasFirst}

-- how many operations are taken
abbrev pub number : List ℕ → ℕ
number [] = 0
number (n ∷ taken) = n + number taken

-- of each of 8 threads no more operations are taken than it can have
abbrev pub AreFewTaken : List ℕ → Type 0
AreFewTaken taken = (length taken ≡ 8) × ((t : ℕ) → get_or taken t 0 ≤ 8)

-- a member begins with q, and p goes on by it
abbrev pub GoesOnBy : List (List SerialOp) → List Event → List SerialOp → List SerialOp → Type 0
GoesOnBy members h p q = IsBeginningInSet (IsMember members) q × IsBeginning h (p ++ q)

-- by the order p goes on as far as it can; this many operations are then taken, and this is what
-- follows the order in the members
pub record IsLongestFrom (members : List (List SerialOp)) (h : List Event) (p order : List SerialOp)
    (taken : List ℕ) (rest : List (List SerialOp)) : Type 0 where
  pub first : IsFirstLongest (GoesOnBy members h p) order
  pub taken_are : AreTaken (p ++ order) taken
  pub rest_is : (q : List SerialOp) → contains rest q ≡ contains members (order ++ q)

-- the same of each beginning of which this many operations are taken
abbrev pub FindsLongest : List (List SerialOp) → List Event → List ℕ → List SerialOp → List ℕ
    → List (List SerialOp) → Type 0
FindsLongest members h taken order more rest =
    (p : List SerialOp) → AreTaken p taken → IsBeginning h p
    → IsLongestFrom members h p order more rest

-- the same of a way in a tree, where this is what follows a place in the members
abbrev pub IsLongestWay : {Place : Type 0} → (Place → List (List SerialOp)) → Place → List Event
    → List ℕ → Way Place → Type 0
IsLongestWay below place h taken way =
    FindsLongest (below place) h taken way.order way.taken (below way.place)

-- the operation has its thread's next outcome, where this many are taken
abbrev pub IsNextOutcome : List ℕ → List Event → SerialOp → Type 0
IsNextOutcome taken h op =
    slice_get (part op.thread h) (get_or taken op.thread 0) ≡ Some op.outcome

-- each thread has the outcomes that are left of its part, where this many are taken
abbrev pub HasRestOfParts : List Event → List ℕ → List SerialOp → Type 0
HasRestOfParts h taken q = (t : ℕ) → entries t q ≡ drop (get_or taken t 0) (part t h)

-- a member that has them
abbrev pub Completes : List (List SerialOp) → List Event → List ℕ → List SerialOp → Type 0
Completes members h taken q = IsMember members q × HasRestOfParts h taken q

-- of thread s one more is taken
abbrev pub IsOneMoreTaken : ℕ → List ℕ → List ℕ → Type 0
IsOneMoreTaken s taken more =
    (t : ℕ) → get_or more t 0 ≡ get_or taken t 0 + (if s == t then 1 else 0)

-- the least thread whose number is greater in `before`, or none
abbrev pub TellsMore : List ℕ → List ℕ → Option ℕ → Type 0
TellsMore taken before found =
    MatchOption found ((t : ℕ) → get_or before t 0 ≤ get_or taken t 0)
    (λ t. (get_or taken t 0 < get_or before t 0)
    × ((u : ℕ) → u < t → get_or before u 0 ≤ get_or taken u 0))

-- the operation that keeps b from coming next, or none
abbrev pub TellsBlocker : List ℕ → List Event → OpId → Option OpId → Type 0
TellsBlocker taken h b found =
    (p : List SerialOp) (j : ℕ) → AreTaken p taken → IsCallAt h j b
    → MatchOption found (IsFree h p b) (IsBlocker h p b)

-- the least outcome of thread t's first operations, or none
abbrev pub TellsOutcome : (List SerialOp → Type 0) → ℕ → Option SerialOutcome → Type 0
TellsOutcome Set t found =
    MatchOption found ((o : SerialOutcome) → HasFirst Set t o → ⊥) (IsLeastOutcome Set t)

-- how thread t stands after a beginning of which this many operations are taken
abbrev pub TellsStanding : (List SerialOp → Type 0) → List ℕ → List Event → ℕ → Option Reason
    → Type 0
TellsStanding Rest taken h t found =
    (p : List SerialOp) → AreTaken p taken → IsBeginning h p → IsReasonOrDone Rest h p t found

-- the same of each thread
abbrev pub TellsStandings : (List SerialOp → Type 0) → List ℕ → List Event → List (Option Reason)
    → Type 0
TellsStandings Rest taken h left =
    (t : ℕ) → t < 8 → TellsStanding Rest taken h t (slice_index_or left t None)
