-- What is known of the schedules that go on from a beginning, and of moves that commute.
use Rattle.std.specs.Prelude.{◌≡◌, ℕ, zero, suc, ◌⊎◌, ◌++◌, List, [], Option, Some, slice_get}
use Rattle.std.specs.Borrow.{Bor}
use Rattle.std.specs.List.{Contains}
use Rattle.lu_machine.specs.declared.counts.Counts.{Counts}
use Rattle.lu_machine.specs.declared.event.Event.{Event}
use Rattle.lu_machine.specs.Changes.{idle}
use Rattle.lu_machine.specs.Runs.{with_event}
use Rattle.lu_machine.specs.States.{State}
use Rattle.lu_machine.specs.Steps.{Step, picks_of}
use Rattle.lu_machine.specs.Undoes.{CanTake, restored}
use Rattle.lu_horizon.specs.Dead.{DeadTable}
use Rattle.lu_orders.specs.Solo.{only_move}
use Rattle.lu_history.specs.declared.serial.SerialOp.{SerialOp}
use Rattle.lu_witness.specs.Witnesses.{IsMember}
use Rattle.lu_tree.specs.declared.commuting.TwoUndos.{TwoUndos}
use Rattle.lu_tree.specs.declared.known.Known.{Known, out-Known}
use Rattle.lu_tree.specs.declared.known.Hints.{Hints}
use Rattle.lu_tree.specs.declared.node.Node.{Node}
use Rattle.lu_tree.specs.Alike.{AreAlike}
use Rattle.lu_tree.specs.Reordered.{AreUnordered}
use Rattle.lu_tree.specs.Walks.{AreBelow}

-- thread t has one pick in s, and its move leads to r
abbrev pub Moves : ℕ → State → State → Option Event → Type 0
Moves t s r event = (picks_of s t ≡ 1) × Step s (only_move t) r event

-- the only moves of t and of u, one after the other
abbrev pub MovesBoth : ℕ → ℕ → State → State → Option Event → Option Event → Type 0
MovesBoth t u s end e f = (r : State) × Moves t s r e × Moves u r end f

-- they can't be made so: t or u has not exactly one pick
abbrev pub MoveNotBoth : ℕ → ℕ → State → Type 0
MoveNotBoth t u s = (end : State) (e f : Option Event) → MovesBoth t u s end e f → ⊥

-- The only moves of t and of u commute: in either order they lead to one state, but for dead
-- registers, with the same events, and where u moves first these have no more precedence.
abbrev pub Commute : DeadTable → ℕ → ℕ → State → Type 0
Commute table t u s =
    (end : State) × (other : State) × (e : Option Event) × (f : Option Event)
    × MovesBoth t u s end e f × MovesBoth u t s other f e × AreAlike table end other
    × AreUnordered e f

-- no operation of thread t is open, and k of them have ended
abbrev pub IsIdleAfter : ℕ → ℕ → State → Type 0
IsIdleAfter k t s = slice_get s.threads t ≡ Some (idle k)

-- the events of the only moves of t and of u have no more precedence in the other order
abbrev pub AreFree : ℕ → ℕ → State → Type 0
AreFree t u s =
    (r c : State) (e f : Option Event) → Moves t s r e → Moves u s c f → AreUnordered e f

-- both moves were made, and can be taken back
abbrev pub taken_back : TwoUndos → State → State
taken_back both s = restored both.first (restored both.second s)

pub record MadeBoth (t u : ℕ) (s end : State) (both : TwoUndos) : Type 0 where
  pub moves : MovesBoth t u s end both.first.event both.second.event
  pub back : taken_back both end ≡ s
  pub second : CanTake end both.second
  pub first : CanTake (restored both.second end) both.first

-- two moves have the same events in the other order, and no more precedence
abbrev pub HaveSameEvents : TwoUndos → TwoUndos → Type 0
HaveSameEvents there here =
    (there.first.event ≡ here.second.event) × (there.second.event ≡ here.first.event)
    × AreUnordered there.first.event there.second.event

-- the numbers of what goes on from a beginning, and what is known after the only moves of threads
abbrev pub counts_of : Known → Counts
counts_of known = (out-Known known).counts

abbrev pub kids_of : Known → List (ℕ × Known)
kids_of known = (out-Known known).kids.items

-- these numbers are known, and nothing after a move
abbrev pub TellsAlone : Counts → Known → Type 0
TellsAlone counts known = (counts_of known ≡ counts) × (kids_of known ≡ [])

abbrev pub IsKid : Known → ℕ → Known → Type 0
IsKid known t below = Contains (kids_of known) (t, below)

-- what is known after the move of thread t, by a hint; and by a hint or since it was walked
abbrev pub IsHint : Hints → ℕ → Known → Type 0
IsHint hints t below =
    (b : Bor Known) × (slice_get hints.by_thread t ≡ Some (Some b)) × (b.now ≡ below)

abbrev pub IsKnownBy : Hints → Known → ℕ → Known → Type 0
IsKnownBy hints known t below = IsHint hints t below ⊎ IsKid known t below

abbrev pub IsHintOr : ℕ → Known → Hints → Hints → Type 0
IsHintOr t below old new =
    (u : ℕ) (known : Known) → IsHint new u known → IsHint old u known ⊎ ((u ≡ t) × (known ≡ below))

-- each of the second list is one of the first, or the one that comes with it
abbrev pub IsAmongOr : {A : Type 0} → A → List A → List A → Type 0
IsAmongOr {A} one all some = (x : A) → Contains some x → Contains all x ⊎ (x ≡ one)

-- What is known below s, after the history h, with no more than `left` moves: the schedules that
-- go on from there are good if they end, and these are their numbers; and so after the only moves
-- of some threads.
abbrev pub IsKnown : (List SerialOp → Type 0) → State → List Event → ℕ → Known → Type 0
IsKnown Set s h zero known = AreBelow Set s h zero (counts_of known) × (kids_of known ≡ [])
IsKnown Set s h (suc left) known =
    AreBelow Set s h (suc left) (counts_of known)
    × ((t : ℕ) (below : Known) → IsKid known t below
    → (next : State) (event : Option Event) → Moves t s next event
    → IsKnown Set next (h ++ with_event event []) left below)

-- whatever the first tells truly, the second does
abbrev pub TellsNoMore : Known → Known → Type 0
TellsNoMore all some =
    (members : List (List SerialOp)) (s : State) (h : List Event) (left : ℕ)
    → IsKnown (IsMember members) s h left all → IsKnown (IsMember members) s h left some

-- each kid of the second tells no more than one that the first has of the same thread
abbrev pub KidsTellNoMore : Known → Known → Type 0
KidsTellNoMore all some =
    (t : ℕ) (below : Known) → IsKid some t below
    → (more : Known) × IsKid all t more × TellsNoMore more below

-- what is known after the only moves of threads
abbrev pub AreKnownAfter : (List SerialOp → Type 0) → State → List Event → ℕ
    → (ℕ → Known → Type 0) → Type 0
AreKnownAfter Set s h left Holds =
    (t : ℕ) (below : Known) → Holds t below
    → (next : State) (event : Option Event) → Moves t s next event
    → IsKnown Set next (h ++ with_event event []) left below

-- Where thread t moves first: each hint is of a move that commutes with that, and was known after
-- it.
abbrev pub AreFrom : DeadTable → State → Hints → Known → ℕ → Hints → Type 0
AreFrom table s hints known t new =
    (u : ℕ) (below : Known) → IsHint new u below
    → Commute table u t s × (first : Known) × IsKnownBy hints known u first × IsKid first t below

-- the same of a node, over the histories of its tree
abbrev pub IsKnownNode : {T Place : Type 0} → (T → List (List SerialOp)) → Node T Place → ℕ
    → Known → Type 0
IsKnownNode members node left known =
    IsKnown (IsMember (members node.trail.tree)) node.machine node.trail.history left known

abbrev pub AreHints : {T Place : Type 0} → (T → List (List SerialOp)) → Node T Place → ℕ → Hints
    → Type 0
AreHints members node left hints =
    AreKnownAfter (IsMember (members node.trail.tree)) node.machine node.trail.history left
    (IsHint hints)
