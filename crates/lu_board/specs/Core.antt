-- The board as a pure machine: its states, which events are legal, and what they do.
use Rattle.std.specs.Prelude.{◌≡◌, ℕ, ◌+◌, ◌<◌, ◌≤◌, min, Bool, true, false, if◌then◌else◌, ◌&&◌, not, nat_eq, nat_lt, List, [], ◌∷◌, length, take, replicate, slice_index_or, slice_set, Option, Some, None, All, ⊤}
use Rattle.std.specs.List.{flat_map}
use Rattle.lu_board.specs.declared.view.View.{View}
use Rattle.lu_board.specs.declared.view.Kind.{Kind}
use Rattle.lu_board.specs.declared.view.Kind.TheVariants.{Clean, GivenUp}
use Rattle.lu_board.specs.declared.view.TheConstants.{MAX_PIECES, MAX_WORKERS}
use Rattle.lu_board.specs.declared.board_core.CoreFault.{CoreFault}
use Rattle.lu_board.specs.declared.board_core.CoreFault.TheVariants.{BadEvent, Memory}
use Rattle.lu_board.specs.declared.board_core.CoreEvent.{CoreEvent}
use Rattle.lu_board.specs.declared.board_core.CoreEvent.TheVariants.{Claim, Look, Lower, Settle}
use Rattle.lu_board.specs.Pieces.{is_in}
use Rattle.lu_board.specs.Views.{newcomer, blank, IsOver}
use Rattle.lu_board.specs.Events.{with_found, with_settled, after_claim, after_look}
use Rattle.lu_board.specs.Fit.{FitsBoard}

-- a state: the number of pieces, which of them are bad, the next piece, the best one, and each
-- worker's view
pub record CoreState : Type 0 where
  pub pieces : ℕ
  pub bad : List Bool
  pub next : ℕ
  pub best : ℕ
  pub views : List View

-- the state of a new board of n pieces
abbrev pub start : ℕ → ℕ → List Bool → CoreState
start n workers bad =
    record { pieces = n; bad = bad; next = 0; best = n; views = replicate workers (newcomer n 1) }

-- the view of worker w
abbrev pub view_at : CoreState → ℕ → View
view_at m w = slice_index_or m.views w blank

-- whether piece i is bad
abbrev pub is_bad : List Bool → ℕ → Bool
is_bad bad i = slice_index_or bad i false

-- whether there is a worker w, and it holds piece i
abbrev pub worker_holds : CoreState → ℕ → ℕ → Bool
worker_holds m w i = nat_lt w (length m.views) && is_in i (view_at m w).held

-- whether a piece may be settled so: a bad one is not clean
abbrev pub may_settle : Kind → Bool → Bool
may_settle Clean bad = not bad
may_settle GivenUp bad = true

-- whether the event is legal in this state
abbrev pub is_legal : CoreState → CoreEvent → Bool
is_legal m (Claim w) = nat_lt w (length m.views) && nat_eq (view_at m w).spent 0
is_legal m (Look w i) = worker_holds m w i
is_legal m (Lower w i) = worker_holds m w i && is_bad m.bad i
is_legal m (Settle w i kind) = worker_holds m w i && may_settle kind (is_bad m.bad i)

-- the state after an event, which changes the view of its worker
abbrev pub after_event : CoreState → CoreEvent → CoreState
after_event m (Claim w) =
    record m
    { next = m.next + 1; views = slice_set m.views w (after_claim m.pieces m.next (view_at m w)) }
after_event m (Look w i) =
    record m { views = slice_set m.views w (after_look i m.best (view_at m w)) }
after_event m (Lower w i) =
    record m
    { best = min m.best i; views = slice_set m.views w (with_found i (min m.best i) (view_at m w)) }
after_event m (Settle w i kind) =
    record m { views = slice_set m.views w (with_settled i kind (view_at m w)) }

-- the state after all events, one after the other
abbrev pub after_events : List CoreEvent → CoreState → CoreState
after_events [] m = m
after_events (e ∷ es) m = after_events es (after_event m e)

abbrev pub IsStateAfter : List CoreEvent → CoreState → CoreState → Type 0
IsStateAfter events m end = end ≡ after_events events m

-- whether each event is legal in the state after those before it
abbrev pub all_legal : List CoreEvent → CoreState → Bool
all_legal [] m = true
all_legal (e ∷ es) m = is_legal m e && all_legal es (after_event m e)

-- the event at k is the first that is not legal
pub record IsFirstIllegal (k : ℕ) (events : List CoreEvent) (m : CoreState) : Type 0 where
  pub within : k < length events
  pub before : all_legal (take k events) m ≡ true
  pub here : (e : CoreEvent)
      → is_legal (after_events (take k events) m) (slice_index_or events k e) ≡ false

-- why a run stopped
abbrev pub IsCoreFault : CoreFault → List CoreEvent → CoreState → Type 0
IsCoreFault (BadEvent k) events m = IsFirstIllegal k events m
IsCoreFault Memory events m = ⊤

-- each worker is over
abbrev pub AllDone : List View → Type 0
AllDone views = All IsOver views

-- the pieces that the workers gave up
abbrev pub given_in : List View → List ℕ
given_in views = flat_map (λ v. v.given) views

-- the best piece of a state, or None where none was lowered
abbrev pub best_piece : CoreState → Option ℕ
best_piece m = if nat_lt m.best m.pieces then Some m.best else None

-- the least bad piece, or None where there is none
abbrev pub IsLeastBad : List Bool → Option ℕ → Type 0
IsLeastBad bad None = (i : ℕ) → is_bad bad i ≡ false
IsLeastBad bad (Some b) = (is_bad bad b ≡ true) × ((i : ℕ) → is_bad bad i ≡ true → b ≤ i)

-- a worker's view, of weight 1, agrees with `bad`: its found pieces are bad, and its clean ones are
-- not
pub record AgreesWith (bad : List Bool) (v : View) : Type 0 where
  pub weight : v.weight ≡ 1
  pub found : All (λ i. is_bad bad i ≡ true) v.found
  pub clean : All (λ i. is_bad bad i ≡ false) v.clean

-- what legal events keep
pub record CoreInvariant (m : CoreState) : Type 0 where
  pub fits : FitsBoard m.pieces (length m.views) m.next m.best m.views
  pub each : All (AgreesWith m.bad) m.views
  pub covers : length m.bad ≡ m.pieces
  pub small : (m.pieces ≤ MAX_PIECES) × (0 < length m.views) × (length m.views ≤ MAX_WORKERS)

-- the answer says whether the event is legal in the old state, and where it is, the new state is
-- the one after it
abbrev pub StepsIfLegal : CoreEvent → CoreState → Bool → CoreState → Type 0
StepsIfLegal event old answer new =
    (answer ≡ is_legal old event) × (answer ≡ true → new ≡ after_event old event)

-- once all is done and nothing was given up, it is the least bad piece
abbrev pub IsLeastBadOnceDone : CoreState → Option ℕ → Type 0
IsLeastBadOnceDone m best = AllDone m.views → given_in m.views ≡ [] → IsLeastBad m.bad best
