-- A replay, move after move.
use Rattle.std.proofs.Common.{◌≡◌, ◌⊎◌, ℕ, suc, ◌+◌, ◌<◌, ◌≤◌, List, [], ◌∷◌, ◌++◌, length, take, get_or, slice_get, Option, Some, None, IfSome, refl, sym, ◌∙◌, ap, subst, inl, inr, arith}
use Rattle.std.proofs.lemmas.Bool.{cases_lt}
use Rattle.std.proofs.lemmas.List.{append-nil, get_or-take, length-take, take_all, take-take, take_more}
use Rattle.std.proofs.lemmas.Option.{get_or_from_slice_get, slice_get-get_or, slice_get_within}
use Rattle.lu_component.specs.Component.{Component}
use Rattle.lu_test.specs.declared.schedule.Move.{Move}
use Rattle.lu_test.specs.Matrix.{Matrix}
use Rattle.lu_machine.specs.declared.event.Event.{Event}
use Rattle.lu_machine.specs.declared.event.Status.{Status}
use Rattle.lu_machine.specs.declared.event.Status.TheVariants.{Running, Complete, Stuck}
use Rattle.lu_machine.specs.States.{State, progress}
use Rattle.lu_machine.specs.Steps.{Step, IsFeasible, picks_of}
use Rattle.lu_machine.specs.Runs.{Leads, with_event}
use Rattle.lu_machine.specs.Starts.{IsStart, Settles}
use Rattle.lu_machine.specs.Ends.{HasStatus}
use Rattle.lu_machine.proofs.Starting.{start_same, start_there}
use Rattle.lu_machine.proofs.Ended.{complete_or_not, move_or_not, status_same}
use Rattle.lu_machine.proofs.StepLaws.{feasible_step}
use Rattle.lu_machine.proofs.Paths.{leads_same, goes_on_feasible, child_leads}
use Rattle.lu_machine.specs.Events.{IsEventInRange}
use Rattle.lu_history.specs.Histories.{Fits, IsWellFormed}
use Rattle.lu_history.proofs.Events.{push_history}
use Rattle.lu_history.specs.Standing.{Agree}
use Rattle.lu_history.proofs.Following.{start_agrees, step_agrees, step_fits}
use Rattle.lu_replay.specs.Replays.{Plays, PlaysToStatus, IsInfeasibleAt}

-- from the start the first moves, so many, lead to this state with this history
pub record IsPlayed (start : State) (u : List Move) (many : ℕ) (now : State) (history : List Event) : Type 0 where
  pub leads : Leads start (take many u) now history
  pub agree : Agree (progress now) history
  pub well_formed : IsWellFormed history

-- a history that grows by an event that fits
well_formed_more : (history : List Event) (event : Option Event) → IsWellFormed history → IfSome event (Fits history) → IsWellFormed (history ++ with_event event [])
well_formed_more history None is fits = rw (append-nil history) is
well_formed_more history (Some e) is fits = push_history history e is fits

pub played_none : (c : Component) (matrix : Matrix) (start : State) (u : List Move) → IsStart c matrix start → IsPlayed start u 0 start []
played_none c matrix start u is = record { leads = (refl, refl); agree = start_agrees c matrix start is; well_formed = λ i e at. absurd cc }

pub played_more : (start : State) (u : List Move) (many : ℕ) (now : State) (history : List Event) (m : Move) (new : State) (event : Option Event) → IsPlayed start u many now history → many < length u → m ≡ get_or u many m → Step now m new event → IfSome event (Fits history) → IsPlayed start u (many + 1) new (history ++ with_event event [])
played_more start u many now history m new event played below read step fits =
    let more : take (many + 1) u ≡ take many u ++ m ∷ [] =
    take_more u many m below ∙ ap (λ (n : Move). take many u ++ n ∷ []) (sym read) in
    record {
      leads = rw more (child_leads start (take many u) now history played.leads m new event step);
      agree = step_agrees now m new event history played.agree step;
      well_formed = well_formed_more history event played.well_formed fits;
    }

plays_same : (c : Component) (matrix : Matrix) (u : List Move) (a b : State) (h k : List Event) → Plays c matrix u a h → Plays c matrix u b k → (a ≡ b) × (h ≡ k)
plays_same c matrix u a b h k p q =
    let same = start_same c matrix q.0 p.0 q.1 p.1 in
    let q' : Leads p.0 u b k = subst (λ (s : State). Leads s u b k) same q.2 in
    leads_same p.0 u a b h k p.2 q'

-- a beginning of what was played goes on by a feasible move
plays_on : (c : Component) (matrix : Matrix) (u : List Move) (end : State) (h : List Event) (i : ℕ) (m : Move) (mid : State) (k : List Event) → Plays c matrix u end h → slice_get u i ≡ Some m → Plays c matrix (take i u) mid k → IsFeasible mid m
plays_on c matrix u end h i m mid k p at q =
    let same = start_same c matrix q.0 p.0 q.1 p.1 in
    let first : Leads p.0 (take i u) mid k = subst (λ (s : State). Leads s (take i u) mid k) same q.2 in
    let f = goes_on_feasible p.0 u end h p.2 i m (slice_get_within u i m at) mid k first in
    subst (IsFeasible mid) (get_or_from_slice_get u i m m at) f

pub one_replay : (c : Component) (matrix : Matrix) (u : List Move) (h k : List Event) (a b : Status) → PlaysToStatus c matrix u h a → PlaysToStatus c matrix u k b → (h ≡ k) × (a ≡ b)
one_replay c matrix u h k a b p q =
    let same = plays_same c matrix u p.0 q.0 h k p.1 q.1 in
    let status : HasStatus p.0 b = subst (λ (s : State). HasStatus s b) (sym same.0) q.2 in
    (same.1, status_same p.0 a b p.2 status)

pub replay_or_fault : (c : Component) (matrix : Matrix) (u : List Move) (h : List Event) (a : Status) (i : ℕ) → PlaysToStatus c matrix u h a → IsInfeasibleAt c matrix u i → ⊥
replay_or_fault c matrix u h a i p q = q.5 (plays_on c matrix u p.0 h i q.2 q.0 q.1 p.1 q.4 q.3)

-- an infeasible move is the first one
not_before : (c : Component) (matrix : Matrix) (u : List Move) (i j : ℕ) → IsInfeasibleAt c matrix u i → IsInfeasibleAt c matrix u j → i < j → ⊥
not_before c matrix u i j p q below =
    let m : Move = p.2 in
    let within : i < length u = slice_get_within u i m p.4 in
    let short : i < length (take j u) = rw length-take (omega arith) in
    let read : get_or (take j u) i m ≡ m = get_or-take j u i m below ∙ get_or_from_slice_get u i m m p.4 in
    let at : slice_get (take j u) i ≡ Some m = slice_get-get_or (take j u) i m short ∙ ap (λ (n : Move). Some n) read in
    let first : Plays c matrix (take i (take j u)) p.0 p.1 = rw (take-take i j u (omega arith)) p.3 in
    p.5 (plays_on c matrix (take j u) q.0 q.1 i m p.0 p.1 q.3 at first)

pub one_fault : (c : Component) (matrix : Matrix) (u : List Move) (i j : ℕ) → IsInfeasibleAt c matrix u i → IsInfeasibleAt c matrix u j → i ≡ j
one_fault c matrix u i j p q =
    elim (cases_lt i j) as (λ _. i ≡ j) [
      | inl below ↦ absurd (not_before c matrix u i j p q below)
      | inr past ↦ elim (cases_lt j i) as (λ _. i ≡ j) [
        | inl above ↦ absurd (not_before c matrix u j i q p above)
        | inr equal ↦ omega arith
      ]
    ]

-- the event of a feasible move fits what was played
pub fits_played : (start : State) (u : List Move) (many : ℕ) (now : State) (history : List Event) (m : Move) (new : State) (event : Option Event) → IsPlayed start u many now history → Step now m new event → IfSome event IsEventInRange → IfSome event (Fits history)
fits_played start u many now history m new None played step range = tt
fits_played start u many now history m new (Some e) played step range = step_fits now m new e history played.agree step range

-- what is played to the end
pub played_all : (c : Component) (matrix : Matrix) (start : State) (u v : List Move) (many : ℕ) (now : State) (history : List Event) → IsStart c matrix start → u ≡ v → length u ≤ many → IsPlayed start u many now history → Plays c matrix v now history
played_all c matrix start u v many now history is same all played =
    let whole : take many u ≡ v = take_all many u all ∙ same in
    (start, is, rw (← whole) played.leads)

-- what is played to a move that is not feasible
pub played_to : (c : Component) (matrix : Matrix) (start : State) (u v : List Move) (many : ℕ) (now : State) (history : List Event) (m d : Move) → IsStart c matrix start → u ≡ v → many < length u → m ≡ get_or u many d → IsPlayed start u many now history → (IsFeasible now m → ⊥) → IsInfeasibleAt c matrix v many
played_to c matrix start u v many now history m d is same below read played infeasible =
    let at : slice_get v many ≡ Some m = rw (← same) (slice_get-get_or u many d below ∙ ap (λ (n : Move). Some n) (sym read)) in
    (now, history, m, (start, is, rw (← same) played.leads), at, infeasible)

-- ---- each schedule shows something, or is infeasible somewhere

-- the schedule leads somewhere from s
abbrev Goes : State → List Move → Type 0
Goes s u = (end : State) × (h : List Event) × Leads s u end h

-- the first i moves lead somewhere from s, and there move i is not feasible
abbrev Fails : State → List Move → Type 0
Fails s u =
    (i : ℕ) × (end : State) × (h : List Event) × (m : Move)
    × Leads s (take i u) end h × (slice_get u i ≡ Some m) × (IsFeasible end m → ⊥)

goes_or_fails : (s : State) (u : List Move) → Goes s u ⊎ Fails s u
goes_or_fails s [] = inl (s, [], (refl, refl))
goes_or_fails s (m ∷ u) = elim (cases_lt m.pick (picks_of s m.thread)) [
  | inl feasible ↦
      let next = feasible_step s m feasible in
      elim (goes_or_fails next.0 u) [
        | inl (end, h, leads) ↦ inl (end, with_event next.1 h, (next.0, next.1, h, next.2, leads, refl))
        | inr (i, end, h, n, leads, at, infeasible) ↦ inr (suc i, end, with_event next.1 h, n, (next.0, next.1, h, next.2, leads, refl), at, infeasible)
      ]
  | inr past ↦ inr (0, s, [], m, (refl, refl), refl, (λ feasible. omega arith))
]

some_status : (s : State) → (a : Status) × HasStatus s a
some_status s = elim (complete_or_not s) [
  | inl complete ↦ (Complete, complete)
  | inr not ↦ elim (move_or_not s) [
    | inl move ↦ (Running, move)
    | inr none ↦ (Stuck, (not, none))
  ]
]

pub all_replayed : (c : Component) (matrix : Matrix) (u : List Move) → Settles c matrix → ((h : List Event) × (a : Status) × PlaysToStatus c matrix u h a) ⊎ ((i : ℕ) × IsInfeasibleAt c matrix u i)
all_replayed c matrix u settles = let start = start_there c matrix settles in elim (goes_or_fails start.0 u) [
  | inl (end, h, leads) ↦
      let status = some_status end in
      inl (h, status.0, (end, (start.0, start.1, leads), status.1))
  | inr (i, end, h, m, leads, at, infeasible) ↦ inr (i, (end, h, m, (start.0, start.1, leads), at, infeasible))
]
