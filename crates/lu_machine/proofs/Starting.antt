-- Where a run starts: in one state, and somewhere exactly where the setup settles.
use Rattle.std.proofs.Common.{◌≡◌, ℕ, zero, suc, ◌+◌, ◌<◌, ◌≤◌, ◌⊎◌, Bool, true, false, List, [], ◌∷◌, ◌++◌, length, replicate, map, get_or, Option, Some, None, slice_get, refl, sym, ◌∙◌, ap, subst, inl, inr, add-one, arith, rules}
use Rattle.std.specs.Prelude.{MatchOption}
use Rattle.std.proofs.lemmas.Bool.{cases_eq, cases_lt, lt-ltb}
use Rattle.lu_component.specs.Component.{Component}
use Rattle.lu_test.specs.declared.matrix.Call.{Call}
use Rattle.lu_test.specs.declared.schedule.Move.{Move}
use Rattle.lu_test.specs.Matrix.{Matrix, IsOf, alone, calls_of, thread_count}
use Rattle.lu_machine.specs.declared.event.Event.{Event}
use Rattle.lu_machine.specs.declared.thread.Activity.{Activity}
use Rattle.lu_machine.specs.declared.thread.Activity.TheVariants.{Idle, Open}
use Rattle.lu_machine.specs.declared.thread.Thread.{Thread}
use Rattle.lu_machine.specs.declared.span.Span.{Span}
use Rattle.lu_machine.specs.declared.program.Agenda.{Agenda}
use Rattle.lu_machine.specs.declared.program.Task.{Task}
use Rattle.lu_machine.specs.Layout.{IsLaidOut}
use Rattle.lu_machine.specs.States.{State, call_count, first_cell, is_open, progress, progress_of}
use Rattle.lu_machine.specs.Steps.{IsFeasible, Step, picks_of}
use Rattle.lu_machine.specs.Runs.{Leads, with_event}
use Rattle.lu_machine.specs.Starts.{AllEnd, CanRun, IsFirstOpen, IsFirstUnsettled, IsStart, IsUnsettledAt, Makes, MakesAll, SetsUp, Settles, at_rest, empty_state, first_move}
use Rattle.lu_machine.proofs.Keeping.{step_moved}
use Rattle.lu_machine.proofs.Progress.{Way, opens, goes_on, ends, step_goes}
use Rattle.lu_machine.proofs.StepLaws.{feasible_step, step_feasible, step_same}
use Rattle.lu_machine.proofs.Paths.{leads_on}

-- ---- how far a thread is

one_if : Bool → ℕ
one_if true = 1
one_if false = 0

-- calls and returns so far
rank : ℕ × Bool → ℕ
rank p = p.0 + p.0 + one_if p.1

way_rises : (t : ℕ) (was now : ℕ × Bool) (event : Option Event) → Way t was now event → rank was ≤ rank now
unfolding rank one_if
way_rises t was now event (opens k is then e) = rw (is, then) (omega arith)
way_rises t was now event (goes_on k is then e) = rw (is, then) (omega arith)
way_rises t was now event (ends k outcome is then e) = rw (is, then) (omega arith)

-- an idle thread's move is a call
way_calls : (t k : ℕ) (was now : ℕ × Bool) (event : Option Event) → was ≡ (k, false) → Way t was now event → now ≡ (k, true)
way_calls t k was now event at (opens j is then e) =
    let same : j ≡ k = ap (λ x. x.0) (sym is ∙ at) in then ∙ ap (λ n. (n, true)) same
way_calls t k was now event at (goes_on j is then e) = absurd (let wrong : true ≡ false = ap (λ x. x.1) (sym is ∙ at) in cc)
way_calls t k was now event at (ends j outcome is then e) = absurd (let wrong : true ≡ false = ap (λ x. x.1) (sym is ∙ at) in cc)

-- a move of an open operation goes on in it, or ends it
way_works : (t k : ℕ) (was now : ℕ × Bool) (event : Option Event) → was ≡ (k, true) → Way t was now event → (now ≡ (k, true)) ⊎ (now ≡ (k + 1, false))
way_works t k was now event at (opens j is then e) = absurd (let wrong : false ≡ true = ap (λ x. x.1) (sym is ∙ at) in cc)
way_works t k was now event at (goes_on j is then e) =
    let same : j ≡ k = ap (λ x. x.0) (sym is ∙ at) in inl (then ∙ ap (λ n. (n, true)) same)
way_works t k was now event at (ends j outcome is then e) =
    let same : j ≡ k = ap (λ x. x.0) (sym is ∙ at) in inr (then ∙ ap (λ n. (n + 1, false)) same)

-- where one thread's progress goes by its move
record Moves (p : ℕ × Bool) (new : State) (event : Option Event) : Type 0 where
  now : ℕ × Bool
  progress_is : progress new ≡ now ∷ []
  way : Way 0 p now event

moves_one : (s : State) (p : ℕ × Bool) (new : State) (event : Option Event) → progress s ≡ p ∷ [] → Step s first_move new event → Moves p new event
moves_one s p new event at step =
    let goes = step_goes s first_move new event step in
    record {
      now = goes.now;
      progress_is = rw at at goes.progress_is;
      way = rw at at goes.way;
    }

-- and by more moves
record Ranks (p : ℕ × Bool) (end : State) : Type 0 where
  now : ℕ × Bool
  progress_is : progress end ≡ now ∷ []
  more : rank p ≤ rank now

ranks : (n : ℕ) (s end : State) (h : List Event) (p : ℕ × Bool) → progress s ≡ p ∷ [] → Leads s (replicate n first_move) end h → Ranks p end
ranks zero s end h p at leads = record { now = p; progress_is = ap progress leads.0 ∙ at; more = omega arith }
ranks (suc n) s end h p at leads =
    let one = moves_one s p leads.0 leads.1 at leads.3 in
    let rest = ranks n leads.0 end leads.2 one.now one.progress_is leads.4 in
    record { now = rest.now; progress_is = rest.progress_is; more = (let first = way_rises 0 p one.now leads.1 one.way in omega (arith, first, rest.more)) }

one_progress : (s : State) (p q : ℕ × Bool) → progress s ≡ p ∷ [] → progress s ≡ q ∷ [] → p ≡ q
one_progress s p q a b = let both : ◌≡◌ {A = List (ℕ × Bool)} (p ∷ []) (q ∷ []) = sym a ∙ b in cc

-- a call that has ended does not end once more
past : (n k : ℕ) (s end : State) (h : List Event) → progress s ≡ (k + 1, false) ∷ [] → Leads s (replicate (suc n) first_move) end h → progress end ≡ (k + 1, false) ∷ [] → ⊥
unfolding rank one_if
past n k s end h at leads is =
    let one = moves_one s (k + 1, false) leads.0 leads.1 at leads.3 in
    let open_now : one.now ≡ (k + 1, true) = way_calls 0 (k + 1) (k + 1, false) one.now leads.1 refl one.way in
    let rest = ranks n leads.0 end leads.2 (k + 1, true) (one.progress_is ∙ ap (λ x. x ∷ []) open_now) leads.4 in
    let same : rest.now ≡ (k + 1, false) = one_progress end rest.now (k + 1, false) rest.progress_is is in
    let more : rank (k + 1, true) ≤ rank (k + 1, false) = subst (λ x. rank (k + 1, true) ≤ rank x) same rest.more in
    absurd (omega (arith, more))

-- of runs that end call k the ends are one
same_end : (n m k : ℕ) (s a b : State) (g h : List Event) → Leads s (replicate n first_move) a g → Leads s (replicate m first_move) b h → progress a ≡ (k + 1, false) ∷ [] → progress b ≡ (k + 1, false) ∷ [] → a ≡ b
same_end zero zero k s a b g h p q at is = p.0 ∙ sym q.0
same_end zero (suc m) k s a b g h p q at is = absurd (past m k s b h (ap progress (sym p.0) ∙ at) q is)
same_end (suc n) zero k s a b g h p q at is = absurd (past n k s a g (ap progress (sym q.0) ∙ is) p at)
same_end (suc n) (suc m) k s a b g h p q at is =
    let same = step_same s first_move q.0 p.0 q.1 p.1 q.3 p.3 in
    let on : Leads p.0 (replicate m first_move) b q.2 = subst (λ x. Leads x (replicate m first_move) b q.2) same.0 q.4 in
    same_end n m k p.0 a b p.2 q.2 p.4 on at is

makes_same : (s : State) (k : ℕ) (a b : State) → Makes s k a → Makes s k b → a ≡ b
makes_same s k a b p q = same_end (suc p.moves) (suc q.moves) k s a b p.history q.history p.leads q.leads p.ended q.ended

makes_all_same : (c : Component) (calls : List Call) (k : ℕ) (a b : State) → MakesAll c calls k a → MakesAll c calls k b → a ≡ b
makes_all_same c calls zero a b p q = p ∙ sym q
makes_all_same c calls (suc k) a b p q =
    let same = makes_all_same c calls k p.0 q.0 p.1 q.1 in
    makes_same q.0 k a b (subst (λ x. Makes x k a) same p.2) q.2

-- ---- the laws

pub start_same : (c : Component) (matrix : Matrix) (a b : State) → IsStart c matrix a → IsStart c matrix b → a ≡ b
start_same c matrix a b p q =
    let same = makes_all_same c matrix.setup (length matrix.setup) p.end q.end p.made q.made in
    p.is ∙ (ap (λ (x : State). at_rest c matrix x.cells x.locks) same ∙ sym q.is)

pub setups_alike : (c : Component) (matrix other : Matrix) (a b : State) → matrix.setup ≡ other.setup → IsStart c matrix a → IsStart c other b → (a.cells ≡ b.cells) × (a.locks ≡ b.locks)
setups_alike c matrix other a b e p q =
    let there : SetsUp c matrix q.end = subst (λ (x : List Call). MakesAll c x (length x) q.end) (sym e) q.made in
    let same = makes_all_same c matrix.setup (length matrix.setup) p.end q.end p.made there in (
      ap (λ (x : State). x.cells) p.is ∙ (ap (λ (x : State). x.cells) same ∙ sym (ap (λ (x : State). x.cells) q.is)),
      ap (λ (x : State). x.locks) p.is ∙ (ap (λ (x : State). x.locks) same ∙ sym (ap (λ (x : State). x.locks) q.is)),
    )

-- a beginning of the calls that are made
record Before (c : Component) (calls : List Call) (k : ℕ) : Type 0 where
  before : State
  end : State
  made : MakesAll c calls k before
  makes : Makes before k end

before : (c : Component) (calls : List Call) (n k : ℕ) (end : State) → k < n → MakesAll c calls n end → Before c calls k
before c calls zero k end h all = absurd (omega arith)
before c calls (suc n) k end h all =
    elim (cases_lt k n) [
      | inl less ↦ before c calls n k all.0 less all.1
      | inr past ↦ (let e : n ≡ k = omega arith in subst (Before c calls) e (record { before = all.0; end = end; made = all.1; makes = all.2 }))
    ]

unsettled_before : (c : Component) (matrix : Matrix) (k n : ℕ) (end : State) → IsUnsettledAt c matrix k → k < n → MakesAll c matrix.setup n end → ⊥
unsettled_before c matrix k n end h less all =
    let b = before c matrix.setup n k end less all in
    let same = makes_all_same c matrix.setup k b.before h.before b.made h.made in
    h.open_still b.end (subst (λ x. Makes x k b.end) same b.makes)

pub never_both : (c : Component) (matrix : Matrix) (k : ℕ) → IsUnsettledAt c matrix k → Settles c matrix → ⊥
never_both c matrix k h settles = settles.none_open k h

pub one_unsettled : (c : Component) (matrix : Matrix) (i j : ℕ) → IsUnsettledAt c matrix i → IsUnsettledAt c matrix j → i ≡ j
one_unsettled c matrix i j p q =
    elim (cases_lt i j) [
      | inl less ↦ absurd (unsettled_before c matrix i j q.before p less q.made)
      | inr past ↦ elim (cases_lt j i) [
        | inl less ↦ absurd (unsettled_before c matrix j i p.before q less p.made)
        | inr over ↦ omega arith
      ]
    ]

-- ---- whether a setup settles

-- where all these calls were made, each of them ends
pub made_end : (c : Component) (calls : List Call) (end : State) → MakesAll c calls (length calls) end → AllEnd c calls
made_end c calls end made = record { none_open = never }
  where
    never : (k : ℕ) → IsFirstOpen c calls k → ⊥
    never k h =
        let b = before c calls (length calls) k end h.there made in
        let same = makes_all_same c calls k b.before h.before b.made h.made in
        h.open_still b.end (subst (λ x. Makes x k b.end) same b.makes)

-- at most n moves of thread 0, each with pick 0, lead from s to a state where call k has ended
record Reaches (n k : ℕ) (s : State) : Type 0 where
  moves : ℕ
  few : moves ≤ n
  end : State
  history : List Event
  leads : Leads s (replicate moves first_move) end history
  ended : progress end ≡ (k + 1, false) ∷ []

-- this is how one thread stands once call k has ended, or not
ended_or_not : (k : ℕ) (ps : List (ℕ × Bool)) → (ps ≡ (k + 1, false) ∷ []) ⊎ (ps ≡ (k + 1, false) ∷ [] → ⊥)
ended_or_not k [] = inr (λ e. search (rules, e))
ended_or_not k ((done, true) ∷ ps) = inr (λ e. search (rules, e))
ended_or_not k ((done, false) ∷ p ∷ ps) = inr (λ e. search (rules, e))
ended_or_not k ((done, false) ∷ []) =
    elim (cases_eq done (k + 1)) [
      | inl is ↦ inl (ap (λ n. (n, false) ∷ []) is)
      | inr not ↦ inr (λ e. not (ap (λ (xs : List (ℕ × Bool)). (get_or xs 0 (0, false)).0) e))
    ]

-- a move is feasible or not
feasible_or_not : (s : State) (m : Move) → IsFeasible s m ⊎ (IsFeasible s m → ⊥)
feasible_or_not s m =
    elim (cases_lt m.pick (picks_of s m.thread)) [
      | inl less ↦ inl less
      | inr past ↦ inr (λ less. omega (arith, less, past))
    ]

-- from where a move leads
reaches_on : (n k : ℕ) (s new : State) (event : Option Event) → Step s first_move new event → Reaches n k new → Reaches (suc n) k s
reaches_on n k s new event step r = record {
  moves = suc r.moves;
  few = omega (arith, r.few);
  end = r.end;
  history = with_event event r.history;
  leads = (new, event, r.history, step, r.leads, refl);
  ended = r.ended;
}

-- the moves after the first
reaches_after : (n k : ℕ) (s new : State) (event : Option Event) → Step s first_move new event → (progress s ≡ (k + 1, false) ∷ [] → ⊥) → Reaches (suc n) k s → Reaches n k new
reaches_after n k s new event step open_here r = by_moves r.moves r.few r.leads
  where
    by_moves : (m : ℕ) → m ≤ suc n → Leads s (replicate m first_move) r.end r.history → Reaches n k new
    by_moves zero few leads = absurd (open_here (ap progress (sym leads.0) ∙ r.ended))
    by_moves (suc m) few leads =
        let same = step_same s first_move leads.0 new leads.1 event leads.3 step in
        record {
          moves = m;
          few = omega (arith, few);
          end = r.end;
          history = leads.2;
          leads = subst (λ x. Leads x (replicate m first_move) r.end leads.2) same.0 leads.4;
          ended = r.ended;
        }

-- where it has not ended, the first of them is feasible
first_feasible : (n k : ℕ) (s : State) → (progress s ≡ (k + 1, false) ∷ [] → ⊥) → Reaches n k s → IsFeasible s first_move
first_feasible n k s open_here r = by_moves r.moves r.leads
  where
    by_moves : (m : ℕ) → Leads s (replicate m first_move) r.end r.history → IsFeasible s first_move
    by_moves zero leads = absurd (open_here (ap progress (sym leads.0) ∙ r.ended))
    by_moves (suc m) leads = step_feasible s first_move leads.0 leads.1 leads.3

-- no move at all leads on
none_reaches : (k : ℕ) (s : State) → (progress s ≡ (k + 1, false) ∷ [] → ⊥) → Reaches 0 k s → ⊥
none_reaches k s open_here r = by_moves r.moves r.few r.leads
  where
    by_moves : (m : ℕ) → m ≤ 0 → Leads s (replicate m first_move) r.end r.history → ⊥
    by_moves zero few leads = open_here (ap progress (sym leads.0) ∙ r.ended)
    by_moves (suc m) few leads = omega (arith, few)

-- it has ended
reaches_here : (n k : ℕ) (s : State) → progress s ≡ (k + 1, false) ∷ [] → Reaches n k s
reaches_here n k s ended = record { moves = 0; few = omega arith; end = s; history = []; leads = (refl, refl); ended = ended }

reaches_or_not : (n k : ℕ) (s : State) → Reaches n k s ⊎ (Reaches n k s → ⊥)
reaches_or_not zero k s =
    elim (ended_or_not k (progress s)) [
      | inl ended ↦ inl (reaches_here 0 k s ended)
      | inr open_here ↦ inr (none_reaches k s open_here)
    ]
reaches_or_not (suc n) k s =
    elim (ended_or_not k (progress s)) [
      | inl ended ↦ inl (reaches_here (suc n) k s ended)
      | inr open_here ↦ elim (feasible_or_not s first_move) [
        | inr blocked ↦ inr (λ r. blocked (first_feasible (suc n) k s open_here r))
        | inl feasible ↦
            (let go = feasible_step s first_move feasible in
            elim (reaches_or_not n k go.0) [
              | inl r ↦ inl (reaches_on n k s go.0 go.1 go.2 r)
              | inr none ↦ inr (λ r. none (reaches_after n k s go.0 go.1 go.2 open_here r))
            ])
      ]
    ]

-- a call is made, or it does not end
makes_or_not : (s : State) (k : ℕ) → ((end : State) × Makes s k end) ⊎ ((end : State) → Makes s k end → ⊥)
makes_or_not s k =
    elim (feasible_or_not s first_move) [
      | inr blocked ↦ inr (λ end makes. blocked (step_feasible s first_move makes.leads.0 makes.leads.1 makes.leads.3))
      | inl feasible ↦
          (let go = feasible_step s first_move feasible in
          elim (reaches_or_not 256 k go.0) [
            | inl r ↦ inl (
              r.end,
              record {
                moves = r.moves;
                few = r.few;
                history = with_event go.1 r.history;
                leads = (go.0, go.1, r.history, go.2, r.leads, refl);
                ended = r.ended;
              },
            )
            | inr none ↦ inr (λ end makes.
                (let same = step_same s first_move makes.leads.0 go.0 makes.leads.1 go.1 makes.leads.3 go.2 in
                none (record {
                  moves = makes.moves;
                  few = makes.few;
                  end = end;
                  history = makes.leads.2;
                  leads = subst (λ x. Leads x (replicate makes.moves first_move) end makes.leads.2) same.0 makes.leads.4;
                  ended = makes.ended;
                })))
          ])
    ]

-- where each of these calls ends, the first k are made
all_made : (c : Component) (calls : List Call) → AllEnd c calls → (k : ℕ) → k ≤ length calls → (end : State) × MakesAll c calls k end
all_made c calls all zero few = (empty_state c (alone calls), refl)
all_made c calls all (suc k) few =
    let b = all_made c calls all k (omega (arith, few)) in
    elim (makes_or_not b.0 k) [
      | inl makes ↦ (makes.0, (b.0, b.1, makes.1))
      | inr none ↦ absurd (all.none_open k (record { there = omega (arith, few); before = b.0; made = b.1; open_still = none }))
    ]

pub start_there : (c : Component) (matrix : Matrix) → Settles c matrix → (s : State) × IsStart c matrix s
start_there c matrix h =
    let made = all_made c matrix.setup h (length matrix.setup) (omega arith) in
    (at_rest c matrix made.0.cells made.0.locks, record { end = made.0; made = made.1; is = refl })

pub settled_start : (c : Component) (matrix : Matrix) (s : State) → IsStart c matrix s → Settles c matrix
settled_start c matrix s is = made_end c matrix.setup is.end is.made

-- ---- a call, move after move

-- from s the first moves, so many after the call's, lead to `now`, where call k is open
pub record IsMaking (s : State) (k moves : ℕ) (now : State) : Type 0 where
  pub history : List Event
  pub leads : Leads s (first_move ∷ replicate moves first_move) now history
  pub still : progress now ≡ (k, true) ∷ []

-- a run that ends the call goes on from there
beyond : (n m k : ℕ) (s now end : State) (g h : List Event) → Leads s (replicate n first_move) now g → progress now ≡ (k, true) ∷ [] → Leads s (replicate m first_move) end h → progress end ≡ (k + 1, false) ∷ [] → (n < m) × IsFeasible now first_move
unfolding rank one_if
beyond zero zero k s now end g h p at q is =
    let same = one_progress s (k, true) (k + 1, false) (ap progress (sym p.0) ∙ at) (ap progress (sym q.0) ∙ is) in
    let wrong : true ≡ false = ap (λ (x : ℕ × Bool). x.1) same in
    absurd cc
beyond zero (suc m) k s now end g h p at q is =
    (omega arith, subst (λ x. IsFeasible x first_move) (sym p.0) (step_feasible s first_move q.0 q.1 q.3))
beyond (suc n) zero k s now end g h p at q is =
    let rest = ranks (suc n) s now g (k + 1, false) (ap progress (sym q.0) ∙ is) p in
    let same : rest.now ≡ (k, true) = one_progress now rest.now (k, true) rest.progress_is at in
    let more : rank (k + 1, false) ≤ rank (k, true) = subst (λ x. rank (k + 1, false) ≤ rank x) same rest.more in
    absurd (omega (arith, more))
beyond (suc n) (suc m) k s now end g h p at q is =
    let same = step_same s first_move q.0 p.0 q.1 p.1 q.3 p.3 in
    let on : Leads p.0 (replicate m first_move) end q.2 = subst (λ x. Leads x (replicate m first_move) end q.2) same.0 q.4 in
    let rest = beyond n m k p.0 now end p.2 q.2 p.4 at on is in
    (omega (arith, rest.0), rest.1)

-- where the thread cannot move, the call does not end
pub blocked_open : (s : State) (k moves : ℕ) (now : State) → IsMaking s k moves now → (IsFeasible now first_move → ⊥) → (end : State) → Makes s k end → ⊥
blocked_open s k moves now is blocked end makes =
    blocked (beyond (suc moves) (suc makes.moves) k s now end is.history makes.history is.leads is.still makes.leads makes.ended).1

-- nor where it is open after 256 moves
pub long_open : (s : State) (k moves : ℕ) (now : State) → IsMaking s k moves now → 256 ≤ moves → (end : State) → Makes s k end → ⊥
long_open s k moves now is many end makes =
    let less = (beyond (suc moves) (suc makes.moves) k s now end is.history makes.history is.leads is.still makes.leads makes.ended).0 in
    let few = makes.few in
    absurd (omega arith)

repeat_more : (n : ℕ) → replicate n first_move ++ first_move ∷ [] ≡ first_move ∷ replicate n first_move
repeat_more zero = refl
repeat_more (suc n) = ap (λ (u : List Move). first_move ∷ u) (repeat_more n)

-- the call's move
pub called : (s : State) (k : ℕ) (new : State) (event : Option Event) → progress s ≡ (k, false) ∷ [] → Step s first_move new event → IsMaking s k 0 new
called s k new event at step =
    let one = moves_one s (k, false) new event at step in
    record {
      history = with_event event [];
      leads = (new, event, [], step, (refl, refl), refl);
      still = one.progress_is ∙ ap (λ x. x ∷ []) (way_calls 0 k (k, false) one.now event refl one.way);
    }

-- one move more
pub record IsFurther (s : State) (k moves : ℕ) (new : State) : Type 0 where
  pub history : List Event
  pub leads : Leads s (first_move ∷ replicate (moves + 1) first_move) new history
  pub progress_is : (progress new ≡ (k, true) ∷ []) ⊎ (progress new ≡ (k + 1, false) ∷ [])

pub further : (s : State) (k moves : ℕ) (now new : State) (event : Option Event) → IsMaking s k moves now → Step now first_move new event → IsFurther s k moves new
further s k moves now new event is step =
    let one = moves_one now (k, true) new event is.still step in
    let history : List Event = is.history ++ with_event event [] in
    let on = leads_on s (first_move ∷ replicate moves first_move) (first_move ∷ []) now new is.history (with_event event []) is.leads (new, event, [], step, (refl, refl), refl) in
    let more : replicate (moves + 1) first_move ≡ replicate moves first_move ++ first_move ∷ [] = rw (add-one moves) (sym (repeat_more moves)) in
    record {
      history = history;
      leads = subst (λ (u : List Move). Leads s (first_move ∷ u) new history) (sym more) on;
      progress_is = elim (way_works 0 k (k, true) one.now event refl one.way) [
        | inl still ↦ inl (one.progress_is ∙ ap (λ x. x ∷ []) still)
        | inr over ↦ inr (one.progress_is ∙ ap (λ x. x ∷ []) over)
      ];
    }

-- the call is open still, or it has ended
pub goes_further : (s : State) (k moves : ℕ) (new : State) → IsFurther s k moves new → (open_now : Bool) → ((p : ℕ × Bool) → progress new ≡ p ∷ [] → open_now ≡ p.1) → open_now ≡ true → IsMaking s k (moves + 1) new
goes_further s k moves new f open_now is open_still =
    elim f.progress_is [
      | inl still ↦ record { history = f.history; leads = f.leads; still = still }
      | inr over ↦ absurd (let wrong = is (k + 1, false) over in cc)
    ]

pub ends_further : (s : State) (k moves : ℕ) (new : State) → IsFurther s k moves new → moves < 256 → (open_now : Bool) → ((p : ℕ × Bool) → progress new ≡ p ∷ [] → open_now ≡ p.1) → open_now ≡ false → Makes s k new
ends_further s k moves new f few open_now is over =
    elim f.progress_is [
      | inl still ↦ absurd (let wrong = is (k, true) still in cc)
      | inr ended ↦ record { moves = moves + 1; few = omega arith; history = f.history; leads = f.leads; ended = ended }
    ]

-- an idle thread that has calls left can move
pub idle_feasible : (s : State) (k : ℕ) → progress s ≡ (k, false) ∷ [] → k < call_count s 0 → IsFeasible s first_move
idle_feasible s k at left = by_threads s.threads refl at
  where
    by_activity : (x : Thread) (activity : Activity) → x.activity ≡ activity → slice_get s.threads 0 ≡ Some x → x.done ≡ k → is_open activity ≡ false → IsFeasible s first_move
    by_activity x Idle is there done closed = rw (there, is, lt-ltb x.done (call_count s 0) (omega (arith, done))) (omega arith)
    by_activity x (Open f) is there done closed = absurd cc

    by_threads : (threads : List Thread) → s.threads ≡ threads → map progress_of threads ≡ (k, false) ∷ [] → IsFeasible s first_move
    by_threads [] is same = absurd cc
    by_threads (x ∷ threads) is same =
        let first : progress_of x ≡ (k, false) = ap (λ (ps : List (ℕ × Bool)). get_or ps 0 (0, true)) same in
        by_activity x x.activity refl (ap (λ (xs : List Thread). slice_get xs 0) is) (ap (λ (p : ℕ × Bool). p.0) first) (ap (λ (p : ℕ × Bool). p.1) first)

-- ---- call after call

leads_keeps : (u : List Move) (s end : State) (h : List Event) → Leads s u end h → (end.component ≡ s.component) × (end.matrix ≡ s.matrix)
leads_keeps [] s end h p = (ap (λ (x : State). x.component) p.0, ap (λ (x : State). x.matrix) p.0)
leads_keeps (m ∷ u) s end h p =
    let moved = step_moved s m p.0 p.1 p.3 in
    let rest = leads_keeps u p.0 end p.2 p.4 in
    (rest.0 ∙ moved.component, rest.1 ∙ moved.matrix)

-- the calls that are made are of the component and the matrix of one thread, and no other is open
pub record IsAfter (c : Component) (calls : List Call) (k : ℕ) (s : State) : Type 0 where
  pub component : s.component ≡ c
  pub matrix : s.matrix ≡ alone calls
  pub progress_is : progress s ≡ (k, false) ∷ []

pub after : (c : Component) (calls : List Call) (k : ℕ) (s : State) → MakesAll c calls k s → IsAfter c calls k s
after c calls zero s is = record {
  component = ap (λ (x : State). x.component) is;
  matrix = ap (λ (x : State). x.matrix) is;
  progress_is = ap progress is;
}
after c calls (suc k) s all =
    let rest = after c calls k all.0 all.1 in
    let keeps = leads_keeps (first_move ∷ replicate all.2.moves first_move) all.0 s all.2.history all.2.leads in
    record {
      component = keeps.0 ∙ rest.component;
      matrix = keeps.1 ∙ rest.matrix;
      progress_is = rw (← add-one k) all.2.ended;
    }

-- ---- the start

pub start_component : (c : Component) (matrix : Matrix) (s : State) → IsStart c matrix s → s.component ≡ c
start_component c matrix s is = ap (λ (x : State). x.component) is.is

pub start_matrix : (c : Component) (matrix : Matrix) (s : State) → IsStart c matrix s → s.matrix ≡ matrix
start_matrix c matrix s is = ap (λ (x : State). x.matrix) is.is

pub start_threads : (c : Component) (matrix : Matrix) (s : State) → IsStart c matrix s → s.threads ≡ replicate (thread_count matrix) (record { done = 0; activity = Idle })
start_threads c matrix s is = ap (λ (x : State). x.threads) is.is

-- the start is at rest
pub starts_at_rest : (c : Component) (matrix : Matrix) (s : State) → IsStart c matrix s → s ≡ at_rest c matrix s.cells s.locks
starts_at_rest c matrix s is = is.is ∙ sym (ap (λ (x : State). at_rest c matrix x.cells x.locks) is.is)

-- with another matrix of the same setup it is at rest on the same cells and locks
pub other_start : (c : Component) (matrix other : Matrix) (s : State) → IsStart c matrix s → other.setup ≡ matrix.setup → IsStart c other (at_rest c other s.cells s.locks)
other_start c matrix other s is e = record {
  end = is.end;
  made = subst (λ (x : List Call). MakesAll c x (length x) is.end) (sym e) is.made;
  is = rw (ap (λ (x : State). x.cells) is.is, ap (λ (x : State). x.locks) is.is) refl;
}

-- a setup settles in each matrix that has it
pub settles_too : (c : Component) (matrix other : Matrix) → Settles c matrix → other.setup ≡ matrix.setup → Settles c other
settles_too c matrix other h e = subst (AllEnd c) (sym e) h

-- the empty setup settles
pub none_settles : (c : Component) (matrix : Matrix) → matrix.setup ≡ [] → Settles c matrix
none_settles c matrix e = subst (AllEnd c) (sym e) (record { none_open = λ k h. omega (arith, h.there) })

-- so a matrix of the component can run that has the setup of one that can
pub can_run_too : (c : Component) (matrix other : Matrix) → CanRun c matrix → IsOf other c → other.setup ≡ matrix.setup → CanRun c other
can_run_too c matrix other h of e = record { of = of; settles = settles_too c matrix other h.settles e }

-- ---- what the machine that makes the setup's calls leaves

pub sets_up : (c : Component) (matrix m : Matrix) (old new : State) (result : Option ℕ) → m ≡ alone matrix.setup → old ≡ empty_state c m
    → MatchOption result (MakesAll old.component (calls_of old.matrix 0) (call_count old 0) new) (IsFirstOpen old.component (calls_of old.matrix 0)) → Settles c matrix → SetsUp c matrix new
sets_up c matrix m old new result one is made settles =
    let whole : old ≡ empty_state c (alone matrix.setup) = is ∙ ap (empty_state c) one in
    by_result result (subst (λ (x : State). MatchOption result (MakesAll x.component (calls_of x.matrix 0) (call_count x 0) new) (IsFirstOpen x.component (calls_of x.matrix 0))) whole made)
  where
    by_result : (r : Option ℕ) → MatchOption r (MakesAll c matrix.setup (length matrix.setup) new) (IsFirstOpen c matrix.setup) → SetsUp c matrix new
    by_result None h = h
    by_result (Some k) h = absurd (never_both c matrix k h settles)

-- it says whether the setup settles
pub settles_or : (c : Component) (matrix m : Matrix) (old new : State) (result : Option ℕ) → m ≡ alone matrix.setup → old ≡ empty_state c m
    → MatchOption result (MakesAll old.component (calls_of old.matrix 0) (call_count old 0) new) (IsFirstOpen old.component (calls_of old.matrix 0)) → IsFirstUnsettled c matrix result
settles_or c matrix m old new result one is made =
    let whole : old ≡ empty_state c (alone matrix.setup) = is ∙ ap (empty_state c) one in
    by_result result (subst (λ (x : State). MatchOption result (MakesAll x.component (calls_of x.matrix 0) (call_count x 0) new) (IsFirstOpen x.component (calls_of x.matrix 0))) whole made)
  where
    by_result : (r : Option ℕ) → MatchOption r (MakesAll c matrix.setup (length matrix.setup) new) (IsFirstOpen c matrix.setup) → IsFirstUnsettled c matrix r
    by_result None h = made_end c matrix.setup new h
    by_result (Some k) h = h

-- its cells and locks are as many as those of another machine of the component
pub laid_out_too : (c d : Component) (m n : Matrix) (spans others : List Span) (rows before : List (List Task)) (agendas behind : List Agenda) (cells now : List ℕ) (locks free : List (Option ℕ)) (threads ts : List Thread) → d ≡ c → IsLaidOut c m spans rows agendas cells locks threads → IsLaidOut d n others before behind now free ts → IsLaidOut c m spans rows agendas now free threads
laid_out_too c d m n spans others rows before agendas behind cells now locks free threads ts same is other = record {
  component = is.component;
  matrix_is = is.matrix_is;
  matrix_of = is.matrix_of;
  spans_are = is.spans_are;
  rows_are = is.rows_are;
  agendas_are = is.agendas_are;
  cells_are = other.cells_are ∙ ap (λ (x : Component). first_cell x.arrays (length x.arrays)) same;
  cells_fit = other.cells_fit;
  locks_are = other.locks_are ∙ ap (λ (x : Component). length x.locks) same;
  threads_are = is.threads_are;
  stand = is.stand;
  in_code = is.in_code;
}

pub takes_over : (c : Component) (m : Matrix) (machine setup new : State) → machine ≡ empty_state c m → setup ≡ new → let taken : State = record machine { cells = setup.cells; locks = setup.locks } in taken ≡ at_rest c m new.cells new.locks
takes_over c m machine setup new p q = rw (p, q) refl
