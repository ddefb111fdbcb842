-- The setup's run: as many moves as can be made are those that lead where the setup leads.
use Rattle.std.proofs.Common.{arith, ◌≡◌, ℕ, zero, suc, ◌+◌, ◌*◌, ◌<◌, ◌≤◌, Bool, true, false, List, [], ◌∷◌, ◌++◌, length, get_or, take, replicate, map, Option, Some, slice_get, refl, sym, ap, subst, ◌∙◌, inl, inr}
use Rattle.std.specs.List.{All, flat_map}
use Rattle.std.proofs.lemmas.Bool.{cases_lt, le-ltb}
use Rattle.std.proofs.lemmas.List.{get_or-replicate, length-replicate, replicate-append-replicate, take-replicate}
use Rattle.std.proofs.lemmas.List.Elements.{All-cons, All-head, All-nil}
use Rattle.std.proofs.lemmas.Grind.{flat_map-append}
use Rattle.lu_component.specs.Component.{Component}
use Rattle.lu_test.specs.declared.matrix.Call.{Call}
use Rattle.lu_test.specs.declared.schedule.Move.{Move}
use Rattle.lu_test.specs.Matrix.{IsCallOf, IsMatrix, IsOf, Matrix, alone, calls_of}
use Rattle.lu_machine.specs.declared.event.Event.{Event}
use Rattle.lu_machine.specs.declared.thread.Activity.{Activity}
use Rattle.lu_machine.specs.declared.thread.Activity.TheVariants.{Idle, Open}
use Rattle.lu_machine.specs.declared.thread.Thread.{Thread}
use Rattle.lu_machine.specs.States.{State, call_count, is_open, progress, progress_of}
use Rattle.lu_machine.specs.Steps.{IsFeasible, Step, picks_of}
use Rattle.lu_machine.specs.Runs.{Leads, with_event}
use Rattle.lu_machine.specs.Starts.{CanRun, IsStart, MakesAll, SetsUp, Settles, at_rest, empty_state, first_move}
use Rattle.lu_machine.proofs.Paths.{goes_on_feasible, leads_on, leads_same}
use Rattle.lu_machine.proofs.Starting.{after, none_settles, start_there}
use Rattle.lu_lint.specs.declared.remark.RunHint.{RunHint}
use Rattle.lu_lint.specs.Runs.{SetupRuns, ShownByRun, ShownBySetup, event_hints, setup_hints}

-- the setup as a matrix of its own can run
pub can_start : (c : Component) (matrix m : Matrix) → m ≡ alone matrix.setup → IsOf matrix c → CanRun c m
can_start c matrix m is of =
    subst (CanRun c) (sym is) (record {
      of = (All-nil (IsCallOf c), All-cons (λ (x : List Call). All (IsCallOf c) x) matrix.setup [] of.0 (All-nil (λ (x : List Call). All (IsCallOf c) x)));
      settles = none_settles c (alone matrix.setup) refl;
    })

-- and there runs start in the empty state
pub starts_empty : (c : Component) (calls : List Call) (m : Matrix) (s : State) → m ≡ alone calls → IsStart c m s → s ≡ empty_state c (alone calls)
starts_empty c calls m s is start =
    let at : IsStart c (alone calls) s = subst (λ (x : Matrix). IsStart c x s) is start in
    at.is ∙ ap (λ (x : State). at_rest c (alone calls) x.cells x.locks) at.made

-- so many first moves lead there
record FirstMoves (s : State) (most : ℕ) (end : State) : Type 0 where
  moves : ℕ
  few : moves ≤ most
  history : List Event
  leads : Leads s (replicate moves first_move) end history

all_leads : (c : Component) (calls : List Call) (k : ℕ) (end : State) → MakesAll c calls k end → FirstMoves (empty_state c (alone calls)) (257 * k) end
all_leads c calls zero end made = record { moves = 0; few = omega arith; history = []; leads = (made, refl) }
all_leads c calls (suc k) end made =
    let rest = all_leads c calls k made.0 made.1 in
    let makes = made.2 in
    let both = leads_on (empty_state c (alone calls)) (replicate rest.moves first_move) (replicate (suc makes.moves) first_move) made.0 end rest.history makes.history rest.leads makes.leads in
    record {
      moves = rest.moves + suc makes.moves;
      few = (let a = rest.few in let b = makes.few in omega arith);
      history = rest.history ++ makes.history;
      leads = subst (λ (u : List Move). Leads (empty_state c (alone calls)) u end (rest.history ++ makes.history)) (replicate-append-replicate rest.moves (suc makes.moves) first_move) both;
    }

-- a thread that has made all its calls has no move
no_move_left : (s : State) (k : ℕ) → progress s ≡ (k, false) ∷ [] → call_count s 0 ≤ k → picks_of s 0 ≡ 0
no_move_left s k at over = by_threads s.threads refl at
  where
    by_activity : (x : Thread) (activity : Activity) → x.activity ≡ activity → slice_get s.threads 0 ≡ Some x → x.done ≡ k → is_open activity ≡ false → picks_of s 0 ≡ 0
    by_activity x Idle is there done closed = rw (there, is, le-ltb x.done (call_count s 0) (omega (arith, done))) refl
    by_activity x (Open f) is there done closed = absurd cc

    by_threads : (threads : List Thread) → s.threads ≡ threads → map progress_of threads ≡ (k, false) ∷ [] → picks_of s 0 ≡ 0
    by_threads [] is same = absurd cc
    by_threads (x ∷ threads) is same =
        let first : progress_of x ≡ (k, false) = ap (λ (ps : List (ℕ × Bool)). get_or ps 0 (0, true)) same in
        by_activity x x.activity refl (ap (λ (xs : List Thread). slice_get xs 0) is) (ap (λ (p : ℕ × Bool). p.0) first) (ap (λ (p : ℕ × Bool). p.1) first)

made_all : (c : Component) (calls : List Call) (end : State) → MakesAll c calls (length calls) end → IsFeasible end first_move → ⊥
made_all c calls end made feasible =
    let is = after c calls (length calls) end made in
    let count : call_count end 0 ≡ length calls = ap (λ (m : Matrix). length (calls_of m 0)) is.matrix in
    let none = no_move_left end (length calls) is.progress_is (omega (arith, count)) in
    absurd (omega (arith, none, feasible))

-- of two runs of first moves the one goes on where the other is longer
longer_goes_on : (s : State) (n i : ℕ) (end now : State) (g h : List Event) → Leads s (replicate n first_move) end g → Leads s (replicate i first_move) now h → i < n → IsFeasible now first_move
longer_goes_on s n i end now g h whole part less =
    let within : i < length (replicate n first_move) = rw (length-replicate n first_move) less in
    let begins : take i (replicate n first_move) ≡ replicate i first_move = take-replicate i n first_move (omega (arith, less)) in
    let f = goes_on_feasible s (replicate n first_move) end g whole i first_move within now h (rw begins part) in
    subst (λ (m : Move). IsFeasible now m) (get_or-replicate n i first_move first_move less) f

-- as many moves as can be made, or as a setup takes at most
pub is_run : (c : Component) (matrix : Matrix) (m : Matrix) (i : ℕ) (now : State) (h : List Event) → m ≡ alone matrix.setup → IsMatrix m → Settles c matrix → Leads (empty_state c (alone matrix.setup)) (replicate i first_move) now h → (IsFeasible now first_move → 2056 ≤ i) → SetupRuns c matrix i h
is_run c matrix m i now h is limits settles leads stops =
    let s = empty_state c (alone matrix.setup) in
    let start = (start_there c matrix settles).1 in
    let all = all_leads c matrix.setup (length matrix.setup) start.end start.made in
    let few : length matrix.setup ≤ 8 = All-head (λ (x : List Call). length x ≤ 8) matrix.setup [] ((subst IsMatrix is limits).limits.each) in
    let most = all.few in
    elim (cases_lt i all.moves) [
      | inl less ↦ (let stop = stops (longer_goes_on s all.moves i start.end now all.history h all.leads leads less) in absurd (omega arith))
      | inr past ↦ elim (cases_lt all.moves i) [
        | inl less ↦ absurd (made_all c matrix.setup start.end start.made (longer_goes_on s i all.moves now start.end h all.history leads all.leads less))
        | inr over ↦ (let e : all.moves ≡ i = omega arith in
            let same = leads_same s (replicate i first_move) now start.end h all.history leads (subst (λ (n : ℕ). Leads s (replicate n first_move) start.end all.history) e all.leads) in
            (now, subst (SetsUp c matrix) (sym same.0) start.made, leads))
      ]
    ]

-- a run from where the setup starts is the setup's
pub shown_by_setup : (c : Component) (matrix m : Matrix) (s : State) (hints : List RunHint) → m ≡ alone matrix.setup → IsMatrix m → Settles c matrix → IsStart c m s → ShownByRun s hints → ShownBySetup c matrix hints
shown_by_setup c matrix m s hints is limits settles start (moves, end, history, leads, stops, are) =
    let from = subst (λ (x : State). Leads x (replicate moves first_move) end history) (starts_empty c matrix.setup m s is start) leads in
    (moves, history, is_run c matrix m moves end history is limits settles from stops, are)

-- ---- the loop

-- after so many moves
abbrev pub IsSettingUp : State → ℕ → State → List RunHint → Type 0
IsSettingUp s moves now hints = (h : List Event) × Leads s (replicate moves first_move) now h × (hints ≡ setup_hints h)

pub at_first : (s : State) (hints : List RunHint) → hints ≡ [] → IsSettingUp s 0 s hints
at_first s hints none = ([], (refl, refl), none)

pub one_further : (s : State) (i : ℕ) (now new : State) (event : Option Event) (hints next : List RunHint) → IsSettingUp s i now hints → Step now first_move new event → next ≡ hints ++ flat_map event_hints (with_event event []) → IsSettingUp s (i + 1) new next
one_further s i now new event hints next (h, leads, is) step more =
    let on = leads_on s (replicate i first_move) (replicate 1 first_move) now new h (with_event event []) leads (new, event, [], step, (refl, refl), refl) in
    let longer = subst (λ (u : List Move). Leads s u new (h ++ with_event event [])) (replicate-append-replicate i 1 first_move) on in
    (h ++ with_event event [], longer, more ∙ (ap (λ (x : List RunHint). x ++ flat_map event_hints (with_event event [])) is ∙ sym (flat_map-append event_hints h (with_event event []))))
