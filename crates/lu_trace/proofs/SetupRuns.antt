-- The steps of a setup: they are few, they end where its calls end, and no other steps do.
use Rattle.std.proofs.Common.{◌≡◌, ℕ, zero, suc, ◌+◌, ◌-◌, ◌*◌, codes, ◌<◌, ◌≤◌, Bool, true, false, MatchBool, List, [], ◌∷◌, ◌++◌, length, replicate, Option, Some, None, slice_get, refl, sym, ◌∙◌, ap, subst, add-one, arith}
use Rattle.std.specs.Option.{option_map}
use Rattle.std.specs.List.{All}
use Rattle.std.proofs.lemmas.List.{append_assoc, append-nil}
use Rattle.std.proofs.lemmas.List.Elements.{All-nil}
use Rattle.std.proofs.lemmas.Option.{same_Some, slice_get-map, slice_get_within}
use Rattle.lu_text.proofs.Written.{All-one}
use Rattle.lu_component.specs.Component.{Component}
use Rattle.lu_test.specs.declared.matrix.Call.{Call}
use Rattle.lu_test.specs.declared.schedule.Move.{Move}
use Rattle.lu_test.specs.Matrix.{IsCallOf, IsMatrix, Matrix, alone, calls_of}
use Rattle.lu_machine.specs.declared.event.Event.{Event}
use Rattle.lu_machine.specs.declared.thread.Activity.{Activity}
use Rattle.lu_machine.specs.declared.thread.Activity.TheVariants.{Idle, Open}
use Rattle.lu_machine.specs.States.{State, is_open, progress, progress_of}
use Rattle.lu_machine.specs.Steps.{ByActivity, IsFeasible, OneStep, RunsOn, Step, is_at_local, more_local}
use Rattle.lu_machine.specs.Runs.{Leads}
use Rattle.lu_machine.specs.Starts.{AllEnd, CanRun, IsStart, MakesAll, empty_state, first_move}
use Rattle.lu_machine.proofs.Keeping.{step_moved}
use Rattle.lu_machine.proofs.OneStepLaws.{feasible_one, one_feasible, one_same}
use Rattle.lu_machine.proofs.Starting.{after, none_settles, start_same, start_there}
use Rattle.lu_trace.specs.declared.detail.Detail.{Detail}
use Rattle.lu_trace.specs.declared.wording.Wording.{Wording}
use Rattle.lu_trace.specs.Setups.{AreSetupLines, IsDetailedTraceFromSetup, LinesUpTo, SetupLines, found_lines, setup_heading, setup_line}
use Rattle.lu_trace.specs.Traces.{AddsLines}
use Rattle.lu_trace.proofs.Followed.{one_trace}

-- ---- few steps

-- thread 0 leads from s to `end` by at most so many steps
record Stepped (detail : Detail) (how : Wording) (s end : State) (most : ℕ) : Type 0 where
  steps : ℕ
  few : steps ≤ most
  lines : List ℕ
  lines_are : SetupLines detail how steps s end lines

stays : (detail : Detail) (how : Wording) (s end : State) (most : ℕ) → end ≡ s → Stepped detail how s end most
stays detail how s end most is = record { steps = zero; few = omega arith; lines = []; lines_are = (is, refl) }

one_more : (detail : Detail) (how : Wording) (s next end : State) (event : Option Event) (most all : ℕ) → most < all → OneStep s first_move next event → Stepped detail how next end most → Stepped detail how s end all
one_more detail how s next end event most all less step rest =
    let few = rest.few in
    record {
      steps = suc rest.steps;
      few = omega (arith, few, less);
      lines = setup_line detail how s ++ rest.lines;
      lines_are = (next, event, rest.lines, step, rest.lines_are, refl);
    }

weaker : (detail : Detail) (how : Wording) (s end : State) (a b : ℕ) → a ≤ b → Stepped detail how s end a → Stepped detail how s end b
weaker detail how s end a b le p =
    let few = p.few in
    record { steps = p.steps; few = omega (arith, few, le); lines = p.lines; lines_are = p.lines_are }

join : (detail : Detail) (how : Wording) (n : ℕ) (s mid end : State) (lines : List ℕ) (a b all : ℕ) → SetupLines detail how n s mid lines → n ≤ a → a + b ≤ all → Stepped detail how mid end b → Stepped detail how s end all
join detail how zero s mid end lines a b all h le fit rest =
    weaker detail how s end b all (omega (arith, fit)) (subst (λ (x : State). Stepped detail how x end b) h.0 rest)
join detail how (suc n) s mid end lines a b all h le fit rest =
    one_more detail how s h.0 end h.1 (n + b) all (omega (arith, le, fit)) h.3 (join detail how n h.0 mid end h.2 n b (n + b) h.4 (omega arith) (omega arith) rest)

run_steps : (detail : Detail) (how : Wording) (n : ℕ) (s end : State) → RunsOn n s 0 end → Stepped detail how s end n
run_steps detail how zero s end h = stays detail how s end zero h
run_steps detail how (suc n) s end h = by_test (λ x k. run_steps detail how n x end k) (is_at_local s 0) h
  where
    by_test : ((x : State) → RunsOn n x 0 end → Stepped detail how x end n) → (test : Bool) → MatchBool test ((next : State) × OneStep s (record { thread = 0; pick = 0 }) next None × RunsOn n next 0 end) (end ≡ s) → Stepped detail how s end (suc n)
    by_test go true h = one_more detail how s h.0 end None n (suc n) (omega arith) h.1 (go h.0 h.2)
    by_test go false h = stays detail how s end (suc n) h

less_difference : (a b : ℕ) → a ≤ 16 → a - b ≤ 16
less_difference a b h = omega (arith, h)

step_steps : (detail : Detail) (how : Wording) (s new : State) (event : Option Event) → s.component.local ≤ 16 → Step s first_move new event → Stepped detail how s new 17
step_steps detail how s new event few h =
    let most : more_local s 0 ≤ 16 = less_difference s.component.local _ few in
    one_more detail how s h.0 new event (more_local s 0) 17 (omega (arith, most)) h.1 (run_steps detail how (more_local s 0) h.0 new h.2)

leads_steps : (detail : Detail) (how : Wording) (n : ℕ) (s end : State) (history : List Event) → s.component.local ≤ 16 → Leads s (replicate n first_move) end history → Stepped detail how s end (17 * n)
leads_steps detail how zero s end history few h = stays detail how s end (17 * zero) h.0
leads_steps detail how (suc n) s end history few h =
    let one = step_steps detail how s h.0 h.1 few h.3 in
    let same = (step_moved s first_move h.0 h.1 h.3).component in
    let rest = leads_steps detail how n h.0 end h.2 (subst (λ (c : Component). c.local ≤ 16) (sym same) few) h.4 in
    join detail how one.steps s h.0 end one.lines 17 (17 * n) (17 * suc n) one.lines_are one.few (omega arith) rest

calls_steps : (detail : Detail) (how : Wording) (c : Component) (calls : List Call) (k : ℕ) (end : State) → c.local ≤ 16 → MakesAll c calls k end → Stepped detail how (empty_state c (alone calls)) end (4369 * k)
calls_steps detail how c calls zero end few all = stays detail how (empty_state c (alone calls)) end (4369 * zero) all
calls_steps detail how c calls (suc k) end few all =
    let first = calls_steps detail how c calls k all.0 few all.1 in
    let same = (after c calls k all.0 all.1).component in
    let moves = all.2.few in
    let here : all.0.component.local ≤ 16 = subst (λ (d : Component). d.local ≤ 16) (sym same) few in
    let last = leads_steps detail how (suc all.2.moves) all.0 end all.2.history here all.2.leads in
    join detail how first.steps (empty_state c (alone calls)) all.0 end first.lines (4369 * k) (17 * suc all.2.moves) (4369 * suc k) first.lines_are first.few (omega (arith, moves)) last

-- ---- the end

-- an idle thread that has made all its calls has no step
none_left : (s : State) (done : ℕ) (activity : Activity) (new : State) (event : Option Event) → is_open activity ≡ false → ByActivity s first_move done activity new event → done < length (calls_of s.matrix 0)
none_left s done Idle new event closed h = slice_get_within (calls_of s.matrix 0) done h.0 h.1
none_left s done (Open f) new event closed h = absurd cc

-- where all calls are made thread 0 has no step
pub ended : (c : Component) (calls : List Call) (end : State) → MakesAll c calls (length calls) end → IsFeasible end first_move → ⊥
ended c calls end made f =
    let is = after c calls (length calls) end made in
    let one = feasible_one end first_move f in
    let thread = one.2.0 in
    let shown : slice_get (progress end) 0 ≡ Some (progress_of thread) = slice_get-map progress_of end.threads 0 ∙ ap (option_map progress_of) one.2.1 in
    let first : Some (length calls, false) ≡ slice_get (progress end) 0 = ap (λ (ps : List (ℕ × Bool)). slice_get ps 0) (sym is.progress_is) in
    let same : (length calls, false) ≡ progress_of thread = same_Some (length calls, false) (progress_of thread) (first ∙ shown) in
    let closed : is_open thread.activity ≡ false = ap (λ (p : ℕ × Bool). p.1) (sym same) in
    let done : thread.done ≡ length calls = ap (λ (p : ℕ × Bool). p.0) (sym same) in
    let less = none_left end thread.done thread.activity one.0 one.1 closed one.2.2 in
    let many : length (calls_of end.matrix 0) ≡ length calls = ap (λ (m : Matrix). length (calls_of m 0)) is.matrix in
    absurd (omega (arith, less, done, many))

-- of two runs to where no step is left the ends are one, and the lines
same_run : (detail : Detail) (how : Wording) (n m : ℕ) (s a b : State) (k l : List ℕ) → SetupLines detail how n s a k → SetupLines detail how m s b l → (IsFeasible b first_move → ⊥) → (n < m → IsFeasible a first_move → ⊥) → (a ≡ b) × (k ≡ l)
same_run detail how zero zero s a b k l p q over far = (p.0 ∙ sym q.0, p.1 ∙ sym q.1)
same_run detail how zero (suc m) s a b k l p q over far =
    absurd (far (omega arith) (subst (λ (x : State). IsFeasible x first_move) (sym p.0) (one_feasible s first_move q.0 q.1 q.3)))
same_run detail how (suc n) zero s a b k l p q over far =
    absurd (over (subst (λ (x : State). IsFeasible x first_move) (sym q.0) (one_feasible s first_move p.0 p.1 p.3)))
same_run detail how (suc n) (suc m) s a b k l p q over far =
    let one = one_same s first_move p.0 q.0 p.1 q.1 p.3 q.3 in
    let on : SetupLines detail how m p.0 b q.2 = subst (λ (x : State). SetupLines detail how m x b q.2) (sym one.0) q.4 in
    let rest = same_run detail how n m p.0 a b p.2 q.2 p.4 on over (λ less. far (omega (arith, less))) in
    (rest.0, p.5 ∙ (ap (λ x. setup_line detail how s ++ x) rest.1 ∙ sym q.5))

-- no thread's calls after those of this setup
abbrev alone_after : List Call → Matrix
alone_after calls = record { setup = calls; threads = [] }

-- the lines up to 34,952, or to where no step is left, are those of the setup
pub setup_lines : (detail : Detail) (how : Wording) (c : Component) (calls : List Call) (s now : State) (lines : List ℕ) → c.local ≤ 16 → length calls ≤ 8 → AllEnd c calls → s ≡ empty_state c (alone calls) → LinesUpTo detail how 34952 s now lines → AreSetupLines detail how c calls lines
setup_lines detail how c calls s now lines few short settles is h =
    let start = (start_there c (alone_after calls) settles).1 in
    let all = calls_steps detail how c calls (length calls) start.end few start.made in
    let many = all.few in
    let here : SetupLines detail how h.0 (empty_state c (alone calls)) now lines = subst (λ (x : State). SetupLines detail how h.0 x now lines) is h.1 in
    let same = same_run detail how h.0 all.steps (empty_state c (alone calls)) now start.end lines all.lines here all.lines_are (ended c calls start.end start.made) (λ less. h.2 (omega (arith, less, many, short))) in
    record {
      end = start.end;
      made = start.made;
      steps = all.steps;
      lines_are = subst (λ x. SetupLines detail how all.steps (empty_state c (alone calls)) start.end x) (sym same.1) all.lines_are;
    }

-- ---- one step more

pub no_lines : (detail : Detail) (how : Wording) (s : State) (old : List ℕ) → AddsLines (SetupLines detail how 0 s s) old old
no_lines detail how s old = ([], (refl, refl), sym (append-nil old))

lines_more : (detail : Detail) (how : Wording) (n : ℕ) (s now new : State) (event : Option Event) (lines : List ℕ) → SetupLines detail how n s now lines → OneStep now first_move new event → SetupLines detail how (suc n) s new (lines ++ setup_line detail how now)
lines_more detail how zero s now new event lines h step =
    let here : OneStep s first_move new event = subst (λ (x : State). OneStep x first_move new event) h.0 step in
    (new, event, [], here, (refl, refl), ap (λ x. x ++ setup_line detail how now) h.1 ∙ (ap (setup_line detail how) h.0 ∙ sym (append-nil (setup_line detail how s))))
lines_more detail how (suc n) s now new event lines h step =
    (h.0, h.1, h.2 ++ setup_line detail how now, h.3, lines_more detail how n h.0 now new event h.2 h.4 step, ap (λ x. x ++ setup_line detail how now) h.5 ∙ append_assoc (setup_line detail how s) h.2 (setup_line detail how now))

pub one_line_more : (detail : Detail) (how : Wording) (n : ℕ) (s now new : State) (event : Option Event) (old text next : List ℕ) → AddsLines (SetupLines detail how n s now) old text → OneStep now first_move new event → next ≡ text ++ setup_line detail how now → AddsLines (SetupLines detail how (n + 1) s new) old next
one_line_more detail how n s now new event old text next h step is =
    rw (add-one n) (h.0 ++ setup_line detail how now, lines_more detail how n s now new event h.0 h.1 step, is ∙ (ap (λ x. x ++ setup_line detail how now) h.2 ∙ append_assoc old h.0 (setup_line detail how now)))

pub up_to : (detail : Detail) (how : Wording) (most n : ℕ) (s now : State) (old text : List ℕ) → (n < most → IsFeasible now first_move → ⊥) → AddsLines (SetupLines detail how n s now) old text → AddsLines (LinesUpTo detail how most s now) old text
up_to detail how most n s now old text far h = (h.0, (n, h.1, far), h.2)

pub setup_added : (detail : Detail) (how : Wording) (c : Component) (calls : List Call) (s now : State) (old text : List ℕ) → c.local ≤ 16 → length calls ≤ 8 → AllEnd c calls → s ≡ empty_state c (alone calls) → AddsLines (LinesUpTo detail how 34952 s now) old text → AddsLines (AreSetupLines detail how c calls) old text
setup_added detail how c calls s now old text few short settles is h =
    (h.0, setup_lines detail how c calls s now h.0 few short settles is h.1, h.2)

-- ---- the start of the setup

-- the matrix of the setup's calls can run
pub alone_runs : (c : Component) (matrix other : Matrix) → other ≡ alone matrix.setup → CanRun c matrix → CanRun c other
alone_runs c matrix other is h =
    let here : CanRun c (alone matrix.setup) = record {
      of = (All-nil (IsCallOf c), All-one (λ calls. All (IsCallOf c) calls) matrix.setup h.of.0);
      settles = none_settles c (alone matrix.setup) refl;
    } in
    subst (CanRun c) (sym is) here

-- and it has at most 8 calls
pub alone_short : (calls : List Call) (m : Matrix) → m ≡ alone calls → IsMatrix m → length calls ≤ 8
alone_short calls m is h =
    let each : All (λ (x : List Call). length x ≤ 8) (calls ∷ []) = subst (λ (x : Matrix). All (λ (y : List Call). length y ≤ 8) x.threads) is h.limits.each in
    each 0 calls (omega arith)

starts_empty : (c : Component) (calls : List Call) (s : State) → IsStart c (alone calls) s → s ≡ empty_state c (alone calls)
starts_empty c calls s is =
    is.is ∙ ap (λ (x : State). empty_on c calls x) is.made
  where
    empty_on : Component → List Call → State → State
    empty_on c calls x = record (empty_state c (alone calls)) { cells = x.cells; locks = x.locks }

pub alone_starts : (c : Component) (calls : List Call) (m : Matrix) (s : State) → m ≡ alone calls → IsStart c m s → s ≡ empty_state c (alone calls)
alone_starts c calls m s is start = starts_empty c calls s (subst (λ (x : Matrix). IsStart c x s) is start)

-- ---- one trace

pub one_setup : (detail : Detail) (how : Wording) (c : Component) (calls : List Call) (a b : List ℕ) → AreSetupLines detail how c calls a → AreSetupLines detail how c calls b → a ≡ b
one_setup detail how c calls a b p q =
    (same_run detail how p.steps q.steps (empty_state c (alone calls)) p.end q.end a b p.lines_are q.lines_are (ended c calls q.end q.made) (λ _. ended c calls p.end p.made)).1

pub one_trace_from_setup : (detail : Detail) (how : Wording) (c : Component) (matrix : Matrix) (u : List Move) (text other : List ℕ) → IsDetailedTraceFromSetup detail how c matrix u text → IsDetailedTraceFromSetup detail how c matrix u other → text ≡ other
one_trace_from_setup detail how c matrix u text other p q =
    let lines = one_setup detail how c matrix.setup p.0 q.0 p.3 q.3 in
    let start = start_same c matrix p.1 q.1 p.4 q.4 in
    let trace = one_trace detail how c matrix u p.2 q.2 p.5 q.5 in
    let heading = setup_heading matrix.setup in
    p.6 ∙ (ap (λ x. heading ++ x ++ codes "start\n" ++ found_lines p.1 ++ p.2) lines
    ∙ (ap (λ (x : State). heading ++ q.0 ++ codes "start\n" ++ found_lines x ++ p.2) start
    ∙ (ap (λ x. heading ++ q.0 ++ codes "start\n" ++ found_lines q.1 ++ x) trace ∙ sym q.6)))
