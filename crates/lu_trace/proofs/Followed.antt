-- A trace, move after move.
use Rattle.std.proofs.Common.{◌≡◌, ℕ, zero, suc, ◌+◌, ◌-◌, ◌<◌, ◌≤◌, Bool, true, false, MatchBool, List, [], ◌∷◌, ◌++◌, length, take, get_or, slice_get, Option, Some, None, refl, sym, ◌∙◌, ap, subst, arith}
use Rattle.std.proofs.lemmas.List.{append_assoc, append-nil, length-take, take_all, take_more}
use Rattle.std.proofs.lemmas.Option.{get_or_from_slice_get, slice_get-get_or, slice_get_within}
use Rattle.lu_component.specs.Component.{Component}
use Rattle.lu_test.specs.declared.schedule.Move.{Move}
use Rattle.lu_test.specs.Matrix.{Matrix}
use Rattle.lu_machine.specs.declared.event.Event.{Event}
use Rattle.lu_machine.specs.declared.event.Status.{Status}
use Rattle.lu_machine.specs.declared.thread.Activity.TheVariants.{Open}
use Rattle.lu_machine.specs.States.{State, with_standing}
use Rattle.lu_machine.specs.Steps.{OneStep, RunsOn, Step, IsFeasible, is_at_local, more_local}
use Rattle.lu_machine.specs.Runs.{Leads, with_event}
use Rattle.lu_machine.specs.Starts.{IsStart}
use Rattle.lu_machine.proofs.Starting.{start_same}
use Rattle.lu_machine.specs.Ends.{HasStatus}
use Rattle.lu_machine.proofs.Ended.{status_same}
use Rattle.lu_machine.proofs.OneStepLaws.{one_same}
use Rattle.lu_machine.proofs.Paths.{goes_on_feasible}
use Rattle.lu_machine.proofs.Running.{local_once}
use Rattle.lu_trace.specs.declared.detail.Detail.{Detail}
use Rattle.lu_trace.specs.declared.wording.Wording.{Wording}
use Rattle.lu_trace.specs.Lines.{all_waits, shown_line, status_line}
use Rattle.lu_trace.specs.Traces.{AddsLines, LocalLines, MoveLines, TraceLines, IsDetailedTrace, IsInfeasibleAt, Plays}

-- ---- where lines lead

-- the lines of local instructions are those of a run
local_runs : (detail : Detail) (how : Wording) (n : ℕ) (s : State) (t : ℕ) (end : State) (lines : List ℕ) → LocalLines detail how n s t end lines → RunsOn n s t end
local_runs detail how zero s t end lines h = h.0
local_runs detail how (suc n) s t end lines h = by_test (λ x rest k. local_runs detail how n x t end rest k) (is_at_local s t) h
  where
    by_test : ((x : State) (rest : List ℕ) → LocalLines detail how n x t end rest → RunsOn n x t end) → (test : Bool) → MatchBool test ((next : State) × (rest : List ℕ) × OneStep s (record { thread = t; pick = 0 }) next None × LocalLines detail how n next t end rest × (lines ≡ shown_line detail how None s (record { thread = t; pick = 0 }) ++ rest)) ((end ≡ s) × (lines ≡ [])) → MatchBool test ((next : State) × OneStep s (record { thread = t; pick = 0 }) next None × RunsOn n next t end) (end ≡ s)
    by_test go true h = (h.0, h.2, go h.0 h.1 h.3)
    by_test go false h = h.0

-- the lines of a move are those of a step
move_steps : (detail : Detail) (how : Wording) (number : ℕ) (s : State) (m : Move) (new : State) (lines : List ℕ) → MoveLines detail how number s m new lines → (event : Option Event) × Step s m new event
move_steps detail how number s m new lines h = (h.1, (h.0, h.3, local_runs detail how (more_local s m.thread) h.0 m.thread new h.2 h.4))

-- and those of moves lead where the moves lead
pub lines_lead : (detail : Detail) (how : Wording) (number : ℕ) (s : State) (u : List Move) (end : State) (lines : List ℕ) → TraceLines detail how number s u end lines → (history : List Event) × Leads s u end history
lines_lead detail how number s [] end lines h = ([], (h.0, refl))
lines_lead detail how number s (m ∷ u) end lines h =
    let step = move_steps detail how number s m h.0 h.1 h.3 in
    let rest = lines_lead detail how (number + 1) h.0 u end h.2 h.4 in
    (with_event step.0 rest.0, (h.0, step.0, rest.0, step.1, rest.1, refl))

-- ---- one step more

-- the record of no lines
pub none_more : (detail : Detail) (how : Wording) (s : State) (t : ℕ) (old : List ℕ) → AddsLines (LocalLines detail how 0 s t s) old old
none_more detail how s t old = ([], (refl, refl), sym (append-nil old))

-- no line where the thread is not at a local instruction
pub no_more : (detail : Detail) (how : Wording) (n : ℕ) (s : State) (t : ℕ) (old : List ℕ) → is_at_local s t ≡ false → AddsLines (LocalLines detail how n s t s) old old
no_more detail how zero s t old h = none_more detail how s t old
no_more detail how (suc n) s t old h = ([], rw h (refl, refl), sym (append-nil old))

local_on : (detail : Detail) (how : Wording) (n : ℕ) (s : State) (t : ℕ) (next end : State) (rest lines : List ℕ) → is_at_local s t ≡ true → OneStep s (record { thread = t; pick = 0 }) next None → LocalLines detail how n next t end rest → lines ≡ shown_line detail how None s (record { thread = t; pick = 0 }) ++ rest → LocalLines detail how (suc n) s t end lines
local_on detail how n s t next end rest lines h step more is = rw h (next, rest, step, more, is)

-- a local instruction and its line, and those after it
pub once_more : (detail : Detail) (how : Wording) (most : ℕ) (s : State) (t : ℕ) (next end : State) (event : Option Event) (old mid new : List ℕ) → 0 < most → is_at_local s t ≡ true → OneStep s (record { thread = t; pick = 0 }) next event → mid ≡ old ++ shown_line detail how None s (record { thread = t; pick = 0 }) → AddsLines (LocalLines detail how (most - 1) next t end) mid new → AddsLines (LocalLines detail how most s t end) old new
once_more detail how zero s t next end event old mid new some h step is adds = absurd (omega (arith, some))
once_more detail how (suc n) s t next end event old mid new some h step is adds =
    let m : Move = record { thread = t; pick = 0 } in
    let once = local_once s t h in
    let same = one_same s m next (with_standing s t (record { done = once.standing.done; activity = Open once.after })) event None step once.step in
    let silent : OneStep s m next None = subst (λ (e : Option Event). OneStep s m next e) same.1 step in
    let less : suc n - 1 ≡ n = omega arith in
    let rest : LocalLines detail how n next t end adds.0 = subst (λ k. LocalLines detail how k next t end adds.0) less adds.1 in
    (shown_line detail how None s m ++ adds.0, local_on detail how n s t next end adds.0 (shown_line detail how None s m ++ adds.0) h silent rest refl, adds.2 ∙ (ap (λ x. x ++ adds.0) is ∙ append_assoc old (shown_line detail how None s m) adds.0))

-- a move's first step and its line, and those after it
pub move_more : (detail : Detail) (how : Wording) (number : ℕ) (s : State) (m : Move) (mid end : State) (event : Option Event) (old text new : List ℕ) (more : ℕ) → OneStep s m mid event → more ≡ more_local s m.thread → text ≡ old ++ shown_line detail how (Some number) s m → AddsLines (LocalLines detail how more mid m.thread end) text new → AddsLines (MoveLines detail how number s m end) old new
move_more detail how number s m mid end event old text new more step count is adds =
    let rest : LocalLines detail how (more_local s m.thread) mid m.thread end adds.0 = subst (λ k. LocalLines detail how k mid m.thread end adds.0) count adds.1 in
    (shown_line detail how (Some number) s m ++ adds.0, (mid, event, adds.0, step, rest, refl), adds.2 ∙ (ap (λ x. x ++ adds.0) is ∙ append_assoc old (shown_line detail how (Some number) s m) adds.0))

-- ---- one move more

-- the lines of one move more, whose number is `number`
lines_on : (detail : Detail) (how : Wording) (first : ℕ) (s : State) (u : List Move) (mid : State) (a : List ℕ) (number : ℕ) (m : Move) (new : State) (b : List ℕ) → TraceLines detail how first s u mid a → number ≡ first + length u → MoveLines detail how number mid m new b → TraceLines detail how first s (u ++ m ∷ []) new (a ++ b)
lines_on detail how first s [] mid a number m new b h is k =
    let same : number ≡ first = omega (arith, is) in
    let here : MoveLines detail how number s m new b = subst (λ x. MoveLines detail how number x m new b) h.0 k in
    let counted : MoveLines detail how first s m new b = subst (λ x. MoveLines detail how x s m new b) same here in
    (new, b, [], counted, (refl, refl), ap (λ x. x ++ b) h.1 ∙ sym (append-nil b))
lines_on detail how first s (x ∷ u) mid a number m new b h is k =
    let same : number ≡ (first + 1) + length u = omega (arith, is) in
    (h.0, h.1, h.2 ++ b, h.3, lines_on detail how (first + 1) h.0 u mid h.2 number m new b h.4 same k, ap (λ y. y ++ b) h.5 ∙ append_assoc h.1 h.2 b)

-- from the start the first moves, so many, lead to this state, and have these lines
pub record IsTraced (detail : Detail) (how : Wording) (start : State) (u : List Move) (many : ℕ) (now : State) (lines : List ℕ) : Type 0 where
  pub lines_are : TraceLines detail how 0 start (take many u) now lines

pub traced_none : (detail : Detail) (how : Wording) (start : State) (u : List Move) → IsTraced detail how start u 0 start []
traced_none detail how start u = record { lines_are = (refl, refl) }

pub traced_more : (detail : Detail) (how : Wording) (start : State) (u : List Move) (many : ℕ) (now : State) (old : List ℕ) (m : Move) (new : State) (text : List ℕ) → IsTraced detail how start u many now old → many < length u → m ≡ get_or u many m → AddsLines (MoveLines detail how many now m new) old text → IsTraced detail how start u (many + 1) new text
traced_more detail how start u many now old m new text traced below read adds =
    let more : take (many + 1) u ≡ take many u ++ m ∷ [] =
    take_more u many m below ∙ ap (λ (n : Move). take many u ++ n ∷ []) (sym read) in
    let long : many ≡ 0 + length (take many u) = rw length-take (omega arith) in
    let on = lines_on detail how 0 start (take many u) now old many m new adds.0 traced.lines_are long adds.1 in
    record { lines_are = rw (more, adds.2) on }

-- what is traced to the end
pub traced_all : (detail : Detail) (how : Wording) (c : Component) (matrix : Matrix) (start : State) (u v : List Move) (many : ℕ) (end : State) (lines : List ℕ) (status : Status) (text : List ℕ) → IsStart c matrix start → u ≡ v → length u ≤ many → IsTraced detail how start u many end lines → HasStatus end status → text ≡ status_line status ++ lines ++ all_waits how end → IsDetailedTrace detail how c matrix v text
traced_all detail how c matrix start u v many end lines status text is same all traced stands whole =
    let moves : take many u ≡ v = take_all many u all ∙ same in
    (start, end, status, lines, is, rw (← moves) traced.lines_are, stands, whole)

-- what is traced to a move that is not feasible
pub traced_to : (detail : Detail) (how : Wording) (c : Component) (matrix : Matrix) (start : State) (u v : List Move) (many : ℕ) (now : State) (lines : List ℕ) (m d : Move) → IsStart c matrix start → u ≡ v → many < length u → m ≡ get_or u many d → IsTraced detail how start u many now lines → (IsFeasible now m → ⊥) → IsInfeasibleAt c matrix v many
traced_to detail how c matrix start u v many now lines m d is same below read traced infeasible =
    let at : slice_get v many ≡ Some m = rw (← same) (slice_get-get_or u many d below ∙ ap (λ (n : Move). Some n) (sym read)) in
    let lead = lines_lead detail how 0 start (take many u) now lines traced.lines_are in
    (now, lead.0, m, (start, is, rw (← same) lead.1), at, infeasible)

-- ---- one trace

local_same : (detail : Detail) (how : Wording) (n : ℕ) (s : State) (t : ℕ) (a b : State) (k l : List ℕ) → LocalLines detail how n s t a k → LocalLines detail how n s t b l → (a ≡ b) × (k ≡ l)
local_same detail how zero s t a b k l p q = (p.0 ∙ sym q.0, p.1 ∙ sym q.1)
local_same detail how (suc n) s t a b k l p q = by_test (λ x y z. local_same detail how n x t a b y z) (is_at_local s t) p q
  where
    by_test : ((x : State) (y z : List ℕ) → LocalLines detail how n x t a y → LocalLines detail how n x t b z → (a ≡ b) × (y ≡ z)) → (test : Bool) → MatchBool test ((next : State) × (rest : List ℕ) × OneStep s (record { thread = t; pick = 0 }) next None × LocalLines detail how n next t a rest × (k ≡ shown_line detail how None s (record { thread = t; pick = 0 }) ++ rest)) ((a ≡ s) × (k ≡ [])) → MatchBool test ((next : State) × (rest : List ℕ) × OneStep s (record { thread = t; pick = 0 }) next None × LocalLines detail how n next t b rest × (l ≡ shown_line detail how None s (record { thread = t; pick = 0 }) ++ rest)) ((b ≡ s) × (l ≡ [])) → (a ≡ b) × (k ≡ l)
    by_test go true p q =
        let same = one_same s (record { thread = t; pick = 0 }) p.0 q.0 None None p.2 q.2 in
        let rest = go p.0 p.1 q.1 p.3 (subst (λ x. LocalLines detail how n x t b q.1) (sym same.0) q.3) in
        (rest.0, p.4 ∙ (ap (λ x. shown_line detail how None s (record { thread = t; pick = 0 }) ++ x) rest.1 ∙ sym q.4))
    by_test go false p q = (p.0 ∙ sym q.0, p.1 ∙ sym q.1)

move_same : (detail : Detail) (how : Wording) (number : ℕ) (s : State) (m : Move) (a b : State) (k l : List ℕ) → MoveLines detail how number s m a k → MoveLines detail how number s m b l → (a ≡ b) × (k ≡ l)
move_same detail how number s m a b k l p q =
    let same = one_same s m p.0 q.0 p.1 q.1 p.3 q.3 in
    let rest = local_same detail how (more_local s m.thread) p.0 m.thread a b p.2 q.2 p.4 (subst (λ x. LocalLines detail how (more_local s m.thread) x m.thread b q.2) (sym same.0) q.4) in
    (rest.0, p.5 ∙ (ap (λ x. shown_line detail how (Some number) s m ++ x) rest.1 ∙ sym q.5))

lines_same : (detail : Detail) (how : Wording) (number : ℕ) (s : State) (u : List Move) (a b : State) (k l : List ℕ) → TraceLines detail how number s u a k → TraceLines detail how number s u b l → (a ≡ b) × (k ≡ l)
lines_same detail how number s [] a b k l p q = (p.0 ∙ sym q.0, p.1 ∙ sym q.1)
lines_same detail how number s (m ∷ u) a b k l p q =
    let same = move_same detail how number s m p.0 q.0 p.1 q.1 p.3 q.3 in
    let rest = lines_same detail how (number + 1) p.0 u a b p.2 q.2 p.4 (subst (λ x. TraceLines detail how (number + 1) x u b q.2) (sym same.0) q.4) in
    (rest.0, p.5 ∙ (ap (λ x. x ++ p.2) same.1 ∙ (ap (λ x. q.1 ++ x) rest.1 ∙ sym q.5)))

-- ---- laws

pub trace_leads : (detail : Detail) (how : Wording) (c : Component) (matrix : Matrix) (u : List Move) (text : List ℕ) → IsDetailedTrace detail how c matrix u text → (end : State) × (history : List Event) × Plays c matrix u end history
trace_leads detail how c matrix u text p =
    let lead = lines_lead detail how 0 p.0 u p.1 p.3 p.5 in
    (p.1, lead.0, (p.0, p.4, lead.1))

pub one_trace : (detail : Detail) (how : Wording) (c : Component) (matrix : Matrix) (u : List Move) (text other : List ℕ) → IsDetailedTrace detail how c matrix u text → IsDetailedTrace detail how c matrix u other → text ≡ other
one_trace detail how c matrix u text other p q =
    let start : q.0 ≡ p.0 = start_same c matrix q.0 p.0 q.4 p.4 in
    let lines = lines_same detail how 0 p.0 u p.1 q.1 p.3 q.3 p.5 (subst (λ (s : State). TraceLines detail how 0 s u q.1 q.3) start q.5) in
    let status : p.2 ≡ q.2 = status_same p.1 p.2 q.2 p.6 (subst (λ (s : State). HasStatus s q.2) (sym lines.0) q.6) in
    p.7 ∙ (ap (λ x. status_line x ++ p.3 ++ all_waits how p.1) status
    ∙ (ap (λ x. status_line q.2 ++ x ++ all_waits how p.1) lines.1
    ∙ (ap (λ (x : State). status_line q.2 ++ q.3 ++ all_waits how x) lines.0 ∙ sym q.7)))

pub trace_or_fault : (detail : Detail) (how : Wording) (c : Component) (matrix : Matrix) (u : List Move) (text : List ℕ) (i : ℕ) → IsDetailedTrace detail how c matrix u text → IsInfeasibleAt c matrix u i → ⊥
trace_or_fault detail how c matrix u text i p q =
    let lead = lines_lead detail how 0 p.0 u p.1 p.3 p.5 in
    let start : q.3.0 ≡ p.0 = start_same c matrix q.3.0 p.0 q.3.1 p.4 in
    let first : Leads p.0 (take i u) q.0 q.1 = subst (λ (s : State). Leads s (take i u) q.0 q.1) start q.3.2 in
    let f = goes_on_feasible p.0 u p.1 lead.0 lead.1 i q.2 (slice_get_within u i q.2 q.4) q.0 q.1 first in
    q.5 (subst (IsFeasible q.0) (get_or_from_slice_get u i q.2 q.2 q.4) f)
