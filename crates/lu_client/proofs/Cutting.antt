-- Where each open operation is blocked, the matrix cut to the calls made has ended.
use Rattle.std.proofs.Common.{arith, ◌≡◌, ◌≢◌, ℕ, zero, suc, ◌+◌, ◌<◌, ◌≤◌, List, [], ◌∷◌, length, map, Option, Some, None, slice_get, refl, sym, ◌∙◌, ap, subst, inl, inr}
use Rattle.std.specs.Option.{option_map}
use Rattle.std.proofs.lemmas.Bool.{le-ltb}
use Rattle.lu_component.specs.Component.{Component}
use Rattle.lu_test.specs.declared.matrix.Call.{Call as ACall}
use Rattle.lu_test.specs.declared.schedule.Move.{Move}
use Rattle.lu_test.specs.Matrix.{Matrix, calls_of, cut, first_calls, row_of}
use Rattle.lu_machine.specs.declared.event.Event.{Event}
use Rattle.lu_machine.specs.declared.thread.Activity.TheVariants.{Idle}
use Rattle.lu_machine.specs.declared.thread.Thread.{Thread}
use Rattle.lu_machine.specs.States.{State, call_count}
use Rattle.lu_machine.specs.Steps.{picks_of}
use Rattle.lu_machine.specs.Runs.{Leads}
use Rattle.lu_machine.specs.Starts.{IsStart}
use Rattle.lu_machine.specs.Ends.{HasNoMove, IsEnded}
use Rattle.lu_machine.proofs.Ended.{complete_no_move, complete_or_not}
use Rattle.lu_machine.proofs.Starting.{other_start}
use Rattle.lu_serial.proofs.Opening.{same_or_not}
use Rattle.lu_serial.specs.Cuts.{AreLengths}
use Rattle.lu_serial.specs.Whole.{made, made_calls}
use Rattle.lu_serial.proofs.Counts.{made_at, made_busy, made_idle, made_in, made_of, made_others}
use Rattle.lu_serial.proofs.Grounds.{ground_of, grounded, start_on}
use Rattle.lu_serial.proofs.Moves.{Stepped, idle_or_not, step_stepped, the_thread}
use Rattle.lu_serial.proofs.Serially.{leads_matrix}
use Rattle.lu_serial.proofs.Cuts.{cut_start, made_lengths, picks_with, step_with, take_few, take_within, with_matrix}
use Rattle.lu_client.specs.Rounds.{IsUnrolledFrom, Way}
use Rattle.lu_client.specs.Clients.{AllBlocked, ClientLeads, client_matrix, client_of, event_in, stand_in}
use Rattle.lu_client.specs.Laws.{HasEnded}
use Rattle.lu_client.proofs.Carried.{picks_over}
use Rattle.lu_client.proofs.Turning.{stand_at, turn}
use Rattle.lu_client.proofs.Drawing.{schedule_from_client}
use Rattle.lu_client.proofs.Unrolled.{cut_is_unrolled}
use Rattle.lu_client.proofs.Making.{step_made}

-- ---- the client's open operations

module _ (way : Way) (matrix : Matrix) (s : State) where
  abbrev rows : List (List ACall)
  rows = (client_matrix way matrix).threads

  open_picks : (t : ℕ) (was : Thread) → slice_get s.threads t ≡ Some was → was.activity ≢ Idle → picks_of (client_of way matrix s) t ≡ picks_of s t
  open_picks t was e busy =
      picks_over (client_matrix way matrix) (stand_in way rows s.threads) s t was (turn way rows t was) was.activity e (stand_at way rows s.threads t ∙ ap (option_map (turn way rows t)) e) refl refl busy

  blocked_of : HasNoMove s → AllBlocked (client_of way matrix s)
  blocked_of none t busy = by_thread (slice_get s.threads t) refl
    where
      by_thread : (o : Option Thread) → slice_get s.threads t ≡ o → picks_of (client_of way matrix s) t ≡ 0
      by_thread None e = absurd (let nobody : slice_get (client_of way matrix s).threads t ≡ None = stand_at way rows s.threads t ∙ ap (option_map (turn way rows t)) e in let some = busy.1 in cc)
      by_thread (Some was) e =
          let there : slice_get (client_of way matrix s).threads t ≡ Some (turn way rows t was) = stand_at way rows s.threads t ∙ ap (option_map (turn way rows t)) e in
          let same = the_thread (client_of way matrix s) t (turn way rows t was) busy.0 there busy.1 in
          open_picks t was e (λ idle. busy.2 (ap (λ (x : Thread). x.activity) (sym same) ∙ idle)) ∙ none t

  -- and back
  pub blocked_here : AllBlocked (client_of way matrix s) → AllBlocked s
  blocked_here all t busy =
      let there : slice_get (client_of way matrix s).threads t ≡ Some (turn way rows t busy.0) = stand_at way rows s.threads t ∙ ap (option_map (turn way rows t)) busy.1 in
      sym (open_picks t busy.0 busy.1 busy.2) ∙ all t (turn way rows t busy.0, there, busy.2)

pub ended_is_blocked : (way : Way) (matrix : Matrix) (s : State) → IsEnded s → AllBlocked (client_of way matrix s)
ended_is_blocked way matrix s (inl complete) = blocked_of way matrix s (complete_no_move s complete)
ended_is_blocked way matrix s (inr stuck) = blocked_of way matrix s stuck.1

-- ---- the calls made

made_before : (a : Thread) → made a ≤ a.done + 1
made_before a = elim (idle_or_not a.activity) as (λ _. made a ≤ a.done + 1) [
  | inl idle ↦ (let is = made_idle a idle in omega (arith, is))
  | inr busy ↦ (let is = made_busy a busy in omega (arith, is))
]

pub made_grows : (s : State) (m : Move) (new : State) (e : Option Event) → (by : Stepped s m new e) → (t : ℕ) → made_of s t ≤ made_of new t
made_grows s m new e by t =
    elim (same_or_not t m.thread) as (λ _. made_of s t ≤ made_of new t) [
      | inl same ↦
          (let before = made_at s m.thread by.before by.was in
          let bound = made_before by.before in
          let after = step_made s m new e by in
          subst (λ x. made_of s x ≤ made_of new x) (sym same) (omega (arith, before, bound, after)))
      | inr apart ↦ (let same = made_others s m new e by t apart in omega (arith, same))
    ]

pub run_grows : (s : State) (u : List Move) (end : State) (h : List Event) → Leads s u end h → (t : ℕ) → made_of s t ≤ made_of end t
run_grows s [] end h p t = rw p.0 (omega arith)
run_grows s (m ∷ u) end h p t =
    let first = made_grows s m p.0 p.1 (step_stepped s m p.0 p.1 p.3) t in
    let rest = run_grows p.0 u end p.2 p.4 t in
    omega (arith, first, rest)

-- a matrix with the calls made up to the end, and no others
pub record IsCutAt (end : State) (from to : Matrix) : Type 0 where
  pub same : (t k : ℕ) → k < made_of end t → slice_get (calls_of to t) k ≡ slice_get (calls_of from t) k
  pub few : (t : ℕ) → length (calls_of to t) ≤ made_of end t

-- the same schedule, with the same history
cut_leads : (matrix : Matrix) (s : State) (u : List Move) (end : State) (h : List Event) → IsCutAt end s.matrix matrix → Leads s u end h → Leads (with_matrix s matrix) u (with_matrix end matrix) h
cut_leads matrix s [] end h is p = (ap (λ x. with_matrix x matrix) p.0, p.1)
cut_leads matrix s (m ∷ u) end h is p =
    let by = step_stepped s m p.0 p.1 p.3 in
    let after = step_made s m p.0 p.1 by in
    let grows = run_grows p.0 u end p.2 p.4 m.thread in
    let same : (a : Thread) → slice_get s.threads m.thread ≡ Some a → a.activity ≡ Idle → slice_get (calls_of matrix m.thread) a.done ≡ slice_get (calls_of s.matrix m.thread) a.done = (λ a stands idle.
    (let number : by.before.done ≡ a.done = ap (λ (x : Thread). x.done) (the_thread s m.thread by.before a by.was stands) in
    is.same m.thread a.done (omega (arith, after, grows, number)))) in
    let on : IsCutAt end p.0.matrix matrix = subst (λ x. IsCutAt end x matrix) (sym by.matrix) is in
    (with_matrix p.0 matrix, p.1, p.2, step_with matrix s m p.0 p.1 same p.3, cut_leads matrix p.0 u end p.2 on p.4, p.5)

cut_same : (rows : List (List ACall)) (threads : List Thread) (t k : ℕ) → k < made_in (slice_get threads t) → slice_get (row_of (first_calls rows (map made threads)) t) k ≡ slice_get (row_of rows t) k
cut_same [] threads t k h = refl
cut_same (row ∷ rows) [] t k h = absurd (omega arith)
cut_same (row ∷ rows) (a ∷ threads) zero k h = take_within (made a) row k h
cut_same (row ∷ rows) (a ∷ threads) (suc t) k h = cut_same rows threads t k h

cut_few : (rows : List (List ACall)) (threads : List Thread) (t : ℕ) → length (row_of (first_calls rows (map made threads)) t) ≤ made_in (slice_get threads t)
cut_few [] threads t = omega arith
cut_few (row ∷ rows) [] t = omega arith
cut_few (row ∷ rows) (a ∷ threads) zero = take_few (made a) row
cut_few (row ∷ rows) (a ∷ threads) (suc t) = cut_few rows threads t

cut_at_end : (matrix : Matrix) (end : State) → IsCutAt end matrix (cut matrix (made_calls end))
cut_at_end matrix end = record { same = λ t k h. cut_same matrix.threads end.threads t k h; few = λ t. cut_few matrix.threads end.threads t }

picks_idle : (s : State) (t : ℕ) (a : Thread) → slice_get s.threads t ≡ Some a → a.activity ≡ Idle → call_count s t ≤ a.done → picks_of s t ≡ 0
picks_idle s t a stands idle over = rw (stands, idle, le-ltb a.done (call_count s t) over) refl

picks_nobody : (s : State) (t : ℕ) → slice_get s.threads t ≡ None → picks_of s t ≡ 0
picks_nobody s t e = rw e refl

-- over the cut no thread moves, where the open operations are blocked
cut_no_move : (matrix : Matrix) (end : State) → IsCutAt end end.matrix matrix → AllBlocked end → HasNoMove (with_matrix end matrix)
cut_no_move matrix end is all t = by_thread (slice_get end.threads t) refl
  where
    by_thread : (o : Option Thread) → slice_get end.threads t ≡ o → picks_of (with_matrix end matrix) t ≡ 0
    by_thread None e = picks_nobody (with_matrix end matrix) t e
    by_thread (Some a) e =
        elim (idle_or_not a.activity) as (λ _. picks_of (with_matrix end matrix) t ≡ 0) [
          | inl idle ↦ (let at = made_at end t a e in let made_is = made_idle a idle in let few = is.few t in picks_idle (with_matrix end matrix) t a e idle (omega (arith, at, made_is, few)))
          | inr busy ↦ picks_with matrix end t a a.activity e refl busy ∙ all t (a, e, busy)
        ]

-- so it has ended
cut_ended : (matrix : Matrix) (end : State) → IsCutAt end end.matrix matrix → AllBlocked end → IsEnded (with_matrix end matrix)
cut_ended matrix end is all =
    elim (complete_or_not (with_matrix end matrix)) as (λ _. IsEnded (with_matrix end matrix)) [
      | inl complete ↦ inl complete
      | inr not ↦ inr (not, cut_no_move matrix end is all)
    ]

-- the schedule over the matrix cut to the calls made in it
pub record CutRun (c : Component) (way : Way) (matrix big : Matrix) (u : List Move) (end : State) (history : List Event) : Type 0 where
  pub lengths : AreLengths big (made_calls end)
  pub unrolled : IsUnrolledFrom way matrix (cut big (made_calls end))
  pub start : State
  pub is_start : IsStart c (cut big (made_calls end)) start
  pub leads : Leads start u (with_matrix end (cut big (made_calls end))) history
  pub is : IsCutAt end end.matrix (cut big (made_calls end))

pub cut_run : (c : Component) (way : Way) (matrix big : Matrix) (s : State) (u : List Move) (end : State) (history : List Event) → IsUnrolledFrom way matrix big → IsStart c big s → Leads s u end history → CutRun c way matrix big u end history
cut_run c way matrix big s u end history unrolled start leads =
    let g = ground_of c s in
    let from : Leads (start_on g big) u end history = subst (λ x. Leads x u end history) (grounded c big s start) leads in
    let lengths = made_lengths g big u end history from in
    let smaller = cut big (made_calls end) in
    let is : IsCutAt end big smaller = cut_at_end big end in
    record {
      lengths = lengths;
      unrolled = cut_is_unrolled way matrix big (made_calls end) unrolled lengths;
      start = start_on g smaller;
      is_start = other_start c big smaller s start refl;
      leads = subst (λ x. Leads x u (with_matrix end smaller) history) (cut_start g big (made_calls end) lengths) (cut_leads smaller (start_on g big) u end history is from);
      is = subst (λ x. IsCutAt end x smaller) (sym (leads_matrix (start_on g big) u end history from)) is;
    }

pub blocked_has_ended : (c : Component) (way : Way) (matrix big : Matrix) (s : State) (u : List Move) (end : State) (history : List Event) → IsUnrolledFrom way matrix big → IsStart c big s → Leads s u end history → AllBlocked (client_of way matrix end) →
    AreLengths big (made_calls end) × HasEnded c way matrix (cut big (made_calls end)) u (client_of way matrix end) history
blocked_has_ended c way matrix big s u end history unrolled start leads all =
    let run = cut_run c way matrix big s u end history unrolled start leads in
    let smaller = cut big (made_calls end) in (
      run.lengths,
      record {
        unrolled = run.unrolled;
        start = run.start;
        is_start = run.is_start;
        end = with_matrix end smaller;
        leads = run.leads;
        ended = cut_ended smaller end run.is (blocked_here way matrix end all);
        is = refl;
      },
    )

pub client_has_ended : (c : Component) (way : Way) (matrix : Matrix) (a : State) (u : List Move) (b : State) (history : List Event) → IsStart c (client_matrix way matrix) a → ClientLeads way a u b history → AllBlocked b →
    (smaller : Matrix) × (made : List Event) × HasEnded c way matrix smaller u b made × (map (event_in way matrix) made ≡ history)
client_has_ended c way matrix a u b history start p all =
    let there = schedule_from_client c way matrix a u b history start p in
    let ended = blocked_has_ended c way matrix there.big there.start u there.end there.made there.unrolled there.is_start there.leads (subst AllBlocked (sym there.is) all) in (
      cut there.big (made_calls there.end),
      there.made,
      subst (λ x. HasEnded c way matrix (cut there.big (made_calls there.end)) u x there.made) there.is ended.1,
      there.counted,
    )
